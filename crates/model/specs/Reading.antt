-- Reading bytes as a roll: the receipt that they tell, and the first reason to refuse them.
use Rattle.std.specs.Prelude.{◌≡◌, ℕ, ◌+◌, ◌-◌, ◌<◌, Bool, true, false, cond, not, ◌||◌, List, [], ◌∷◌, map, length, Some, None, Ok, Err, Option, Result, ◌==◌, nat_le, nat_lt, slice_index}
use Rattle.std.specs.List.{range_with_len}
use Rattle.std.specs.Int.Digits.{number_from_digits}
use Rattle.model.specs.declared.fault.RollFault.{RollFault}
use Rattle.model.specs.declared.fault.RollFault.TheVariants.{NoRoll, BadLayout, BadLevel, BadLabel, BadDepth, ShortMemory}
use Rattle.model.specs.Limits.{most_elements, most_label, most_depth}
use Rattle.model.specs.Receipt.{Element, Receipt, first_where, empty}
use Rattle.model.specs.Roll.{edition, header_length, roll_length}

abbrev pub byte_at : List ℕ → ℕ → ℕ
byte_at bytes at = slice_index bytes at

-- the number that bytes write, the high byte first
abbrev pub number_in : List ℕ → ℕ
number_in bytes = number_from_digits 256 bytes

-- the number in the two bytes from a place on
abbrev pub two_bytes_at : List ℕ → ℕ → ℕ
two_bytes_at bytes at = number_in (byte_at bytes at ∷ byte_at bytes (at + 1) ∷ [])

abbrev pub depth_in : List ℕ → ℕ
depth_in bytes = byte_at bytes 1

abbrev pub count_in : List ℕ → ℕ
count_in bytes = two_bytes_at bytes 2

-- where the level and the label of the element at a rank stand, in a roll of n elements
abbrev pub level_place : ℕ → ℕ
level_place i = header_length + i

abbrev pub label_place : ℕ → ℕ → ℕ
label_place n i = header_length + n + i

-- the elements that the bytes tell where there are n of them
abbrev pub element_in : List ℕ → ℕ → ℕ → Element
element_in bytes n i = record { label = byte_at bytes (label_place n i); level = byte_at bytes (level_place i) }

abbrev pub elements_in : List ℕ → ℕ → List Element
elements_in bytes n = map (element_in bytes n) (range_with_len 0 n)

abbrev pub receipt_in : List ℕ → Receipt
receipt_in bytes = record { elements = elements_in bytes (count_in bytes); depth = depth_in bytes }

-- Each test below is true where its rule is broken.

-- A roll has a whole header, and is of this edition.
abbrev pub foreign : List ℕ → Bool
foreign bytes = nat_lt (length bytes) header_length || not (byte_at bytes 0 == edition)

-- The count is not too great, the offsets are where levels and labels begin, and nothing is missing or left over.
abbrev pub misplaced : List ℕ → Bool
misplaced bytes =
    nat_lt most_elements (count_in bytes)
    || (not (two_bytes_at bytes 4 == header_length)
    || (not (two_bytes_at bytes 6 == header_length + count_in bytes) || not (length bytes == roll_length (count_in bytes))))

-- The first level is 0; a later one is at least 1, at most one more than the level before, and below the greatest depth.
abbrev pub wrong_level : ℕ → ℕ → ℕ → Bool
wrong_level i before level = cond (i == 0) (not (level == 0)) (level == 0 || (nat_lt (before + 1) level || nat_le most_depth level))

abbrev pub level_breaks : List ℕ → ℕ → Bool
level_breaks bytes i = wrong_level i (byte_at bytes (level_place (i - 1))) (byte_at bytes (level_place i))

-- A label is at least 1 and at most the greatest.
abbrev pub wrong_label : ℕ → Bool
wrong_label label = label == 0 || nat_lt most_label label

abbrev pub label_breaks : List ℕ → ℕ → ℕ → Bool
label_breaks bytes n i = wrong_label (byte_at bytes (label_place n i))

-- The depth is 0 where there are no elements, and else at most one more than the last level.
abbrev pub greatest_depth : List ℕ → ℕ → ℕ
greatest_depth bytes n = cond (n == 0) 0 (byte_at bytes (level_place (n - 1)) + 1)

-- a fault at the rank that was found, or else what is next
abbrev pub fault_at : (ℕ → RollFault) → Option ℕ → Option RollFault → Option RollFault
fault_at f None next = next
fault_at f (Some i) next = Some (f i)

-- The first reason that applies, in this order.
unfoldable pub reading_fault : List ℕ → Option RollFault
reading_fault bytes =
    cond (foreign bytes) (Some NoRoll)
    (cond (misplaced bytes) (Some BadLayout)
    (fault_at (λ i. BadLevel (level_place i)) (first_where (level_breaks bytes) (count_in bytes))
    (fault_at (λ i. BadLabel (label_place (count_in bytes) i)) (first_where (label_breaks bytes (count_in bytes)) (count_in bytes))
    (cond (nat_lt (greatest_depth bytes (count_in bytes)) (depth_in bytes)) (Some BadDepth) None))))

-- the byte at a place breaks its rule, and no byte of its kind before it does
pub record FirstBreak (breaks : ℕ → Bool) (place_of : ℕ → ℕ) (n at : ℕ) : Type 0 where
  pub rank : ℕ
  pub place : at ≡ place_of rank
  pub within : rank < n
  pub broken : breaks rank ≡ true
  pub before : (j : ℕ) → j < rank → breaks j ≡ false

-- what each fault says of the bytes
abbrev pub Applies : List ℕ → RollFault → Type 0
Applies bytes NoRoll = foreign bytes ≡ true
Applies bytes BadLayout = misplaced bytes ≡ true
Applies bytes (BadLevel at) = FirstBreak (level_breaks bytes) level_place (count_in bytes) at
Applies bytes (BadLabel at) = FirstBreak (label_breaks bytes (count_in bytes)) (label_place (count_in bytes)) (count_in bytes) at
Applies bytes BadDepth = greatest_depth bytes (count_in bytes) < depth_in bytes
Applies bytes ShortMemory = ⊥

-- the outcome of a check
abbrev pub outcome : Option RollFault → Result (Unit {0}) RollFault
outcome None = Ok tt
outcome (Some f) = Err f

-- Bytes that are refused tell no elements.
abbrev pub unless_refused : Option RollFault → Receipt → Receipt
unless_refused None r = r
unless_refused (Some f) r = empty

abbrev pub reading_of : List ℕ → Receipt
reading_of bytes = unless_refused (reading_fault bytes) (receipt_in bytes)
