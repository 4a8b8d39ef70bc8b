-- The roll of a receipt: the bytes that tell it.
use Rattle.std.specs.Prelude.{ℕ, zero, suc, ◌+◌, ◌*◌, ◌/◌, ◌%◌, cond, List, [], ◌∷◌, ◌++◌, map, length, drop, Ok, Err, Result, nat_lt}
use Rattle.model.specs.declared.fault.RollFault.{RollFault}
use Rattle.model.specs.declared.fault.RollFault.TheVariants.{ShortMemory}
use Rattle.model.specs.Receipt.{Element, Receipt, count_of}

-- a number in w bytes, the high byte first
abbrev pub big_endian : ℕ → ℕ → List ℕ
big_endian zero n = []
big_endian (suc w) n = big_endian w (n / 256) ++ ((n % 256) ∷ [])

abbrev pub edition : ℕ
edition = 1

abbrev pub header_length : ℕ
header_length = 8

abbrev pub roll_length : ℕ → ℕ
roll_length n = header_length + 2 * n

abbrev pub levels : List Element → List ℕ
levels es = map (λ (e : Element). e.level) es

abbrev pub labels : List Element → List ℕ
labels es = map (λ (e : Element). e.label) es

-- edition, depth, count, where the levels begin, where the labels begin
abbrev pub header : ℕ → ℕ → List ℕ
header d n = edition ∷ d ∷ (big_endian 2 n ++ (big_endian 2 header_length ++ big_endian 2 (header_length + n)))

unfoldable pub roll_of : Receipt → List ℕ
roll_of r = header r.depth (count_of r) ++ (levels r.elements ++ labels r.elements)

-- the outcome of writing into memory: the roll's length, or the refusal
abbrev pub writing : Receipt → List ℕ → Result ℕ RollFault
writing r memory = cond (nat_lt (length memory) (roll_length (count_of r))) (Err ShortMemory) (Ok (roll_length (count_of r)))

-- Memory past the roll stays, and all of it where it is too short.
abbrev pub memory_after : Receipt → List ℕ → List ℕ
memory_after r memory = cond (nat_lt (length memory) (roll_length (count_of r))) memory (roll_of r ++ drop (roll_length (count_of r)) memory)
