-- Bytes that are read as a roll: what acceptance says, and that rolls and accepted bytes are the same.
use Rattle.std.proofs.Common.{◌≡◌, ℕ, zero, suc, ◌+◌, ◌-◌, ◌<◌, ◌≤◌, Bool, true, false, cond, List, [], ◌∷◌, length, get_or, Some, None, Option, sym, refl, ap, ◌∙◌, ⊎_elim, arith}
use Rattle.std.specs.Int.Digits.{AllBelowBase}
use Rattle.std.proofs.lemmas.List.FromFn.{length-map-range_with_len, get_or-map-range_with_len}
use Rattle.std.proofs.lemmas.List.{ext_get_or}
use Rattle.std.proofs.lemmas.Bool.{ltb-false, cases_eq, cases_lt}
use Rattle.std.proofs.lemmas.Bool.Decides.{nat_tests}
use Rattle.std.proofs.lemmas.Option.{none-some}
use Rattle.model.specs.declared.fault.RollFault.{RollFault}
use Rattle.model.specs.declared.fault.RollFault.TheVariants.{NoRoll, BadLayout, BadDepth}
use Rattle.model.specs.Limits.{most_elements, most_label, most_depth}
use Rattle.model.specs.Receipt.{Element, Lawful, absent, label_at, first_where}
use Rattle.model.specs.Roll.{big_endian, edition, header, header_length, roll_length, roll_of}
use Rattle.model.specs.Reading.{byte_at, two_bytes_at, depth_in, count_in, level_place, label_place, element_in, elements_in, receipt_in, foreign, misplaced, wrong_level, level_breaks, wrong_label, label_breaks, greatest_depth, fault_at, reading_fault}
use Rattle.model.proofs.Search.{first_none}
use Rattle.model.proofs.Firsts.{first_none_all}
use Rattle.model.proofs.FirstFault.{no_fault}
use Rattle.model.proofs.Numbers.{number_read}
use Rattle.model.proofs.Rolls.{roll_long, roll_head, roll_level, roll_label}

-- What n elements tell at each rank.
pub told_count : (bytes : List ℕ) (n : ℕ) → length (elements_in bytes n) ≡ n
told_count bytes n = length-map-range_with_len (element_in bytes n) 0 n

pub told_at : (bytes : List ℕ) (n i : ℕ) → i < n → get_or (elements_in bytes n) i absent ≡ element_in bytes n i
told_at bytes n i h = get_or-map-range_with_len (element_in bytes n) 0 n i i absent h (omega arith)

pub told_level : (bytes : List ℕ) (n i : ℕ) → i < n → (get_or (elements_in bytes n) i absent).level ≡ byte_at bytes (level_place i)
told_level bytes n i h = ap (λ (e : Element). e.level) (told_at bytes n i h)

pub told_label : (bytes : List ℕ) (n i : ℕ) → i < n → (get_or (elements_in bytes n) i absent).label ≡ byte_at bytes (label_place n i)
told_label bytes n i h = ap (λ (e : Element). e.label) (told_at bytes n i h)

-- What the absence of each fault says.
pub record Accepted (bytes : List ℕ) : Type 0 where
  pub long : header_length ≤ length bytes
  pub edited : byte_at bytes 0 ≡ edition
  pub few : count_in bytes ≤ most_elements
  pub levels_at : two_bytes_at bytes 4 ≡ header_length
  pub labels_at : two_bytes_at bytes 6 ≡ header_length + count_in bytes
  pub whole : length bytes ≡ roll_length (count_in bytes)
  pub levels_keep : (i : ℕ) → i < count_in bytes → level_breaks bytes i ≡ false
  pub labels_keep : (i : ℕ) → i < count_in bytes → label_breaks bytes (count_in bytes) i ≡ false
  pub depth_keeps : depth_in bytes ≤ greatest_depth bytes (count_in bytes)

neither : (b : Bool) (f : RollFault) (o : Option RollFault) → cond b (Some f) o ≡ None → (b ≡ false) × (o ≡ None)
neither true f o e = absurd (none-some f (sym e))
neither false f o e = (refl, e)

nowhere : (f : ℕ → RollFault) (o : Option ℕ) (next : Option RollFault) → fault_at f o next ≡ None → (o ≡ None) × (next ≡ None)
nowhere f None next e = (refl, e)
nowhere f (Some i) next e = absurd (none-some (f i) (sym e))

pub accepted : (bytes : List ℕ) → reading_fault bytes ≡ None → Accepted bytes
unfolding reading_fault
accepted bytes e =
    let a = neither (foreign bytes) NoRoll _ e in
    let b = neither (misplaced bytes) BadLayout _ a.1 in
    let c = nowhere _ (first_where (level_breaks bytes) (count_in bytes)) _ b.1 in
    let d = nowhere _ (first_where (label_breaks bytes (count_in bytes)) (count_in bytes)) _ c.1 in
    let f = neither _ BadDepth None d.1 in
    let head = a.0 in
    let layout = b.0 in
    record {
      long = grind (arith, nat_tests);
      edited = grind (arith, nat_tests);
      few = grind (arith, nat_tests);
      levels_at = grind (arith, nat_tests);
      labels_at = grind (arith, nat_tests);
      whole = grind (arith, nat_tests);
      levels_keep = first_none_all (level_breaks bytes) (count_in bytes) c.0;
      labels_keep = first_none_all (label_breaks bytes (count_in bytes)) (count_in bytes) d.0;
      depth_keeps = ltb-false (greatest_depth bytes (count_in bytes)) (depth_in bytes) f.0;
    }

-- Accepted bytes are of this edition, and nothing in them is misplaced.
not_foreign : (bytes : List ℕ) → Accepted bytes → foreign bytes ≡ false
not_foreign bytes a = grind (arith, nat_tests, a.long, a.edited)

not_misplaced : (bytes : List ℕ) → Accepted bytes → misplaced bytes ≡ false
not_misplaced bytes a = grind (arith, nat_tests, a.few, a.levels_at, a.labels_at, a.whole)

pub accepted_is : (bytes : List ℕ) → Accepted bytes → reading_fault bytes ≡ None
accepted_is bytes a =
    no_fault bytes (not_foreign bytes a) (not_misplaced bytes a) (first_none (level_breaks bytes) (count_in bytes) a.levels_keep) (first_none (label_breaks bytes (count_in bytes)) (count_in bytes) a.labels_keep) a.depth_keeps

-- What the tests of a later level and of a label say where they are false.
later_keeps : (i u v : ℕ) → wrong_level i u v ≡ false → 0 < i → (1 ≤ v) × (v ≤ u + 1) × (v < most_depth)
later_keeps i u v k h = (grind (arith, nat_tests), grind (arith, nat_tests), grind (arith, nat_tests))

label_keeps : (v : ℕ) → wrong_label v ≡ false → (1 ≤ v) × (v ≤ most_label)
label_keeps v k = (grind (arith, nat_tests), grind (arith, nat_tests))

-- the bytes of the header
abbrev pub first_eight : List ℕ → List ℕ
first_eight bytes = byte_at bytes 0 ∷ byte_at bytes 1 ∷ byte_at bytes 2 ∷ byte_at bytes 3 ∷ byte_at bytes 4 ∷ byte_at bytes 5 ∷ byte_at bytes 6 ∷ byte_at bytes 7 ∷ []

first_at : (bytes : List ℕ) (at : ℕ) → at < header_length → get_or (first_eight bytes) at 0 ≡ byte_at bytes at
first_at bytes zero h = refl
first_at bytes (suc zero) h = refl
first_at bytes (suc (suc zero)) h = refl
first_at bytes (suc (suc (suc zero))) h = refl
first_at bytes (suc (suc (suc (suc zero)))) h = refl
first_at bytes (suc (suc (suc (suc (suc zero))))) h = refl
first_at bytes (suc (suc (suc (suc (suc (suc zero)))))) h = refl
first_at bytes (suc (suc (suc (suc (suc (suc (suc zero))))))) h = refl
first_at bytes (suc (suc (suc (suc (suc (suc (suc (suc at)))))))) h = absurd (omega arith)

two_read : (bytes : List ℕ) (at n : ℕ) → AllBelowBase 256 (byte_at bytes at ∷ byte_at bytes (at + 1) ∷ []) → two_bytes_at bytes at ≡ n → big_endian 2 n ≡ byte_at bytes at ∷ byte_at bytes (at + 1) ∷ []
two_read bytes at n u e = ap (big_endian 2) (sym e) ∙ number_read 2 (byte_at bytes at ∷ byte_at bytes (at + 1) ∷ []) refl u

-- The rules of a lawful receipt, from the bytes.
module _ (bytes : List ℕ) (a : Accepted bytes) where
  level_first : (i : ℕ) → i < count_in bytes → i ≡ 0 → byte_at bytes (level_place i) ≡ 0
  level_first i h e = let k = a.levels_keep i h in grind (arith, nat_tests)

  level_later : (i : ℕ) → i < count_in bytes → 0 < i
      → (1 ≤ byte_at bytes (level_place i)) × (byte_at bytes (level_place i) ≤ byte_at bytes (level_place (i - 1)) + 1) × (byte_at bytes (level_place i) < most_depth)
  level_later i h k = later_keeps i (byte_at bytes (level_place (i - 1))) (byte_at bytes (level_place i)) (a.levels_keep i h) k

  level_shallow : (i : ℕ) → i < count_in bytes → byte_at bytes (level_place i) < most_depth
  level_shallow i h = ⊎_elim (λ (e : i ≡ 0). let z = level_first i h e in omega arith) (λ ne. (level_later i h (omega arith)).2) (cases_eq i 0)

  pub accepted_lawful : Lawful (receipt_in bytes)
  accepted_lawful =
      let n = told_count bytes (count_in bytes) in
      let at = told_level bytes (count_in bytes) in
      record {
        few = omega (arith, a.few);
        first = λ h. at 0 (omega arith) ∙ level_first 0 (omega arith) refl;
        later = λ i h.
            let e : (i + 1) - 1 ≡ i = omega arith in
            let p = ap (λ j. byte_at bytes (level_place j)) e in
            let x = level_later (i + 1) (omega arith) (omega arith) in
            let u = at (i + 1) (omega arith) in
            let v = at i (omega arith) in
            (omega arith, omega arith);
        shallow = λ i h. let x = level_shallow i (omega arith) in let u = at i (omega arith) in omega arith;
        named = λ i h. let x = label_keeps (byte_at bytes (label_place (count_in bytes) i)) (a.labels_keep i (omega arith)) in let u = told_label bytes (count_in bytes) i (omega arith) in (omega arith, omega arith);
        empty_depth = λ e. let d = a.depth_keeps in grind (arith, nat_tests);
        open_depth = λ i e.
            let z : i ≡ count_in bytes - 1 = omega arith in
            let q = ap (λ j. byte_at bytes (level_place j)) z in
            let u = at i (omega arith) in
            let d = a.depth_keeps in
            grind (arith, nat_tests);
      }

  header_read : AllBelowBase 256 (first_eight bytes) → header (depth_in bytes) (count_in bytes) ≡ first_eight bytes
  header_read u =
      let p = two_read bytes 2 (count_in bytes) (u.1.1.0, (u.1.1.1.0, tt)) refl in
      let q = two_read bytes 4 header_length (u.1.1.1.1.0, (u.1.1.1.1.1.0, tt)) a.levels_at in
      let s = two_read bytes 6 (header_length + count_in bytes) (u.1.1.1.1.1.1.0, (u.1.1.1.1.1.1.1.0, tt)) a.labels_at in
      cc

  same_byte : AllBelowBase 256 (first_eight bytes) → (at : ℕ) → at < length bytes → byte_at bytes at ≡ get_or (roll_of (receipt_in bytes)) at 0
  same_byte u at h =
      let r = receipt_in bytes in
      let n = count_in bytes in
      let c = told_count bytes n in
      let w = a.whole in
      ⊎_elim
      (λ (b : at < header_length). sym (roll_head r at b ∙ ap (λ m. get_or (header (depth_in bytes) m) at 0) c ∙ ap (λ zs. get_or zs at 0) (header_read u) ∙ first_at bytes at b))
      (λ (b : header_length ≤ at). ⊎_elim
      (λ (k : at - header_length < n).
      let e : level_place (at - header_length) ≡ at = omega arith in
      sym (roll_level r at b (omega arith) ∙ told_level bytes n (at - header_length) k ∙ ap (byte_at bytes) e))
      (λ (k : n ≤ at - header_length).
      let e : label_place n ((at - header_length) - n) ≡ at = omega arith in
      sym (roll_label r at (omega arith) (omega arith) ∙ ap (λ m. label_at r ((at - header_length) - m)) c ∙ told_label bytes n ((at - header_length) - n) (omega arith) ∙ ap (byte_at bytes) e))
      (cases_lt (at - header_length) n))
      (cases_lt at header_length)

  -- Accepted bytes are the roll of the receipt that they tell.
  pub accepted_roll : AllBelowBase 256 (first_eight bytes) → bytes ≡ roll_of (receipt_in bytes)
  accepted_roll u =
      let l = roll_long (receipt_in bytes) in
      let c = told_count bytes (count_in bytes) in
      let w = a.whole in
      ext_get_or 0 bytes (roll_of (receipt_in bytes)) (omega arith) (same_byte u)
