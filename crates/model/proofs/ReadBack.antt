-- The roll of a lawful receipt is accepted and tells that receipt.
use Rattle.std.proofs.Common.{◌≡◌, ℕ, ◌+◌, ◌-◌, ◌/◌, ◌%◌, ◌^◌, ◌<◌, ◌≤◌, false, List, None, sym, refl, ap, ◌∙◌, ⊎_elim, arith}
use Rattle.std.proofs.lemmas.List.FromFn.{fill_by_all}
use Rattle.std.proofs.lemmas.Bool.{cases_eq}
use Rattle.std.proofs.lemmas.Bool.Decides.{nat_tests}
use Rattle.model.specs.Receipt.{Receipt, Lawful, absent, count_of, level_at, label_at}
use Rattle.model.specs.Roll.{header_length, roll_of}
use Rattle.model.specs.Reading.{byte_at, two_bytes_at, depth_in, count_in, level_place, label_place, element_in, elements_in, receipt_in, level_breaks, label_breaks, greatest_depth, reading_fault}
use Rattle.model.proofs.Numbers.{number_written}
use Rattle.model.proofs.Readings.{Accepted, accepted_is}
use Rattle.model.proofs.Rolls.{roll_long, roll_head, roll_level, roll_label}

two_written : (bytes : List ℕ) (at n : ℕ) → n < 256 ^ 2 → byte_at bytes at ≡ (n / 256) % 256 → byte_at bytes (at + 1) ≡ n % 256 → two_bytes_at bytes at ≡ n
two_written bytes at n h p q =
    rw (p, q) (number_written 2 n h)

module _ (r : Receipt) (w : Lawful r) where
  abbrev bytes : List ℕ
  bytes = roll_of r

  pub count_back : count_in bytes ≡ count_of r
  count_back = let f = w.few in two_written bytes 2 (count_of r) (omega arith) (roll_head r 2 (omega arith)) (roll_head r 3 (omega arith))

  depth_back : depth_in bytes ≡ r.depth
  depth_back = roll_head r 1 (omega arith)

  level_back : (i : ℕ) → i < count_of r → byte_at bytes (level_place i) ≡ level_at r i
  level_back i h =
      let e : level_place i - header_length ≡ i = omega arith in
      roll_level r (level_place i) (omega arith) (omega arith) ∙ ap (level_at r) e

  label_back : (i : ℕ) → i < count_of r → byte_at bytes (label_place (count_of r) i) ≡ label_at r i
  label_back i h =
      let e : (label_place (count_of r) i - header_length) - count_of r ≡ i = omega arith in
      roll_label r (label_place (count_of r) i) (omega arith) (omega arith) ∙ ap (label_at r) e

  level_keeps : (i : ℕ) → i < count_of r → level_breaks bytes i ≡ false
  level_keeps i h = ⊎_elim
      (λ (e : i ≡ 0). let u = level_back i h in let f = w.first (omega arith) in grind (arith, nat_tests))
      (λ ne.
      let e : (i - 1) + 1 ≡ i = omega arith in
      let x = w.later (i - 1) (omega arith) in
      let y = w.shallow i h in
      let u = level_back i h in
      let v = level_back (i - 1) (omega arith) in
      grind (arith, nat_tests))
      (cases_eq i 0)

  label_keeps : (i : ℕ) → i < count_of r → label_breaks bytes (count_in bytes) i ≡ false
  label_keeps i h = let n = count_back in let v = label_back i h in let x = w.named i h in grind (arith, nat_tests)

  depth_keeps : depth_in bytes ≤ greatest_depth bytes (count_in bytes)
  depth_keeps =
      let n = count_back in
      let b = depth_back in
      let z = w.empty_depth in
      let v = level_back (count_of r - 1) in
      let x = w.open_depth (count_of r - 1) in
      grind (arith, nat_tests)

  roll_keeps : Accepted bytes
  roll_keeps =
      let n = count_back in
      let l = roll_long r in
      let f = w.few in
      record {
        long = omega arith;
        edited = roll_head r 0 (omega arith);
        few = omega arith;
        levels_at = two_written bytes 4 header_length (omega arith) (roll_head r 4 (omega arith)) (roll_head r 5 (omega arith));
        labels_at = two_written bytes 6 (header_length + count_of r) (omega arith) (roll_head r 6 (omega arith)) (roll_head r 7 (omega arith)) ∙ ap (λ m. header_length + m) (sym n);
        whole = omega arith;
        levels_keep = λ i h. level_keeps i (omega arith);
        labels_keep = λ i h. label_keeps i (omega arith);
        depth_keeps = depth_keeps;
      }

  pub roll_accepted : reading_fault (roll_of r) ≡ None
  roll_accepted = accepted_is bytes roll_keeps

  elements_back : elements_in bytes (count_of r) ≡ r.elements
  elements_back = sym (fill_by_all (element_in bytes (count_of r)) r.elements (count_of r) absent refl
      (λ k h. let u = level_back k h in let v = label_back k h in simp (u, v)))

  pub roll_tells : receipt_in (roll_of r) ≡ r
  roll_tells =
      simp (count_back, elements_back, depth_back)
