-- Bytes whose header is that of a roll, by what comes after the header.
use Rattle.std.proofs.Common.{◌≡◌, ℕ, ◌+◌, ◌-◌, ◌*◌, ◌<◌, false, cond, eqb, ltb, List, length, get_or, take, drop, map, Some, None, Option, sym, ap, ◌∙◌, ⊎_elim, arith, length-drop}
use Rattle.std.specs.List.{range_with_len, zip}
use Rattle.std.proofs.lemmas.Bool.{cases_eq, cond-true, cond-false, eq-eqb, ne_eqb}
use Rattle.std.proofs.lemmas.List.{get_or-take, get_or-drop, length-take-le}
use Rattle.std.proofs.lemmas.List.FromFn.{fill_by_all}
use Rattle.model.specs.declared.fault.RollFault.{RollFault}
use Rattle.model.specs.declared.fault.RollFault.TheVariants.{NoRoll, BadLayout, BadLevel, BadLabel, BadDepth}
use Rattle.model.specs.Receipt.{absent, first_where}
use Rattle.model.specs.Reading.{byte_at, count_in, depth_in, element_in, fault_at, foreign, greatest_depth, label_breaks, label_place, level_breaks, level_place, misplaced, reading_fault, receipt_in, wrong_label, wrong_level}
use Rattle.model.proofs.Search.{first_cong}
use Rattle.roll.specs.Told.{element_of, told}
use Rattle.roll.specs.Parts.{fault_in, greatest_after, level_wrong}
use Rattle.roll.proofs.Elements.{told_at, told_count}

module _ (bytes levels labels : List ℕ) (n : ℕ) (counted : n ≡ count_in bytes) (whole : length bytes ≡ 8 + 2 * n) (front : levels ≡ take n (drop 8 bytes)) (back : labels ≡ drop n (drop 8 bytes)) where
  pub levels_long : length levels ≡ n
  levels_long = let a = length-drop 8 bytes in ap length front ∙ length-take-le n (drop 8 bytes) (omega arith)

  pub labels_long : length labels ≡ n
  labels_long = let a = length-drop 8 bytes in let b = length-drop n (drop 8 bytes) in let c = ap length back in omega arith

  level_there : (i : ℕ) → i < n → get_or levels i 0 ≡ byte_at bytes (level_place i)
  level_there i h = ap (λ xs. get_or xs i 0) front ∙ get_or-take n (drop 8 bytes) i 0 h ∙ get_or-drop 8 bytes i 0

  label_there : (i : ℕ) → get_or labels i 0 ≡ byte_at bytes (label_place n i)
  label_there i =
      let e : 8 + (n + i) ≡ label_place n i = omega arith in
      ap (λ xs. get_or xs i 0) back ∙ get_or-drop n (drop 8 bytes) i 0 ∙ get_or-drop 8 bytes (n + i) 0 ∙ ap (byte_at bytes) e

  pub tells : receipt_in bytes ≡ told levels labels (depth_in bytes)
  tells =
      let a = levels_long in
      let b = labels_long in
      let p : length labels ≡ length levels = omega arith in
      let d = depth_in bytes in
      ap (λ m. record { elements = map (element_in bytes m) (range_with_len 0 m); depth = d }) (sym counted)
      ∙ ap (λ es. record { elements = es; depth = d })
      (sym (fill_by_all (element_in bytes n) (map element_of (zip levels labels)) n absent (told_count levels labels d p ∙ a)
      (λ k h. told_at levels labels d p k (omega arith) ∙ ap (λ v. element_of (v, get_or labels k 0)) (level_there k h) ∙ ap (λ l. element_of (byte_at bytes (level_place k), l)) (label_there k))))

  levels_same : first_where (level_breaks bytes) (count_in bytes) ≡ first_where (level_wrong levels) (length levels)
  levels_same =
      ap (first_where (level_breaks bytes)) (sym counted ∙ sym levels_long)
      ∙ first_cong (level_breaks bytes) (level_wrong levels) (length levels)
      (λ i h.
      let l = levels_long in
      ap (λ u. wrong_level i u (byte_at bytes (level_place i))) (sym (level_there (i - 1) (omega arith)))
      ∙ ap (wrong_level i (get_or levels (i - 1) 0)) (sym (level_there i (omega arith))))

  labels_same : first_where (label_breaks bytes (count_in bytes)) (count_in bytes) ≡ first_where (λ i. wrong_label (get_or labels i 0)) (length labels)
  labels_same =
      ap (λ m. first_where (label_breaks bytes m) m) (sym counted)
      ∙ ap (first_where (label_breaks bytes n)) (sym labels_long)
      ∙ first_cong (label_breaks bytes n) (λ i. wrong_label (get_or labels i 0)) (length labels) (λ i h. ap wrong_label (sym (label_there i)))

  depth_same : greatest_depth bytes (count_in bytes) ≡ greatest_after levels
  depth_same =
      ap (greatest_depth bytes) (sym counted)
      ∙ ⊎_elim
      (λ (z : n ≡ 0). cond-true (eqb n 0) 0 _ (eq-eqb n 0 z) ∙ sym (cond-true (eqb (length levels) 0) 0 _ (eq-eqb (length levels) 0 (levels_long ∙ z))))
      (λ ne.
      let l = levels_long in
      let u = level_there (n - 1) (omega arith) in
      let m = ap (λ k. get_or levels (k - 1) 0) l in
      cond-false (eqb n 0) 0 _ (ne_eqb n 0 ne) ∙ (omega arith) ∙ sym (cond-false (eqb (length levels) 0) 0 _ (ne_eqb (length levels) 0 (λ e. omega arith))))
      (cases_eq n 0)

  abbrev on_depth : ℕ → Option RollFault
  on_depth g = cond (ltb g (depth_in bytes)) (Some BadDepth) None

  pub left : foreign bytes ≡ false → misplaced bytes ≡ false → reading_fault bytes ≡ fault_in levels labels (depth_in bytes)
  unfolding reading_fault
  left a b =
      cond-false (foreign bytes) (Some NoRoll) _ a
      ∙ cond-false (misplaced bytes) (Some BadLayout) _ b
      ∙ ap (λ o. fault_at (λ i. BadLevel (level_place i)) o (fault_at (λ i. BadLabel (label_place (count_in bytes) i)) (first_where (label_breaks bytes (count_in bytes)) (count_in bytes)) (on_depth (greatest_depth bytes (count_in bytes))))) levels_same
      ∙ ap (λ o. fault_at (λ i. BadLevel (level_place i)) (first_where (level_wrong levels) (length levels)) (fault_at (λ i. BadLabel (label_place (count_in bytes) i)) o (on_depth (greatest_depth bytes (count_in bytes))))) labels_same
      ∙ ap (λ m. fault_at (λ i. BadLevel (level_place i)) (first_where (level_wrong levels) (length levels)) (fault_at (λ i. BadLabel (label_place m i)) (first_where (λ i. wrong_label (get_or labels i 0)) (length labels)) (on_depth (greatest_depth bytes (count_in bytes))))) (sym counted ∙ sym levels_long)
      ∙ ap (λ g. fault_at (λ i. BadLevel (level_place i)) (first_where (level_wrong levels) (length levels)) (fault_at (λ i. BadLabel (label_place (length levels) i)) (first_where (λ i. wrong_label (get_or labels i 0)) (length labels)) (on_depth g))) depth_same
