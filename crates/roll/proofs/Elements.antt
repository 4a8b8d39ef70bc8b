-- The elements that levels and labels tell.
use Rattle.std.proofs.Common.{◌≡◌, ℕ, ◌<◌, List, length, get_or, ap, ◌∙◌, arith}
use lib.ListN.{length-map}
use Rattle.std.specs.List.{zip}
use Rattle.std.proofs.lemmas.List.{get_or-map}
use Rattle.std.proofs.lemmas.Slice.Zip.{length-zip, get_or-zip}
use Rattle.model.specs.Receipt.{Element, absent, count_of, label_at, level_at}
use Rattle.roll.specs.Told.{element_of, told}

module _ (levels labels : List ℕ) (d : ℕ) (paired : length labels ≡ length levels) where
  pub told_count : count_of (told levels labels d) ≡ length levels
  told_count = let z = length-zip levels labels in let m = length-map (zip levels labels) element_of in omega arith

  pub told_at : (i : ℕ) → i < length levels → get_or (told levels labels d).elements i absent ≡ element_of (get_or levels i 0, get_or labels i 0)
  told_at i h =
      let z = length-zip levels labels in
      get_or-map element_of (zip levels labels) i (0, 0) absent (omega arith) ∙ ap element_of (get_or-zip levels labels i (0, 0) h (omega arith))

  pub told_level : (i : ℕ) → i < length levels → level_at (told levels labels d) i ≡ get_or levels i 0
  told_level i h = ap (λ (e : Element). e.level) (told_at i h)

  pub told_label : (i : ℕ) → i < length levels → label_at (told levels labels d) i ≡ get_or labels i 0
  told_label i h = ap (λ (e : Element). e.label) (told_at i h)
