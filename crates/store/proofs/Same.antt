-- Receipts that give the same answers are the same.
use Rattle.std.proofs.Common.{◌≡◌, ℕ, ◌<◌, Bool, true, false, List, length, get_or, MatchBool, Decides, refl, ap, ◌∙◌, subst, arith}
use Rattle.std.specs.List.{AllWithin, HoldsAt, range_with_len}
use Rattle.std.proofs.lemmas.Bool.Decides.{nat_tests}
use Rattle.std.proofs.lemmas.List.{same_lists, get_or_default}
use Rattle.std.proofs.lemmas.List.FromFn.{length-range_with_len, get_or-range_with_len}
use Rattle.model.specs.Receipt.{Element, Receipt, absent, count_of, label_at, level_at, label_of, level_of}

-- Both have the same label and level at a rank.
abbrev pub SameAt : Receipt → Receipt → ℕ → Type 0
SameAt r s k = (label_of r k ≡ label_of s k) × (level_of r k ≡ level_of s k)

same_element : (e f : Element) → e.label ≡ f.label → e.level ≡ f.level → e ≡ f
same_element e f p q =
    ap (λ l. let x : Element = record { label = l; level = e.level } in x) p ∙ ap (λ v. let x : Element = record { label = f.label; level = v } in x) q

module _ (r s : Receipt) (count : count_of r ≡ count_of s) where
  same_at : (k : ℕ) → k < count_of r → SameAt r s k → get_or r.elements k absent ≡ get_or s.elements k absent
  same_at k h w =
      let p = w.0 in
      let q = w.1 in
      let l : label_at r k ≡ label_at s k = grind (arith, nat_tests) in
      let v : level_at r k ≡ level_at s k = grind (arith, nat_tests) in
      same_element (get_or r.elements k absent) (get_or s.elements k absent) l v

  same_receipt : r.depth ≡ s.depth → ((k : ℕ) → k < count_of r → SameAt r s k) → r ≡ s
  same_receipt d each =
      let es : r.elements ≡ s.elements = same_lists r.elements s.elements count
      (λ k e h. get_or_default r.elements k e absent h ∙ same_at k h (each k h) ∙ get_or_default s.elements k absent e (omega arith)) in
      ap (λ (xs : List Element). let x : Receipt = record { elements = xs; depth = r.depth } in x) es ∙ ap (λ v. let x : Receipt = record { elements = s.elements; depth = v } in x) d

  -- What the answer for every rank tells.
  pub decides : (n : ℕ) (b : Bool) → n ≡ count_of r → r.depth ≡ s.depth
      → MatchBool b (AllWithin (SameAt r s) (range_with_len 0 n) 0 (length (range_with_len 0 n))) ((k : ℕ) × (k < length (range_with_len 0 n)) × HoldsAt (λ j. SameAt r s j → ⊥) (range_with_len 0 n) k)
      → Decides b (r ≡ s)
  decides n true e d all = (
    λ _. same_receipt d (λ k h. let l = length-range_with_len 0 n in let j : get_or (range_with_len 0 n) k 0 ≡ k = get_or-range_with_len 0 n k 0 (omega arith) ∙ omega arith in subst (SameAt r s) j (all k 0 (omega arith) (omega arith))),
    λ _. refl,
  )
  decides n false e d (k, h, differ) = (λ q. cc, λ q. absurd (differ 0 (ap (λ x. label_of x (get_or (range_with_len 0 n) k 0)) q, ap (λ x. level_of x (get_or (range_with_len 0 n) k 0)) q)))
