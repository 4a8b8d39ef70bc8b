-- What an opening does to the relatives of each element.
use Rattle.std.proofs.Common.{◌≡◌, ℕ, zero, suc, ◌+◌, ◌<◌, ◌≤◌, Bool, true, false, ◌&&◌, ltb, [], ◌∷◌, get_or, Some, None, Option, sym, refl, ap, ◌∙◌, ⊎_elim, add-one, arith, length-append}
use Rattle.std.proofs.lemmas.Bool.{cases_lt, cases_Bool, lt-ltb, le-ltb, and_left, and_right, and_from, both_ways}
use Rattle.std.proofs.lemmas.List.{get_or_append_left, get_or_push}
use Rattle.model.specs.Receipt.{Element, Receipt, Lawful, absent, count_of, level_at, label_at, nearest, parent_of, first_child_of, next_sibling_of, previous_sibling_of, first_where, same_rank, innermost, last_inside, opened}
use Rattle.model.specs.Limits.{most_elements, most_label, most_depth}
use Rattle.model.proofs.Relatives.{inside, parent_some}
use Rattle.model.proofs.Search.{last_cong, last_some, last_none_all, first_cong, first_none, first_more, first_new, first_same, apart_rank, same_rank_lem, same_is, same_rank_sym}

abbrev fresh : Receipt → ℕ → Element
fresh r l = record { label = l; level = r.depth }

module _ (r : Receipt) (l : ℕ) where
  pub count_more : count_of (opened r l) ≡ count_of r + 1
  count_more = length-append r.elements (fresh r l ∷ [])

  pub element_old : (k : ℕ) → k < count_of r → get_or (opened r l).elements k absent ≡ get_or r.elements k absent
  element_old k h = get_or_append_left r.elements (fresh r l ∷ []) absent k h

  element_new : get_or (opened r l).elements (count_of r) absent ≡ fresh r l
  element_new = get_or_push r.elements (fresh r l) absent (count_of r) refl

  pub level_old : (k : ℕ) → k < count_of r → level_at (opened r l) k ≡ level_at r k
  level_old k h = ap (λ (e : Element). e.level) (element_old k h)

  pub label_old : (k : ℕ) → k < count_of r → label_at (opened r l) k ≡ label_at r k
  label_old k h = ap (λ (e : Element). e.label) (element_old k h)

  pub level_new : level_at (opened r l) (count_of r) ≡ r.depth
  level_new = ap (λ (e : Element). e.level) element_new

  label_new : label_at (opened r l) (count_of r) ≡ l
  label_new = ap (λ (e : Element). e.label) element_new

  nearest_old : (v k : ℕ) → k ≤ count_of r → nearest (opened r l).elements v k ≡ nearest r.elements v k
  unfolding nearest
  nearest_old v zero h = refl
  nearest_old v (suc k) h = let ih = nearest_old v k (omega arith) in let e = level_old k (omega arith) in cc

  pub parent_old : (j : ℕ) → j < count_of r → parent_of (opened r l) j ≡ parent_of r j
  parent_old j h =
      let m = count_more in
      let a = inside (opened r l) j (nearest (opened r l).elements (level_at (opened r l) j) j) (omega arith) in
      let b = inside r j (nearest r.elements (level_at r j) j) h in
      let c = nearest_old (level_at r j) j (omega arith) in
      let d = level_old j h in
      cc

  pub parent_new : parent_of (opened r l) (count_of r) ≡ innermost r
  parent_new =
      let m = count_more in
      let c = nearest_old r.depth (count_of r) (omega arith) in
      inside (opened r l) (count_of r) _ (omega arith) ∙ rw level_new c

  same_old : (j i : ℕ) → j < count_of r → i < count_of r → same_rank (parent_of (opened r l) j) (parent_of (opened r l) i) ≡ same_rank (parent_of r j) (parent_of r i)
  same_old j i h k = let a = parent_old j h in let b = parent_old i k in cc

  pub prev_old : (i : ℕ) → i < count_of r → previous_sibling_of (opened r l) i ≡ previous_sibling_of r i
  prev_old i h =
      let m = count_more in
      inside (opened r l) i _ (omega arith) ∙ last_cong _ (λ j. same_rank (parent_of r j) (parent_of r i)) i (λ j b. same_old j i (omega arith) h) ∙ sym (inside r i _ h)

  pub prev_new : previous_sibling_of (opened r l) (count_of r) ≡ last_inside r
  prev_new =
      let m = count_more in
      inside (opened r l) (count_of r) _ (omega arith)
      ∙ last_cong _ (λ j. same_rank (parent_of r j) (innermost r)) (count_of r) (λ j b. let a = parent_old j b in let c = parent_new in cc)

  -- The tests of `first_child_of` and `next_sibling_of`.
  abbrev child' : ℕ → ℕ → Bool
  child' i j = same_rank (parent_of (opened r l) j) (Some i)

  abbrev later' : ℕ → ℕ → Bool
  later' i j = ltb i j && same_rank (parent_of (opened r l) j) (parent_of (opened r l) i)

  first_opens : (i : ℕ) → i < count_of r + 1 → first_child_of (opened r l) i ≡ first_where (child' i) (suc (count_of r))
  first_opens i h = let m = count_more in inside (opened r l) i _ (omega arith) ∙ ap (first_where (child' i)) (m ∙ add-one (count_of r))

  next_opens : (i : ℕ) → i < count_of r + 1 → next_sibling_of (opened r l) i ≡ first_where (later' i) (suc (count_of r))
  next_opens i h = let m = count_more in inside (opened r l) i _ (omega arith) ∙ ap (first_where (later' i)) (m ∙ add-one (count_of r))

  child_old : (i j : ℕ) → j < count_of r → child' i j ≡ same_rank (parent_of r j) (Some i)
  child_old i j h = ap (λ x. same_rank x (Some i)) (parent_old j h)

  child_new : (i : ℕ) → child' i (count_of r) ≡ same_rank (innermost r) (Some i)
  child_new i = ap (λ x. same_rank x (Some i)) parent_new

  later_old : (i j : ℕ) → i < count_of r → j < count_of r → later' i j ≡ (ltb i j && same_rank (parent_of r j) (parent_of r i))
  later_old i j h k = ap (λ b. ltb i j && b) (same_old j i k h)

  later_new : (i : ℕ) → i < count_of r → later' i (count_of r) ≡ same_rank (innermost r) (parent_of r i)
  later_new i h = ap (λ b. b && same_rank (parent_of (opened r l) (count_of r)) (parent_of (opened r l) i)) (lt-ltb i (count_of r) h) ∙ (let a = parent_new in let b = parent_old i h in cc)

  first_kept : (i : ℕ) → i < count_of r → first_where (child' i) (count_of r) ≡ first_child_of r i
  first_kept i h = first_cong _ _ (count_of r) (λ j b. child_old i j b) ∙ sym (inside r i _ h)

  next_kept : (i : ℕ) → i < count_of r → first_where (later' i) (count_of r) ≡ next_sibling_of r i
  next_kept i h = first_cong _ _ (count_of r) (λ j b. later_old i j h b) ∙ sym (inside r i _ h)

  -- An element that is no child yet gives no reason to change, and the new one has no relatives after it.
  pub first_of_new : first_child_of (opened r l) (count_of r) ≡ None
  first_of_new =
      first_opens (count_of r) (omega arith) ∙ first_none _ (suc (count_of r)) (λ j h. apart_rank (parent_of (opened r l) j) (count_of r) (λ e. let s = parent_some (opened r l) j (count_of r) e in omega arith))

  pub next_of_new : next_sibling_of (opened r l) (count_of r) ≡ None
  next_of_new =
      next_opens (count_of r) (omega arith) ∙ first_none _ (suc (count_of r)) (λ j h. and_left (ltb (count_of r) j) _ (le-ltb (count_of r) j (omega arith)))

  pub first_at : (i : ℕ) → i < count_of r → innermost r ≡ Some i → last_inside r ≡ None → first_child_of (opened r l) i ≡ Some (count_of r)
  first_at i h u p =
      let nobody : (j : ℕ) → j < count_of r → child' i j ≡ false = λ j b. child_old i j b ∙ ap (same_rank (parent_of r j)) (sym u) ∙ last_none_all _ (count_of r) p j b in
      first_opens i (omega arith) ∙ first_new (child' i) (count_of r) nobody (child_new i ∙ same_rank_lem (innermost r) i u)

  first_by : (i : ℕ) → i < count_of r → (innermost r ≡ Some i → last_inside r ≡ None → ⊥) → innermost r ≡ Some i → (o : Option ℕ) → last_inside r ≡ o → first_child_of (opened r l) i ≡ first_child_of r i
  first_by i h ne u None e = absurd (ne u e)
  first_by i h ne u (Some q) e =
      let s = last_some _ (count_of r) q e in
      let t : child' i q ≡ true = child_old i q s.0 ∙ ap (same_rank (parent_of r q)) (sym u) ∙ s.1 in
      first_opens i (omega arith) ∙ first_more (child' i) (count_of r) q s.0 t ∙ first_kept i h

  pub first_else : (i : ℕ) → i < count_of r → (innermost r ≡ Some i → last_inside r ≡ None → ⊥) → first_child_of (opened r l) i ≡ first_child_of r i
  first_else i h ne = ⊎_elim
      (λ (t : child' i (count_of r) ≡ true). first_by i h ne (same_is (innermost r) (Some i) (sym (child_new i) ∙ t)) (last_inside r) refl)
      (λ (t : child' i (count_of r) ≡ false). first_opens i (omega arith) ∙ first_same (child' i) (count_of r) t ∙ first_kept i h)
      (cases_Bool (child' i (count_of r)))

  pub next_at : (i : ℕ) → last_inside r ≡ Some i → next_sibling_of (opened r l) i ≡ Some (count_of r)
  next_at i e =
      let s = last_some _ (count_of r) i e in
      let u = same_is (parent_of r i) (innermost r) s.1 in
      let nobody : (j : ℕ) → j < count_of r → later' i j ≡ false =
      λ j b. ⊎_elim
      (λ c. later_old i j s.0 b ∙ and_right (ltb i j) _ (ap (same_rank (parent_of r j)) u ∙ s.2 j c b))
      (λ c. and_left (ltb i j) _ (le-ltb i j c)) (cases_lt i j) in
      next_opens i (omega arith) ∙ first_new (later' i) (count_of r) nobody (later_new i s.0 ∙ same_rank_sym (parent_of r i) (innermost r) s.1)

  next_by : (i : ℕ) → i < count_of r → (last_inside r ≡ Some i → ⊥) → same_rank (innermost r) (parent_of r i) ≡ true → (o : Option ℕ) → last_inside r ≡ o → next_sibling_of (opened r l) i ≡ next_sibling_of r i
  next_by i h ne t None e =
      absurd (both_ways _ (last_none_all _ (count_of r) e i h) (same_rank_sym (innermost r) (parent_of r i) t))
  next_by i h ne t (Some q) e =
      let u = same_is (innermost r) (parent_of r i) t in
      let s = last_some _ (count_of r) q e in
      let sib = same_rank_sym (innermost r) (parent_of r i) t in
      let miss = s.2 i in
      let before : i < q = grind arith in
      let k : later' i q ≡ true = later_old i q h s.0 ∙ and_from (ltb i q) _ (lt-ltb i q before) (ap (same_rank (parent_of r q)) (sym u) ∙ s.1) in
      next_opens i (omega arith) ∙ first_more (later' i) (count_of r) q s.0 k ∙ next_kept i h

  pub next_else : (i : ℕ) → i < count_of r → (last_inside r ≡ Some i → ⊥) → next_sibling_of (opened r l) i ≡ next_sibling_of r i
  next_else i h ne = ⊎_elim
      (λ (t : later' i (count_of r) ≡ true). next_by i h ne (sym (later_new i h) ∙ t) (last_inside r) refl)
      (λ (t : later' i (count_of r) ≡ false). next_opens i (omega arith) ∙ first_same (later' i) (count_of r) t ∙ next_kept i h)
      (cases_Bool (later' i (count_of r)))

  pub opened_lawful : Lawful r → 1 ≤ l → l ≤ most_label → count_of r < most_elements → r.depth < most_depth → (0 < count_of r → 0 < r.depth) → Lawful (opened r l)
  opened_lawful w low high few deep live =
      let m = count_more in
      let v = level_new in
      record {
        few = omega arith;
        first = λ h. let o = level_old 0 in let f = w.first in let e = w.empty_depth in grind arith;
        later = λ i h. let x = w.later i in let a = level_old (i + 1) in let b = level_old i (omega arith) in let u = w.open_depth i in (grind arith, grind arith);
        shallow = λ i h. let o = level_old i in let x = w.shallow i in grind arith;
        named = λ i h. let n = label_new in let o = label_old i in let x = w.named i in (grind arith, grind arith);
        empty_depth = λ z. absurd (omega arith);
        open_depth = λ i z. grind arith;
      }
