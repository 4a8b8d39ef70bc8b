-- First children and siblings by levels.
use Rattle.std.proofs.Common.{◌≡◌, ℕ, ◌+◌, ◌-◌, ◌<◌, ◌≤◌, true, ltb, Some, None, Option, sym, refl, ap, ◌∙◌, arith}
use Rattle.std.proofs.lemmas.Bool.{and_parts, ltb-true, lt-ltb, and_from, false_from_ne_true}
use Rattle.model.specs.Receipt.{Receipt, Lawful, count_of, level_at, nearest, parent_of, first_child_of, next_sibling_of, previous_sibling_of, same_rank}
use Rattle.model.proofs.Relatives.{inside, parent_some, parent_none, between, nearest_no_nearer, nearest_is}
use Rattle.model.proofs.Search.{first_none, last_is, last_none, apart_rank, same_rank_lem, same_parts, same_rank_sym}
use Rattle.model.proofs.Firsts.{first_is}

module _ (r : Receipt) (w : Lawful r) where
  -- The element that comes next is a child, and then the first one, exactly if it is deeper.
  pub child_next : (i : ℕ) → i + 1 < count_of r → level_at r i < level_at r (i + 1) → first_child_of r i ≡ Some (i + 1)
  child_next i h deep =
      let up = (w.later i h).1 in
      let p = inside r (i + 1) _ h ∙ nearest_is r (level_at r (i + 1)) (i + 1) i (omega arith) (omega arith) (λ j a b e. omega arith) in
      inside r i _ (omega arith)
      ∙ first_is _ (count_of r) (i + 1) h (same_rank_lem (parent_of r (i + 1)) i p) (λ j b. apart_rank (parent_of r j) i (λ e. let s = parent_some r j i e in omega arith))

  pub no_child : (i : ℕ) → i < count_of r → (i + 1 < count_of r → level_at r (i + 1) ≤ level_at r i) → first_child_of r i ≡ None
  no_child i h flat =
      inside r i _ h
      ∙ first_none _ (count_of r)
      (λ j b. apart_rank (parent_of r j) i
      (λ e. let s = parent_some r j i e in let x = between r w j i (i + 1) e (omega arith) in let f = flat (omega arith) in grind arith))

  -- Elements with the same parent have the same level, and what stands between them is no higher.
  pub same_level : (i j : ℕ) → same_rank (parent_of r j) (parent_of r i) ≡ true → (level_at r i ≡ level_at r j) × ((k : ℕ) → i < k → k < j → level_at r i ≤ level_at r k)
  same_level i j t =
      let s = same_parts (parent_of r j) (parent_of r i) t in
      let a = parent_some r j s.0 s.1 in
      let b = parent_some r i s.0 s.2 in
      (omega arith, λ k c d. let x = between r w j s.0 k s.1 (omega arith) d in omega arith)

  sibling_by : (i j : ℕ) → i < j → j < count_of r → level_at r i ≡ level_at r j → ((k : ℕ) → i < k → k < j → level_at r i ≤ level_at r k)
      → (o : Option ℕ) → parent_of r j ≡ o → same_rank (parent_of r j) (parent_of r i) ≡ true
  sibling_by i j h b e over None q =
      let z = parent_none r w j b q in
      let one = (w.later (j - 1) (omega arith)).0 in
      let m : (j - 1) + 1 ≡ j = omega arith in
      grind arith
  sibling_by i j h b e over (Some p) q =
      let s = parent_some r j p q in
      let n : nearest r.elements (level_at r j) j ≡ Some p = sym (inside r j _ b) ∙ q in
      let x = over p in
      let left : p < i = grind arith in
      let u : parent_of r i ≡ Some p = inside r i _ (omega arith) ∙ nearest_is r (level_at r i) i p left (omega arith) (λ k c d f. nearest_no_nearer r (level_at r j) j p n k c (omega arith) (omega arith)) in
      ap (same_rank (parent_of r j)) u ∙ same_rank_lem (parent_of r j) p q

  pub siblings : (i j : ℕ) → i < j → j < count_of r → level_at r i ≡ level_at r j → ((k : ℕ) → i < k → k < j → level_at r i ≤ level_at r k) → same_rank (parent_of r j) (parent_of r i) ≡ true
  siblings i j h b e over = sibling_by i j h b e over (parent_of r j) refl

  -- The next sibling: the first later element that is no deeper, if it is no higher either.
  pub next_found : (i q : ℕ) → i < q → q < count_of r → ((j : ℕ) → i < j → j < q → level_at r i < level_at r j) → level_at r q ≡ level_at r i → next_sibling_of r i ≡ Some q
  next_found i q h b deeper e =
      inside r i _ (omega arith)
      ∙ first_is _ (count_of r) q b (and_from (ltb i q) _ (lt-ltb i q h) (siblings i q h b (sym e) (λ k c d. let x = deeper k c d in omega arith)))
      (λ j c. false_from_ne_true _ (λ t. let s = and_parts (ltb i j) _ t in let x = deeper j (ltb-true i j s.0) c in let y = (same_level i j s.1).0 in omega arith))

  pub next_none : (i q : ℕ) → i < q → i < count_of r → ((j : ℕ) → i < j → j < q → level_at r i < level_at r j) → (q < count_of r → level_at r q < level_at r i) → next_sibling_of r i ≡ None
  next_none i q before h deeper higher =
      inside r i _ h
      ∙ first_none _ (count_of r)
      (λ j c. false_from_ne_true _ (λ t. let s = and_parts (ltb i j) _ t in passed j c (ltb-true i j s.0) (same_level i j s.1)))
    where
      passed : (j : ℕ) → j < count_of r → i < j → (level_at r i ≡ level_at r j) × ((k : ℕ) → i < k → k < j → level_at r i ≤ level_at r k) → ⊥
      passed j c m s = let x = deeper j m in let z = higher in let y = s.1 q before in grind arith

  -- The previous sibling: the last earlier element that is no deeper, if it is no higher either.
  pub previous_found : (i q : ℕ) → q < i → i < count_of r → ((j : ℕ) → q < j → j < i → level_at r i < level_at r j) → level_at r q ≡ level_at r i → previous_sibling_of r i ≡ Some q
  previous_found i q h b deeper e =
      inside r i _ b
      ∙ last_is _ i q h (same_rank_sym (parent_of r i) (parent_of r q) (siblings q i h b e (λ k c d. let x = deeper k c d in omega arith)))
      (λ j c d. false_from_ne_true _ (λ t. let x = deeper j c d in let y = (same_level i j t).0 in omega arith))

  pub previous_none : (i q : ℕ) → q < i → i < count_of r → ((j : ℕ) → q < j → j < i → level_at r i < level_at r j) → level_at r q < level_at r i → previous_sibling_of r i ≡ None
  previous_none i q h b deeper higher =
      inside r i _ b
      ∙ last_none _ i
      (λ j d. false_from_ne_true _ (passed j d))
    where
      passed : (j : ℕ) → j < i → same_rank (parent_of r j) (parent_of r i) ≡ true → ⊥
      passed j d t =
          let s = same_level j i (same_rank_sym (parent_of r j) (parent_of r i) t) in
          let x = deeper j in
          let y = s.1 q in
          grind arith

  pub first_alone : (i : ℕ) → i ≡ 0 → i < count_of r → previous_sibling_of r i ≡ None
  first_alone i z h = inside r i _ h ∙ last_none _ i (λ j b. absurd (omega arith))
