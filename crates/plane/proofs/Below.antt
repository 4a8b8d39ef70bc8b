-- Ancestors by levels: x is an ancestor of y exactly if everything after x up to y is deeper than x.
use Rattle.std.proofs.Common.{◌≡◌, ℕ, zero, suc, ◌<◌, ◌≤◌, eqb, ◌⊎◌, Some, None, Decides, Option, refl, ap, ◌∙◌, inl, inr, ⊎_elim, arith}
use Rattle.std.proofs.lemmas.Bool.{cases_lt, cases_order, false≢true}
use Rattle.std.proofs.lemmas.Bool.Decides.{Decides-eqb, Decides-like, Decides-or}
use Rattle.model.specs.Receipt.{Receipt, Lawful, count_of, level_at, parent_of}
use Rattle.model.specs.Plane.{is_among, is_ancestor}
use Rattle.model.proofs.Relatives.{parent_some, parent_none, between}

-- y is below x: it comes later, and all levels after x up to y are greater than x's
abbrev pub Below : Receipt → ℕ → ℕ → Type 0
Below r x y = (x < y) × ((k : ℕ) → x < k → k ≤ y → level_at r x < level_at r k)

-- What is below something below x is below x, and so is what stands between.
pub below_trans : (r : Receipt) (x y z : ℕ) → Below r x y → Below r y z → Below r x z
below_trans r x y z a b =
    let o = a.1 y a.0 (omega arith) in
    (omega arith, λ k c d. ⊎_elim (λ (q : y < k). let t = b.1 k q d in omega arith) (λ (q : k ≤ y). a.1 k c q) (cases_lt y k))

pub below_less : (r : Receipt) (x y z : ℕ) → x < y → y ≤ z → Below r x z → Below r x y
below_less r x y z a b h = (a, λ k c d. h.1 k c (omega arith))

module _ (r : Receipt) (w : Lawful r) where
  pub parent_below : (y p : ℕ) → parent_of r y ≡ Some p → Below r p y
  parent_below y p e =
      let s = parent_some r y p e in
      (s.1, λ k a b. let x = between r w y p k e a in grind arith)

  -- What has y below it is the parent of y or has the parent below it.
  pub parent_or_above : (x y p : ℕ) → Below r x y → parent_of r y ≡ Some p → (p ≡ x) ⊎ Below r x p
  parent_or_above x y p b e =
      let s = parent_some r y p e in
      let o = b.1 y b.0 (omega arith) in
      ⊎_elim inl
      (⊎_elim (λ (q : p < x). let t = between r w y p x e q b.0 in absurd (omega arith)) (λ (q : x < p). inr (below_less r x p y q (omega arith) b)))
      (cases_order p x)

  no_root_below : (x y : ℕ) → y < count_of r → parent_of r y ≡ None → Below r x y → ⊥
  no_root_below x y h e b = let z = parent_none r w y h e in let o = b.1 y b.0 (omega arith) in omega arith

  -- What holds of the children of x, and of an element if it holds of its parent, holds of all below x.
  below_from : (x : ℕ) (P : ℕ → Type 0) → ((y : ℕ) → parent_of r y ≡ Some x → P y) → ((y p : ℕ) → parent_of r y ≡ Some p → P p → P y)
      → (n y : ℕ) (o : Option ℕ) → parent_of r y ≡ o → y ≤ n → y < count_of r → Below r x y → P y
  below_from x P child up n y None e f h b = absurd (no_root_below x y h e b)
  below_from x P child up zero y (Some p) e f h b = let z = b.0 in absurd (omega arith)
  below_from x P child up (suc n) y (Some p) e f h b =
      let s = parent_some r y p e in
      ⊎_elim (λ (q : p ≡ x). child y (e ∙ ap Some q)) (λ c. up y p e (below_from x P child up n p (parent_of r p) refl (omega arith) (omega arith) c)) (parent_or_above x y p b e)

  pub below_by : (x : ℕ) (P : ℕ → Type 0) → ((y : ℕ) → parent_of r y ≡ Some x → P y) → ((y p : ℕ) → parent_of r y ≡ Some p → P p → P y) → (y : ℕ) → y < count_of r → Below r x y → P y
  below_by x P child up y h b = below_from x P child up y y (parent_of r y) refl (omega arith) h b

  among_is : (n x y : ℕ) (o : Option ℕ) → parent_of r y ≡ o → y < count_of r → level_at r y ≤ n → Decides (is_among n r x o) (Below r x y)
  unfolding is_among
  among_is zero x y o e h f = (λ t. absurd (false≢true t), λ b. let o = b.1 y b.0 (omega arith) in absurd (omega arith))
  among_is (suc n) x y None e h f = (λ t. absurd (false≢true t), λ b. absurd (no_root_below x y h e b))
  among_is (suc n) x y (Some p) e h f =
      let s = parent_some r y p e in
      Decides-like _
      (⊎_elim (λ (q : p ≡ x). parent_below y x (e ∙ ap Some q)) (λ (q : Below r x p). below_trans r x p y q (parent_below y p e)))
      (λ b. parent_or_above x y p b e)
      (Decides-or (eqb p x) _ (Decides-eqb p x) (among_is n x p (parent_of r p) refl (omega arith) (omega arith)))

  pub ancestor_is : (x y : ℕ) → y < count_of r → Decides (is_ancestor r x y) (Below r x y)
  ancestor_is x y h = among_is (level_at r y) x y (parent_of r y) refl h (omega arith)
