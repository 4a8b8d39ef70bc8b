-- The plane's tests, by levels, are the tree's relations.
use Rattle.std.proofs.Common.{◌≡◌, ℕ, zero, suc, ◌+◌, ◌<◌, ◌≤◌, true, ◌⊎◌, Some, None, Decides, Option, sym, refl, ap, ◌∙◌, inl, inr, ⊎_elim, arith}
use Rattle.std.proofs.lemmas.Bool.{cases_order, ltb-true, lt-ltb, and_parts, and_from, eq-eqb}
use Rattle.std.proofs.lemmas.Bool.Decides.{Decides-and, Decides-eqb, Decides-like}
use Rattle.model.specs.Receipt.{Receipt, Lawful, count_of, level_at, parent_of, same_rank}
use Rattle.model.specs.Plane.{descends, follows, is_child, is_later_sibling}
use Rattle.model.proofs.Search.{same_parts}
use Rattle.model.proofs.Relatives.{inside, parent_some, parent_none, nearest_is}
use Rattle.plane.specs.Tree.{Ancestor, one, up, AncestorOrSelf, TreeFollows, PlaneIsTree}
use Rattle.plane.proofs.Below.{Below, below_by, below_trans, below_less, parent_below}
use Rattle.plane.proofs.Block.{descends_is, follows_is, level_later}

up_all : (r : Receipt) (u x y : ℕ) → AncestorOrSelf r u x → parent_of r y ≡ Some x → AncestorOrSelf r u y
up_all r u x y (inl q) e = inr (one (e ∙ ap Some (sym q)))
up_all r u x y (inr a) e = inr (up e a)

module _ (r : Receipt) (w : Lawful r) where
  tree_below : (x : ℕ) {y : ℕ} → Ancestor r x y → Below r x y
  tree_below x {y} (one e) = parent_below r w y x e
  tree_below x {y} (up {p = p} e a) = below_trans r x p y (tree_below x a) (parent_below r w y p e)

  pub descends_tree : (x y : ℕ) → y < count_of r → Decides (descends r x y) (Ancestor r x y)
  descends_tree x y h = Decides-like (descends r x y) (λ b. below_by r w x (Ancestor r x) (λ z e. one e) (λ z p e a. up e a) y h b) (λ a. tree_below x a) (descends_is r w x y h)

  pub child_tree : (x y : ℕ) → y < count_of r → Decides (is_child r x y) (parent_of r y ≡ Some x)
  child_tree x y h = Decides-like (is_child r x y)
      (λ (s : (Below r x y) × (level_at r y ≡ level_at r x + 1)). let b = s.0 in inside r y _ h ∙ nearest_is r (level_at r y) y x b.0 (sym s.1) (λ j f g q. let v = b.1 j f (omega arith) in omega arith))
      (λ e. let s = parent_some r y x e in (parent_below r w y x e, omega arith))
      (Decides-and _ _ (descends_is r w x y h) (Decides-eqb (level_at r y) (level_at r x + 1)))

  -- From x up to the child of p on the way.
  toward : (p x : ℕ) → x < count_of r → Below r p x → (u : ℕ) × (parent_of r u ≡ Some p) × (AncestorOrSelf r u x)
  toward p x h b = below_by r w p (λ z. (u : ℕ) × (parent_of r u ≡ Some p) × (AncestorOrSelf r u z)) (λ z e. (z, e, inl refl)) (λ z q e t. (t.0, t.1, up_all r t.0 q z t.2 e)) x h b

  or_self_lem : (u x : ℕ) → AncestorOrSelf r u x → (u ≡ x) ⊎ Below r u x
  or_self_lem u x (inl q) = inl q
  or_self_lem u x (inr a) = inr (tree_below u a)

  no_later : (u x : ℕ) → AncestorOrSelf r u x → u ≤ x
  no_later u x a = ⊎_elim (λ (q : u ≡ x). omega arith) (λ b. let z = b.0 in omega arith) (or_self_lem u x a)

  sibling : (u v p : ℕ) → parent_of r u ≡ Some p → parent_of r v ≡ Some p → u < v → is_later_sibling r u v ≡ true
  sibling u v p a b h = and_from (same_rank (parent_of r v) (parent_of r u)) _ (rw (a, b) (eq-eqb p p refl)) (lt-ltb u v h)

  follows_by : (n x y : ℕ) (o : Option ℕ) → parent_of r y ≡ o → y ≤ n → y < count_of r → x < y → (Below r x y → ⊥) → TreeFollows r x y
  follows_by n x y None e f h a nb = let z = parent_none r w y h e in let v = level_later r w y (omega arith) h in absurd (omega arith)
  follows_by zero x y (Some p) e f h a nb = absurd (omega arith)
  follows_by (suc n) x y (Some p) e f h a nb =
      let s = parent_some r y p e in
      let b = parent_below r w y p e in
      ⊎_elim (λ (q : p ≡ x). absurd (nb (parent_below r w y x (e ∙ ap Some q))))
      (⊎_elim
      (λ (q : p < x).
      let t = toward p x (omega arith) (below_less r p x y q (omega arith) b) in
      (t.0, y, t.2, sibling t.0 y p t.1 e (let z = no_later t.0 x t.2 in omega arith), inl refl))
      (λ (q : x < p).
      let t = follows_by n x p (parent_of r p) refl (omega arith) (omega arith) q (λ c. nb (below_trans r x p y c b)) in
      (t.0, t.1, t.2, t.3, up_all r t.1 p y t.4 e)))
      (cases_order p x)

  -- All of u's block comes before v, and v is no deeper than u.
  by_follows : (x y u v : ℕ) → AncestorOrSelf r u x → is_later_sibling r u v ≡ true → AncestorOrSelf r v y → (x < y) × (Below r x y → ⊥)
  by_follows x y u v a t b =
      let s = and_parts (same_rank (parent_of r v) (parent_of r u)) _ t in
      let h = ltb-true u v s.1 in
      let m = same_parts (parent_of r v) (parent_of r u) s.0 in
      let i = parent_some r v m.0 m.1 in
      let j = parent_some r u m.0 m.2 in
      let c = no_later v y b in
      let before : (x < v) × (level_at r u ≤ level_at r x) = ⊎_elim
      (λ (q : u ≡ x). (omega arith, grind arith))
      (λ (d : Below r u x). let e = d.1 x d.0 (omega arith) in let k = d.1 v h in (grind arith, omega arith))
      (or_self_lem u x a) in
      (omega arith, λ d. let k = d.1 v before.0 c in let z = before.1 in omega arith)

  pub follows_tree : (x y : ℕ) → y < count_of r → Decides (follows r x y) (TreeFollows r x y)
  follows_tree x y h = Decides-like (follows r x y)
      (λ (s : (x < y) × (Below r x y → ⊥)). follows_by y x y (parent_of r y) refl (omega arith) h s.0 s.1)
      (λ a. by_follows x y a.0 a.1 a.2 a.3 a.4)
      (follows_is r w x y h)

pub plane_is_tree : PlaneIsTree
plane_is_tree r w x y h k = record { descendant = descends_tree r w x y k; child = child_tree r w x y k; following = follows_tree r w x y k }
