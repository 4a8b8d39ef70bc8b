-- The descendants of x are the ranks after x, as many as its size; so the plane's tests tell what is below and what follows.
use Rattle.std.proofs.Common.{◌≡◌, ℕ, zero, suc, ◌+◌, ◌-◌, ◌<◌, ◌≤◌, Bool, true, false, ◌⊎◌, Decides, inl, inr, ⊎_elim, arith}
use Rattle.std.proofs.lemmas.Bool.{cases_lt, cases_Bool, cond-true, cond-false}
use Rattle.std.proofs.lemmas.Bool.Decides.{Decides-and, Decides-like, Decides-ltb, not_from_Decides}
use Rattle.model.specs.Receipt.{Receipt, Lawful, count_of, level_at}
use Rattle.model.specs.Plane.{is_ancestor, how_many, size, post, descends, follows}
use Rattle.plane.proofs.Below.{Below, below_trans, below_less, ancestor_is}

-- A test that passes a block of ranks after x passes as many as the block is long.
pub record Blocked (p : ℕ → Bool) (x n : ℕ) : Type 0 where
  pub short : how_many p n ≤ n - (x + 1)
  pub up_to : (k : ℕ) → k < n → p k ≡ true → k ≤ x + how_many p n
  pub all_of : (k : ℕ) → k < n → x < k → k ≤ x + how_many p n → p k ≡ true

block : (p : ℕ → Bool) (x n : ℕ) → ((k : ℕ) → k < n → p k ≡ true → x < k) → ((j k : ℕ) → x < j → j ≤ k → k < n → p k ≡ true → p j ≡ true) → Blocked p x n
unfolding how_many
block p x zero after fills = record { short = omega arith; up_to = λ k h t. absurd (omega arith); all_of = λ k h a b. absurd (omega arith) }
block p x (suc n) after fills =
    let ih = block p x n (λ k h. after k (omega arith)) (λ j k a b c. fills j k a b (omega arith)) in
    ⊎_elim
    (λ (t : p n ≡ true).
    let e : how_many p (suc n) ≡ suc (how_many p n) = cond-true (p n) (suc (how_many p n)) (how_many p n) t in
    let a = after n (omega arith) t in
    let full : n ≤ suc (x + how_many p n) = ⊎_elim (λ (c : x + 1 < n). let u = ih.up_to (n - 1) (omega arith) (fills (n - 1) n (omega arith) (omega arith) (omega arith) t) in omega arith) (λ c. omega arith) (cases_lt (x + 1) n) in
    record { short = omega arith; up_to = λ k h u. omega arith; all_of = λ k h c d. fills k n c (omega arith) (omega arith) t })
    (λ (t : p n ≡ false).
    let e : how_many p (suc n) ≡ how_many p n = cond-false (p n) (suc (how_many p n)) (how_many p n) t in
    record {
      short = omega arith;
      up_to = λ k h u. let v = ih.up_to k in grind arith;
      all_of = λ k h c d. ih.all_of k (let s = ih.short in omega arith) c (omega arith);
    })
    (cases_Bool (p n))

module _ (r : Receipt) (w : Lawful r) where
  -- Levels rise by at most one per rank.
  pub level_rises : (x m : ℕ) → x + m < count_of r → level_at r (x + m) ≤ level_at r x + m
  level_rises x zero h = grind arith
  level_rises x (suc m) h =
      let ih = level_rises x m (omega arith) in
      let s = (w.later (x + m) (omega arith)).1 in
      let q : x + suc m ≡ x + m + 1 = omega arith in
      grind arith

  pub level_from : (x y : ℕ) → x ≤ y → y < count_of r → level_at r y ≤ level_at r x + (y - x)
  level_from x y a h = let q : x + (y - x) ≡ y = omega arith in let s = level_rises x (y - x) (omega arith) in grind arith

  pub level_within : (x : ℕ) → x < count_of r → level_at r x ≤ x
  level_within x h = let s = level_from 0 x (omega arith) h in let f = w.first (omega arith) in omega arith

  -- Only the first element has level 0, so all others are below it.
  pub level_later : (k : ℕ) → 0 < k → k < count_of r → 1 ≤ level_at r k
  level_later k a h = let q : k - 1 + 1 ≡ k = omega arith in let s = (w.later (k - 1) (omega arith)).0 in grind arith

  pub first_above : (y : ℕ) → 0 < y → y < count_of r → Below r 0 y
  first_above y a h = (a, λ k c d. let s = level_later k c (omega arith) in let f = w.first (omega arith) in omega arith)

  below_block : (x : ℕ) → Blocked (is_ancestor r x) x (count_of r)
  below_block x = block (is_ancestor r x) x (count_of r)
      (λ k h t. ((ancestor_is r w x k h).0 t).0)
      (λ j k a b h t. (ancestor_is r w x j (omega arith)).1 (below_less r x j k a b ((ancestor_is r w x k h).0 t)))

  -- The descendants of x are the ranks from x + 1 up to x + size.
  pub size_short : (x : ℕ) → x < count_of r → x + size r x < count_of r
  unfolding size
  size_short x h = let s = (below_block x).short in omega arith

  pub below_sized : (x y : ℕ) → y < count_of r → Below r x y → y ≤ x + size r x
  unfolding size
  below_sized x y h b = (below_block x).up_to y h ((ancestor_is r w x y h).1 b)

  pub sized_below : (x y : ℕ) → y < count_of r → x < y → y ≤ x + size r x → Below r x y
  unfolding size
  sized_below x y h a b = (ancestor_is r w x y h).0 ((below_block x).all_of y h a b)

  -- A descendant's block ends within the block.
  size_nests : (x y : ℕ) → y < count_of r → Below r x y → y + size r y ≤ x + size r x
  size_nests x y h b = ⊎_elim
      (λ (q : 0 < size r y).
      let s = size_short y h in
      below_sized x (y + size r y) s (below_trans r x y (y + size r y) b (sized_below y (y + size r y) s (omega arith) (omega arith))))
      (λ q. let s = below_sized x y h b in omega arith)
      (cases_lt 0 (size r y))

  pub below_post : (x y : ℕ) → y < count_of r → Below r x y → post r y < post r x
  unfolding post
  below_post x y h b =
      let a = b.0 in
      let s = size_nests x y h b in
      let t = below_sized x y h b in
      let v = b.1 y a (omega arith) in
      let u = level_within y h in
      omega arith

  -- What comes after the block is no deeper at its start than x.
  pub after_post : (x y : ℕ) → y < count_of r → x < y → (Below r x y → ⊥) → post r x < post r y
  unfolding post
  after_post x y h a nb =
      let s = λ (c : y ≤ x + size r x). nb (sized_below x y h a c) in
      let out : x + size r x < y = omega arith in
      let flat : level_at r (x + size r x + 1) ≤ level_at r x = ⊎_elim
      (λ (c : level_at r x < level_at r (x + size r x + 1)).
      let b : Below r x (x + size r x + 1) = (
        omega arith,
        λ k f g. let d = λ (m : k ≤ x + size r x). (sized_below x k (omega arith) f m).1 k f (omega arith) in grind arith,
      ) in
      let s = below_sized x (x + size r x + 1) (omega arith) b in absurd (omega arith))
      (λ c. c) (cases_lt (level_at r x) (level_at r (x + size r x + 1))) in
      let v = level_from (x + size r x + 1) y (omega arith) h in
      let u = level_within x (omega arith) in
      let t = level_within y h in
      omega arith

  below_or : (x y : ℕ) → y < count_of r → (Below r x y) ⊎ (Below r x y → ⊥)
  below_or x y h = let d = ancestor_is r w x y h in ⊎_elim (λ t. inl (d.0 t)) (λ t. inr (not_from_Decides _ d t)) (cases_Bool (is_ancestor r x y))

  pub descends_is : (x y : ℕ) → y < count_of r → Decides (descends r x y) (Below r x y)
  descends_is x y h = Decides-like (descends r x y)
      (λ (s : (x < y) × (post r y < post r x)). ⊎_elim (λ c. c) (λ c. let d = after_post x y h s.0 c in absurd (omega arith)) (below_or x y h))
      (λ b. (b.0, below_post x y h b))
      (Decides-and _ _ (Decides-ltb x y) (Decides-ltb (post r y) (post r x)))

  pub follows_is : (x y : ℕ) → y < count_of r → Decides (follows r x y) ((x < y) × (Below r x y → ⊥))
  follows_is x y h = Decides-like (follows r x y)
      (λ (s : (x < y) × (post r x < post r y)). (s.0, λ c. let d = below_post x y h c in omega arith))
      (λ b. (b.0, after_post x y h b.0 b.1))
      (Decides-and _ _ (Decides-ltb x y) (Decides-ltb (post r x) (post r y)))
