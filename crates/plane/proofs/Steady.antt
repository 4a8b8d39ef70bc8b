-- Relations between present elements stay as a receipt goes on, and a new element is reached only where the axis may grow.
use Rattle.std.proofs.Common.{◌≡◌, ℕ, ◌+◌, ◌-◌, ◌<◌, ◌≤◌, Bool, true, false, not, ◌&&◌, ◌||◌, ◌⊎◌, inl, inr, eqb, ltb, Some, None, Decides, Option, sym, refl, ap, ◌∙◌, ⊎_elim, arith}
use Rattle.std.proofs.lemmas.Bool.Decides.{same_from_decides, nat_tests, Decides-and, Decides-or, Decides-eqb, Decides-ltb, Decides-like, not_from_Decides}
use Rattle.std.proofs.lemmas.Bool.{false_from_ne_true, cases_eq, le-ltb, and_parts, and_left, and_right, or_from, eqb-true, ne_eqb, false≢true}
use Rattle.model.specs.declared.axis.Axis.{Axis}
use Rattle.model.specs.declared.axis.Axis.TheVariants.{Itself, Child, Parent, Descendant, Ancestor, DescendantOrSelf, AncestorOrSelf, FollowingSibling, PrecedingSibling, Following, Preceding}
use Rattle.model.specs.Receipt.{Receipt, Lawful, count_of, level_at, parent_of, same_rank, has_ended, opened, closed}
use Rattle.model.specs.Plane.{descends, follows, is_open, is_open_at}
use Rattle.model.specs.Axes.{leads, inverse, is_backward, grows}
use Rattle.model.specs.Runs.{opening_fault, closing_fault}
use Rattle.model.proofs.Opening.{level_old, level_new, parent_old, count_more}
use Rattle.model.proofs.Relatives.{parent_some}
use Rattle.model.proofs.Search.{same_parts}
use Rattle.plane.proofs.Below.{Below, parent_below, ancestor_is}
use Rattle.plane.proofs.Block.{descends_is, follows_is, first_above, level_later}
use Rattle.model.proofs.Lawfully.{openable, opening_lawful, closing_lawful}
use Rattle.plane.proofs.Unchanged.{Agree, leads_agrees, agree_closed}

-- x is open: its level is below the depth and below all later levels.
abbrev pub Opens : Receipt → ℕ → Type 0
Opens r x = (level_at r x < r.depth) × ((k : ℕ) → x < k → k < count_of r → level_at r x < level_at r k)

pub open_is : (r : Receipt) → Lawful r → (x : ℕ) → x < count_of r → Decides (is_open r x) (Opens r x)
unfolding is_open
open_is r w x h = Decides-like _
    (λ (s : ((x + 1 ≡ count_of r) ⊎ Below r x (count_of r - 1)) × (level_at r x < r.depth)).
    (s.1, λ k a b. ⊎_elim (λ (q : x + 1 ≡ count_of r). absurd (omega arith)) (λ (q : Below r x (count_of r - 1)). q.1 k a (omega arith)) s.0))
    (λ o. (⊎_elim inl (λ ne. inr (omega arith, λ k a b. o.1 k a (omega arith))) (cases_eq (x + 1) (count_of r)), o.0))
    (Decides-and _ _ (Decides-or _ _ (Decides-eqb (x + 1) (count_of r)) (ancestor_is r w x (count_of r - 1) (omega arith))) (Decides-ltb (level_at r x) r.depth))

module _ (r : Receipt) (l : ℕ) where
  below_old : (x y : ℕ) → y < count_of r → Below r x y → Below (opened r l) x y
  below_old x y h b = (b.0, λ k a c. let t = b.1 k a c in let p = b.0 in let u = level_old r l x (omega arith) in let v = level_old r l k (omega arith) in omega arith)

  below_kept : (x y : ℕ) → y < count_of r → Below (opened r l) x y → Below r x y
  below_kept x y h b = (b.0, λ k a c. let t = b.1 k a c in let p = b.0 in let u = level_old r l x (omega arith) in let v = level_old r l k (omega arith) in omega arith)

  -- The new element's ancestors are open.
  pub below_new_open : (x : ℕ) → x < count_of r → Below (opened r l) x (count_of r) → Opens r x
  below_new_open x h b =
      let u = level_old r l x h in
      let d = b.1 (count_of r) h (omega arith) in
      let v = level_new r l in
      (omega arith, λ k a c. let t = b.1 k a (omega arith) in let z = level_old r l k c in omega arith)

module _ (r : Receipt) (l : ℕ) (w : Lawful r) (f : opening_fault l r ≡ None) where
  agree_opened : (x y : ℕ) → x < count_of r → y < count_of r → Agree r (opened r l) x y
  agree_opened x y h k =
      let w' = opening_lawful r l w f in
      let m = count_more r l in
      let d = descends_is (opened r l) w' x y (omega arith) in
      let e = follows_is (opened r l) w' x y (omega arith) in
      record {
        here = level_old r l x h;
        there = level_old r l y k;
        below = same_from_decides _ _ (Decides-like _ (below_kept r l x y k) (below_old r l x y k) d) (descends_is r w x y k);
        later = let p = parent_old r l x h in let q = parent_old r l y k in cc;
        following = same_from_decides _ _
            (Decides-like _ (λ s. (s.0, λ b. s.1 (below_old r l x y k b))) (λ s. (s.0, λ b. s.1 (below_kept r l x y k b))) e)
            (follows_is r w x y k);
      }

pub leads_opened : (r : Receipt) (l : ℕ) → Lawful r → opening_fault l r ≡ None → (a : Axis) (x y : ℕ) → x < count_of r → y < count_of r → leads (opened r l) a x y ≡ leads r a x y
leads_opened r l w f a x y h k = leads_agrees r (opened r l) a x y (agree_opened r l w f x y h k) (agree_opened r l w f y x k h)

pub leads_closed : (r : Receipt) (a : Axis) (x y : ℕ) → leads (closed r) a x y ≡ leads r a x y
leads_closed r a x y = leads_agrees r (closed r) a x y (agree_closed r x y) (agree_closed r y x)

-- What is shut stays shut.
shut_opened : (r : Receipt) (l : ℕ) → Lawful r → opening_fault l r ≡ None → (x : ℕ) → x < count_of r → is_open r x ≡ false → is_open (opened r l) x ≡ false
shut_opened r l w f x h e = false_from_ne_true _ (λ t.
    let m = count_more r l in
    let o = (open_is (opened r l) (opening_lawful r l w f) x (omega arith)).0 t in
    not_from_Decides _ (open_is r w x h) e (below_new_open r l x h (h, λ k a b. o.1 k a (omega arith))))

shut_closed : (r : Receipt) → Lawful r → (x : ℕ) → x < count_of r → is_open r x ≡ false → is_open (closed r) x ≡ false
shut_closed r w x h e = false_from_ne_true _ (λ t.
    let o = (open_is (closed r) (closing_lawful r w) x h).0 t in
    let d = o.0 in
    not_from_Decides _ (open_is r w x h) e (omega arith, o.1))

-- An axis grows only through open elements no later than where it starts.
grows_by : (r s : Receipt) (x : ℕ) → parent_of s x ≡ parent_of r x → ((y : ℕ) → y ≤ x → is_open r y ≡ false → is_open s y ≡ false) → (a : Axis) → grows r a x ≡ false → grows s a x ≡ false
unfolding grows
grows_by r s x p shut Itself e = refl
grows_by r s x p shut Child e = shut x (omega arith) e
grows_by r s x p shut Parent e = refl
grows_by r s x p shut Descendant e = shut x (omega arith) e
grows_by r s x p shut Ancestor e = refl
grows_by r s x p shut DescendantOrSelf e = shut x (omega arith) e
grows_by r s x p shut AncestorOrSelf e = refl
grows_by r s x p shut FollowingSibling e = ap (is_open_at s) p ∙ parent_shut (parent_of r x) refl e
  where
    parent_shut : (o : Option ℕ) → parent_of r x ≡ o → is_open_at r o ≡ false → is_open_at s o ≡ false
    parent_shut None q e = refl
    parent_shut (Some y) q e = let b = parent_some r x y q in shut y (omega arith) e
grows_by r s x p shut PrecedingSibling e = refl
grows_by r s x p shut Following e = let o = shut 0 (omega arith) in grind (arith, nat_tests)
grows_by r s x p shut Preceding e = refl

pub grows_opened : (r : Receipt) (l : ℕ) → Lawful r → opening_fault l r ≡ None → (a : Axis) (x : ℕ) → x < count_of r → grows r a x ≡ false → grows (opened r l) a x ≡ false
grows_opened r l w f a x h e = grows_by r (opened r l) x (parent_old r l x h) (λ y b. shut_opened r l w f y (omega arith)) a e

pub grows_closed : (r : Receipt) → Lawful r → closing_fault r ≡ None → (a : Axis) (x : ℕ) → x < count_of r → grows r a x ≡ false → grows (closed r) a x ≡ false
grows_closed r w f a x h e = grows_by r (closed r) x refl (λ y b. shut_closed r w y (omega arith)) a e

ended_shut : (r : Receipt) → has_ended r ≡ true → (x : ℕ) → is_open r x ≡ false
unfolding is_open
ended_shut r e x = let z = eqb-true r.depth 0 (and_parts (ltb 0 (count_of r)) _ e).1 in and_right _ _ (le-ltb (level_at r x) r.depth (omega arith))

pub grows_ended : (r : Receipt) → Lawful r → has_ended r ≡ true → (a : Axis) (x : ℕ) → x < count_of r → grows r a x ≡ false
unfolding grows
grows_ended r w e Itself x h = refl
grows_ended r w e Child x h = ended_shut r e x
grows_ended r w e Parent x h = refl
grows_ended r w e Descendant x h = ended_shut r e x
grows_ended r w e Ancestor x h = refl
grows_ended r w e DescendantOrSelf x h = ended_shut r e x
grows_ended r w e AncestorOrSelf x h = refl
grows_ended r w e FollowingSibling x h = none_shut (parent_of r x)
  where
    none_shut : (o : Option ℕ) → is_open_at r o ≡ false
    none_shut None = refl
    none_shut (Some y) = ended_shut r e y
grows_ended r w e PrecedingSibling x h = refl
grows_ended r w e Following x h = and_right (not (eqb x 0)) _ (ended_shut r e 0)
grows_ended r w e Preceding x h = refl

pub backward_never_grows : (r : Receipt) (a : Axis) (x : ℕ) → is_backward a ≡ true → grows r a x ≡ false
unfolding grows
backward_never_grows r Itself x e = refl
backward_never_grows r Child x e = absurd (false≢true e)
backward_never_grows r Parent x e = refl
backward_never_grows r Descendant x e = absurd (false≢true e)
backward_never_grows r Ancestor x e = refl
backward_never_grows r DescendantOrSelf x e = absurd (false≢true e)
backward_never_grows r AncestorOrSelf x e = refl
backward_never_grows r FollowingSibling x e = absurd (false≢true e)
backward_never_grows r PrecedingSibling x e = refl
backward_never_grows r Following x e = absurd (false≢true e)
backward_never_grows r Preceding x e = refl

eqb_swap : (x y : ℕ) → eqb x y ≡ eqb y x
eqb_swap x y = grind (arith, nat_tests)

pub leads_inverse : (r : Receipt) (a : Axis) (x y : ℕ) → leads r (inverse a) x y ≡ leads r a y x
unfolding leads
leads_inverse r Itself x y = eqb_swap x y
leads_inverse r Child x y = refl
leads_inverse r Parent x y = refl
leads_inverse r Descendant x y = refl
leads_inverse r Ancestor x y = refl
leads_inverse r DescendantOrSelf x y = ap (λ b. b || descends r y x) (eqb_swap x y)
leads_inverse r AncestorOrSelf x y = ap (λ b. b || descends r x y) (eqb_swap x y)
leads_inverse r FollowingSibling x y = refl
leads_inverse r PrecedingSibling x y = refl
leads_inverse r Following x y = refl
leads_inverse r Preceding x y = refl

-- Where an axis does not grow, it does not lead to the element that an opening appends.
module _ (r : Receipt) (l : ℕ) (w : Lawful r) (f : opening_fault l r ≡ None) (x : ℕ) (h : x < count_of r) where
  apart : eqb x (count_of r) ≡ false
  apart = ne_eqb x (count_of r) (λ e. omega arith)

  -- nothing earlier is after it
  none_after : (b : Bool) → (ltb (count_of r) x && b) ≡ false
  none_after b = and_left (ltb (count_of r) x) b (le-ltb (count_of r) x (omega arith))

  fresh_lawful : Lawful (opened r l)
  fresh_lawful = opening_lawful r l w f

  fresh_counts : count_of r < count_of (opened r l)
  fresh_counts = let m = count_more r l in omega arith

  not_below_new : is_open r x ≡ false → descends (opened r l) x (count_of r) ≡ false
  not_below_new e = false_from_ne_true _ (λ t. not_from_Decides _ (open_is r w x h) e (below_new_open r l x h ((descends_is (opened r l) fresh_lawful x (count_of r) fresh_counts).0 t)))

  no_sibling_new : (q : Option ℕ) → is_open_at r q ≡ false → same_rank (parent_of (opened r l) (count_of r)) q ≡ false
  no_sibling_new q e = false_from_ne_true _ (λ t.
      let m = same_parts (parent_of (opened r l) (count_of r)) q t in
      let s = parent_some (opened r l) (count_of r) m.0 m.1 in
      not_from_Decides _ (open_is r w m.0 s.1) (sym (ap (is_open_at r) m.2) ∙ e) (below_new_open r l m.0 s.1 (parent_below (opened r l) fresh_lawful (count_of r) m.0 m.1)))

  -- Before the end the first element is open, and all others are below it.
  first_open : is_open r 0 ≡ true
  first_open =
      let o = openable l r f in
      let d = o.live (omega arith) in
      let z = w.first (omega arith) in
      (open_is r w 0 (omega arith)).1 (omega arith, λ k a b. let v = level_later r w k a b in omega arith)

  not_after_new : (not (eqb x 0) && is_open r 0) ≡ false → follows (opened r l) x (count_of r) ≡ false
  not_after_new e = false_from_ne_true _ (λ t.
      let o = first_open in
      let z : x ≡ 0 = grind (arith, nat_tests) in
      ((follows_is (opened r l) fresh_lawful x (count_of r) fresh_counts).0 t).1 (rw z (first_above (opened r l) fresh_lawful (count_of r) (omega arith) fresh_counts)))

  pub leads_new : (a : Axis) → grows r a x ≡ false → leads (opened r l) a x (count_of r) ≡ false
  unfolding leads grows
  leads_new Itself e = apart
  leads_new Child e = and_left (descends (opened r l) x (count_of r)) _ (not_below_new e)
  leads_new Parent e = and_left (descends (opened r l) (count_of r) x) _ (none_after _)
  leads_new Descendant e = not_below_new e
  leads_new Ancestor e = none_after _
  leads_new DescendantOrSelf e = or_from (eqb x (count_of r)) _ apart (not_below_new e)
  leads_new AncestorOrSelf e = or_from (eqb x (count_of r)) _ apart (none_after _)
  leads_new FollowingSibling e =
      and_left (same_rank (parent_of (opened r l) (count_of r)) (parent_of (opened r l) x)) _
      (no_sibling_new (parent_of (opened r l) x) (ap (is_open_at r) (parent_old r l x h) ∙ e))
  leads_new PrecedingSibling e = and_right (same_rank (parent_of (opened r l) x) (parent_of (opened r l) (count_of r))) _ (le-ltb (count_of r) x (omega arith))
  leads_new Following e = not_after_new e
  leads_new Preceding e = none_after _
