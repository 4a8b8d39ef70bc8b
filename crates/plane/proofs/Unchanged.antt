-- What two receipts have to agree on for an axis to lead alike on both.
use Rattle.std.proofs.Common.{◌≡◌, ℕ, zero, suc, ◌+◌, ◌-◌, Bool, ◌||◌, eqb, Some, None, Option, refl, ap}
use Rattle.model.specs.declared.axis.Axis.{Axis}
use Rattle.model.specs.declared.axis.Axis.TheVariants.{Itself, Child, Parent, Descendant, Ancestor, DescendantOrSelf, AncestorOrSelf, FollowingSibling, PrecedingSibling, Following, Preceding}
use Rattle.model.specs.Receipt.{Receipt, count_of, level_at, parent_of, closed}
use Rattle.model.specs.Plane.{is_among, is_ancestor, how_many, size, post, descends, follows, is_child, is_later_sibling}
use Rattle.model.specs.Axes.{leads}

pub record Agree (r s : Receipt) (x y : ℕ) : Type 0 where
  pub here : level_at s x ≡ level_at r x
  pub there : level_at s y ≡ level_at r y
  pub below : descends s x y ≡ descends r x y
  pub later : is_later_sibling s x y ≡ is_later_sibling r x y
  pub following : follows s x y ≡ follows r x y

child_agrees : (r s : Receipt) (x y : ℕ) → Agree r s x y → is_child s x y ≡ is_child r x y
child_agrees r s x y g = let a = g.here in let b = g.there in let c = g.below in cc

pub leads_agrees : (r s : Receipt) (a : Axis) (x y : ℕ) → Agree r s x y → Agree r s y x → leads s a x y ≡ leads r a x y
unfolding leads
leads_agrees r s Itself x y g h = refl
leads_agrees r s Child x y g h = child_agrees r s x y g
leads_agrees r s Parent x y g h = child_agrees r s y x h
leads_agrees r s Descendant x y g h = g.below
leads_agrees r s Ancestor x y g h = h.below
leads_agrees r s DescendantOrSelf x y g h = ap (◌||◌ (eqb x y)) g.below
leads_agrees r s AncestorOrSelf x y g h = ap (◌||◌ (eqb x y)) h.below
leads_agrees r s FollowingSibling x y g h = g.later
leads_agrees r s PrecedingSibling x y g h = h.later
leads_agrees r s Following x y g h = g.following
leads_agrees r s Preceding x y g h = h.following

-- A closing leaves the elements, and the relations are made of nothing else.
among_closed : (r : Receipt) (n x : ℕ) (o : Option ℕ) → is_among n (closed r) x o ≡ is_among n r x o
unfolding is_among
among_closed r zero x o = refl
among_closed r (suc n) x None = refl
among_closed r (suc n) x (Some p) = ap (◌||◌ (eqb p x)) (among_closed r n x (parent_of r p))

pub ancestor_closed : (r : Receipt) (x y : ℕ) → is_ancestor (closed r) x y ≡ is_ancestor r x y
ancestor_closed r x y = among_closed r (level_at r y) x (parent_of r y)

how_many_cong : (p q : ℕ → Bool) (n : ℕ) → ((k : ℕ) → p k ≡ q k) → how_many p n ≡ how_many q n
unfolding how_many
how_many_cong p q zero h = refl
how_many_cong p q (suc n) h = let ih = how_many_cong p q n h in let e = h n in cc

post_closed : (r : Receipt) (x : ℕ) → post (closed r) x ≡ post r x
unfolding post size
post_closed r x = ap (λ s. (x + s) - level_at r x) (how_many_cong (is_ancestor (closed r) x) (is_ancestor r x) (count_of r) (ancestor_closed r x))

pub agree_closed : (r : Receipt) (x y : ℕ) → Agree r (closed r) x y
agree_closed r x y =
    let a = post_closed r x in
    let b = post_closed r y in
    record {
      here = refl;
      there = refl;
      below = cc;
      later = refl;
      following = cc;
    }
