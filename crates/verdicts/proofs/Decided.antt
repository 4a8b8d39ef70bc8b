-- Where no axis of a formula may grow, its verdict is decided.
use Rattle.std.proofs.Common.{◌≡◌, ℕ, ◌<◌, true, false, ◌∙◌, arith}
use Rattle.std.specs.Prelude.{◌≢◌}
use Rattle.std.proofs.lemmas.Bool.{and_parts}
use Rattle.model.specs.declared.axis.Axis.{Axis}
use Rattle.model.specs.Receipt.{Receipt, count_of}
use Rattle.model.specs.Axes.{leads, grows, inverse, is_forward, is_backward}
use Rattle.model.specs.Query.{Path, last, then, Step, plain, filtered, Filter, holds, both, either, negated, axis_of}
use Rattle.model.specs.Verdict.{Formula, test, first, conj, disj, neg, along, step_here, path_formula, filter_formula, step_from, path_from, query_formula, verdict, undecided, three}
use Rattle.verdicts.specs.Forward.{backward_path, backward_step, backward_filter, forward_step, forward_path}
use Rattle.verdicts.proofs.Threes.{decided_over}

-- P holds of each axis of a formula
abbrev EachAxis : (Axis → Type 0) → Formula → Type 0
EachAxis P (test t) = record {}
EachAxis P first = record {}
EachAxis P (conj f g) = EachAxis P f × EachAxis P g
EachAxis P (disj f g) = EachAxis P f × EachAxis P g
EachAxis P (neg f) = EachAxis P f
EachAxis P (along a f) = P a × EachAxis P f

each_axis : (P : Axis → Type 0) → ((a : Axis) → P a) → (f : Formula) → EachAxis P f
each_axis P h (test t) = record {}
each_axis P h first = record {}
each_axis P h (conj f g) = (each_axis P h f, each_axis P h g)
each_axis P h (disj f g) = (each_axis P h f, each_axis P h g)
each_axis P h (neg f) = each_axis P h f
each_axis P h (along a f) = (h a, each_axis P h f)

-- The axis does not grow at the elements in question.
abbrev Still : Receipt → (ℕ → Type 0) → Axis → Type 0
Still r Here a = (x : ℕ) → Here x → grows r a x ≡ false

module _ (r : Receipt) (Here : ℕ → Type 0) (present : (x : ℕ) → x < count_of r → Here x) where
  still_decided : (f : Formula) → EachAxis (Still r Here) f → (x : ℕ) → Here x → verdict three r f x ≢ undecided
  unfolding verdict
  still_decided (test t) s x h = grind arith
  still_decided first s x h = grind arith
  still_decided (conj f g) s x h = grind (arith, still_decided f s.0 x h, still_decided g s.1 x h)
  still_decided (disj f g) s x h = grind (arith, still_decided f s.0 x h, still_decided g s.1 x h)
  still_decided (neg f) s x h = grind (arith, still_decided f s x h)
  still_decided (along a f) s x h = grind (arith, s.0 x h, decided_over (leads r a x) (verdict three r f) (count_of r) (λ y k. still_decided f s.1 y (present y k)))

-- What holds of every backward axis holds of each axis in the formula of a forward path.
module _ (P : Axis → Type 0) (backward : (a : Axis) → is_backward a ≡ true → P a) where
  mutual
    along_path : (p : Path) → backward_path p ≡ true → EachAxis P (path_formula p)
    along_path (last s) e = along_step s e
    along_path (then s p) e =
        let d = and_parts (backward_step s) (backward_path p) e in
        let b = along_step s d.0 in
        (b.0, (b.1, along_path p d.1))

    along_step : (s : Step) → backward_step s ≡ true → P (axis_of s) × EachAxis P (step_here s)
    along_step (plain a t) e = (backward a e, record {})
    along_step (filtered a t f) e = let d = and_parts (is_backward a) (backward_filter f) e in (backward a d.0, (record {}, along_filter f d.1))

    along_filter : (f : Filter) → backward_filter f ≡ true → EachAxis P (filter_formula f)
    along_filter (holds p) e = along_path p e
    along_filter (both f g) e = let d = and_parts (backward_filter f) (backward_filter g) e in (along_filter f d.0, along_filter g d.1)
    along_filter (either f g) e = let d = and_parts (backward_filter f) (backward_filter g) e in (along_filter f d.0, along_filter g d.1)
    along_filter (negated f) e = along_filter f e

  inverse_backward : (a : Axis) → is_forward a ≡ true → P (inverse a)
  inverse_backward a e = backward (inverse a) (turned a ∙ e)
    where
      turned : (b : Axis) → is_backward (inverse b) ≡ is_forward b
      turned b = grind arith

  back_step : (s : Step) (before : Formula) → forward_step s ≡ true → EachAxis P before → EachAxis P (step_from before s)
  back_step (plain a t) before e b = (record {}, (inverse_backward a e, b))
  back_step (filtered a t f) before e b = let d = and_parts (is_forward a) (backward_filter f) e in ((record {}, along_filter f d.1), (inverse_backward a d.0, b))

  back_path : (p : Path) (before : Formula) → forward_path p ≡ true → EachAxis P before → EachAxis P (path_from before p)
  back_path (last s) before e b = back_step s before e b
  back_path (then s p) before e b = let d = and_parts (forward_step s) (forward_path p) e in back_path p (step_from before s) d.1 (back_step s before d.0 b)

pub all_still_decided : (r : Receipt) → ((a : Axis) (x : ℕ) → x < count_of r → grows r a x ≡ false) → (f : Formula) (x : ℕ) → x < count_of r → verdict three r f x ≢ undecided
all_still_decided r still f x h = still_decided r (λ y. y < count_of r) (λ y k. k) f (each_axis (Still r (λ y. y < count_of r)) still f) x h

pub forward_decided : (r : Receipt) → ((a : Axis) (x : ℕ) → is_backward a ≡ true → grows r a x ≡ false) → (q : Path) → forward_path q ≡ true → (x : ℕ) → verdict three r (query_formula q) x ≢ undecided
forward_decided r still q e x =
    let Here : ℕ → Type 0 = λ y. record {} in
    still_decided r Here (λ y k. record {}) (query_formula q) (back_path (Still r Here) (λ a b y k. still a y b) q first e (record {})) x (record {})
