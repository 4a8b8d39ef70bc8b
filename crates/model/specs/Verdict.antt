-- A query as a modal formula, and its verdict at an element, over any kind of verdict.
use Rattle.std.specs.Prelude.{◌≡◌, ℕ, zero, suc, Bool, true, false, cond, not, ◌&&◌, ◌||◌, ◌==◌}
use Rattle.model.specs.declared.axis.Axis.{Axis}
use Rattle.model.specs.Receipt.{Receipt, count_of}
use Rattle.model.specs.Axes.{leads, inverse, grows}
use Rattle.model.specs.Query.{Test, Path, last, then, Step, plain, filtered, Filter, holds, both, either, negated, axis_of}
use Rattle.model.specs.Selection.{passes}

pub data Formula : Type 0 where
  test : Test → Formula
  first : Formula
  conj : Formula → Formula → Formula
  disj : Formula → Formula → Formula
  neg : Formula → Formula
  along : Axis → Formula → Formula

-- What a step asks of the element it keeps is its test and its filter; a filter's path takes the axes as they are.
abbrev mutual
  pub step_here : Step → Formula
  step_here (plain a t) = test t
  step_here (filtered a t f) = conj (test t) (filter_formula f)

  pub path_formula : Path → Formula
  path_formula (last s) = along (axis_of s) (step_here s)
  path_formula (then s p) = along (axis_of s) (conj (step_here s) (path_formula p))

  pub filter_formula : Filter → Formula
  filter_formula (holds p) = path_formula p
  filter_formula (both f g) = conj (filter_formula f) (filter_formula g)
  filter_formula (either f g) = disj (filter_formula f) (filter_formula g)
  filter_formula (negated f) = neg (filter_formula f)

-- The query's own path is read from its end: what came before a step holds along the step's inverse axis.
abbrev pub step_from : Formula → Step → Formula
step_from before s = conj (step_here s) (along (inverse (axis_of s)) before)

abbrev pub path_from : Formula → Path → Formula
path_from before (last s) = step_from before s
path_from before (then s p) = path_from (step_from before s) p

abbrev pub query_formula : Path → Formula
query_formula q = path_from first q

-- A verdict kind: what is in, out and unseen, and how verdicts are joined.
pub record Kind : Type 1 where
  pub Verdict : Type 0
  pub in_it : Verdict
  pub out : Verdict
  pub unseen : Verdict
  pub and : Verdict → Verdict → Verdict
  pub or : Verdict → Verdict → Verdict
  pub opposite : Verdict → Verdict

pub record KindLaws (k : Kind) : Type 0 where
  pub or_assoc : (a b c : k.Verdict) → k.or (k.or a b) c ≡ k.or a (k.or b c)
  pub or_comm : (a b : k.Verdict) → k.or a b ≡ k.or b a
  pub or_idem : (a : k.Verdict) → k.or a a ≡ a
  pub out_neutral : (a : k.Verdict) → k.or k.out a ≡ a
  pub in_absorbs : (a : k.Verdict) → k.or k.in_it a ≡ k.in_it

abbrev pub plainly : (k : Kind) → Bool → k.Verdict
plainly k b = cond b k.in_it k.out

-- the `or` of f over all ranks below n that pass
unfoldable pub or_over : (k : Kind) → (ℕ → Bool) → (ℕ → k.Verdict) → ℕ → k.Verdict
or_over k p f zero = k.out
or_over k p f (suc n) = cond (p n) (k.or (f n) (or_over k p f n)) (or_over k p f n)

-- An axis part is the `or` over all elements that it reaches, joined with unseen where the axis may still grow.
unfoldable pub verdict : (k : Kind) → Receipt → Formula → ℕ → k.Verdict
verdict k r (test t) x = plainly k (passes r t x)
verdict k r first x = plainly k (x == 0)
verdict k r (conj a b) x = k.and (verdict k r a x) (verdict k r b x)
verdict k r (disj a b) x = k.or (verdict k r a x) (verdict k r b x)
verdict k r (neg a) x = k.opposite (verdict k r a x)
verdict k r (along a b) x = k.or (cond (grows r a x) k.unseen k.out) (or_over k (leads r a x) (verdict k r b) (count_of r))

-- Yes or no: what is unseen is out.
abbrev pub yes_no : Kind
yes_no = record { Verdict = Bool; in_it = true; out = false; unseen = false; and = ◌&&◌; or = ◌||◌; opposite = not }

pub data Three : Type 0 where
  is_out : Three
  undecided : Three
  is_in : Three

-- out is below undecided, which is below in
abbrev pub lower : Three → Three → Three
lower is_out b = is_out
lower undecided is_out = is_out
lower undecided undecided = undecided
lower undecided is_in = undecided
lower is_in b = b

abbrev pub higher : Three → Three → Three
higher is_out b = b
higher undecided is_out = undecided
higher undecided undecided = undecided
higher undecided is_in = is_in
higher is_in b = is_in

abbrev pub swapped : Three → Three
swapped is_out = is_in
swapped undecided = undecided
swapped is_in = is_out

-- Three verdicts: what is unseen is undecided.
abbrev pub three : Kind
three = record { Verdict = Three; in_it = is_in; out = is_out; unseen = undecided; and = lower; or = higher; opposite = swapped }

-- the verdict of a query at an element
abbrev pub standing : Receipt → Path → ℕ → Three
standing r q y = verdict three r (query_formula q) y
