-- What the readers of single words and axes promise, in terms of the byte machine.
use Rattle.std.specs.Prelude.{◌≡◌, ℕ, ◌≤◌, ◌==◌, false, cond, List, ◌∷◌, ◌++◌, length, Ok, Err, Result, codes}
use Rattle.std.specs.Borrow.{Bor}
use Rattle.model.specs.Grammar.{axis_text}
use Rattle.grammar.specs.Machines.{dead, go, stops}
use Rattle.grammar.specs.Machine.{Frame, State, lits, test, on, ends, run}
use Rattle.model.specs.declared.axis.Axis.{Axis}
use Rattle.reader.specs.declared.draft.Stuck.{Stuck}

-- from each of the states the text leads to that of the other kind, inside whatever is open
pub record Takes {X : Type 0} (from to : X → State) (text rest : List ℕ) : Type 0 where
  pub falls : length rest ≤ length text
  pub goes : (x : X) → run (from x) text ≡ run (to x) rest

pub record Stops {X : Type 0} (from : X → State) (text : List ℕ) (left : ℕ) : Type 0 where
  pub fits : left ≤ length text
  pub halts : (x : X) → run (from x) text ≡ stops left

abbrev same : State → State
same s = s

abbrev pub Spells : List ℕ → List ℕ → Result (Bor (List ℕ)) Stuck → Type 0
Spells w text (Ok rest) = (text ≡ w ++ rest.now) × Takes (lits w) same text rest.now
Spells w text (Err e) = Stops (lits w) text e.left

-- the bytes p, which were read before, and the text begin with the axis
abbrev pub Names : (List Frame → State) → List ℕ → List ℕ → Result (Axis × Bor (List ℕ)) Stuck → Type 0
Names s p text (Ok r) = (p ++ text ≡ axis_text r.0 ++ r.1.now) × Takes s test text r.1.now
Names s p text (Err e) = Stops s text e.left

-- After the bytes p and w the machine takes "::", or "-" and `end`: so two axes are told apart.
pub record Forks (p w : List ℕ) (plain : Axis) (end : List ℕ) (long : Axis) (s : List Frame → State) : Type 0 where
  pub plainly : axis_text plain ≡ (p ++ w) ++ codes "::"
  pub at_length : axis_text long ≡ (p ++ w) ++ (45 ∷ end)
  pub moves : (fs : List Frame) (b : ℕ) → on (s fs) b ≡ cond (b == 58) (go (lits (codes ":") (test fs))) (cond (b == 45) (go (lits end (test fs))) dead)
  pub unended : (fs : List Frame) → ends (s fs) ≡ false
