-- Exact: a text that fits is refused by nothing, a refused text by one fault alone, and a text has one answer.
use Rattle.std.proofs.Common.{◌≡◌, ℕ, ◌-◌, List, length, Some, None, Ok, Err, Option, Result, sym, refl, ap, ◌∙◌, arith}
use Rattle.std.proofs.lemmas.Option.{none-some, same_Some}
use Rattle.model.specs.Grammar.{PathTree, Query}
use Rattle.grammar.proofs.Stopping.{one_place}
use Rattle.grammar.proofs.Unique.{unambiguous}
use Rattle.query.specs.declared.QueryFault.TheVariants.{BadSize, Broken, TooDeep, TooLong, UnknownName, ShortTable, BadSheet}
use Rattle.names.specs.Labels.{Labels}
use Rattle.table.specs.declared.part.Part.{Part}
use Rattle.query.specs.declared.QueryFault.{QueryFault}
use Rattle.query.specs.declared.QuerySize.{QuerySize}
use Rattle.query.specs.Answers.{Sound, Fits, Refused, Answered, deep_place, length_of, steps_of, unknown_left}
use Rattle.query.specs.Compiled.{CompiledAs}
use Rattle.query.specs.Theorems.{FittingIsAccepted, OneFault}

-- an option is not both
none_some : (o : Option ℕ) (u : ℕ) → o ≡ None → o ≡ Some u → ⊥
none_some o u p q = none-some u (sym p ∙ q)

some_one : (o : Option ℕ) (u w : ℕ) → o ≡ Some u → o ≡ Some w → u ≡ w
some_one o u w p q = same_Some u w (sym p ∙ q)

-- the trees of a text are one, so what is computed of them is one
same_length : (t : List ℕ) (labels : Labels) (p q : PathTree) → Sound t p → Sound t q → length_of labels p ≡ length_of labels q
same_length t labels p q a b = ap (length_of labels) (unambiguous t p q a.reads b.reads)

same_unknown : (t : List ℕ) (labels : Labels) (p q : PathTree) → Sound t p → Sound t q → unknown_left labels p ≡ unknown_left labels q
same_unknown t labels p q a b = ap (unknown_left labels) (unambiguous t p q a.reads b.reads)

pub fitting_is_accepted : FittingIsAccepted
fitting_is_accepted t labels n k (BadSheet f) r = r
fitting_is_accepted t labels n k BadSize r = r k.sound.sized
fitting_is_accepted t labels n k (Broken p) r = r.1.whole (k.tree, k.sound.reads)
fitting_is_accepted t labels n k (TooDeep p) r = none_some (deep_place t) p k.sound.shallow r.2
fitting_is_accepted t labels n k TooLong r = omega (arith, k.short, r.2, same_length t labels k.tree r.0 k.sound r.1)
fitting_is_accepted t labels n k (UnknownName p) r = none_some (unknown_left labels r.0) r.3.0 (sym (same_unknown t labels k.tree r.0 k.sound r.1) ∙ k.known) r.3.1
fitting_is_accepted t labels n k ShortTable r = omega (arith, k.room, r.4, same_length t labels k.tree r.0 k.sound r.1)

pub one_fault : OneFault
one_fault t labels n (BadSheet f) g r s = absurd r
one_fault t labels n BadSize (BadSheet g) r s = absurd s
one_fault t labels n BadSize BadSize r s = refl
one_fault t labels n BadSize (Broken q) r s = absurd (r s.0)
one_fault t labels n BadSize (TooDeep q) r s = absurd (r s.0)
one_fault t labels n BadSize TooLong r s = absurd (r s.1.sized)
one_fault t labels n BadSize (UnknownName q) r s = absurd (r s.1.sized)
one_fault t labels n BadSize ShortTable r s = absurd (r s.1.sized)
one_fault t labels n (Broken p) (BadSheet g) r s = absurd s
one_fault t labels n (Broken p) BadSize r s = absurd (s r.0)
one_fault t labels n (Broken p) (Broken q) r s = ap Broken (one_place Query t q p s.1 r.1)
one_fault t labels n (Broken p) (TooDeep q) r s = absurd (r.1.whole s.1)
one_fault t labels n (Broken p) TooLong r s = absurd (r.1.whole (s.0, s.1.reads))
one_fault t labels n (Broken p) (UnknownName q) r s = absurd (r.1.whole (s.0, s.1.reads))
one_fault t labels n (Broken p) ShortTable r s = absurd (r.1.whole (s.0, s.1.reads))
one_fault t labels n (TooDeep p) (BadSheet g) r s = absurd s
one_fault t labels n (TooDeep p) BadSize r s = absurd (s r.0)
one_fault t labels n (TooDeep p) (Broken q) r s = absurd (s.1.whole r.1)
one_fault t labels n (TooDeep p) (TooDeep q) r s = ap TooDeep (some_one (deep_place t) p q r.2 s.2)
one_fault t labels n (TooDeep p) TooLong r s = absurd (none_some (deep_place t) p s.1.shallow r.2)
one_fault t labels n (TooDeep p) (UnknownName q) r s = absurd (none_some (deep_place t) p s.1.shallow r.2)
one_fault t labels n (TooDeep p) ShortTable r s = absurd (none_some (deep_place t) p s.1.shallow r.2)
one_fault t labels n TooLong (BadSheet g) r s = absurd s
one_fault t labels n TooLong BadSize r s = absurd (s r.1.sized)
one_fault t labels n TooLong (Broken q) r s = absurd (s.1.whole (r.0, r.1.reads))
one_fault t labels n TooLong (TooDeep q) r s = absurd (none_some (deep_place t) q r.1.shallow s.2)
one_fault t labels n TooLong TooLong r s = refl
one_fault t labels n TooLong (UnknownName q) r s = absurd (omega (arith, r.2, s.2, same_length t labels r.0 s.0 r.1 s.1))
one_fault t labels n TooLong ShortTable r s = absurd (omega (arith, r.2, s.2, same_length t labels r.0 s.0 r.1 s.1))
one_fault t labels n (UnknownName p) (BadSheet g) r s = absurd s
one_fault t labels n (UnknownName p) BadSize r s = absurd (s r.1.sized)
one_fault t labels n (UnknownName p) (Broken q) r s = absurd (s.1.whole (r.0, r.1.reads))
one_fault t labels n (UnknownName p) (TooDeep q) r s = absurd (none_some (deep_place t) q r.1.shallow s.2)
one_fault t labels n (UnknownName p) TooLong r s = absurd (omega (arith, s.2, r.2, same_length t labels s.0 r.0 s.1 r.1))
one_fault t labels n (UnknownName p) (UnknownName q) r s =
    let k = some_one (unknown_left labels r.0) r.3.0 s.3.0 r.3.1 (same_unknown t labels r.0 s.0 r.1 s.1 ∙ s.3.1) in
    ap UnknownName (r.3.2 ∙ ap (λ (u : ℕ). length t - u) k ∙ sym s.3.2)
one_fault t labels n (UnknownName p) ShortTable r s = absurd (none_some (unknown_left labels r.0) r.3.0 (same_unknown t labels r.0 s.0 r.1 s.1 ∙ s.3) r.3.1)
one_fault t labels n ShortTable (BadSheet g) r s = absurd s
one_fault t labels n ShortTable BadSize r s = absurd (s r.1.sized)
one_fault t labels n ShortTable (Broken q) r s = absurd (s.1.whole (r.0, r.1.reads))
one_fault t labels n ShortTable (TooDeep q) r s = absurd (none_some (deep_place t) q r.1.shallow s.2)
one_fault t labels n ShortTable TooLong r s = absurd (omega (arith, s.2, r.2, same_length t labels s.0 r.0 s.1 r.1))
one_fault t labels n ShortTable (UnknownName q) r s = absurd (none_some (unknown_left labels s.0) s.3.0 (same_unknown t labels s.0 r.0 s.1 r.1 ∙ r.3) s.3.1)
one_fault t labels n ShortTable ShortTable r s = refl

-- what is judged of a text, whatever the table then holds
abbrev Judged : List ℕ → Labels → ℕ → Result ℕ QueryFault → Type 0
Judged t labels n (Ok l) = (k : Fits t labels n) × (l ≡ length_of labels k.tree)
Judged t labels n (Err f) = Refused t labels n f

one_judgement : (t : List ℕ) (labels : Labels) (n : ℕ) (a b : Result ℕ QueryFault) → Judged t labels n a → Judged t labels n b → a ≡ b
one_judgement t labels n (Ok l) (Ok m) x y = ap Ok (x.1 ∙ same_length t labels x.0.tree y.0.tree x.0.sound y.0.sound ∙ sym y.1)
one_judgement t labels n (Ok l) (Err f) x y = absurd (fitting_is_accepted t labels n x.0 f y)
one_judgement t labels n (Err f) (Ok m) x y = absurd (fitting_is_accepted t labels n y.0 f x)
one_judgement t labels n (Err f) (Err f') x y = ap Err (one_fault t labels n f f' x y)

answered_judged : (t : List ℕ) (labels : Labels) (old new : List Part) (r : Result QuerySize QueryFault) → Answered t labels old new r → Judged t labels (length old) (steps_of r)
answered_judged t labels old new (Ok size) a = (a.0.fits, a.0.length_is)
answered_judged t labels old new (Err f) a = a.1

compiled_judged : (t : List ℕ) (labels : Labels) (old new : List Part) (r : Result ℕ QueryFault) → CompiledAs t labels old new r → Judged t labels (length old) r
compiled_judged t labels old new (Ok l) a = (a.fits, a.length_is)
compiled_judged t labels old new (Err f) a = a.1

-- No other answer to a text differs but in its places, and none of compiling it.
pub one_answer : (t : List ℕ) (labels : Labels) (old new : List Part) (r : Result QuerySize QueryFault) → Answered t labels old new r → (other : Result QuerySize QueryFault) (new' : List Part) → Answered t labels old new' other → steps_of other ≡ steps_of r
one_answer t labels old new r a other new' x = one_judgement t labels (length old) (steps_of other) (steps_of r) (answered_judged t labels old new' other x) (answered_judged t labels old new r a)

pub one_compiled : (t : List ℕ) (labels : Labels) (old new : List Part) (r : Result ℕ QueryFault) → CompiledAs t labels old new r → (other : Result ℕ QueryFault) (new' : List Part) → CompiledAs t labels old new' other → other ≡ r
one_compiled t labels old new r a other new' x = one_judgement t labels (length old) other r (compiled_judged t labels old new' other x) (compiled_judged t labels old new r a)
