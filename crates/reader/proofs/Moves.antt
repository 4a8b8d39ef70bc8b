-- Moves: what a byte that is read, or that is another, makes of the machine.
use Rattle.std.proofs.Common.{◌≡◌, ℕ, ◌-◌, ◌≤◌, Bool, cond, List, [], ◌∷◌, ◌++◌, length, get_or, take, drop, Ok, Err, codes, Result, sym, refl, ap, ◌∙◌, append_assoc, arith, Bor, eq-eqb, ne_eqb}
use Rattle.std.proofs.lemmas.List.{take_rest}
use Rattle.std.specs.Result.{IsErrAnd}
use Rattle.reader.specs.declared.draft.Stuck.{Stuck}
use Rattle.model.specs.declared.axis.Axis.{Axis}
use Rattle.model.specs.Grammar.{axis_text}
use Rattle.grammar.specs.Machines.{dead, go}
use Rattle.grammar.specs.Machine.{Frame, State, lit, lits, test, run}
use Rattle.reader.specs.Spells.{Takes, Stops, Spells, Forks, Names}
use Rattle.grammar.proofs.Forward.{go_on}

-- what the pattern [b, rest @ ..] says of the slice
pub front : (s : List ℕ) (b : ℕ) → 1 ≤ length s → get_or s 0 0 ≡ b → s ≡ b ∷ take (length s - 1) (drop 1 s)
front [] b h e = absurd (omega arith)
front (x ∷ xs) b h e = rw (take_rest (x ∷ xs) 1) (ap (λ (y : ℕ). y ∷ xs) e)

-- a call that stopped, and what is answered at its `?`
pub at_stop : {A : Type 0} (R : Result A Stuck → Type 0) {e : Stuck} {r : Result A Stuck} → IsErrAnd r (λ x. x ≡ e) → R (Err e) → R r
at_stop R {r = Ok x} h d = absurd h
at_stop R {r = Err x} h d = rw h d

-- the first byte is another, or there is none
abbrev pub Not : List ℕ → ℕ → Type 0
Not s b = 1 ≤ length s → get_or s 0 0 ≡ b → ⊥

pub spells_none : (w text : List ℕ) → length w ≡ 0 → (text ≡ w ++ text) × Takes (lits w) (λ (s : State). s) text text
spells_none [] text e = (refl, record { falls = omega arith; goes = λ s. refl })
spells_none (c ∷ w) text e = absurd (omega arith)

pub spells_more : (c : ℕ) (w v text rest : List ℕ) (r : Result (Bor (List ℕ)) Stuck) → w ≡ c ∷ v → text ≡ c ∷ rest → Spells v rest r → Spells w text r
spells_more c w v text rest (Ok x) e h (k, d) =
    let o : (s : State) → run (lits w s) text ≡ run (lits v s) rest = λ s. ap (λ (y : List ℕ). run (lits y s) text) e ∙ ap (run (lit c v s)) h ∙ ap (λ (b : Bool). go_on rest (cond b (go (lits v s)) dead)) (eq-eqb c c refl) in
    (h ∙ ap (λ (y : List ℕ). c ∷ y) k ∙ sym (ap (λ (y : List ℕ). y ++ x.now) e), record { falls = omega (arith, d.falls, ap length h); goes = λ s. o s ∙ d.goes s })
spells_more c w v text rest (Err x) e h d =
    let o : (s : State) → run (lits w s) text ≡ run (lits v s) rest = λ s. ap (λ (y : List ℕ). run (lits y s) text) e ∙ ap (run (lit c v s)) h ∙ ap (λ (b : Bool). go_on rest (cond b (go (lits v s)) dead)) (eq-eqb c c refl) in
    record { fits = omega (arith, d.fits, ap length h); halts = λ s. o s ∙ d.halts s }

pub spells_not : (w text : List ℕ) → 1 ≤ length w → Not text (get_or w 0 0) → Stops (lits w) text (length text)
spells_not [] text h n = absurd (omega arith)
spells_not (c ∷ w) [] h n = record { fits = omega arith; halts = λ s. refl }
spells_not (c ∷ w) (b ∷ t) h n = record { fits = omega arith; halts = λ s. ap (λ (v : Bool). go_on t (cond v (go (lits w s)) dead)) (ne_eqb b c (n (omega arith))) }

pub names_names : (s z : List Frame → State) (p : List ℕ) (b : ℕ) (text more : List ℕ) (r : Result (Axis × Bor (List ℕ)) Stuck) → text ≡ b ∷ more → ((fs : List Frame) (t : List ℕ) → run (s fs) (b ∷ t) ≡ run (z fs) t) → Names z (p ++ (b ∷ [])) more r → Names s p text r
names_names s z p b text more (Ok r) e o (k, d) =
    (ap (λ (y : List ℕ). p ++ y) e ∙ sym (append_assoc p (b ∷ []) more) ∙ k, record { falls = omega (arith, d.falls, ap length e); goes = λ fs. ap (run (s fs)) e ∙ o fs more ∙ d.goes fs })
names_names s z p b text more (Err x) e o d = record { fits = omega (arith, d.fits, ap length e); halts = λ fs. ap (run (s fs)) e ∙ o fs more ∙ d.halts fs }

-- the bytes w, and then the rest of an axis
pub names_after : (s : List Frame → State) (p w text rest : List ℕ) (r : Result (Axis × Bor (List ℕ)) Stuck) → text ≡ w ++ rest → Takes (lits w) (λ (x : State). x) text rest → Names s (p ++ w) rest r → Names (λ fs. lits w (s fs)) p text r
names_after s p w text rest (Ok r) e d (k, h) =
    (ap (λ (y : List ℕ). p ++ y) e ∙ sym (append_assoc p w rest) ∙ k, record { falls = omega (arith, d.falls, h.falls); goes = λ fs. d.goes (s fs) ∙ h.goes fs })
names_after s p w text rest (Err x) e d h = record { fits = omega (arith, d.falls, h.fits); halts = λ fs. d.goes (s fs) ∙ h.halts fs }

-- what follows the bytes p and w
module _ (p w : List ℕ) (plain : Axis) (end : List ℕ) (long : Axis) (s : List Frame → State) (f : Forks p w plain end long s) where
  pub names_plain : (text more : List ℕ) (r : Result (Axis × Bor (List ℕ)) Stuck) → text ≡ 58 ∷ more → ((q : List ℕ) → axis_text plain ≡ q ++ codes ":" → Names (λ fs. lits (codes ":") (test fs)) q more r) → Names s (p ++ w) text r
  names_plain text more r e k = names_names s (λ fs. lits (codes ":") (test fs)) (p ++ w) 58 text more r e (λ fs t. ap (go_on t) (f.moves fs 58)) (k ((p ++ w) ++ (58 ∷ [])) (f.plainly ∙ sym (append_assoc (p ++ w) (58 ∷ []) (codes ":"))))

  pub names_long : (text more : List ℕ) (r : Result (Axis × Bor (List ℕ)) Stuck) → text ≡ 45 ∷ more → ((q : List ℕ) → axis_text long ≡ q ++ end → Names (λ fs. lits end (test fs)) q more r) → Names s (p ++ w) text r
  names_long text more r e k = names_names s (λ fs. lits end (test fs)) (p ++ w) 45 text more r e (λ fs t. ap (go_on t) (f.moves fs 45)) (k ((p ++ w) ++ (45 ∷ [])) (f.at_length ∙ sym (append_assoc (p ++ w) (45 ∷ []) end)))
