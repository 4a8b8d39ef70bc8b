-- Places: where the machine stops is the place at which the text breaks the grammar.
use Rattle.std.proofs.Common.{◌≡◌, ℕ, ◌-◌, ◌⊎◌, List, [], ◌∷◌, ◌++◌, length, codes, sym, refl, ap, ◌∙◌, inl, inr, append-nil}
use Rattle.std.proofs.lemmas.Bool.{eq-eqb}
use Rattle.model.specs.Grammar.{path_text, Query, Breaks}
use Rattle.grammar.specs.Machines.{Out, stops, taken}
use Rattle.grammar.specs.Machine.{Frame, bracket, paren, State, lit, axis, or_self, or_sibling, after_p, test, name, held, step, done, joint, atom, shut, lits, on, ends, run, begin}
use Rattle.grammar.proofs.Forward.{no_more, no_held, no_name, No, NoName, path_runs}
use Rattle.grammar.proofs.Back.{is_query_lem}
use Rattle.grammar.proofs.Stopping.{breaks_in, one_place}
use Rattle.grammar.specs.Theorems.{QueryOrOnePlace}

-- every state can be brought to an end
abbrev close : List Frame → List ℕ
close [] = []
close (bracket ∷ fs) = 93 ∷ close fs
close (paren ∷ fs) = 41 ∷ close fs

not_on : (fs : List Frame) → No (close fs) 47 × No (close fs) 91 × NoName (close fs)
not_on [] = (refl, refl, refl)
not_on (bracket ∷ fs) = (refl, refl, refl)
not_on (paren ∷ fs) = (refl, refl, refl)

done_ends : (fs : List Frame) → run (done fs) (close fs) ≡ taken
done_ends [] = refl
done_ends (bracket ∷ fs) = no_more fs (close fs) (not_on fs).0 ∙ done_ends fs
done_ends (paren ∷ fs) = done_ends fs

step_ends : (fs : List Frame) → run (step fs) (close fs) ≡ taken
step_ends fs = no_more fs (close fs) (not_on fs).0 ∙ done_ends fs

held_ends : (fs : List Frame) → run (held fs) (close fs) ≡ taken
held_ends fs = no_held fs (close fs) (not_on fs).1 ∙ step_ends fs

shut_ends : (fs : List Frame) → run (shut fs) (close fs) ≡ taken
shut_ends [] = refl
shut_ends (bracket ∷ fs) = step_ends fs
shut_ends (paren ∷ fs) = done_ends fs

lits_run : (w : List ℕ) (s : State) (t : List ℕ) → run (lits w s) (w ++ t) ≡ run s t
lits_run [] s t = refl
lits_run (c ∷ w) s t = cc (eq-eqb c c refl, lits_run w s t)

ends_so : (s : State) → (u : List ℕ) × (run s u ≡ taken)
ends_so (lit c w s) = let z = ends_so s in ((c ∷ w) ++ z.0, lits_run (c ∷ w) s z.0 ∙ z.1)
ends_so (axis fs) = (codes "self::*" ++ close fs, held_ends fs)
ends_so (or_self fs) = (codes "::*" ++ close fs, held_ends fs)
ends_so (or_sibling fs) = (codes "::*" ++ close fs, held_ends fs)
ends_so (after_p fs) = (codes "arent::*" ++ close fs, held_ends fs)
ends_so (test fs) = (codes "*" ++ close fs, held_ends fs)
ends_so (name n fs) = (close fs, no_name n fs (close fs) (not_on fs).2 ∙ held_ends fs)
ends_so (held fs) = (close fs, held_ends fs)
ends_so (step fs) = (close fs, step_ends fs)
ends_so (done fs) = (close fs, done_ends fs)
ends_so (joint fs) = (codes "or self::*" ++ close fs, held_ends fs)
ends_so (atom fs) = (codes "self::*" ++ close fs, held_ends fs)
ends_so (shut fs) = (close fs, shut_ends fs)

-- in the grammar's words
taken_query : (t : List ℕ) → Query t → run begin t ≡ taken
taken_query t (p, e) = ap (run begin) (e ∙ ap (λ (x : List ℕ). 47 ∷ x) (sym (append-nil (path_text p)))) ∙ path_runs p [] [] refl refl refl

pub breaks : (t : List ℕ) (left : ℕ) → run begin t ≡ stops left → Breaks t (length t - left)
breaks t left e = breaks_in on ends ends_so Query begin is_query_lem taken_query t left e

pub query_or_one_place : QueryOrOnePlace
query_or_one_place t = by (run begin t) refl
  where
    by : (o : Out) → run begin t ≡ o → Query t ⊎ ((p : ℕ) × Breaks t p × ((q : ℕ) → Breaks t q → q ≡ p))
    by taken e = inl (is_query_lem t e)
    by (stops left) e = let d = breaks t left e in inr (length t - left, d, λ q k. one_place Query t (length t - left) q d k)
