-- Compiled: where labels are ones that elements can have, a table that a text was read into is the checked query of the text.
use Rattle.std.proofs.Common.{◌≡◌, ℕ, ◌+◌, ◌-◌, ◌≤◌, true, List, [], length, take, drop, Ok, Err, Result, sym, ap, ◌∙◌, subst, arith}
use Rattle.std.proofs.lemmas.Bool.{and_from, le-leb}
use Rattle.std.proofs.lemmas.List.{drop-drop}
use Rattle.std.proofs.lemmas.List.Elements.{All-weaker}
use Rattle.model.specs.Limits.{places}
use Rattle.model.specs.Query.{path_length}
use Rattle.grammar.proofs.Unique.{unambiguous}
use Rattle.names.specs.Labels.{Labels, InRange}
use Rattle.table.specs.declared.part.Part.{Part}
use Rattle.table.specs.Lawful.{most_number, narrow, parts_in}
use Rattle.table.proofs.Made.{holds}
use Rattle.table.proofs.WholeTables.{whole_is_reading}
use Rattle.query.specs.declared.QueryFault.{QueryFault}
use Rattle.query.specs.declared.QuerySize.{QuerySize}
use Rattle.query.specs.Answers.{Answered, meaning}
use Rattle.query.specs.Compiled.{Compiled, CompiledAs, ReadsAsWritten}
use Rattle.query.specs.Small.{KeptPast, Small, SmallParts}
use Rattle.query.proofs.Exact.{one_compiled}
use Rattle.query.proofs.Known.{path_known}

-- what is past the n-th place is past the m-th
past : (n m : ℕ) (old new : List Part) → n ≤ m → drop n new ≡ drop n old → drop m new ≡ drop m old
past n m old new h e =
    let k : n + (m - n) ≡ m = omega arith in
    let split : (ps : List Part) → drop m ps ≡ drop (m - n) (drop n ps) = λ ps. ap (λ (i : ℕ). drop i ps) (sym k) ∙ sym (drop-drop (m - n) n ps) in
    split new ∙ ap (drop (m - n)) e ∙ sym (split old)

small_is_narrow : (p : Part) → Small p → narrow p ≡ true
small_is_narrow p s = and_from _ _ (le-leb p.first most_number (omega (arith, s.0))) (le-leb p.second most_number (omega (arith, s.1)))

pub compiled : (t : List ℕ) (labels : Labels) → ((n : List ℕ) → InRange (labels n)) → (old new : List Part) (size : QuerySize) → length new ≡ length old → Answered t labels old new (Ok size) → SmallParts new → Compiled t labels old new size.steps
compiled t labels ranged old new size n (a, named) small =
    let f = a.fits in
    let e = whole_is_reading new size.places named (omega (arith, a.few, a.length_is, f.room)) ∙ a.holds in
    record {
      fits = f;
      length_is = a.length_is;
      holds = holds new (meaning labels f.tree) e f.short (path_known labels ranged f.tree [] f.known) (omega (arith, named, a.few, a.length_is)) (All-weaker Small (λ p. narrow p ≡ true) small_is_narrow (take (parts_in new) new) small);
      kept = past size.places (places size.steps) old new a.few a.kept;
    }

pub kept_past : (old new : List Part) (size : QuerySize) → drop size.places new ≡ drop size.places old → parts_in new ≡ size.places → KeptPast old new
kept_past old new size e named = subst (λ (n : ℕ). drop n new ≡ drop n old) (sym named) e

reads_as_written : (t : List ℕ) (labels : Labels) (old new : List Part) (r : Result ℕ QueryFault) → CompiledAs t labels old new r → ReadsAsWritten t labels new r
reads_as_written t labels old new (Err f) a = tt
reads_as_written t labels old new (Ok l) a = λ tree e.
    let h = a.holds ∙ ap (meaning labels) (unambiguous t a.fits.tree tree a.fits.sound.reads e) in
    (h, a.length_is ∙ sym (ap path_length a.holds))

-- what a call promises of its answer
pub record Exactly (t : List ℕ) (labels : Labels) (old new : List Part) (r : Result ℕ QueryFault) : Type 0 where
  pub answers : CompiledAs t labels old new r
  pub only : (other : Result ℕ QueryFault) (new' : List Part) → CompiledAs t labels old new' other → other ≡ r
  pub written : ReadsAsWritten t labels new r

pub exactly : (t : List ℕ) (labels : Labels) (old new : List Part) (r : Result ℕ QueryFault) → CompiledAs t labels old new r → Exactly t labels old new r
exactly t labels old new r a = record { answers = a; only = one_compiled t labels old new r a; written = reads_as_written t labels old new r a }
