-- Whole: what the draft of a whole text says of its query, and the answer that follows.
use Rattle.std.proofs.Common.{◌≡◌, ℕ, ◌-◌, ◌*◌, ◌<◌, ◌≤◌, Bool, cond, List, [], ◌∷◌, ◌++◌, length, take, drop, Some, None, Ok, Err, sym, refl, ap, ◌∙◌, subst, ⊎_elim, append-nil, length-append, length-drop, arith}
use Rattle.std.proofs.lemmas.List.{nil_from_length, length-set, length-take-le, take_all, take-append-le, drop-set-lt}
use Rattle.std.proofs.lemmas.Slice.{drop-append-drop}
use Rattle.std.proofs.lemmas.Bool.{cases_lt, ne_eqb}
use Rattle.model.specs.Limits.{most_length, most_parts}
use Rattle.names.specs.Labels.{Labels}
use Rattle.model.specs.Grammar.{PathTree, path_text, Breaks}
use Rattle.grammar.specs.Machines.{dead, go, stops}
use Rattle.grammar.specs.Machine.{axis, done, begin, run}
use Rattle.grammar.proofs.Forward.{go_on}
use Rattle.grammar.proofs.Places.{breaks}
use Rattle.reader.specs.declared.draft.Draft.{Draft}
use Rattle.table.specs.declared.part.Part.{Part}
use Rattle.query.specs.declared.QueryFault.{QueryFault}
use Rattle.query.specs.declared.QueryFault.TheVariants.{BadSize, Broken, TooDeep, TooLong, UnknownName, ShortTable, BadSheet}
use Rattle.reader.specs.Spells.{Stops}
use Rattle.reader.specs.Drafts.{part, started, spine_drafted}
use Rattle.table.specs.Reading.{query, query_of, last_place, reading, piece_at, pieces}
use Rattle.table.specs.declared.part.Tag.TheVariants.{First}
use Rattle.table.specs.Lawful.{parts_in}
use Rattle.table.specs.Whole.{whole_reading}
use Rattle.table.proofs.Pieces.{piece_stays}
use Rattle.table.proofs.Whole.{named_last, named_last_place}
use Rattle.table.proofs.WholeTables.{whole_is_reading}
use Rattle.query.specs.Answers.{Sized, Sound, Answered, Refused, deep_place, unknown_left, meaning, length_of}
use Rattle.query.specs.Limits.{Tree, Limited, Copied}
use Rattle.reader.proofs.Moves.{Not as IsNot}
use Rattle.reader.proofs.Compose.{ParsedSpine}
use Rattle.query.proofs.Built.{Ready, Built, query_built}
use Rattle.query.proofs.Noted.{spine_noted}
use Rattle.query.proofs.Deep.{placed, deep_noted}

-- The grammar's side.
past_end : (t : List ℕ) → (length t ≡ 0 → ⊥) → run (done []) t ≡ stops (length t)
past_end [] n = absurd (n refl)
past_end (b ∷ t) n = refl

pub parsed_whole : (labels : Labels) (t more rest : List ℕ) (old new : Draft) → t ≡ 47 ∷ more → ParsedSpine labels more rest old new → length rest ≡ 0 → Tree t labels old new
parsed_whole labels t more rest old new e p z =
    let k = nil_from_length rest z in
    record {
      tree = p.tree;
      reads = e ∙ ap (λ (y : List ℕ). 47 ∷ y) (p.reads ∙ ap (λ (y : List ℕ). path_text p.tree ++ y) k ∙ append-nil (path_text p.tree));
      made = p.made ∙ ap (λ (y : List ℕ). spine_drafted labels p.tree y old) k;
    }

pub parsed_part : (labels : Labels) (t more rest : List ℕ) (old new : Draft) → t ≡ 47 ∷ more → ParsedSpine labels more rest old new → (length rest ≡ 0 → ⊥) → Breaks t (length t - length rest)
parsed_part labels t more rest old new e p n = breaks t (length rest) (ap (run begin) e ∙ p.takes.goes [] ∙ past_end rest n)

pub parsed_stuck : (t more : List ℕ) (left : ℕ) → t ≡ 47 ∷ more → Stops axis more left → Breaks t (length t - left)
parsed_stuck t more left e d = breaks t left (ap (run begin) e ∙ d.halts [])

pub parsed_none : (t : List ℕ) → IsNot t 47 → Breaks t 0
parsed_none t n = let z : length t - length t ≡ 0 = omega arith in rw z at (breaks t (length t) (stuck t n))
  where
    stuck : (t : List ℕ) → IsNot t 47 → run begin t ≡ stops (length t)
    stuck [] m = refl
    stuck (b ∷ u) m = ap (λ (v : Bool). go_on u (cond v (go (axis [])) dead)) (ne_eqb b 47 (m (omega arith)))

-- The draft's side.
started_ready : Ready started
started_ready = record { size = refl; fits = omega arith }

pub record Facts (labels : Labels) (tree : PathTree) (d : Draft) : Type 0 where
  pub exact : length_of labels tree ≤ most_length → d.count ≡ length_of labels tree
  pub over : most_length < length_of labels tree → most_length < d.count
  pub unknown : d.unknown ≡ unknown_left labels tree
  pub built : length_of labels tree ≤ most_length → Built started d (query (meaning labels tree)) (4 * length_of labels tree)

facts_of : (labels : Labels) (tree : PathTree) → Facts labels tree (spine_drafted labels tree [] started)
facts_of labels tree =
    let n = spine_noted labels tree [] started in
    record {
      exact = λ h. n.exact (omega arith) ∙ omega arith;
      over = λ h. n.over (omega arith);
      unknown = n.first;
      built = λ h. query_built labels tree [] started started_ready (omega arith) refl (omega arith);
    }

pub facts : (t : List ℕ) (labels : Labels) (d : Draft) (k : Tree t labels started d) → Facts labels k.tree d
facts t labels d k = subst (λ (e : Draft). Facts labels k.tree e) (sym k.made) (facts_of labels k.tree)

deep_place_is : (t : List ℕ) (labels : Labels) (d : Draft) → Tree t labels started d → deep_place t ≡ placed (length t) d.deep
deep_place_is t labels d k =
    ap deep_place k.reads ∙ deep_noted labels k.tree ∙ ap (λ (u : List ℕ). placed (length u) (spine_drafted labels k.tree [] started).deep) (sym k.reads) ∙ ap (λ (e : Draft). placed (length t) e.deep) (sym k.made)

sound : (t : List ℕ) (labels : Labels) (d : Draft) → Sized t → (k : Tree t labels started d) → d.deep ≡ None → Sound t k.tree
sound t labels d s k n = record { sized = s; reads = k.reads; shallow = deep_place_is t labels d k ∙ ap (placed (length t)) n }

-- a count within the limit is the length
pub short : (labels : Labels) (tree : PathTree) (d : Draft) → Facts labels tree d → d.count ≤ most_length → length_of labels tree ≤ most_length
short labels tree d f h = ⊎_elim (λ (k : most_length < length_of labels tree). absurd (omega (arith, f.over k))) (λ (k : length_of labels tree ≤ most_length). k) (cases_lt most_length (length_of labels tree))

long : (labels : Labels) (tree : PathTree) (d : Draft) → Facts labels tree d → most_length < d.count → most_length < length_of labels tree
long labels tree d f h = ⊎_elim (λ (k : most_length < length_of labels tree). k) (λ (k : length_of labels tree ≤ most_length). absurd (omega (arith, f.exact k))) (cases_lt most_length (length_of labels tree))

pub broken : (t : List ℕ) (labels : Labels) (n : ℕ) (f : QueryFault) → Sized t → (p : ℕ) × (f ≡ Broken p) × Breaks t p → Refused t labels n f
broken t labels n f s (p, e, b) = rw e (s, b)

pub refused : (t : List ℕ) (labels : Labels) (n : ℕ) (d : Draft) (f : QueryFault) → Sized t → Tree t labels started d → Limited t d n (Err f) → Refused t labels n f
refused t labels n d (BadSheet f) s k l = absurd l
refused t labels n d BadSize s k l = absurd l
refused t labels n d (Broken p) s k l = absurd l
refused t labels n d (TooDeep p) s k l = (s, (k.tree, k.reads), deep_place_is t labels d k ∙ ap (placed (length t)) l.1 ∙ ap Some (sym l.2))
refused t labels n d TooLong s k l = (k.tree, sound t labels d s k l.0, long labels k.tree d (facts t labels d k) l.1)
refused t labels n d (UnknownName p) s k l =
    let f = facts t labels d k in
    (k.tree, sound t labels d s k l.0, short labels k.tree d f l.1, (l.2.0, sym f.unknown ∙ l.2.1, l.2.2))
refused t labels n d ShortTable s k l =
    let f = facts t labels d k in
    let h = short labels k.tree d f l.1 in
    (k.tree, sound t labels d s k l.0, h, sym f.unknown ∙ l.2, omega (arith, f.exact h, l.3))

-- the parts fit into the table
pub record Room (n : ℕ) (d : Draft) : Type 0 where
  pub some : 1 ≤ d.used
  pub drafted : d.used ≤ most_parts
  pub room : d.used ≤ n

pub room : (t : List ℕ) (labels : Labels) (n : ℕ) (d : Draft) → Tree t labels started d → Limited t d n (Ok tt) → Room n d
room t labels n d k l =
    let f = facts t labels d k in
    let h = short labels k.tree d f l.1 in
    let b = f.built h in
    record { some = omega (arith, b.more); drafted = b.ready.fits; room = omega (arith, b.most, f.exact h, l.3) }

-- what the table then holds
module _ (labels : Labels) (tree : PathTree) (old new : List Part) (d : Draft) (b : Built started d (query (meaning labels tree)) (4 * length_of labels tree)) (h : d.used ≤ length old) (c : Copied d.used d.parts old new) where
  abbrev n : ℕ
  n = d.used

  abbrev front : List Part
  front = take n d.parts

  abbrev mid : List Part
  mid = front ++ drop n old

  abbrev k : ℕ
  k = n - 1

  sized : length front ≡ n
  sized = length-take-le n d.parts (omega (arith, b.ready.size, b.ready.fits))

  size : length mid ≡ length old
  size = omega (arith, length-append front (drop n old), sized, length-drop n old)

  at : (i : ℕ) → i < n → piece_at (pieces mid) i ≡ piece_at (pieces front) i
  at i l = sym (piece_stays mid n i l (omega (arith, size))) ∙ ap (λ (ps : List Part). piece_at (pieces ps) i) (take-append-le n front (drop n old) (omega (arith, sized)) ∙ take_all n front (omega (arith, sized)))

  some : 0 < length mid
  some = omega (arith, b.more, size)

  reads : reading new ≡ meaning labels tree
  reads =
      ap reading c ∙ named_last mid k some (at 0 (omega (arith, b.more)) ∙ b.keeps 0 (omega arith)) ∙ ap query_of (at k (omega (arith, b.more)) ∙ b.last)

  pub names_last : parts_in new ≡ n
  names_last = omega (arith, ap last_place c, named_last_place mid k some, b.more)

  pub holds : whole_reading (take n new) ≡ meaning labels tree
  holds = sym (whole_is_reading new n names_last (omega (arith, ap length c, length-set mid 0 (part First k 0), size))) ∙ reads

  pub kept : drop n new ≡ drop n old
  kept = ap (drop n) c ∙ drop-set-lt n mid 0 _ (omega (arith, b.more)) ∙ drop-append-drop n old front n (omega arith) sized

pub accepted : (t : List ℕ) (labels : Labels) (old new : List Part) (d : Draft) → Sized t → Tree t labels started d → Limited t d (length old) (Ok tt) → Copied d.used d.parts old new → Answered t labels old new (Ok (record { steps = d.count; places = d.used }))
accepted t labels old new d s k l c =
    let f = facts t labels d k in
    let h = short labels k.tree d f l.1 in
    let b = f.built h in
    let e = f.exact h in
    let r = room t labels (length old) d k l in (
      record {
        fits = record { tree = k.tree; sound = sound t labels d s k l.0; short = h; known = sym f.unknown ∙ l.2; room = omega (arith, e, l.3) };
        length_is = e;
        few = omega (arith, b.most, e);
        holds = holds labels k.tree old new d b r.room c;
        kept = kept labels k.tree old new d b r.room c;
      },
      names_last labels k.tree old new d b r.room c,
    )

pub from_start : (t : List ℕ) (labels : Labels) (d e : Draft) → d ≡ started → Tree t labels d e → Tree t labels started e
from_start t labels d e q k = record { tree = k.tree; reads = k.reads; made = k.made ∙ ap (spine_drafted labels k.tree []) q }
