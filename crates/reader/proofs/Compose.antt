-- Compose: what a reader promises follows from what the readers that it calls promise.
use Rattle.std.proofs.Common.{◌≡◌, ℕ, suc, ◌-◌, ◌≤◌, Bool, true, false, cond, eqb, List, [], ◌∷◌, ◌++◌, length, get_or, take, Some, None, Ok, Err, codes, Option, Result, sym, refl, ap, ◌∙◌, append_assoc, arith, length-append, Bor}
use Rattle.std.proofs.lemmas.Bool.{ne_eqb, and_from, false≢true}
use Rattle.std.proofs.lemmas.List.{take_at}
use Rattle.model.specs.Names.{is_letter, is_name_byte, are_name_bytes}
use Rattle.model.specs.declared.axis.Axis.{Axis}
use Rattle.model.specs.Grammar.{TestTree, star, test_text, PathTree, StepTree, OrChain, AndChain, Atom, one, slash, bare, ands, or, and, along, parens, negate, axis_text, path_text, step_text, or_text, and_text, atom_text}
use Rattle.model.specs.Grammar as g
use Rattle.grammar.specs.Machines.{dead, go, stops}
use Rattle.grammar.specs.Machine.{Frame, bracket, paren, State, lits, axis, test, name, held, step, done, joint, atom, shut, on_shut, on_held, on_axis, on, run}
use Rattle.grammar.specs.Joins.{Join, by_and, by_or, word, Joins, no_join, joined, joins_text}
use Rattle.grammar.proofs.Forward.{go_on, held_assoc, No, NoName, no_held, no_more, no_name}
use Rattle.grammar.proofs.Chains.{mk_ors, ors_is}
use Rattle.names.specs.Labels.{Labels}
use Rattle.reader.specs.declared.draft.Stuck.{Stuck}
use Rattle.reader.specs.declared.draft.Draft.{Draft}
use Rattle.table.specs.declared.part.Tag.TheVariants.{Filtered, Then, Along, And, Not, Step}
use Rattle.reader.specs.Spells.{Takes, Stops}
use Rattle.reader.specs.Drafts.{part, added, counted, entered, exited, root, joined_to, reached, closed, labelled, joining, enclosed, test_drafted, step_axis, step_drafted, path_drafted, or_drafted, and_drafted, atom_drafted, linked, spine_drafted, joins_drafted}
use Rattle.reader.specs.Parsed.{Parsed, inside, NameRead, PathRead, SpineRead, FilterRead, AtomRead, JoinsRead, Shut}
use Rattle.reader.proofs.Moves.{Not as IsNot}

-- a reading that stops after a part that leads to another state
pub stops_via : {X Y : Type 0} (from : X → State) (via : Y → State) (f : X → Y) (text more : List ℕ) (left : ℕ) → length more ≤ length text → ((x : X) → run (from x) text ≡ run (via (f x)) more) → Stops via more left → Stops from text left
stops_via from via f text more left h e d = record { fits = omega (arith, d.fits); halts = λ x. e x ∙ d.halts (f x) }

pub takes_via : {X Y : Type 0} (from to : X → State) (via onto : Y → State) (f : X → Y) (text more rest : List ℕ) → length more ≤ length text → ((x : X) → run (from x) text ≡ run (via (f x)) more) → ((x : X) → onto (f x) ≡ to x) → Takes via onto more rest → Takes from to text rest
takes_via from to via onto f text more rest h e k d = record { falls = omega (arith, d.falls); goes = λ x. e x ∙ d.goes (f x) ∙ ap (λ (s : State). run s rest) (k x) }

-- Words.
pub word_stops : (b : ℕ) (v text more : List ℕ) (left : ℕ) → text ≡ b ∷ more → ((fs : List Frame) (t : List ℕ) → run (joint fs) (b ∷ t) ≡ run (lits v (atom fs)) t) → Stops (lits v) more left → Stops joint text left
word_stops b v text more left e o d = stops_via joint (lits v) atom text more left (omega (arith, ap length e)) (λ fs. ap (run (joint fs)) e ∙ o fs more) d

-- Names.
on_name_lem : (k : ℕ) (b : ℕ) (t : List ℕ) (fs : List Frame) → is_name_byte b ≡ true → run (name (suc k) fs) (b ∷ t) ≡ run (name k fs) t
on_name_lem k b t fs e = ap (λ (v : Bool). go_on t (cond v (go (name k fs)) (on_held fs b))) e

pub name_more : (k room b : ℕ) (text more : List ℕ) (r : Result (Bor (List ℕ)) Stuck) → room ≡ suc k → text ≡ b ∷ more → is_name_byte b ≡ true → NameRead k more r → NameRead room text r
name_more k room b text more (Ok rest) q e h (u, l, d, t) =
    rw q (
      b ∷ u,
      and_from (is_name_byte b) (are_name_bytes k u) h l,
      e ∙ ap (λ (y : List ℕ). b ∷ y) d,
      takes_via (name (suc k)) held (name k) held (λ (fs : List Frame). fs) text more rest.now (omega (arith, ap length e)) (λ fs. ap (run (name (suc k) fs)) e ∙ on_name_lem k b more fs h) (λ fs. refl) t,
    )
name_more k room b text more (Err x) q e h d =
    rw q (stops_via (name (suc k)) (name k) (λ (fs : List Frame). fs) text more x.left (omega (arith, ap length e)) (λ fs. ap (run (name (suc k) fs)) e ∙ on_name_lem k b more fs h) d)

pub name_ends : (room : ℕ) (text : List ℕ) → (1 ≤ length text → is_name_byte (get_or text 0 0) ≡ false) → (u : List ℕ) × (are_name_bytes room u ≡ true) × (text ≡ u ++ text) × Takes (name room) held text text
name_ends room text n = ([], refl, refl, record { falls = omega arith; goes = λ fs. no_name room fs text (other text n) })
  where
    other : (t : List ℕ) → (1 ≤ length t → is_name_byte (get_or t 0 0) ≡ false) → NoName t
    other [] m = refl
    other (b ∷ t) m = m (omega arith)

-- Tests.
on_letter : (b : ℕ) (t : List ℕ) (fs : List Frame) → is_letter b ≡ true → run (test fs) (b ∷ t) ≡ run (name 23 fs) t
on_letter b t fs e =
    let n : eqb b 42 ≡ false = ne_eqb b 42 (λ q. false≢true (sym (ap is_letter q) ∙ e)) in
    ap (λ (v : Bool). go_on t (cond v (go (held fs)) (cond (is_letter b) (go (name 23 fs)) dead))) n ∙ ap (λ (v : Bool). go_on t (cond v (go (name 23 fs)) dead)) e

pub name_stops : (b : ℕ) (text more : List ℕ) (left : ℕ) → text ≡ b ∷ more → is_letter b ≡ true → Stops (name 23) more left → Stops test text left
name_stops b text more left e l d = stops_via test (name 23) (λ (fs : List Frame). fs) text more left (omega (arith, ap length e)) (λ fs. ap (run (test fs)) e ∙ on_letter b more fs l) d

pub name_read : (labels : Labels) (b : ℕ) (u text more rest : List ℕ) (old new : Draft) → text ≡ b ∷ more → is_letter b ≡ true → are_name_bytes 23 u ≡ true → more ≡ u ++ rest → Takes (name 23) held more rest → new ≡ labelled (labels (take (length text - length rest) text)) (length text) old → Parsed test_text (test_drafted labels) test held text rest old new
name_read labels b u text more rest old new e l h k d m =
    let z : text ≡ (b ∷ u) ++ rest = e ∙ ap (λ (y : List ℕ). b ∷ y) k in
    let w : take (length text - length rest) text ≡ b ∷ u = ap (take (length text - length rest)) z ∙ take_at (b ∷ u) rest (length text - length rest) (omega (arith, ap length z, length-append (b ∷ u) rest)) in
    record {
      tree = g.name (b ∷ u) (and_from (is_letter b) (are_name_bytes 23 u) l h);
      reads = z;
      made = m ∙ ap (λ (y : List ℕ). labelled (labels y) (length text) old) w ∙ ap (λ (y : List ℕ). labelled (labels (b ∷ u)) (length y) old) z;
      takes = takes_via test held (name 23) held (λ (fs : List Frame). fs) text more rest (omega (arith, ap length e)) (λ fs. ap (run (test fs)) e ∙ on_letter b more fs l) (λ fs. refl) d;
    }

-- What a byte that is not read says.
first_is_not : (t : List ℕ) (b : ℕ) → eqb 0 b ≡ false → IsNot t b → No t b
first_is_not [] b z n = z
first_is_not (x ∷ t) b z n = ne_eqb x b (n (omega arith))

no_bracket : (fs : List Frame) (t : List ℕ) → IsNot t 91 → run (held fs) t ≡ run (step fs) t
no_bracket fs t n = no_held fs t (first_is_not t 91 refl n)

no_slash : (fs : List Frame) (t : List ℕ) → IsNot t 47 → run (step fs) t ≡ run (done fs) t
no_slash fs t n = no_more fs t (first_is_not t 47 refl n)

no_blank : (f : Frame) (fs : List Frame) (t : List ℕ) → IsNot t 32 → run (done (f ∷ fs)) t ≡ run (shut (f ∷ fs)) t
no_blank f fs [] n = refl
no_blank f fs (b ∷ t) n = ap (λ (v : Bool). go_on t (cond v (go (joint (f ∷ fs))) (on_shut (f ∷ fs) b))) (ne_eqb b 32 (n (omega arith)))

no_paren : (fs : List Frame) (t : List ℕ) → IsNot t 40 → IsNot t 110 → run (atom fs) t ≡ run (axis fs) t
no_paren fs [] m n = refl
no_paren fs (b ∷ t) m n = ap (go_on t) (same fs)
  where
    same : (fs : List Frame) → on (atom fs) b ≡ on (axis fs) b
    same fs = ap (λ (v : Bool). cond v (go (atom (paren ∷ fs))) (cond (eqb b 110) (go (lits (codes "ot(") (atom (paren ∷ fs)))) (on_axis fs b))) (ne_eqb b 40 (m (omega arith))) ∙ ap (λ (v : Bool). cond v (go (lits (codes "ot(") (atom (paren ∷ fs)))) (on_axis fs b)) (ne_eqb b 110 (n (omega arith)))

open_bracket : (fs : List Frame) (t : List ℕ) → IsNot t 93 → run (shut (bracket ∷ fs)) t ≡ stops (length t)
open_bracket fs [] n = refl
open_bracket fs (b ∷ t) n = ap (λ (v : Bool). go_on t (cond v (go (step fs)) dead)) (ne_eqb b 93 (n (omega arith)))

open_paren : (fs : List Frame) (t : List ℕ) → IsNot t 41 → run (shut (paren ∷ fs)) t ≡ stops (length t)
open_paren fs [] n = refl
open_paren fs (b ∷ t) n = ap (λ (v : Bool). go_on t (cond v (go (done fs)) dead)) (ne_eqb b 41 (n (omega arith)))

-- Steps.
abbrev ParsedTest : Labels → List ℕ → List ℕ → Draft → Draft → Type 0
ParsedTest labels = Parsed test_text (test_drafted labels) test held

abbrev ParsedStep : Labels → List ℕ → List ℕ → Draft → Draft → Type 0
ParsedStep labels = Parsed step_text (step_drafted labels) axis step

abbrev ParsedPath : Labels → List ℕ → List ℕ → Draft → Draft → Type 0
ParsedPath labels = Parsed path_text (path_drafted labels) axis done

abbrev pub ParsedSpine : Labels → List ℕ → List ℕ → Draft → Draft → Type 0
ParsedSpine labels = Parsed path_text (spine_drafted labels) axis done

abbrev ParsedFilter : Labels → List ℕ → List ℕ → Draft → Draft → Type 0
ParsedFilter labels = Parsed or_text (or_drafted labels) (inside atom) (inside shut)

abbrev ParsedAtom : Labels → List ℕ → List ℕ → Draft → Draft → Type 0
ParsedAtom labels = Parsed atom_text (atom_drafted labels) atom done

abbrev ParsedJoins : Labels → Option ℕ → List ℕ → List ℕ → Draft → Draft → Type 0
ParsedJoins labels waiting = Parsed joins_text (joins_drafted labels waiting) (inside done) (inside shut)

-- a filter and the byte that closes it, by the text from the filter on
enclosed_made : (labels : Labels) (f : OrChain) (byte : ℕ) (inner after end : List ℕ) (old new : Draft) → new ≡ or_drafted labels f after (entered (length inner) old) → inner ≡ or_text f ++ (byte ∷ end) → after ≡ byte ∷ end → exited new ≡ enclosed (or_text f) (or_drafted labels f) (byte ∷ end) old
enclosed_made labels f byte inner after end old new m i k =
    ap exited (m ∙ ap (λ (y : List ℕ). or_drafted labels f y (entered (length inner) old)) k ∙ ap (λ (y : List ℕ). or_drafted labels f (byte ∷ end) (entered (length y) old)) i)

module _ {text more rest : List ℕ} {d1 : Draft} (labels : Labels) (a : Axis) (old : Draft) (e : text ≡ axis_text a ++ more) (t : Takes axis test text more) (x : ParsedTest labels more rest (counted old) d1) where
  pub step_bare : IsNot rest 91 → (p : ParsedStep labels text rest old d1) × (a ≡ step_axis p.tree)
  step_bare n = (
    record {
      tree = bare a x.tree;
      reads = e ∙ ap (λ (y : List ℕ). axis_text a ++ y) x.reads ∙ sym (append_assoc (axis_text a) (test_text x.tree) rest);
      made = x.made;
      takes = record { falls = omega (arith, t.falls, x.takes.falls); goes = λ fs. t.goes fs ∙ x.takes.goes fs ∙ no_bracket fs rest n };
    },
    refl,
  )

  to_filter : (inner : List ℕ) → rest ≡ 91 ∷ inner → (fs : List Frame) → run (axis fs) text ≡ run (atom (bracket ∷ fs)) inner
  to_filter inner h fs = t.goes fs ∙ x.takes.goes fs ∙ ap (run (held fs)) h

  pub step_stops_inside : (inner : List ℕ) (left : ℕ) → rest ≡ 91 ∷ inner → Stops (inside atom) inner left → Stops axis text left
  step_stops_inside inner left h d =
      stops_via axis (inside atom) (λ (fs : List Frame). (bracket, fs)) text inner left (omega (arith, t.falls, x.takes.falls, ap length h)) (to_filter inner h) d

  pub step_stops_open : (inner after : List ℕ) (d2 d3 : Draft) (left : ℕ) → rest ≡ 91 ∷ inner → ParsedFilter labels inner after d2 d3 → left ≡ length after → IsNot after 93 → Stops axis text left
  step_stops_open inner after d2 d3 left h f q n =
      rw q
      (record { fits = omega (arith, t.falls, x.takes.falls, f.takes.falls, ap length h); halts = λ fs. to_filter inner h fs ∙ f.takes.goes (bracket, fs) ∙ open_bracket fs after n })

  pub step_held : (inner after end : List ℕ) (d2 d3 : Draft) → rest ≡ 91 ∷ inner → ParsedFilter labels inner after (entered (length inner) d1) d2 → after ≡ 93 ∷ end → d3 ≡ joined_to Filtered (root d1) (exited d2) → (p : ParsedStep labels text end old d3) × (a ≡ step_axis p.tree)
  step_held inner after end d2 d3 h f k m =
      let i : inner ≡ or_text f.tree ++ (93 ∷ end) = f.reads ∙ ap (λ (y : List ℕ). or_text f.tree ++ y) k in
      let r : rest ≡ 91 ∷ (or_text f.tree ++ (93 ∷ end)) = h ∙ ap (λ (y : List ℕ). 91 ∷ y) i in (
        record {
          tree = g.held a x.tree f.tree;
          reads = e ∙ ap (λ (y : List ℕ). axis_text a ++ y) (x.reads ∙ ap (λ (y : List ℕ). test_text x.tree ++ y) r) ∙ sym (held_assoc (axis_text a) (test_text x.tree) (or_text f.tree) end);
          made = m ∙ ap (joined_to Filtered (root d1)) (enclosed_made labels f.tree 93 inner after end d1 d2 f.made i k) ∙ ap (joining Filtered (enclosed (or_text f.tree) (or_drafted labels f.tree) (93 ∷ end))) (x.made ∙ ap (λ (y : List ℕ). test_drafted labels x.tree y (counted old)) r);
          takes = record { falls = omega (arith, t.falls, x.takes.falls, f.takes.falls, ap length h, ap length k); goes = λ fs. to_filter inner h fs ∙ f.takes.goes (bracket, fs) ∙ ap (run (shut (bracket ∷ fs))) k };
        },
        refl,
      )

-- Paths: a step, and perhaps "/" and a path.
module _ {labels : Labels} {a : Axis} {text rest : List ℕ} {old d1 : Draft} (s : ParsedStep labels text rest old d1) (q : a ≡ step_axis s.tree) where
  pub path_one : (d2 : Draft) → IsNot rest 47 → d2 ≡ reached (Along a) d1 → ParsedPath labels text rest old d2
  path_one d2 n m =
      record {
        tree = one s.tree;
        reads = s.reads;
        made = m ∙ ap (λ (b : Axis). reached (Along b) d1) q ∙ ap (reached (Along (step_axis s.tree))) s.made;
        takes = record { falls = s.takes.falls; goes = λ fs. s.takes.goes fs ∙ no_slash fs rest n };
      }

  to_path : (more : List ℕ) → rest ≡ 47 ∷ more → (fs : List Frame) → run (axis fs) text ≡ run (axis fs) more
  to_path more h fs = s.takes.goes fs ∙ ap (run (step fs)) h

  pub path_stops : (more : List ℕ) (left : ℕ) → rest ≡ 47 ∷ more → Stops axis more left → Stops axis text left
  path_stops more left h d = stops_via axis axis (λ (fs : List Frame). fs) text more left (omega (arith, s.takes.falls, ap length h)) (to_path more h) d

  both_read : (p : PathTree) (more end : List ℕ) → rest ≡ 47 ∷ more → more ≡ path_text p ++ end → text ≡ path_text (slash s.tree p) ++ end
  both_read p more end h k =
      s.reads ∙ ap (λ (y : List ℕ). step_text s.tree ++ y) (h ∙ ap (λ (y : List ℕ). 47 ∷ y) k) ∙ sym (append_assoc (step_text s.tree) (47 ∷ path_text p) end)

  step_made : (p : PathTree) (more end : List ℕ) → rest ≡ 47 ∷ more → more ≡ path_text p ++ end → d1 ≡ step_drafted labels s.tree (47 ∷ (path_text p ++ end)) old
  step_made p more end h k = s.made ∙ ap (λ (y : List ℕ). step_drafted labels s.tree y old) (h ∙ ap (λ (y : List ℕ). 47 ∷ y) k)

  pub path_slash : (more end : List ℕ) (d2 d3 d4 : Draft) → rest ≡ 47 ∷ more → ParsedPath labels more end d1 d2 → d3 ≡ joined_to Then (root d1) d2 → d4 ≡ reached (Along a) d3 → ParsedPath labels text end old d4
  path_slash more end d2 d3 d4 h p m n =
      record {
        tree = slash s.tree p.tree;
        reads = both_read p.tree more end h p.reads;
        made = n ∙ ap (λ (b : Axis). reached (Along b) d3) q ∙ ap (reached (Along (step_axis s.tree))) (m ∙ ap (joined_to Then (root d1)) p.made ∙ ap (joining Then (path_drafted labels p.tree end)) (step_made p.tree more end h p.reads));
        takes = record { falls = omega (arith, s.takes.falls, p.takes.falls, ap length h); goes = λ fs. to_path more h fs ∙ p.takes.goes fs };
      }

  pub spine_one : (d2 : Draft) → IsNot rest 47 → d2 ≡ linked a old d1 → ParsedSpine labels text rest old d2
  spine_one d2 n m =
      record {
        tree = one s.tree;
        reads = s.reads;
        made = m ∙ ap (λ (b : Axis). linked b old d1) q ∙ ap (linked (step_axis s.tree) old) s.made;
        takes = record { falls = s.takes.falls; goes = λ fs. s.takes.goes fs ∙ no_slash fs rest n };
      }

  pub spine_slash : (more : List ℕ) (d2 d3 : Draft) (r : Result (Bor (List ℕ)) Stuck) → rest ≡ 47 ∷ more → d2 ≡ linked a old d1 → SpineRead labels more d2 d3 r → SpineRead labels text old d3 r
  spine_slash more d2 d3 (Ok end) h m p =
      record {
        tree = slash s.tree p.tree;
        reads = both_read p.tree more end.now h p.reads;
        made = p.made ∙ ap (spine_drafted labels p.tree end.now) (m ∙ ap (λ (b : Axis). linked b old d1) q ∙ ap (linked (step_axis s.tree) old) (step_made p.tree more end.now h p.reads));
        takes = record { falls = omega (arith, s.takes.falls, p.takes.falls, ap length h); goes = λ fs. to_path more h fs ∙ p.takes.goes fs };
      }
  spine_slash more d2 d3 (Err x) h m p = path_stops more x.left h p

-- Atoms.
pub atom_along : (labels : Labels) (text : List ℕ) (old new : Draft) (r : Result (Bor (List ℕ)) Stuck) → IsNot text 40 → IsNot text 110 → PathRead labels text old new r → AtomRead labels text old new r
atom_along labels text old new (Ok rest) m n p = record { tree = along p.tree; reads = p.reads; made = p.made; takes = record { falls = p.takes.falls; goes = λ fs. no_paren fs text m n ∙ p.takes.goes fs } }
atom_along labels text old new (Err e) m n d = stops_via atom axis (λ (fs : List Frame). fs) text text e.left (omega arith) (λ fs. no_paren fs text m n) d

pub parens_stop : (text more : List ℕ) (left : ℕ) → text ≡ 40 ∷ more → Stops (inside atom) more left → Stops atom text left
parens_stop text more left e d = stops_via atom (inside atom) (λ (fs : List Frame). (paren, fs)) text more left (omega (arith, ap length e)) (λ fs. ap (run (atom fs)) e) d

pub parens_read : (labels : Labels) (text more rest : List ℕ) (old d1 d2 : Draft) (r : Result (Bor (List ℕ)) Stuck) → text ≡ 40 ∷ more → ParsedFilter labels more rest (entered (length more) old) d1 → d2 ≡ exited d1 → Shut 41 rest r → AtomRead labels text old d2 r
parens_read labels text more rest old d1 d2 (Ok end) e f m k =
    let i : more ≡ or_text f.tree ++ (41 ∷ end.now) = f.reads ∙ ap (λ (y : List ℕ). or_text f.tree ++ y) k in
    record {
      tree = parens f.tree;
      reads = e ∙ ap (λ (y : List ℕ). 40 ∷ y) (i ∙ sym (append_assoc (or_text f.tree) (41 ∷ []) end.now));
      made = m ∙ enclosed_made labels f.tree 41 more rest end.now old d1 f.made i k;
      takes = record { falls = omega (arith, f.takes.falls, ap length e, ap length k); goes = λ fs. ap (run (atom fs)) e ∙ f.takes.goes (paren, fs) ∙ ap (run (shut (paren ∷ fs))) k };
    }
parens_read labels text more rest old d1 d2 (Err x) e f m (q, n) =
    rw q (record { fits = omega (arith, f.takes.falls, ap length e); halts = λ fs. ap (run (atom fs)) e ∙ f.takes.goes (paren, fs) ∙ open_paren fs rest n })

-- after "not("
module _ {text more inner : List ℕ} (e : text ≡ 110 ∷ more) (w : more ≡ codes "ot(" ++ inner) (t : Takes (lits (codes "ot(")) (λ (s : State). s) more inner) where
  to_not : (fs : List Frame) → run (atom fs) text ≡ run (atom (paren ∷ fs)) inner
  to_not fs = ap (run (atom fs)) e ∙ t.goes (atom (paren ∷ fs))

  pub not_stops : (left : ℕ) → Stops (inside atom) inner left → Stops atom text left
  not_stops left d = stops_via atom (inside atom) (λ (fs : List Frame). (paren, fs)) text inner left (omega (arith, t.falls, ap length e)) to_not d

  pub not_stops_open : (labels : Labels) (rest : List ℕ) (old new : Draft) (left : ℕ) → ParsedFilter labels inner rest old new → left ≡ length rest → IsNot rest 41 → Stops atom text left
  not_stops_open labels rest old new left f q n =
      rw q (record { fits = omega (arith, t.falls, f.takes.falls, ap length e); halts = λ fs. to_not fs ∙ f.takes.goes (paren, fs) ∙ open_paren fs rest n })

  pub not_read : (labels : Labels) (rest end : List ℕ) (old d1 d2 : Draft) → ParsedFilter labels inner rest (entered (length inner) (counted old)) d1 → rest ≡ 41 ∷ end → d2 ≡ reached Not (exited d1) → ParsedAtom labels text end old d2
  not_read labels rest end old d1 d2 f k m =
      let i : inner ≡ or_text f.tree ++ (41 ∷ end) = f.reads ∙ ap (λ (y : List ℕ). or_text f.tree ++ y) k in
      record {
        tree = negate f.tree;
        reads = e ∙ ap (λ (y : List ℕ). 110 ∷ y) (w ∙ ap (λ (y : List ℕ). codes "ot(" ++ y) (i ∙ sym (append_assoc (or_text f.tree) (41 ∷ []) end)));
        made = m ∙ ap (reached Not) (enclosed_made labels f.tree 41 inner rest end (counted old) d1 f.made i k);
        takes = record { falls = omega (arith, t.falls, f.takes.falls, ap length e, ap length k); goes = λ fs. to_not fs ∙ f.takes.goes (paren, fs) ∙ ap (run (shut (paren ∷ fs))) k };
      }

pub not_word_stops : (text more : List ℕ) (left : ℕ) → text ≡ 110 ∷ more → Stops (lits (codes "ot(")) more left → Stops atom text left
not_word_stops text more left e d = stops_via atom (lits (codes "ot(")) (λ (fs : List Frame). atom (paren ∷ fs)) text more left (omega (arith, ap length e)) (λ fs. ap (run (atom fs)) e) d

-- Joins: a chain is drafted as its first atom and its joins are.
joins_text_assoc : (w : Join) (a : Atom) (j : Joins) (rest : List ℕ) → joins_text (joined w a j) ++ rest ≡ 32 ∷ (word w ++ (atom_text a ++ (joins_text j ++ rest)))
joins_text_assoc w a j rest = ap (λ (y : List ℕ). 32 ∷ y) (append_assoc (word w) (atom_text a ++ joins_text j) rest ∙ ap (λ (y : List ℕ). word w ++ y) (append_assoc (atom_text a) (joins_text j) rest))

-- the joins after an and-chain, before which an `or` waits for its right side
abbrev waiting_joins : Labels → Joins → AndChain → List ℕ → Draft → Draft
waiting_joins labels j x rest d = joins_drafted labels (Some (root d)) j rest (and_drafted labels x (joins_text j ++ rest) (counted d))

or_joins : (labels : Labels) (j : Joins) (f : OrChain) (x : AndChain) (rest : List ℕ) (d : Draft) → or_drafted labels (mk_ors (or f x) j) rest d ≡ waiting_joins labels j x rest (or_drafted labels f (codes " or " ++ (and_text x ++ (joins_text j ++ rest))) d)
or_joins labels no_join f x rest d = refl
or_joins labels (joined by_and a j) f x rest d =
    or_joins labels j f (and x a) rest d ∙ ap (λ (y : List ℕ). waiting_joins labels j (and x a) rest (or_drafted labels f (codes " or " ++ y) d)) (append_assoc (and_text x) (codes " and " ++ atom_text a) (joins_text j ++ rest)) ∙ sym (ap (λ (y : List ℕ). joins_drafted labels (Some (root (or_drafted labels f (codes " or " ++ (and_text x ++ y)) d))) (joined by_and a j) rest (and_drafted labels x y (counted (or_drafted labels f (codes " or " ++ (and_text x ++ y)) d)))) (joins_text_assoc by_and a j rest))
or_joins labels (joined by_or a j) f x rest d =
    or_joins labels j (or f x) (g.atom a) rest d ∙ sym (ap (λ (y : List ℕ). joins_drafted labels (Some (root (or_drafted labels f (codes " or " ++ (and_text x ++ y)) d))) (joined by_or a j) rest (and_drafted labels x y (counted (or_drafted labels f (codes " or " ++ (and_text x ++ y)) d)))) (joins_text_assoc by_or a j rest))

ands_joins : (labels : Labels) (j : Joins) (x : AndChain) (rest : List ℕ) (d : Draft) → or_drafted labels (mk_ors (ands x) j) rest d ≡ joins_drafted labels None j rest (and_drafted labels x (joins_text j ++ rest) d)
ands_joins labels no_join x rest d = refl
ands_joins labels (joined by_and a j) x rest d =
    ands_joins labels j (and x a) rest d ∙ sym (ap (λ (y : List ℕ). joins_drafted labels None (joined by_and a j) rest (and_drafted labels x y d)) (joins_text_assoc by_and a j rest))
ands_joins labels (joined by_or a j) x rest d =
    or_joins labels j (ands x) (g.atom a) rest d ∙ sym (ap (λ (y : List ℕ). joins_drafted labels None (joined by_or a j) rest (and_drafted labels x y d)) (joins_text_assoc by_or a j rest))

pub filter_read : (labels : Labels) (text rest : List ℕ) (old d1 d2 : Draft) (r : Result (Bor (List ℕ)) Stuck) → ParsedAtom labels text rest old d1 → JoinsRead labels None rest d1 d2 r → FilterRead labels text old d2 r
filter_read labels text rest old d1 d2 (Ok end) a j =
    record {
      tree = mk_ors (ands (g.atom a.tree)) j.tree;
      reads = a.reads ∙ ap (λ (y : List ℕ). atom_text a.tree ++ y) j.reads ∙ sym (append_assoc (atom_text a.tree) (joins_text j.tree) end.now) ∙ sym (ap (λ (y : List ℕ). y ++ end.now) (ors_is (ands (g.atom a.tree)) j.tree));
      made = j.made ∙ ap (joins_drafted labels None j.tree end.now) (a.made ∙ ap (λ (y : List ℕ). atom_drafted labels a.tree y old) j.reads) ∙ sym (ands_joins labels j.tree (g.atom a.tree) end.now old);
      takes = record { falls = omega (arith, a.takes.falls, j.takes.falls); goes = λ x. a.takes.goes (x.0 ∷ x.1) ∙ j.takes.goes x };
    }
filter_read labels text rest old d1 d2 (Err e) a d = stops_via (inside atom) (inside done) (λ (x : Frame × List Frame). x) text rest e.left a.takes.falls (λ x. a.takes.goes (x.0 ∷ x.1)) d

pub joins_end : (labels : Labels) (waiting : Option ℕ) (text : List ℕ) (old new : Draft) → IsNot text 32 → new ≡ closed waiting old → ParsedJoins labels waiting text text old new
joins_end labels waiting text old new n m = record { tree = no_join; reads = refl; made = m; takes = record { falls = omega arith; goes = λ x. no_blank x.0 x.1 text n } }

pub joins_word_stops : (text more : List ℕ) (left : ℕ) → text ≡ 32 ∷ more → Stops joint more left → Stops (inside done) text left
joins_word_stops text more left e d = stops_via (inside done) joint (λ (x : Frame × List Frame). x.0 ∷ x.1) text more left (omega (arith, ap length e)) (λ x. ap (run (done (x.0 ∷ x.1))) e) d

-- a blank, a word and an atom
module _ {labels : Labels} {text more next rest : List ℕ} {d1 : Draft} (w : Join) (d0 : Draft) (e : text ≡ 32 ∷ more) (h : more ≡ word w ++ next) (t : Takes joint atom more next) (a : ParsedAtom labels next rest (counted d0) d1) where
  to_atom : (x : Frame × List Frame) → run (inside done x) text ≡ run (inside atom x) next
  to_atom x = ap (run (done (x.0 ∷ x.1))) e ∙ t.goes (x.0 ∷ x.1)

  joined_read : (j : Joins) (end : List ℕ) → rest ≡ joins_text j ++ end → text ≡ joins_text (joined w a.tree j) ++ end
  joined_read j end k =
      e ∙ ap (λ (y : List ℕ). 32 ∷ y) (h ∙ ap (λ (y : List ℕ). word w ++ y) (a.reads ∙ ap (λ (y : List ℕ). atom_text a.tree ++ y) k)) ∙ sym (joins_text_assoc w a.tree j end)

  atom_made : (j : Joins) (end : List ℕ) → rest ≡ joins_text j ++ end → d1 ≡ atom_drafted labels a.tree (joins_text j ++ end) (counted d0)
  atom_made j end k = a.made ∙ ap (λ (y : List ℕ). atom_drafted labels a.tree y (counted d0)) k

  joined_takes : (end : List ℕ) → Takes (inside done) (inside shut) rest end → Takes (inside done) (inside shut) text end
  joined_takes end k = record { falls = omega (arith, t.falls, a.takes.falls, k.falls, ap length e); goes = λ x. to_atom x ∙ a.takes.goes (x.0 ∷ x.1) ∙ k.goes x }

  joined_stops : (left : ℕ) → Stops (inside done) rest left → Stops (inside done) text left
  joined_stops left d = stops_via (inside done) (inside done) (λ (x : Frame × List Frame). x) text rest left (omega (arith, t.falls, a.takes.falls, ap length e)) (λ x. to_atom x ∙ a.takes.goes (x.0 ∷ x.1)) d

pub joins_atom_stops : (text more next : List ℕ) (left : ℕ) → text ≡ 32 ∷ more → Takes joint atom more next → Stops atom next left → Stops (inside done) text left
joins_atom_stops text more next left e t d =
    stops_via (inside done) atom (λ (x : Frame × List Frame). x.0 ∷ x.1) text next left (omega (arith, t.falls, ap length e)) (λ x. ap (run (done (x.0 ∷ x.1))) e ∙ t.goes (x.0 ∷ x.1)) d

pub joins_and : (labels : Labels) (waiting : Option ℕ) (text more next rest : List ℕ) (d0 d1 d2 d3 : Draft) (r : Result (Bor (List ℕ)) Stuck) → text ≡ 32 ∷ more → more ≡ word by_and ++ next → Takes joint atom more next → ParsedAtom labels next rest (counted d0) d1 → d2 ≡ joined_to And (root d0) d1 → JoinsRead labels waiting rest d2 d3 r → JoinsRead labels waiting text d0 d3 r
joins_and labels waiting text more next rest d0 d1 d2 d3 (Ok end) e h t a m j =
    record {
      tree = joined by_and a.tree j.tree;
      reads = joined_read by_and d0 e h t a j.tree end.now j.reads;
      made = j.made ∙ ap (joins_drafted labels waiting j.tree end.now) (m ∙ ap (joined_to And (root d0)) (atom_made by_and d0 e h t a j.tree end.now j.reads));
      takes = joined_takes by_and d0 e h t a end.now j.takes;
    }
joins_and labels waiting text more next rest d0 d1 d2 d3 (Err x) e h t a m d = joined_stops by_and d0 e h t a x.left d

pub joins_or : (labels : Labels) (waiting : Option ℕ) (text more next rest : List ℕ) (old d0 d1 d2 : Draft) (left : ℕ) (r : Result (Bor (List ℕ)) Stuck) → text ≡ 32 ∷ more → more ≡ word by_or ++ next → Takes joint atom more next → d0 ≡ closed waiting old → left ≡ root d0 → ParsedAtom labels next rest (counted d0) d1 → JoinsRead labels (Some left) rest d1 d2 r → JoinsRead labels waiting text old d2 r
joins_or labels waiting text more next rest old d0 d1 d2 left (Ok end) e h t m q a j =
    record {
      tree = joined by_or a.tree j.tree;
      reads = joined_read by_or d0 e h t a j.tree end.now j.reads;
      made = j.made ∙ ap (λ (l : ℕ). joins_drafted labels (Some l) j.tree end.now d1) q ∙ ap (joins_drafted labels (Some (root d0)) j.tree end.now) (atom_made by_or d0 e h t a j.tree end.now j.reads) ∙ ap (λ (d : Draft). joins_drafted labels (Some (root d)) j.tree end.now (atom_drafted labels a.tree (joins_text j.tree ++ end.now) (counted d))) m;
      takes = joined_takes by_or d0 e h t a end.now j.takes;
    }
joins_or labels waiting text more next rest old d0 d1 d2 left (Err x) e h t m q a d = joined_stops by_or d0 e h t a x.left d

-- the same reading, by another name of the draft before it
pub from_draft : {X Y : Type 0} {write : X → List ℕ} {drafted : X → List ℕ → Draft → Draft} {from to : Y → State} {text rest : List ℕ} {d e new : Draft} → d ≡ e → Parsed write drafted from to text rest d new → Parsed write drafted from to text rest e new
from_draft {drafted = drafted} {rest = rest} q p = record { tree = p.tree; reads = p.reads; made = p.made ∙ ap (drafted p.tree rest) q; takes = p.takes }

pub linked_made : (a : Axis) (old d1 d2 : Draft) (before here : ℕ) → before ≡ root old → here ≡ root d1 → d2 ≡ added (part (Step a) here before) d1 → d2 ≡ linked a old d1
linked_made a old d1 d2 before here p h m = m ∙ ap (λ (l : ℕ). added (part (Step a) l before) d1) h ∙ ap (λ (l : ℕ). added (part (Step a) (root d1) l) d1) p
