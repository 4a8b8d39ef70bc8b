-- Places: the machine takes exactly the runs of names, so where it stops the bytes break them.
use Rattle.std.proofs.Common.{◌≡◌, ◌≢◌, ℕ, zero, suc, ◌-◌, ◌<◌, Bool, true, false, cond, ◌&&◌, ltb, List, [], ◌∷◌, ◌++◌, length, sym, refl, ap, ◌∙◌, ⊎_elim, arith}
use Rattle.std.proofs.lemmas.Bool.{eq-eqb, ne_eqb, lt-ltb, cases_eq, cases_Bool, and_parts, and_from, false≢true}
use Rattle.model.specs.Names.{is_letter, is_name_byte, are_name_bytes}
use Rattle.grammar.specs.Machines.{Next, dead, go, Out, taken, stops}
use Rattle.grammar.proofs.Stopping.{clash, breaks_in}
use Rattle.names.specs.Sheet.{sheet_text, are_names, Run, Breaks}
use Rattle.names.specs.Rule.{fresh, room_after, is_fresh, run}

-- what follows a byte that leaves this room
abbrev go_on : List ℕ → Next ℕ → Out
go_on t dead = stops (suc (length t))
go_on t (go r) = run r t

-- what a byte does, in each case
on_letter : (b : ℕ) → is_letter b ≡ true → room_after 24 b ≡ go 23
on_letter b e = ap (λ (v : Bool). cond v (go 23) dead) e

on_no_letter : (b : ℕ) → is_letter b ≡ false → room_after 24 b ≡ dead
on_no_letter b e = ap (λ (v : Bool). cond v (go 23) dead) e

on_end : (r : ℕ) → (r ≡ 24 → ⊥) → room_after r 10 ≡ go 24
on_end r n = ap (λ (v : Bool). cond v (cond (is_letter 10) (go (r - 1)) dead) (go 24)) (ne_eqb r 24 n)

-- inside a name, a byte that does not end it
inside : (r b : ℕ) → (r ≡ 24 → ⊥) → (b ≡ 10 → ⊥) → room_after r b ≡ cond (ltb 0 r && is_name_byte b) (go (r - 1)) dead
inside r b n m = simp (ne_eqb r 24 n, ne_eqb b 10 m)

inside_more : (k b : ℕ) → (suc k ≡ 24 → ⊥) → (b ≡ 10 → ⊥) → room_after (suc k) b ≡ cond (is_name_byte b) (go k) dead
inside_more k b n m =
    let l : ltb 0 (suc k) ≡ true = lt-ltb 0 (suc k) (omega arith) in
    let d : suc k - 1 ≡ k = omega arith in
    inside (suc k) b n m ∙ rw (l, d) refl

pub no_end : (b : ℕ) → is_name_byte b ≡ true → b ≢ 10
no_end b e q = false≢true (sym (ap is_name_byte q) ∙ e)

on_name_lem : (k b : ℕ) → (suc k ≡ 24 → ⊥) → is_name_byte b ≡ true → room_after (suc k) b ≡ go k
on_name_lem k b n e = inside_more k b n (no_end b e) ∙ ap (λ (v : Bool). cond v (go k) dead) e

-- Forward: each run of names is taken.
name_runs : (k : ℕ) (u t : List ℕ) → k < 24 → are_name_bytes k u ≡ true → run k (u ++ (10 ∷ t)) ≡ run 24 t
name_runs k [] t h e = ap (go_on t) (on_end k (λ q. omega arith))
name_runs zero (b ∷ u) t h e = absurd (false≢true e)
name_runs (suc k) (b ∷ u) t h e =
    let p = and_parts (is_name_byte b) (are_name_bytes k u) e in
    ap (go_on (u ++ (10 ∷ t))) (on_name_lem k b (λ q. omega arith) p.0) ∙ name_runs k u t (omega arith) p.1

names_run : (ns : List (List ℕ)) → are_names ns ≡ true → run 24 (sheet_text ns) ≡ taken
names_run [] e = refl
names_run ([] ∷ ns) e = absurd (false≢true e)
names_run ((b ∷ u) ∷ ns) e =
    let p = and_parts (is_letter b && are_name_bytes 23 u) (are_names ns) e in
    let q = and_parts (is_letter b) (are_name_bytes 23 u) p.0 in
    ap (go_on (u ++ (10 ∷ sheet_text ns))) (on_letter b q.0) ∙ name_runs 23 u (sheet_text ns) (omega arith) q.1 ∙ names_run ns p.1

run_taken : (t : List ℕ) → Run t → run fresh t ≡ taken
run_taken t r = ap (run 24) r.written ∙ names_run r.names r.lawful

-- Back: what is taken is a run of names, or the rest of a name and a run.
record Rest (r : ℕ) (t : List ℕ) : Type 0 where
  bytes : List ℕ
  lawful : are_name_bytes r bytes ≡ true
  after : List ℕ
  reads : t ≡ bytes ++ (10 ∷ after)
  run : Run after

abbrev Left : ℕ → List ℕ → Type 0
Left r t = (r ≡ 24 → Run t) × (r < 24 → Rest r t)

one_name : (b : ℕ) (t : List ℕ) → is_letter b ≡ true → Rest 23 t → Run (b ∷ t)
one_name b t e r =
    record {
      names = (b ∷ r.bytes) ∷ r.run.names;
      lawful = and_from (is_letter b && are_name_bytes 23 r.bytes) (are_names r.run.names) (and_from (is_letter b) (are_name_bytes 23 r.bytes) e r.lawful) r.run.lawful;
      written = ap (λ (u : List ℕ). b ∷ u) (r.reads ∙ ap (λ (u : List ℕ). r.bytes ++ (10 ∷ u)) r.run.written);
    }

more_name : (k b : ℕ) (t : List ℕ) → is_name_byte b ≡ true → Rest k t → Rest (suc k) (b ∷ t)
more_name k b t e r =
    record { bytes = b ∷ r.bytes; lawful = and_from (is_name_byte b) (are_name_bytes k r.bytes) e r.lawful; after = r.after; reads = ap (λ (u : List ℕ). b ∷ u) r.reads; run = r.run }

ended : (r b : ℕ) (t : List ℕ) → b ≡ 10 → Run t → Rest r (b ∷ t)
ended r b t e x = record { bytes = []; lawful = refl; after = t; reads = ap (λ (c : ℕ). c ∷ t) e; run = x }

refused : (t : List ℕ) (n : Next ℕ) → n ≡ dead → go_on t n ≡ taken → ⊥
refused t n e h = clash (suc (length t)) (sym (ap (go_on t) e) ∙ h)

abbrev Taken : List ℕ → Type 0
Taken t = (r : ℕ) → run r t ≡ taken → Left r t

at_start : (b : ℕ) (t : List ℕ) → Taken t → run 24 (b ∷ t) ≡ taken → Run (b ∷ t)
at_start b t ih h =
    ⊎_elim (λ e. one_name b t e ((ih 23 (sym (ap (go_on t) (on_letter b e)) ∙ h)).1 (omega arith))) (λ e. absurd (refused t (room_after 24 b) (on_no_letter b e) h)) (cases_Bool (is_letter b))

in_name : (r b : ℕ) (t : List ℕ) → Taken t → r < 24 → run r (b ∷ t) ≡ taken → Rest r (b ∷ t)
in_name r b t ih l h = ⊎_elim (λ e. ended r b t e ((ih 24 (sym (ap (go_on t) (ap (room_after r) e ∙ on_end r (λ q. omega arith))) ∙ h)).0 refl)) (λ n. goes_on r n l h) (cases_eq b 10)
  where
    byte : (k : ℕ) → (b ≡ 10 → ⊥) → suc k < 24 → run (suc k) (b ∷ t) ≡ taken → is_name_byte b ≡ false → ⊥
    byte k n l h e = refused t (room_after (suc k) b) (inside_more k b (λ q. omega arith) n ∙ ap (λ (v : Bool). cond v (go k) dead) e) h

    goes_on : (r : ℕ) → (b ≡ 10 → ⊥) → r < 24 → run r (b ∷ t) ≡ taken → Rest r (b ∷ t)
    goes_on zero n l h = absurd (refused t (room_after 0 b) (inside 0 b (λ q. omega arith) n) h)
    goes_on (suc k) n l h =
        ⊎_elim (λ e. more_name k b t e ((ih k (sym (ap (go_on t) (on_name_lem k b (λ q. omega arith) e)) ∙ h)).1 (omega arith))) (λ e. absurd (byte k n l h e)) (cases_Bool (is_name_byte b))

back : (t : List ℕ) → Taken t
back [] r h = (λ e. record { names = []; lawful = refl; written = refl }, λ l. absurd (clash 0 (sym (ap (λ (v : Bool). cond v taken (stops 0)) (ne_eqb r 24 (λ q. omega arith))) ∙ h)))
back (b ∷ t) r h = (λ e. at_start b t (back t) (sym (ap (λ (x : ℕ). run x (b ∷ t)) e) ∙ h), λ l. in_name r b t (back t) l h)

pub is_run : (t : List ℕ) → run fresh t ≡ taken → Run t
is_run t h = (back t 24 h).0 refl

ends_so : (r : ℕ) → (u : List ℕ) × (run r u ≡ taken)
ends_so r = ⊎_elim (λ (e : r ≡ 24). ([], ap (λ (v : Bool). cond v taken (stops 0)) (eq-eqb r 24 e))) (λ n. (10 ∷ [], ap (go_on []) (on_end r n))) (cases_eq r 24)

pub breaks : (t : List ℕ) (left : ℕ) → run fresh t ≡ stops left → Breaks t (length t - left)
breaks t left e = breaks_in room_after is_fresh ends_so Run fresh is_run run_taken t left e
