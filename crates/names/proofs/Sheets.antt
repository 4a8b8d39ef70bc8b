-- Sheets: a run's names are its rows, and each sheet has one answer.
use Rattle.std.proofs.Common.{◌≡◌, ◌≢◌, ℕ, zero, suc, ◌-◌, true, ◌&&◌, List, [], ◌∷◌, ◌++◌, length, Some, None, Ok, Err, Option, Result, sym, refl, ap, subst, ◌∙◌, append_assoc, append-nil, arith}
use Rattle.std.specs.Result.{result_err}
use Rattle.std.proofs.lemmas.Bool.{and_parts, false≢true}
use Rattle.model.specs.Names.{is_letter, is_name_byte, are_name_bytes}
use Rattle.grammar.specs.Machines.{Out, stops, taken}
use Rattle.grammar.proofs.Stopping.{one_place}
use Rattle.names.specs.declared.NamesFault.{NamesFault}
use Rattle.names.specs.declared.NamesFault.TheVariants.{TooMuch, BadName, Repeated}
use Rattle.names.specs.Sheet.{sheet_text, are_names, Run, Breaks, rows_after, rows, line_ends, first_repeat, repeated, Small, Accepted, RepeatsAt, Checked}
use Rattle.names.specs.Rule.{fresh, run, stopped}
use Rattle.names.specs.Held.{judged}
use Rattle.names.specs.Ranged.{rows_are_ends}
use Rattle.names.proofs.Cuts.{row_byte}
use Rattle.names.proofs.Places.{no_end, is_run, breaks}

no_end_letter : (b : ℕ) → is_letter b ≡ true → b ≢ 10
no_end_letter b e q = false≢true (sym (ap is_letter q) ∙ e)

rows_of_bytes : (k : ℕ) (row u t : List ℕ) → are_name_bytes k u ≡ true → rows_after row (u ++ (10 ∷ t)) ≡ (row ++ u) ∷ rows t
rows_of_bytes k row [] t e = ap (λ (r : List ℕ). r ∷ rows t) (sym (append-nil row))
rows_of_bytes zero row (b ∷ u) t e = absurd (false≢true e)
rows_of_bytes (suc k) row (b ∷ u) t e =
    let p = and_parts (is_name_byte b) (are_name_bytes k u) e in
    row_byte b row (u ++ (10 ∷ t)) (no_end b p.0) ∙ rows_of_bytes k (row ++ (b ∷ [])) u t p.1 ∙ ap (λ (r : List ℕ). r ∷ rows t) (append_assoc row (b ∷ []) u)

rows_of_names : (ns : List (List ℕ)) → are_names ns ≡ true → rows (sheet_text ns) ≡ ns
rows_of_names [] e = refl
rows_of_names ([] ∷ ns) e = absurd (false≢true e)
rows_of_names ((b ∷ u) ∷ ns) e =
    let p = and_parts (is_letter b && are_name_bytes 23 u) (are_names ns) e in
    let q = and_parts (is_letter b) (are_name_bytes 23 u) p.0 in
    row_byte b [] (u ++ (10 ∷ sheet_text ns)) (no_end_letter b q.0) ∙ rows_of_bytes 23 (b ∷ []) u (sheet_text ns) q.1 ∙ ap (λ (x : List (List ℕ)). (b ∷ u) ∷ x) (rows_of_names ns p.1)

rows_of : (t : List ℕ) (r : Run t) → rows t ≡ r.names
rows_of t r = ap rows r.written ∙ rows_of_names r.names r.lawful

-- What the two steps of a check say of a small sheet.
ok_err : {A : Type 0} (u : A) (f : NamesFault) → Ok u ≡ Err f → ⊥
ok_err u f e = let z : ◌≡◌ {A = ℕ} 0 1 = cc in omega arith

pub is_taken : (t : List ℕ) (u : Unit {0}) → Ok u ≡ stopped (length t) (run fresh t) → run fresh t ≡ taken
is_taken t u e = by (run fresh t) e
  where
    by : (o : Out) → Ok u ≡ stopped (length t) o → o ≡ taken
    by taken e = refl
    by (stops left) e = absurd (ok_err u (BadName (length t - left)) e)

pub is_apart : (o : Option ℕ) (u : Unit {0}) → Ok u ≡ repeated o → None ≡ o
is_apart None u e = refl
is_apart (Some p) u e = absurd (ok_err u (Repeated p) e)

pub broken_at : (t : List ℕ) (f : NamesFault) → Small t → Err f ≡ stopped (length t) (run fresh t) → Checked t (Err f)
broken_at t f s e = by (run fresh t) refl e
  where
    by : (o : Out) → run fresh t ≡ o → Err f ≡ stopped (length t) o → Checked t (Err f)
    by taken q e = absurd (ok_err tt f (sym e))
    by (stops left) q e = let k : BadName (length t - left) ≡ f = cc in subst (λ (g : NamesFault). Checked t (Err g)) k (s, breaks t left q)

pub repeats : (t : List ℕ) (f : NamesFault) → Small t → run fresh t ≡ taken → Err f ≡ repeated (first_repeat (rows t)) → Checked t (Err f)
repeats t f s h e = by (first_repeat (rows t)) refl e
  where
    by : (o : Option ℕ) → first_repeat (rows t) ≡ o → Err f ≡ repeated o → Checked t (Err f)
    by None q e = absurd (ok_err tt f (sym e))
    by (Some p) q e =
        let k : Repeated p ≡ f = cc in
        let r = is_run t h in
        subst (λ (g : NamesFault). Checked t (Err g)) k (record { small = s; run = r; repeat = sym (ap first_repeat (rows_of t r)) ∙ q })

pub accepted : (t : List ℕ) (n : ℕ) → Small t → run fresh t ≡ taken → None ≡ first_repeat (rows t) → n ≡ line_ends t → Accepted t n
accepted t n s e d h =
    let r = is_run t e in
    record { small = s; run = r; labelled = rows_of t r; apart = sym (d ∙ ap first_repeat (rows_of t r)); number = h ∙ sym (rows_are_ends [] t) ∙ ap length (rows_of t r) }

-- One answer: no two meet the definition for the same bytes.
run_or_break : (t : List ℕ) (p : ℕ) → Run t → Breaks t p → ⊥
run_or_break t p r b = b.whole r

same_names : (t : List ℕ) (a b : Run t) → a.names ≡ b.names
same_names t a b = sym (rows_of t a) ∙ rows_of t b

none_some : (o : Option ℕ) (p : ℕ) → o ≡ None → o ≡ Some p → ⊥
none_some o p e d = let z : ◌≡◌ {A = ℕ} 0 1 = cc in omega arith

apart_or_repeats : (t : List ℕ) (n p : ℕ) → Accepted t n → RepeatsAt t p → ⊥
apart_or_repeats t n p a r = none_some (first_repeat r.run.names) p (ap first_repeat (same_names t r.run a.run) ∙ a.apart) r.repeat

one_repeat : (t : List ℕ) (p q : ℕ) → RepeatsAt t p → RepeatsAt t q → p ≡ q
one_repeat t p q a b = let e = ap first_repeat (same_names t a.run b.run) in let x = a.repeat in let y = b.repeat in cc

one_answer : (t : List ℕ) (a b : Result ℕ NamesFault) → Checked t a → Checked t b → a ≡ b
one_answer t (Ok n) (Ok m) x y = ap Ok (x.number ∙ ap length (same_names t x.run y.run) ∙ sym y.number)
one_answer t (Ok n) (Err TooMuch) x y = absurd (y x.small)
one_answer t (Ok n) (Err (BadName p)) x y = absurd (run_or_break t p x.run y.1)
one_answer t (Ok n) (Err (Repeated p)) x y = absurd (apart_or_repeats t n p x y)
one_answer t (Err TooMuch) (Ok m) x y = absurd (x y.small)
one_answer t (Err TooMuch) (Err TooMuch) x y = refl
one_answer t (Err TooMuch) (Err (BadName q)) x y = absurd (x y.0)
one_answer t (Err TooMuch) (Err (Repeated q)) x y = absurd (x y.small)
one_answer t (Err (BadName p)) (Ok m) x y = absurd (run_or_break t p y.run x.1)
one_answer t (Err (BadName p)) (Err TooMuch) x y = absurd (y x.0)
one_answer t (Err (BadName p)) (Err (BadName q)) x y = ap (λ (k : ℕ). Err (BadName k)) (one_place Run t q p y.1 x.1)
one_answer t (Err (BadName p)) (Err (Repeated q)) x y = absurd (run_or_break t p y.run x.1)
one_answer t (Err (Repeated p)) (Ok m) x y = absurd (apart_or_repeats t m p y x)
one_answer t (Err (Repeated p)) (Err TooMuch) x y = absurd (y x.small)
one_answer t (Err (Repeated p)) (Err (BadName q)) x y = absurd (run_or_break t q x.run y.1)
one_answer t (Err (Repeated p)) (Err (Repeated q)) x y = ap (λ (k : ℕ). Err (Repeated k)) (one_repeat t p q x y)

pub only : (t : List ℕ) (r : Result ℕ NamesFault) → Checked t r → (other : Result ℕ NamesFault) → Checked t other → other ≡ r
only t r a other x = one_answer t other r x a

number_is : (t : List ℕ) (n : ℕ) → Accepted t n → n ≡ line_ends t
number_is t n a = a.number ∙ sym (ap length (rows_of t a.run)) ∙ rows_are_ends [] t

-- what a sheet's fault and line ends say of its check
pub judged_is : (t : List ℕ) (r : Result ℕ NamesFault) → Checked t r → judged (result_err r) (line_ends t) ≡ r
judged_is t (Ok n) a = ap Ok (sym (number_is t n a))
judged_is t (Err f) a = refl
