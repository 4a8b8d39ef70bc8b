-- Cuts: how the rows of the bytes follow from where the first line end stands.
use Rattle.std.proofs.Common.{◌≡◌, ◌≢◌, ℕ, zero, suc, ◌+◌, ◌-◌, ◌<◌, ◌≤◌, Bool, true, false, cond, eqb, List, [], ◌∷◌, ◌++◌, length, get_or, take, drop, is_some, Some, option_map, sym, refl, ap, ◌∙◌, ⊎_elim, append-nil, append_assoc, length-append, length-take, length-take-le, add-one, arith}
use Rattle.std.proofs.lemmas.List.{take_rest, take-take, get_or-take, drop-take}
use Rattle.std.proofs.lemmas.List.Sums.{sum_by-cons, sum_by-append, sum_by_push}
use Rattle.std.specs.List.{sum_by, position, position_from}
use Rattle.std.specs.Str.{bytes_eq}
use Rattle.std.proofs.lemmas.Bool.{eq-eqb, ne_eqb, cases_eq}
use Rattle.std.proofs.lemmas.Iterator.Adapters.{position_from-zero}
use Rattle.names.specs.Sheet.{rows_after, rows, label_from, label_in, repeat_after, first_repeat}

-- the byte that ends a row, and one that does not
pub row_end : (b : ℕ) (row t : List ℕ) → b ≡ 10 → rows_after row (b ∷ t) ≡ row ∷ rows t
row_end b row t e = ap (λ (v : Bool). cond v (row ∷ rows t) (rows_after (row ++ (b ∷ [])) t)) (eq-eqb b 10 e)

pub row_byte : (b : ℕ) (row t : List ℕ) → b ≢ 10 → rows_after row (b ∷ t) ≡ rows_after (row ++ (b ∷ [])) t
row_byte b row t n = ap (λ (v : Bool). cond v (row ∷ rows t) (rows_after (row ++ (b ∷ [])) t)) (ne_eqb b 10 n)

-- The first row ends at the first line end.
row_at_from : (row t : List ℕ) (i : ℕ) → i < length t → get_or t i 0 ≡ 10 → ((k : ℕ) → k < i → get_or t k 0 ≢ 10) → rows_after row t ≡ (row ++ take i t) ∷ rows (drop (suc i) t)
row_at_from row [] i inside e before = absurd (omega arith)
row_at_from row (b ∷ t) zero inside e before = row_end b row t e ∙ ap (λ (r : List ℕ). r ∷ rows t) (sym (append-nil row))
row_at_from row (b ∷ t) (suc i) inside e before =
    row_byte b row t (before 0 (omega arith)) ∙ row_at_from (row ++ (b ∷ [])) t i (omega arith) e (λ k below. before (suc k) (omega arith)) ∙ ap (λ (r : List ℕ). r ∷ rows (drop (suc i) t)) (append_assoc row (b ∷ []) (take i t))

-- what is left of the bytes, as the slice after the line end has it
pub row_at : (t : List ℕ) (i : ℕ) → i < length t → get_or t i 0 ≡ 10 → ((k : ℕ) → k < i → get_or t k 0 ≢ 10) → rows t ≡ take i t ∷ rows (take (length t - (i + 1)) (drop (i + 1) t))
row_at t i inside e before = row_at_from [] t i inside e before ∙ simp (take_rest, add-one)

no_row_from : (row t : List ℕ) → ((k : ℕ) → k < length t → get_or t k 0 ≢ 10) → rows_after row t ≡ []
no_row_from row [] none = refl
no_row_from row (b ∷ t) none = row_byte b row t (none 0 (omega arith)) ∙ no_row_from (row ++ (b ∷ [])) t (λ k below. none (suc k) (omega arith))

pub no_row : (t : List ℕ) → ((k : ℕ) → k < length t → get_or t k 0 ≢ 10) → rows t ≡ []
no_row t none = no_row_from [] t none

-- no more rows than bytes
rows_few : (row t : List ℕ) → length (rows_after row t) ≤ length t
rows_few row [] = omega arith
rows_few row (b ∷ t) = by (eqb b 10) (rows_few [] t) (rows_few (row ++ (b ∷ [])) t)
  where
    by : (v : Bool) → length (rows t) ≤ length t → length (rows_after (row ++ (b ∷ [])) t) ≤ length t → length (cond v (row ∷ rows t) (rows_after (row ++ (b ∷ [])) t)) ≤ length (b ∷ t)
    by true x y = omega arith
    by false x y = omega arith

pub few_rows : (t : List ℕ) → length (rows t) ≤ length t
few_rows t = rows_few [] t

-- The label of a name: one more than its place among the rows.
label_from_place : (k i : ℕ) (ns : List (List ℕ)) (n : List ℕ) → label_from (k + i) ns n ≡ option_map (λ j. j + k) (position_from (λ r. bytes_eq r n) i ns)
label_from_place k i [] n = refl
label_from_place k i (m ∷ ns) n = by (bytes_eq m n) (label_from_place k (i + 1) ns n)
  where
    by : (v : Bool) → label_from (k + (i + 1)) ns n ≡ option_map (λ j. j + k) (position_from (λ r. bytes_eq r n) (i + 1) ns) → cond v (Some (k + i)) (label_from (k + i + 1) ns n) ≡ option_map (λ j. j + k) (cond v (Some i) (position_from (λ r. bytes_eq r n) (i + 1) ns))
    by true e = ap Some (omega arith)
    by false e = let q : k + i + 1 ≡ k + (i + 1) = omega arith in ap (λ (l : ℕ). label_from l ns n) q ∙ e

pub label_place : (t n : List ℕ) → label_in t n ≡ option_map (λ i. i + 1) (position (λ r. bytes_eq r n) (rows t))
label_place t n = label_from_place 1 0 (rows t) n ∙ ap (option_map (λ i. i + 1)) (sym (position_from-zero (λ r. bytes_eq r n) (rows t)))

-- where the first row ends, read off the rows
record First (row t n : List ℕ) (ms : List (List ℕ)) : Type 0 where
  at : ℕ
  inside : at < length t
  ends : get_or t at 0 ≡ 10
  before : (k : ℕ) → k < at → get_or t k 0 ≢ 10
  text : n ≡ row ++ take at t
  later : ms ≡ rows (drop (suc at) t)

no_first : (n : List ℕ) (ms : List (List ℕ)) → [] ≡ n ∷ ms → ⊥
no_first n ms e = let z : ◌≡◌ {A = ℕ} 0 1 = cc in omega arith

before_more : (b : ℕ) (t : List ℕ) (i : ℕ) → b ≢ 10 → ((k : ℕ) → k < i → get_or t k 0 ≢ 10) → (k : ℕ) → k < suc i → get_or (b ∷ t) k 0 ≢ 10
before_more b t i n h zero l = n
before_more b t i n h (suc k) l = h k (omega arith)

first_here : (row t n : List ℕ) (b : ℕ) (ms : List (List ℕ)) → b ≡ 10 → row ∷ rows t ≡ n ∷ ms → First row (b ∷ t) n ms
first_here row t n b ms q e = record { at = 0; inside = omega arith; ends = q; before = λ k h. absurd (omega arith); text = let h : n ≡ row = cc in h ∙ sym (append-nil row); later = cc }

first_later : (row t n : List ℕ) (b : ℕ) (ms : List (List ℕ)) → b ≢ 10 → First (row ++ (b ∷ [])) t n ms → First row (b ∷ t) n ms
first_later row t n b ms q f =
    record { at = suc f.at; inside = omega (arith, f.inside); ends = f.ends; before = before_more b t f.at q f.before; text = f.text ∙ append_assoc row (b ∷ []) (take f.at t); later = f.later }

first : (row t n : List ℕ) (ms : List (List ℕ)) → rows_after row t ≡ n ∷ ms → First row t n ms
first row [] n ms e = absurd (no_first n ms e)
first row (b ∷ t) n ms e = ⊎_elim (λ q. first_here row t n b ms q (sym (row_end b row t q) ∙ e)) (λ q. first_later row t n b ms q (first (row ++ (b ∷ [])) t n ms (sym (row_byte b row t q) ∙ e))) (cases_eq b 10)

-- how many bytes rows take, with their line ends
abbrev pub spread : List (List ℕ) → ℕ
spread ns = sum_by (λ n. length n + 1) ns

spread_from : (row t : List ℕ) → spread (rows_after row t) ≤ length row + length t
spread_from row [] = omega arith
spread_from row (b ∷ t) = by (eqb b 10) (spread_from [] t) (spread_from (row ++ (b ∷ [])) t)
  where
    by : (v : Bool) → spread (rows t) ≤ 0 + length t → spread (rows_after (row ++ (b ∷ [])) t) ≤ length (row ++ (b ∷ [])) + length t → spread (cond v (row ∷ rows t) (rows_after (row ++ (b ∷ [])) t)) ≤ length row + length (b ∷ t)
    by true x y = omega (arith, x, sum_by-cons (λ n. length n + 1) row (rows t))
    by false x y = omega (arith, y, length-append row (b ∷ []))

-- the bytes of the first rows have just these rows
one_more_row : (ns : List (List ℕ)) (t n : List ℕ) (ms : List (List ℕ)) (f : First [] t n ms) → rows (take (spread ns) (drop (suc f.at) t)) ≡ ns → rows (take (spread (n ∷ ns)) t) ≡ n ∷ ns
one_more_row ns t n ms f ih =
    let i = f.at in
    let s = spread ns in
    let len : length n ≡ i = ap length f.text ∙ length-take-le i t (omega (arith, f.inside)) in
    let more : spread (n ∷ ns) ≡ suc i + s = omega (arith, len, sum_by-cons (λ m. length m + 1) n ns) in
    let u = take (suc i + s) t in
    let inside : i < length u = omega (arith, length-take (suc i + s) t, f.inside) in
    let ends : get_or u i 0 ≡ 10 = get_or-take (suc i + s) t i 0 (omega arith) ∙ f.ends in
    let before : (k : ℕ) → k < i → get_or u k 0 ≢ 10 = λ k h e. f.before k h (sym (get_or-take (suc i + s) t k 0 (omega arith)) ∙ e) in
    let text : take i u ≡ n = take-take i (suc i + s) t (omega arith) ∙ sym f.text in
    ap (λ (m : ℕ). rows (take m t)) more ∙ row_at_from [] u i inside ends before ∙ ap (λ (r : List ℕ). r ∷ rows (drop (suc i) u)) text ∙ ap (λ (r : List ℕ). n ∷ rows r) (drop-take (suc i) s t) ∙ ap (λ (r : List (List ℕ)). n ∷ r) ih

rows_before : (ns ms : List (List ℕ)) (t : List ℕ) → rows t ≡ ns ++ ms → rows (take (spread ns) t) ≡ ns
rows_before [] ms t e = refl
rows_before (n ∷ ns) ms t e = let f = first [] t n (ns ++ ms) e in one_more_row ns t n (ns ++ ms) f (rows_before ns ms (drop (suc f.at) t) (sym f.later))

-- Where a search for a repeat stands: `left` are the rows from `start` on, and none before them stands earlier too.
pub record Searched (t : List ℕ) (start : ℕ) (left : List (List ℕ)) : Type 0 where
  pub before : List (List ℕ)
  pub split : rows t ≡ before ++ left
  pub place : start ≡ spread before
  pub found : repeat_after before start left ≡ first_repeat (rows t)

searched_within : (t : List ℕ) (start : ℕ) (left : List (List ℕ)) → Searched t start left → start + spread left ≤ length t
searched_within t start left d = omega (arith, d.place, ap spread d.split, sum_by-append (λ n. length n + 1) d.before left, spread_from [] t)

pub searched_part : (t : List ℕ) (start : ℕ) (left : List (List ℕ)) → Searched t start left → start ≡ length (take start t)
searched_part t start left d = sym (length-take-le start t (omega (arith, searched_within t start left d)))

pub searched_row_within : (t row : List ℕ) (start : ℕ) (later : List (List ℕ)) → Searched t start (row ∷ later) → start + (length row + 1) ≤ length t
searched_row_within t row start later d = omega (arith, searched_within t start (row ∷ later) d, sum_by-cons (λ n. length n + 1) row later)

-- the next row, looked up in the bytes before it
looked_up : (t row : List ℕ) (start : ℕ) (later : List (List ℕ)) (d : Searched t start (row ∷ later)) → label_in (take start t) row ≡ label_from 1 d.before row
looked_up t row start later d = ap (λ (p : ℕ). label_in (take p t) row) d.place ∙ ap (λ (ns : List (List ℕ)). label_from 1 ns row) (rows_before d.before (row ∷ later) t d.split)

pub searched_row : (t row : List ℕ) (start : ℕ) (later : List (List ℕ)) → Searched t start (row ∷ later) → is_some (label_in (take start t) row) ≡ false → Searched t (start + (length row + 1)) later
searched_row t row start later d n =
    let e : is_some (label_from 1 d.before row) ≡ false = sym (ap is_some (looked_up t row start later d)) ∙ n in
    let k : start + length row + 1 ≡ start + (length row + 1) = omega arith in
    record {
      before = d.before ++ (row ∷ []);
      split = d.split ∙ sym (append_assoc d.before (row ∷ []) later);
      place = omega (arith, d.place, sum_by_push (λ m. length m + 1) d.before row);
      found = ap (λ (p : ℕ). repeat_after (d.before ++ (row ∷ [])) p later) (sym k) ∙ sym (ap (λ (v : Bool). cond v (Some start) (repeat_after (d.before ++ (row ∷ [])) (start + length row + 1) later)) e) ∙ d.found;
    }

pub searched_repeat : (t row : List ℕ) (start : ℕ) (later : List (List ℕ)) → Searched t start (row ∷ later) → is_some (label_in (take start t) row) ≡ true → Some start ≡ first_repeat (rows t)
searched_repeat t row start later d y =
    let e : is_some (label_from 1 d.before row) ≡ true = sym (ap is_some (looked_up t row start later d)) ∙ y in
    sym (ap (λ (v : Bool). cond v (Some start) (repeat_after (d.before ++ (row ∷ [])) (start + length row + 1) later)) e) ∙ d.found
