-- Made: the query that a table reads as, by its last part and by what the parts count.
use Rattle.std.proofs.Common.{◌≡◌, ◌&&◌, true≢false, ℕ, ◌+◌, ◌-◌, ◌<◌, ◌≤◌, Bool, true, false, cond, leb, List, length, take, sym, refl, ap, ◌∙◌, subst, ⊎_elim, arith, lit≤, Option, Some, None}
use Rattle.std.proofs.lemmas.List.{length-take-le, take_all}
use Rattle.std.proofs.lemmas.List.Sums.{AllPass-from_list_all, list_all-from_AllPass}
use Rattle.std.specs.Bool.{then_some}
use Rattle.std.specs.List.{AllPass, list_all}
use Rattle.std.specs.Option.{MatchOption}
use Rattle.std.proofs.lemmas.Bool.Decides.{nat_tests}
use Rattle.std.proofs.lemmas.Bool.{and_parts, cases_lt, cond_both, le-leb}
use Rattle.model.specs.Limits.{most_length, places}
use Rattle.model.specs.Query.{Path, path_length}
use Rattle.table.specs.declared.part.Part.{Part}
use Rattle.table.specs.Reading.{itself, last_place, reading}
use Rattle.table.specs.Formulas.{ends_in_step}
use Rattle.table.specs.Lawful.{LawfulQuery, path_labelled, parts_in, narrow, fit, checked_reading, EveryTableIsLawful, PastTheQueryNothingCounts}
use Rattle.table.specs.Lengths.{path_cost, cost_at, capped, too_much}
use Rattle.table.specs.Held.{EndsAt, Fitting}
use Rattle.table.proofs.Lawful.{path_sound, path_free, path_some}
use Rattle.table.proofs.Whole.{whole_query, no_step, no_last, last_stays, reading_stays, step_stays}

pub then_some_both : {A : Type 0} (b : Bool) (x : A) → (P : Option A → Type 0) → (b ≡ true → P (Some x)) → (b ≡ false → P None) → P (then_some b x)
then_some_both true x P f g = f refl
then_some_both false x P f g = g refl

module _ (table : List Part) where
  abbrev q : Path
  q = reading table

  pub stays_itself : q ≡ itself → checked_reading table ≡ itself
  stays_itself e = cond_both (fit table) q itself (λ p. p ≡ itself) (λ _. e) (λ _. refl)

  fit_parts : fit table ≡ true → Fitting table (parts_in table) (path_length q)
  fit_parts e =
      let a = and_parts ((leb (path_length q) most_length && path_labelled q) && leb (parts_in table) (places (path_length q))) (list_all narrow (take (parts_in table) table)) e in
      let k = a.0 in
      let s : path_length q ≤ most_length = grind (arith, nat_tests) in
      let b : path_labelled q ≡ true = grind (arith, nat_tests) in
      let f : parts_in table ≤ places (path_length q) = grind (arith, nat_tests) in
      record { measured = refl; short = s; labelled = b; few = f; narrow_parts = AllPass-from_list_all narrow (take (parts_in table) table) a.1 }

  pub unfit : (Fitting table (parts_in table) (path_length q) → ⊥) → checked_reading table ≡ itself
  unfit never = cond_both (fit table) q itself (λ p. p ≡ itself) (λ e. absurd (never (fit_parts e))) (λ _. refl)

  pub not_there : length table ≤ last_place table → checked_reading table ≡ itself
  not_there h = stays_itself (no_last table h)

  pub not_a_step : last_place table < length table → ends_in_step table ≡ false → checked_reading table ≡ itself
  not_a_step h e = stays_itself (no_step table h e)

  pub too_many : 97 ≤ last_place table → checked_reading table ≡ itself
  too_many h = unfit (λ f. omega (arith, f.short, f.few))

  pub fits : (n l : ℕ) → Fitting table n l → n ≡ parts_in table → q ≡ checked_reading table
  fits n l f e =
      let m = f.measured in
      let short : leb (path_length q) most_length ≡ true = le-leb (path_length q) most_length (omega (arith, f.short)) in
      let few : leb (parts_in table) (places (path_length q)) ≡ true = le-leb (parts_in table) (places (path_length q)) (omega (arith, f.few)) in
      let small : list_all narrow (take (parts_in table) table) ≡ true = list_all-from_AllPass narrow (take (parts_in table) table) (subst (λ (i : ℕ). AllPass narrow (take i table)) e f.narrow_parts) in
      simp (short, f.labelled, few, small)

  -- Parts that read as a lawful query, are few enough and narrow hold it.
  pub holds : (p : Path) → q ≡ p → path_length p ≤ most_length → path_labelled p ≡ true → parts_in table ≤ places (path_length p) → AllPass narrow (take (parts_in table) table) → checked_reading table ≡ p
  holds p e s b f w =
      let k = ap path_length e in
      sym (fits (parts_in table) (path_length q) (record { measured = refl; short = omega arith; labelled = ap path_labelled e ∙ b; few = omega arith; narrow_parts = w }) refl) ∙ e

  -- what the last part counts is what the query counts
  whole_cost : (n : ℕ) → EndsAt table n → cost_at table (n - 1) ≡ path_cost q
  whole_cost n e =
      let k : n - 1 ≡ last_place table = omega (arith, e.number) in
      cc (k, whole_query table (omega (arith, e.number, e.within)) e.step)

  -- The length l is that of the lawful query of n parts, if it is small enough and they are few enough.
  abbrev Measured : ℕ → ℕ → Type 0
  Measured n l = MatchOption (then_some (leb l most_length && leb n (places l)) l) (checked_reading table ≡ itself) (Fitting table n)

  -- What the last part counts is such a length, and so is too much where not all parts are narrow.
  pub measured : (n l : ℕ) → EndsAt table n → l ≡ cond (list_all narrow (take n table)) (capped (cost_at table (n - 1))) too_much → Measured n l
  measured n l e c =
      cond_both (list_all narrow (take n table)) (capped (cost_at table (n - 1))) too_much (λ x. l ≡ x → Measured n l) narrow_all wide c
    where
      narrow_all : list_all narrow (take n table) ≡ true → l ≡ capped (cost_at table (n - 1)) → Measured n l
      narrow_all w c = then_some_both (leb l most_length && leb n (places l)) l (λ o. MatchOption o (checked_reading table ≡ itself) (Fitting table n)) fitting other
        where
          fitting : (leb l most_length && leb n (places l)) ≡ true → Fitting table n l
          fitting k =
              let h = whole_cost n e in
              let a : l ≤ most_length = grind (arith, nat_tests) in
              let s = path_sound q (omega arith) in
              record { measured = omega (arith, s.0); short = a; labelled = s.1; few = grind (arith, nat_tests); narrow_parts = AllPass-from_list_all narrow (take n table) w }

          other : (leb l most_length && leb n (places l)) ≡ false → checked_reading table ≡ itself
          other k = unfit (λ f. let h = whole_cost n e in let g = path_free q f.labelled in let m = e.number in let s = f.short in let d = f.few in grind (arith, nat_tests))

      wide : list_all narrow (take n table) ≡ false → l ≡ too_much → Measured n l
      wide w c = then_some_both (leb l most_length && leb n (places l)) l (λ o. MatchOption o (checked_reading table ≡ itself) (Fitting table n))
          (λ k. let a : l ≤ most_length = grind (arith, nat_tests) in absurd (omega arith))
          (λ k. unfit (λ f. true≢false (sym (list_all-from_AllPass narrow (take n table) (subst (λ (i : ℕ). AllPass narrow (take i table)) (sym e.number) f.narrow_parts)) ∙ w)))

-- Theorems over every table.
itself_lawful : LawfulQuery itself
itself_lawful = record { some = lit≤ tt; short = lit≤ tt; labelled = refl }

pub every_table_is_lawful : EveryTableIsLawful
every_table_is_lawful table =
    let q = reading table in
    let lawful : fit table ≡ true → LawfulQuery q = λ e. let a = fit_parts table e in record { some = path_some q; short = a.short; labelled = a.labelled } in
    cond_both (fit table) q itself LawfulQuery lawful (λ _. itself_lawful)

-- the cut to the query's parts reads as the table does, whether or not they are all there
cut_reading : (table : List Part) → reading (take (parts_in table) table) ≡ reading table
cut_reading table =
    ⊎_elim (λ (h : last_place table < length table). reading_stays table (parts_in table) (omega arith) (omega arith)) (λ (h : length table ≤ last_place table). ap reading (take_all (parts_in table) table (omega arith))) (cases_lt (last_place table) (length table))

cut_last : (table : List Part) → last_place (take (parts_in table) table) ≡ last_place table
cut_last table = last_stays table (parts_in table) (omega arith)

pub past_the_query_nothing_counts : PastTheQueryNothingCounts
past_the_query_nothing_counts table other e =
    let n = parts_in table in
    let k : last_place other ≡ last_place table = sym (last_stays other n (omega arith)) ∙ ap last_place e ∙ cut_last table in
    let w : take (parts_in other) other ≡ take n table = ap (λ (x : ℕ). take (x + 1) other) k ∙ e in
    let r : reading other ≡ reading table = sym (cut_reading other) ∙ ap reading w ∙ cut_reading table in
    cc

-- The query's parts alone are a table of that query.
pub cut : (table : List Part) (n : ℕ) → EndsAt table n → let parts = take n table in EndsAt parts (length parts) × (checked_reading parts ≡ checked_reading table)
cut table n a =
    let k : last_place table < n = omega (arith, a.number) in
    let w = length-take-le n table a.within in
    let whole : take (parts_in table) (take n table) ≡ take (parts_in table) table = rw (← a.number) (take_all n (take n table) (omega (arith, w))) in (
      record { number = omega (arith, last_stays table n (omega arith), w, a.number); within = omega arith; few = omega (arith, w, a.few); step = step_stays table n k ∙ a.step },
      past_the_query_nothing_counts table (take n table) whole,
    )
