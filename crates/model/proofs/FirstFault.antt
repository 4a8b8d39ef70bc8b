-- Which fault is the first that applies.
use Rattle.std.proofs.Common.{◌≡◌, ℕ, ◌≤◌, Bool, true, false, cond, ltb, List, Some, None, Option, refl, ◌∙◌, subst}
use Rattle.std.proofs.lemmas.Bool.{cond-true, cond-false, le-ltb, ltb-true}
use Rattle.std.proofs.lemmas.Option.{none-some, same_Some}
use Rattle.model.specs.declared.fault.RollFault.{RollFault}
use Rattle.model.specs.declared.fault.RollFault.TheVariants.{NoRoll, BadLayout, BadLevel, BadLabel, BadDepth}
use Rattle.model.specs.Receipt.{first_where}
use Rattle.model.specs.Reading.{depth_in, count_in, level_place, label_place, foreign, misplaced, level_breaks, label_breaks, greatest_depth, fault_at, reading_fault, FirstBreak, Applies}
use Rattle.model.proofs.Search.{first_some}
use Rattle.model.proofs.Firsts.{first_least}

-- What holds of the fault of each test holds of the fault that comes out.
by_test : (P : RollFault → Type 0) (b : Bool) (x : RollFault) (o : Option RollFault) → (b ≡ true → P x) → ((f : RollFault) → o ≡ Some f → P f) → (f : RollFault) → cond b (Some x) o ≡ Some f → P f
by_test P true x o here past f e = subst P (same_Some x f e) (here refl)
by_test P false x o here past f e = past f e

by_search : (P : RollFault → Type 0) (g : ℕ → RollFault) (o : Option ℕ) (next : Option RollFault) → ((i : ℕ) → o ≡ Some i → P (g i)) → ((f : RollFault) → next ≡ Some f → P f) → (f : RollFault) → fault_at g o next ≡ Some f → P f
by_search P g None next here past f e = past f e
by_search P g (Some i) next here past f e = subst P (same_Some (g i) f e) (here i refl)

module _ (bytes : List ℕ) where
  pub no_roll : foreign bytes ≡ true → reading_fault bytes ≡ Some NoRoll
  unfolding reading_fault
  no_roll a = cond-true (foreign bytes) (Some NoRoll) _ a

  pub bad_layout : foreign bytes ≡ false → misplaced bytes ≡ true → reading_fault bytes ≡ Some BadLayout
  unfolding reading_fault
  bad_layout a b = cond-false (foreign bytes) (Some NoRoll) _ a ∙ cond-true (misplaced bytes) (Some BadLayout) _ b

  pub no_fault : foreign bytes ≡ false → misplaced bytes ≡ false
      → first_where (level_breaks bytes) (count_in bytes) ≡ None → first_where (label_breaks bytes (count_in bytes)) (count_in bytes) ≡ None
      → depth_in bytes ≤ greatest_depth bytes (count_in bytes) → reading_fault bytes ≡ None
  unfolding reading_fault
  no_fault a b c d h = simp (a, b, c, d, le-ltb (greatest_depth bytes (count_in bytes)) (depth_in bytes) h)

  first_break : (breaks : ℕ → Bool) (place_of : ℕ → ℕ) (n i : ℕ) → first_where breaks n ≡ Some i → FirstBreak breaks place_of n (place_of i)
  first_break breaks place_of n i e = let s = first_some breaks n i e in record { rank = i; place = refl; within = s.0; broken = s.1; before = first_least breaks n i e }

  -- A fault says what it should.
  pub fault_applies : (f : RollFault) → reading_fault bytes ≡ Some f → Applies bytes f
  unfolding reading_fault
  fault_applies =
      by_test (Applies bytes) (foreign bytes) NoRoll _ (λ t. t)
      (by_test (Applies bytes) (misplaced bytes) BadLayout _ (λ t. t)
      (by_search (Applies bytes) (λ i. BadLevel (level_place i)) (first_where (level_breaks bytes) (count_in bytes)) _ (first_break (level_breaks bytes) level_place (count_in bytes))
      (by_search (Applies bytes) (λ i. BadLabel (label_place (count_in bytes) i)) (first_where (label_breaks bytes (count_in bytes)) (count_in bytes)) _ (first_break (label_breaks bytes (count_in bytes)) (label_place (count_in bytes)) (count_in bytes))
      (by_test (Applies bytes) (ltb (greatest_depth bytes (count_in bytes)) (depth_in bytes)) BadDepth None (ltb-true (greatest_depth bytes (count_in bytes)) (depth_in bytes)) (λ f none. absurd (none-some f none))))))
