-- The answers to the questions, from what the levels and labels of a roll store say.
use Rattle.std.proofs.Common.{Bor, ◌≡◌, ◌≢◌, ℕ, ◌+◌, ◌-◌, ◌<◌, ◌≤◌, Bool, true, false, eqb, ltb, List, length, get_or, take, drop, Some, None, Option, sym, refl, ap, ◌∙◌, ⊎_elim, arith, length-drop}
use Rattle.std.specs.Bool.{then_some}
use Rattle.std.specs.List.{slice_get}
use Rattle.std.specs.Option.{MatchOption, option_copied}
use Rattle.std.specs.Slice.{IsItemAt}
use Rattle.std.proofs.lemmas.List.{get_or-take, get_or-drop, length-take-le, take_rest}
use Rattle.std.proofs.lemmas.Bool.{cases_eq, cases_lt, le-ltb, ltb-true, ltb-false, eqb-true, eqb-false, cond-false}
use Rattle.std.proofs.lemmas.Option.{slice_get-get_or, slice_get_past, slice_get_read}
use Rattle.model.specs.Receipt.{Receipt, count_of, label_at, label_of, level_at, level_of, within, parent_of, first_child_of, next_sibling_of, previous_sibling_of}
use Rattle.model.proofs.Relatives.{inside, nearest_is, parent_some}
use Rattle.model.proofs.Siblings.{child_next, no_child, next_found, next_none, previous_found, previous_none, first_alone}
use Rattle.roll.specs.Deeper.{Deeper}
use Rattle.roll.specs.Held.{receipt_of}
use Rattle.roll.specs.declared.Roll.{Roll}
use Rattle.roll.proofs.Elements.{told_count, told_level, told_label}

either : (P : Option ℕ → Type 0) (b : Bool) (q : ℕ) → (b ≡ true → P (Some q)) → (b ≡ false → P None) → P (then_some b q)
either P true q t f = t refl
either P false q t f = f refl

-- What stands in the part of a list from k on.
part : (xs : List ℕ) (k m j : ℕ) → k + m ≡ j → get_or (take (length xs - k) (drop k xs)) m 0 ≡ get_or xs j 0
part xs k m j e = ap (λ ys. get_or ys m 0) (take_rest xs k) ∙ get_or-drop k xs m 0 ∙ ap (λ n. get_or xs n 0) e

-- What `get` found.
pub copied_got : (xs : List ℕ) (i : ℕ) (o : Option (Bor ℕ)) → IsItemAt xs i o → option_copied o ≡ slice_get xs i
copied_got xs i None f = sym (slice_get_past xs i f.3)
copied_got xs i (Some x) f = sym (slice_get_read xs (length xs) i x.now refl f.3.0 f.1)

pub mapped_got : (xs : List ℕ) (i : ℕ) (o : Option (Bor ℕ)) (q : Option ℕ) → IsItemAt xs i o → MatchOption o (q ≡ None) (λ x. q ≡ Some x.now) → q ≡ slice_get xs i
mapped_got xs i None q f e = e ∙ copied_got xs i None f
mapped_got xs i (Some x) q f e = e ∙ copied_got xs i (Some x) f

module _ (s : Roll) where
  abbrev r : Receipt
  r = receipt_of s

  abbrev at : ℕ → ℕ
  at j = get_or s.levels.now j 0

  pub counted : count_of r ≡ length s.levels.now
  counted = told_count s.levels.now s.labels.now s.depth s.paired

  leveled : (j : ℕ) → j < length s.levels.now → level_at r j ≡ at j
  leveled = told_level s.levels.now s.labels.now s.depth s.paired

  -- Beyond the last element an answer is absent.
  pub beyond : (i : ℕ) (o : Option ℕ) → length s.levels.now ≤ i → None ≡ within r i o
  beyond i o h = let n = counted in sym (cond-false (ltb i (count_of r)) o None (le-ltb i (count_of r) (omega arith)))

  pub level_told : (i : ℕ) → slice_get s.levels.now i ≡ level_of r i
  level_told i =
      let n = counted in
      ⊎_elim
      (λ (h : i < length s.levels.now). slice_get-get_or s.levels.now i 0 h ∙ sym (inside r i (Some (level_at r i)) (omega arith) ∙ ap Some (leveled i h)))
      (λ h. slice_get_past s.levels.now i h ∙ beyond i (Some (level_at r i)) h)
      (cases_lt i (length s.levels.now))

  pub label_told : (i : ℕ) → slice_get s.labels.now i ≡ label_of r i
  label_told i =
      let n = counted in
      let p = s.paired in
      ⊎_elim
      (λ (h : i < length s.levels.now). slice_get-get_or s.labels.now i 0 (omega arith) ∙ sym (inside r i (Some (label_at r i)) (omega arith) ∙ ap Some (told_label s.levels.now s.labels.now s.depth s.paired i h)))
      (λ h. slice_get_past s.labels.now i (omega arith) ∙ beyond i (Some (label_at r i)) h)
      (cases_lt i (length s.levels.now))

  module _ (i : ℕ) (h : i < length s.levels.now) where
    module _ (v : ℕ) (here : v ≡ at i) where
      -- The first child is the next element, if it is deeper.
      pub child_told : (u : ℕ) → i + 1 < length s.levels.now → u ≡ at (i + 1) → then_some (ltb v u) (i + 1) ≡ first_child_of r i
      child_told u k next =
          let n = counted in
          let a = leveled i h in
          let b = leveled (i + 1) k in
          either (λ o. o ≡ first_child_of r i) (ltb v u) (i + 1)
          (λ t. let deep = ltb-true v u t in sym (child_next r s.lawful i (omega arith) (omega arith)))
          (λ t. let flat = ltb-false v u t in sym (no_child r s.lawful i (omega arith) (λ b'. omega arith)))

      pub no_child_told : length s.levels.now ≤ i + 1 → None ≡ first_child_of r i
      no_child_told k = let n = counted in sym (no_child r s.lawful i (omega arith) (λ b. absurd (omega arith)))

      -- The next sibling is the first later element that is no deeper, if it is at the same level.
      next_by : (q : ℕ) → i < q → q < length s.levels.now → at q ≤ v → ((j : ℕ) → i < j → j < q → v < at j) → then_some (eqb (at q) v) q ≡ next_sibling_of r i
      next_by q k b low deeper =
          let n = counted in
          let a = leveled i h in
          let c = leveled q b in
          let deep : (j : ℕ) → i < j → j < q → level_at r i < level_at r j = λ j p z. let x = leveled j (omega arith) in let y = deeper j p z in omega arith in
          either (λ o. o ≡ next_sibling_of r i) (eqb (at q) v) q
          (λ t. let e = eqb-true (at q) v t in sym (next_found r s.lawful i q k (omega arith) deep (omega arith)))
          (λ t. let e = eqb-false (at q) v t in sym (next_none r s.lawful i q k (omega arith) deep (λ b'. omega arith)))

      no_next_by : ((j : ℕ) → i < j → j < length s.levels.now → v < at j) → None ≡ next_sibling_of r i
      no_next_by deeper =
          let n = counted in
          let a = leveled i h in
          sym (next_none r s.lawful i (count_of r) (omega arith) (omega arith) (λ j p z. let x = leveled j (omega arith) in let y = deeper j p (omega arith) in omega arith) (λ b. absurd (omega arith)))

      -- the levels after the element
      abbrev after : List ℕ
      after = take (length s.levels.now - (i + 1)) (drop (i + 1) s.levels.now)

      after_long : length after ≡ length s.levels.now - (i + 1)
      after_long = ap length (take_rest s.levels.now (i + 1)) ∙ length-drop (i + 1) s.levels.now

      passed_after : (m : ℕ) → Deeper after v 0 m → (j : ℕ) → i < j → j < i + 1 + m → v < at j
      passed_after m deeper j a b = let p = part s.levels.now (i + 1) (j - (i + 1)) j (omega arith) in let x = deeper (j - (i + 1)) (omega arith) (omega arith) in omega arith

      pub next_told : (m : ℕ) → (m < length after) × (get_or after m 0 ≤ v) × Deeper after v 0 m → then_some (eqb (at (i + 1 + m)) v) (i + 1 + m) ≡ next_sibling_of r i
      next_told m f =
          let l = after_long in
          let p = part s.levels.now (i + 1) m (i + 1 + m) refl in
          next_by (i + 1 + m) (omega arith) (omega arith) (omega arith) (passed_after m f.2)

      pub no_next_told : Deeper after v 0 (length after) → None ≡ next_sibling_of r i
      no_next_told deeper = let l = after_long in no_next_by (λ j a b. passed_after (length after) deeper j a (omega arith))

      -- The previous sibling is the last earlier element that is no deeper, if it is at the same level.
      previous_by : (q : ℕ) → q < i → at q ≤ v → ((j : ℕ) → q < j → j < i → v < at j) → then_some (eqb (at q) v) q ≡ previous_sibling_of r i
      previous_by q k low deeper =
          let n = counted in
          let a = leveled i h in
          let c = leveled q (omega arith) in
          let deep : (j : ℕ) → q < j → j < i → level_at r i < level_at r j = λ j p z. let x = leveled j (omega arith) in let y = deeper j p z in omega arith in
          either (λ o. o ≡ previous_sibling_of r i) (eqb (at q) v) q
          (λ t. let e = eqb-true (at q) v t in sym (previous_found r s.lawful i q k (omega arith) deep (omega arith)))
          (λ t. let e = eqb-false (at q) v t in sym (previous_none r s.lawful i q k (omega arith) deep (omega arith)))

      -- The first element is at level 0, so only that one has nothing before it that is no deeper.
      no_previous_by : ((j : ℕ) → j < i → v < at j) → None ≡ previous_sibling_of r i
      no_previous_by deeper =
          let n = counted in
          ⊎_elim
          (λ (z : i ≡ 0). sym (first_alone r s.lawful i z (omega arith)))
          (λ ne. let x = deeper 0 (omega arith) in let f = s.lawful.first (omega arith) in let a = leveled 0 (omega arith) in absurd (omega arith))
          (cases_eq i 0)

      -- the levels before the element
      abbrev before : List ℕ
      before = take i s.levels.now

      before_long : length before ≡ i
      before_long = length-take-le i s.levels.now (omega arith)

      pub previous_told : (q : ℕ) → (q < length before) × (get_or before q 0 ≤ v) × Deeper before v (q + 1) (length before) → then_some (eqb (at q) v) q ≡ previous_sibling_of r i
      previous_told q f =
          let l = before_long in
          let p = get_or-take i s.levels.now q 0 (omega arith) in
          previous_by q (omega arith) (omega arith) (λ j a b. let x = get_or-take i s.levels.now j 0 b in let y = f.2 j (omega arith) (omega arith) in omega arith)

      pub no_previous_told : Deeper before v 0 (length before) → None ≡ previous_sibling_of r i
      no_previous_told deeper =
          let l = before_long in
          no_previous_by (λ j a. let x = get_or-take i s.levels.now j 0 a in let y = deeper j (omega arith) (omega arith) in omega arith)

      -- The parent is the nearest earlier element whose level is one less.
      one_up : (q : ℕ) → q < i → at q + 1 ≡ v → ((j : ℕ) → q < j → j < i → at j + 1 ≡ v → ⊥) → Some q ≡ parent_of r i
      one_up q k one apart =
          let n = counted in
          let a = leveled i h in
          let c = leveled q (omega arith) in
          sym (inside r i _ (omega arith) ∙ nearest_is r (level_at r i) i q k (omega arith) (λ j p z e. let x = leveled j (omega arith) in apart j p z (omega arith)))

      pub no_parent_told : ((j : ℕ) → j < i → at j + 1 ≡ v → ⊥) → None ≡ parent_of r i
      no_parent_told apart = none (parent_of r i) refl
        where
          none : (o : Option ℕ) → parent_of r i ≡ o → None ≡ o
          none None e = refl
          none (Some p) e =
              let n = counted in
              let f = parent_some r i p e in
              let a = leveled i h in
              let c = leveled p (omega arith) in
              absurd (apart p f.1 (omega arith))

      pub parent_told : (u : ℕ) → v ≡ u + 1 → (o : Option ℕ)
          → MatchOption o ((j : ℕ) → j < length before → get_or before j 0 ≢ u) (λ q. (q < length before) × (get_or before q 0 ≡ u) × ((j : ℕ) → q < j → j < length before → get_or before j 0 ≢ u))
          → o ≡ parent_of r i
      parent_told u up None none =
          let l = before_long in
          no_parent_told (λ j a e. let x = get_or-take i s.levels.now j 0 a in none j (omega arith) (omega arith))
      parent_told u up (Some q) f =
          let l = before_long in
          let y = get_or-take i s.levels.now q 0 (omega arith) in
          one_up q (omega arith) (omega arith) (λ j a b e. let x = get_or-take i s.levels.now j 0 b in f.2 j a (omega arith) (omega arith))
