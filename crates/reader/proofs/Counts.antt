-- Counts: how far a text agrees with a word, and how many bytes of a name it begins with.
use Rattle.std.proofs.Common.{◌≡◌, ℕ, zero, suc, ◌+◌, ◌-◌, ◌<◌, ◌≤◌, Bool, cond, eqb, List, [], ◌∷◌, length, drop, Ok, Err, refl, ap, ◌∙◌, inl, inr, arith, Bor, zip}
use Rattle.std.specs.List.{prefix_len}
use Rattle.std.proofs.lemmas.Bool.{cases_Bool}
use Rattle.std.proofs.lemmas.Bool.Decides.{eqb_tells}
use Rattle.model.specs.Names.{is_name_byte}
use Rattle.grammar.specs.Machines.{dead}
use Rattle.grammar.specs.Machine.{lits, name, on_held}
use Rattle.grammar.proofs.Forward.{go_on}
use Rattle.reader.specs.Spells.{Stops, Spells}
use Rattle.reader.specs.Parsed.{NameRead}
use Rattle.reader.proofs.Moves.{spells_none, spells_more, spells_not}
use Rattle.reader.proofs.Compose.{name_more, name_ends}

abbrev pub alike : ℕ × ℕ → Bool
alike x = eqb x.0 x.1

abbrev pub agree : List ℕ → List ℕ → ℕ
agree w text = prefix_len alike (zip text w)

pub spells_all : (w text : List ℕ) (rest : Bor (List ℕ)) → agree w text ≡ length w → rest.now ≡ drop (length w) text → Spells w text (Ok rest)
spells_all [] text rest e h = rw h (spells_none [] text refl)
spells_all (c ∷ w) [] rest e h = absurd (omega (arith, e))
spells_all (c ∷ w) (b ∷ t) rest e h =
    elim (eqb_tells b c) [
      | inl q ↦ spells_more c (c ∷ w) w (b ∷ t) t (Ok rest) refl (ap (λ (y : ℕ). y ∷ t) q.1) (spells_all w t rest (omega (arith, e, ap (λ (v : Bool). cond v (1 + agree w t) 0) q.0)) h)
      | inr q ↦ absurd (omega (arith, e, ap (λ (v : Bool). cond v (1 + agree w t) 0) q.0))
    ]

pub spells_less : (w text : List ℕ) (left : ℕ) → (agree w text ≡ length w → ⊥) → left ≡ length text - agree w text → Stops (lits w) text left
spells_less [] [] left n h = absurd (n refl)
spells_less [] (b ∷ t) left n h = absurd (n refl)
spells_less (c ∷ w) [] left n h = rw h (spells_not (c ∷ w) [] (omega arith) (λ i e. omega (arith, i)))
spells_less (c ∷ w) (b ∷ t) left n h =
    elim (eqb_tells b c) [
      | inl q ↦
          let k : agree (c ∷ w) (b ∷ t) ≡ 1 + agree w t = ap (λ (v : Bool). cond v (1 + agree w t) 0) q.0 in
          spells_more c (c ∷ w) w (b ∷ t) t (Err (record { left = left })) refl (ap (λ (y : ℕ). y ∷ t) q.1) (spells_less w t left (λ e. n (omega (arith, k, e))) (omega (arith, k, h)))
      | inr q ↦
          let k : left ≡ suc (length t) = omega (arith, h, ap (λ (v : Bool). cond v (1 + agree w t) 0) q.0) in
          rw k (spells_not (c ∷ w) (b ∷ t) (omega arith) (λ i e. q.1 e))
    ]

pub name_within : (room : ℕ) (text : List ℕ) (rest : Bor (List ℕ)) → prefix_len is_name_byte text ≤ room → rest.now ≡ drop (prefix_len is_name_byte text) text → NameRead room text (Ok rest)
name_within room [] rest e h = rw h (name_ends room [] (λ i. absurd (omega (arith, i))))
name_within room (b ∷ t) rest e h =
    elim (cases_Bool (is_name_byte b)) [
      | inl q ↦
          let k : prefix_len is_name_byte (b ∷ t) ≡ suc (prefix_len is_name_byte t) = omega (arith, ap (λ (v : Bool). cond v (1 + prefix_len is_name_byte t) 0) q) in
          name_more (room - 1) room b (b ∷ t) t (Ok rest) (omega (arith, k, e)) refl q (name_within (room - 1) t rest (omega (arith, k, e)) (h ∙ ap (λ (m : ℕ). drop m (b ∷ t)) k))
      | inr q ↦
          let k : prefix_len is_name_byte (b ∷ t) ≡ 0 = ap (λ (v : Bool). cond v (1 + prefix_len is_name_byte t) 0) q in
          rw (h ∙ ap (λ (m : ℕ). drop m (b ∷ t)) k) (name_ends room (b ∷ t) (λ i. q))
    ]

pub name_past : (room : ℕ) (text : List ℕ) (left : ℕ) → room < prefix_len is_name_byte text → left ≡ length text - room → Stops (name room) text left
name_past room [] left e h = absurd (omega (arith, e))
name_past zero (b ∷ t) left e h =
    elim (cases_Bool (is_name_byte b)) [
      | inl q ↦ let z : left ≡ suc (length t) = omega (arith, h) in rw z (record { fits = omega arith; halts = λ fs. ap (λ (v : Bool). go_on t (cond v dead (on_held fs b))) q })
      | inr q ↦ absurd (omega (arith, e, ap (λ (v : Bool). cond v (1 + prefix_len is_name_byte t) 0) q))
    ]
name_past (suc room) (b ∷ t) left e h =
    elim (cases_Bool (is_name_byte b)) [
      | inl q ↦ name_more room (suc room) b (b ∷ t) t (Err (record { left = left })) refl refl q (name_past room t left (omega (arith, e, ap (λ (v : Bool). cond v (1 + prefix_len is_name_byte t) 0) q)) (omega (arith, h)))
      | inr q ↦ absurd (omega (arith, e, ap (λ (v : Bool). cond v (1 + prefix_len is_name_byte t) 0) q))
    ]
