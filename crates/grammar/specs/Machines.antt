-- Byte machines: a state, what each byte makes of it, and whether the bytes may end there.
use Rattle.std.specs.Prelude.{ℕ, suc, Bool, cond, List, [], ◌∷◌, length}

pub data Next (S : Type 0) : Type 0 where
  dead : Next S
  go : S → Next S

-- All bytes are taken, or the machine stops with so many left.
pub data Out : Type 0 where
  taken : Out
  stops : ℕ → Out

abbrev pub runs : {S : Type 0} → (S → ℕ → Next S) → (S → Bool) → S → List ℕ → Out
runs on ends s [] = cond (ends s) taken (stops 0)
runs on ends s (b ∷ t) = elim (on s b) [ dead ↦ stops (suc (length t)) | go r ↦ runs on ends r t ]
