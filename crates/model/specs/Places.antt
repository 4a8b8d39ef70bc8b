-- Where bytes break a set of texts.
use Rattle.std.specs.Prelude.{ℕ, ◌+◌, ◌<◌, ◌≤◌, List, ◌++◌, length, take}

abbrev pub Texts : Type 1
Texts = List ℕ → Type 0

-- the bytes begin some text of the set
abbrev pub BeginsIn : Texts → List ℕ → Type 0
BeginsIn L t = (rest : List ℕ) × L (t ++ rest)

-- The bytes are no text of the set, and the place is the least p whose first p + 1 bytes begin none, else their number.
pub record BreaksIn (L : Texts) (t : List ℕ) (p : ℕ) : Type 0 where
  pub within : p ≤ length t
  pub before : (q : ℕ) → q ≤ p → BeginsIn L (take q t)
  pub at : p < length t → BeginsIn L (take (p + 1) t) → ⊥
  pub whole : L t → ⊥
