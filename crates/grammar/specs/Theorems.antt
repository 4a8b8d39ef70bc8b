-- What holds of the grammar, over all texts.
use Rattle.std.specs.Prelude.{◌≡◌, ℕ, ◌⊎◌, List}
use Rattle.model.specs.Grammar.{PathTree, Reads, Query, Breaks}

-- A text is a query, or it breaks the grammar at exactly one place (and then it is no query, by the definition of a break).
abbrev pub QueryOrOnePlace : Type 0
QueryOrOnePlace = (t : List ℕ) → Query t ⊎ ((p : ℕ) × Breaks t p × ((q : ℕ) → Breaks t q → q ≡ p))

-- A text has at most one tree.
abbrev pub Unambiguous : Type 0
Unambiguous = (t : List ℕ) (p q : PathTree) → Reads t p → Reads t q → p ≡ q
