-- What a scan of levels passes over.
use Rattle.std.specs.Prelude.{ℕ, ◌<◌, ◌≤◌, List, slice_index}

-- every level from one place on and before another is deeper than v
abbrev pub Deeper : List ℕ → ℕ → ℕ → ℕ → Type 0
Deeper levels v from to = (j : ℕ) → from ≤ j → j < to → v < slice_index levels j
