-- Two laws of verdicts that hold on every receipt.
use Rattle.std.specs.Prelude.{◌≡◌, ℕ, ◌<◌}
use Rattle.model.specs.Receipt.{Receipt, count_of}
use Rattle.model.specs.Query.{Path}
use Rattle.model.specs.Selection.{selects}
use Rattle.model.specs.Verdict.{KindLaws, verdict, yes_no, three, query_formula}

-- The formula of a query, asked for yes or no, says what the query selects.
abbrev pub FormulaIsSelection : Type 0
FormulaIsSelection = (r : Receipt) (q : Path) (y : ℕ) → y < count_of r → verdict yes_no r (query_formula q) y ≡ selects r q y

-- Both kinds of verdict are kinds.
abbrev pub KindsKeepTheirLaws : Type 0
KindsKeepTheirLaws = KindLaws yes_no × KindLaws three
