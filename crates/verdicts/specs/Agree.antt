-- A show and an audit tell of the same selection.
use Rattle.std.specs.Prelude.{◌≡◌, ℕ, ◌≤◌, true, List, map, length, filter}
use Rattle.std.specs.List.{ContainsAt as Has}
use Rattle.model.specs.declared.entry.Certainty.TheVariants.{Sure}
use Rattle.model.specs.declared.entry.Entry.{Entry}
use Rattle.model.specs.Receipt.{Receipt}
use Rattle.model.specs.Query.{Path}
use Rattle.model.specs.Selection.{selects}
use Rattle.model.specs.Show.{entries, selected_in, sure_in, tally_of, selected_ranks, audit_points}

-- the ranks of the entries that are selected now, in order
abbrev pub ranks_selected : List Entry → List ℕ
ranks_selected es = map (λ (e : Entry). e.rank) (filter (λ (e : Entry). e.selected) es)

pub record ShowAndAuditAgree : Type 0 where
  pub same_ranks : (r : Receipt) (q : Path) → ranks_selected (entries r q) ≡ selected_ranks r q
  pub same_count : (r : Receipt) (q : Path) → selected_in (entries r q) ≡ length (selected_ranks r q)
  pub same_points : (r : Receipt) (q : Path) (rate : ℕ) → (tally_of (entries r q) rate).points ≡ audit_points r q rate
  pub sure_is_selected : (r : Receipt) (q : Path) (e : Entry) → Has (entries r q) e → e.certainty ≡ Sure → e.selected ≡ true
  pub sure_at_most_selected : (r : Receipt) (q : Path) → sure_in (entries r q) ≤ selected_in (entries r q)
  pub selected_is_listed : (r : Receipt) (q : Path) (y : ℕ) → selects r q y ≡ true → (e : Entry) × Has (entries r q) e × (e.rank ≡ y) × (e.selected ≡ true)
