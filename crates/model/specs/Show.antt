-- What a show and an audit answer: functions of the receipt, the query and the rate.
use Rattle.std.specs.Prelude.{ℕ, zero, suc, ◌*◌, Bool, true, false, cond, ◌&&◌, List, [], ◌∷◌, ◌++◌, length, Some, None, count_by, Option, nat_le}
use Rattle.model.specs.declared.entry.Certainty.{Certainty}
use Rattle.model.specs.declared.entry.Certainty.TheVariants.{Sure, Undecided}
use Rattle.model.specs.declared.entry.Entry.{Entry}
use Rattle.model.specs.declared.entry.Tally.{Tally}
use Rattle.model.specs.Limits.{most_rate}
use Rattle.model.specs.Receipt.{Receipt, count_of}
use Rattle.model.specs.Query.{Path}
use Rattle.model.specs.Selection.{Set, selects}
use Rattle.model.specs.Verdict.{Three, is_out, undecided, is_in, standing}

abbrev pub lawful_rate : ℕ → Bool
lawful_rate rate = nat_le 1 rate && nat_le rate most_rate

abbrev pub if_any : {A : Type 0} → Option A → List A
if_any None = []
if_any (Some a) = a ∷ []

-- what f gives at the ranks below n, in rank order; it may give nothing at a rank
unfoldable pub listed : {A : Type 0} → (ℕ → Option A) → ℕ → List A
listed f zero = []
listed f (suc k) = listed f k ++ if_any (f k)

-- An element whose verdict is out has no entry.
abbrev pub entry_for : Three → ℕ → Bool → Option Entry
entry_for is_out y selected = None
entry_for undecided y selected = Some (record { rank = y; selected = selected; certainty = Undecided })
entry_for is_in y selected = Some (record { rank = y; selected = selected; certainty = Sure })

-- A show lists every element whose verdict is not out.
abbrev pub entries : Receipt → Path → List Entry
entries r q = listed (λ y. entry_for (standing r q y) y (selects r q y)) (count_of r)

abbrev pub is_sure : Certainty → Bool
is_sure Sure = true
is_sure Undecided = false

abbrev pub selected_in : List Entry → ℕ
selected_in es = count_by (λ (e : Entry). e.selected) es

abbrev pub sure_in : List Entry → ℕ
sure_in es = count_by (λ (e : Entry). is_sure e.certainty) es

-- Points are the rate for each element.
abbrev pub tally_of : List Entry → ℕ → Tally
tally_of es rate = record { selected = selected_in es; sure = sure_in es; points = rate * selected_in es; sure_points = rate * sure_in es }

-- the ranks below n that pass, in order
abbrev pub ranks_where : Set → ℕ → List ℕ
ranks_where p n = listed (λ y. cond (p y) (Some y) None) n

-- An audit lists the selected elements.
abbrev pub selected_ranks : Receipt → Path → List ℕ
selected_ranks r q = ranks_where (selects r q) (count_of r)

abbrev pub audit_points : Receipt → Path → ℕ → ℕ
audit_points r q rate = rate * length (selected_ranks r q)
