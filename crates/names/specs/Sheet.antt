-- A names sheet: what it is, the label of a name, and when a sheet is refused.
use Rattle.std.specs.Prelude.{◌≡◌, ℕ, ◌+◌, ◌≤◌, Bool, true, cond, ◌&&◌, List, [], ◌∷◌, ◌++◌, length, is_some, Some, None, Ok, Err, Option, Result, ◌==◌}
use Rattle.std.specs.Str.{bytes_eq}
use Rattle.model.specs.Names.{is_name}
use Rattle.model.specs.Places.{BreaksIn}
use Rattle.names.specs.declared.NamesFault.{NamesFault}
use Rattle.names.specs.declared.NamesFault.TheVariants.{TooMuch, BadName, Repeated}

-- the most bytes, and the most bytes 10
abbrev pub most_sheet : ℕ
most_sheet = 6250

abbrev pub most_names : ℕ
most_names = 250

-- the names, each ended by byte 10
abbrev pub sheet_text : List (List ℕ) → List ℕ
sheet_text [] = []
sheet_text (n ∷ ns) = n ++ (10 ∷ sheet_text ns)

abbrev pub are_names : List (List ℕ) → Bool
are_names [] = true
are_names (n ∷ ns) = is_name n && are_names ns

-- the bytes are those of a run of names, whatever their number
pub record Run (t : List ℕ) : Type 0 where
  pub names : List (List ℕ)
  pub lawful : are_names names ≡ true
  pub written : t ≡ sheet_text names

-- The bytes are no run of names, and the place is the least p whose first p + 1 bytes begin none, else their number.
abbrev pub Breaks : List ℕ → ℕ → Type 0
Breaks t p = BreaksIn Run t p

-- The rows of any bytes: those runs that byte 10 ends. `row` is what stands before the bytes in the first one.
abbrev pub rows_after : List ℕ → List ℕ → List (List ℕ)
rows_after row [] = []
rows_after row (b ∷ t) = cond (b == 10) (row ∷ rows_after [] t) (rows_after (row ++ (b ∷ [])) t)

abbrev pub rows : List ℕ → List (List ℕ)
rows t = rows_after [] t

-- the place of the name among the rows, of which the first counts as k
abbrev pub label_from : ℕ → List (List ℕ) → List ℕ → Option ℕ
label_from k [] name = None
label_from k (n ∷ ns) name = cond (bytes_eq n name) (Some k) (label_from (k + 1) ns name)

-- the label of the name, by the sheet's bytes: the first row has label 1
abbrev pub label_in : List ℕ → List ℕ → Option ℕ
label_in t name = label_from 1 (rows t) name

-- where the first name begins that is among those before it; p is where the first of these begins
abbrev pub repeat_after : List (List ℕ) → ℕ → List (List ℕ) → Option ℕ
repeat_after before p [] = None
repeat_after before p (n ∷ ns) = cond (is_some (label_from 1 before n)) (Some p) (repeat_after (before ++ (n ∷ [])) (p + length n + 1) ns)

abbrev pub first_repeat : List (List ℕ) → Option ℕ
first_repeat ns = repeat_after [] 0 ns

-- the fault of a sheet in which a row repeats, if one does
abbrev pub repeated : Option ℕ → Result (Unit {0}) NamesFault
repeated None = Ok tt
repeated (Some p) = Err (Repeated p)

-- how many bytes 10
abbrev pub line_ends : List ℕ → ℕ
line_ends [] = 0
line_ends (b ∷ t) = cond (b == 10) (line_ends t + 1) (line_ends t)

pub record Small (t : List ℕ) : Type 0 where
  pub bytes : length t ≤ most_sheet
  pub ends : line_ends t ≤ most_names

-- what holds of a sheet that is accepted: its names are its rows, and none stands twice
pub record Accepted (t : List ℕ) (n : ℕ) : Type 0 where
  pub small : Small t
  pub run : Run t
  pub labelled : rows t ≡ run.names
  pub apart : first_repeat run.names ≡ None
  pub number : n ≡ length run.names

pub record RepeatsAt (t : List ℕ) (p : ℕ) : Type 0 where
  pub small : Small t
  pub run : Run t
  pub repeat : first_repeat run.names ≡ Some p

-- The answer to a sheet: the number of its names, or the first fault that applies.
abbrev pub Checked : List ℕ → Result ℕ NamesFault → Type 0
Checked t (Ok n) = Accepted t n
Checked t (Err TooMuch) = Small t → ⊥
Checked t (Err (BadName p)) = Small t × Breaks t p
Checked t (Err (Repeated p)) = RepeatsAt t p
