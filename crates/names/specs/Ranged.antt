-- Proof, not to be believed but checked: a sheet's labels are in range.
use Rattle.std.specs.Prelude.{◌≡◌, ℕ, ◌+◌, ◌<◌, ◌≤◌, Bool, true, false, cond, List, [], ◌∷◌, ◌++◌, length, Some, None, Option, ◌==◌, refl}
use Rattle.std.proofs.Common.{arith}
use Rattle.std.specs.Str.{bytes_eq}
use Rattle.names.specs.Sheet.{most_names}
use Rattle.names.specs.declared.NamesFault.{NamesFault}
use Rattle.names.specs.declared.sheet.Sheet.{Sheet}
use Rattle.names.specs.Sheet.{rows, rows_after, line_ends, label_from, label_in}
use Rattle.names.specs.Labels.{InRange, names_among, label_among}
use Rattle.names.specs.Held.{labels_of}

-- as many rows as line ends
pub rows_are_ends : (row t : List ℕ) → length (rows_after row t) ≡ line_ends t
rows_are_ends row [] = refl
rows_are_ends row (b ∷ t) = by (b == 10) (rows_are_ends [] t) (rows_are_ends (row ++ (b ∷ [])) t)
  where
    by : (v : Bool) → length (rows_after [] t) ≡ line_ends t → length (rows_after (row ++ (b ∷ [])) t) ≡ line_ends t → length (cond v (row ∷ rows_after [] t) (rows_after (row ++ (b ∷ [])) t)) ≡ cond v (line_ends t + 1) (line_ends t)
    by true x y = omega arith
    by false x y = y

-- a label that is found is one of the rows'
abbrev Within : ℕ → ℕ → Option ℕ → Type 0
Within k n None = Unit {0}
Within k n (Some l) = (k ≤ l) × (l < k + n)

found_within : (k : ℕ) (ns : List (List ℕ)) (n : List ℕ) → Within k (length ns) (label_from k ns n)
found_within k [] n = tt
found_within k (m ∷ ns) n = by (bytes_eq m n) (found_within (k + 1) ns n)
  where
    widened : (o : Option ℕ) → Within (k + 1) (length ns) o → Within k (length (m ∷ ns)) o
    widened None w = tt
    widened (Some l) w = (omega (arith, w.0), omega (arith, w.1))

    by : (v : Bool) → Within (k + 1) (length ns) (label_from (k + 1) ns n) → Within k (length (m ∷ ns)) (cond v (Some k) (label_from (k + 1) ns n))
    by true f = (omega arith, omega arith)
    by false f = widened (label_from (k + 1) ns n) f

in_range : (n : ℕ) → n ≤ most_names → (o : Option ℕ) → Within 1 n o → InRange o
in_range n h None w = tt
in_range n h (Some l) w = (w.0, omega (arith, w.1))

pub among : (fault : Option NamesFault) (t name : List ℕ) → names_among fault t ≤ most_names → InRange (label_among fault t name)
among None t name h = in_range (length (rows t)) (omega (arith, rows_are_ends [] t)) (label_in t name) (found_within 1 (rows t) name)
among (Some f) t name h = tt

pub labels_ranged : (s : Sheet) (name : List ℕ) → InRange (labels_of s name)
labels_ranged s name = among s.fault s.bytes.now name s.few
