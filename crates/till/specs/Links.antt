-- A table of link records, the receipt that it tells, and when its links are that receipt's.
use Rattle.std.specs.Prelude.{◌≡◌, ℕ, ◌<◌, List, [], ◌∷◌, ◌++◌, length, map, Some, None, Option, slice_index_or, slice_set}
use Rattle.model.specs.Receipt.{Element, Receipt, parent_of, first_child_of, next_sibling_of, previous_sibling_of}
use Rattle.till.specs.declared.link.Link.{Link}

-- what is read beyond the last record
abbrev pub unused : Link
unused = record { label = 0; level = 0; parent = None; child = None; next = None; previous = None }

abbrev pub element : Link → Element
element l = record { label = l.label; level = l.level }

-- the receipt that the records tell, at depth d
abbrev pub told : List Link → ℕ → Receipt
told ls d = record { elements = map element ls; depth = d }

-- the record's links are those of the element at rank i
abbrev pub Fits : Receipt → ℕ → Link → Type 0
Fits r i l = (l.parent ≡ parent_of r i) × (l.child ≡ first_child_of r i) × (l.next ≡ next_sibling_of r i) × (l.previous ≡ previous_sibling_of r i)

-- each record's links are its element's
abbrev pub Linked : List Link → ℕ → Type 0
Linked ls d = (i : ℕ) → i < length ls → Fits (told ls d) i (slice_index_or ls i unused)

abbrev pub with_next : Link → ℕ → Link
with_next l n = record { label = l.label; level = l.level; parent = l.parent; child = l.child; next = Some n; previous = l.previous }

abbrev pub with_child : Link → ℕ → Link
with_child l n = record { label = l.label; level = l.level; parent = l.parent; child = Some n; next = l.next; previous = l.previous }

-- the previous sibling, or where there is none the parent, is told of record n
abbrev pub informed : List Link → ℕ → Option ℕ → Option ℕ → List Link
informed ls n parent (Some q) = slice_set ls q (with_next (slice_index_or ls q unused) n)
informed ls n (Some p) None = slice_set ls p (with_child (slice_index_or ls p unused) n)
informed ls n None None = ls

-- a record is appended, and its previous sibling or its parent is told of it; nothing else changes
abbrev pub attached : List Link → Link → List Link
attached ls l = informed (ls ++ l ∷ []) (length ls) l.parent l.previous
