-- The receipt that a till's store holds.
use Rattle.std.specs.Prelude.{◌≡◌, ℕ, ◌<◌, Some, ◌≢◌, slice_index_or}
use Rattle.arrayvec.specs.ArrayVec.{array_vec_len}
use Rattle.model.specs.Receipt.{Receipt, innermost, last_inside}
use Rattle.till.specs.declared.Till.{Till}
use Rattle.till.specs.Links.{told, unused}

abbrev pub receipt_of : Till → Receipt
receipt_of t = told t.links.items t.depth

-- Of the records that were there, only those of the new element's parent and of its previous sibling may differ.
abbrev pub KeepsRecords : Till → Till → Type 0
KeepsRecords before later =
    (i : ℕ) → i < array_vec_len before.links → (innermost (receipt_of before) ≢ Some i) → (last_inside (receipt_of before) ≢ Some i) → slice_index_or later.links.items i unused ≡ slice_index_or before.links.items i unused
