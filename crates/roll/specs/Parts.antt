-- The part of a reading that is past the header, by levels, labels and depth alone.
use Rattle.std.specs.Prelude.{ℕ, ◌+◌, ◌-◌, ◌*◌, Bool, cond, not, ◌||◌, List, length, Some, None, Option, ◌==◌, nat_lt, slice_index}
use Rattle.model.specs.declared.fault.RollFault.{RollFault}
use Rattle.model.specs.declared.fault.RollFault.TheVariants.{BadLevel, BadLabel, BadDepth}
use Rattle.model.specs.Limits.{most_elements}
use Rattle.model.specs.Receipt.{first_where}
use Rattle.model.specs.Roll.{header_length}
use Rattle.model.specs.Reading.{fault_at, label_place, level_place, wrong_label, wrong_level}

-- whether a header's numbers, or the length of what follows it, are not those of a roll of n elements
abbrev pub misnumbered : ℕ → ℕ → ℕ → ℕ → Bool
misnumbered n levels_at labels_at body =
    nat_lt most_elements n || (not (levels_at == header_length) || (not (labels_at == header_length + n) || not (body == 2 * n)))

-- whether the level at a rank breaks its rule
abbrev pub level_wrong : List ℕ → ℕ → Bool
level_wrong levels i = wrong_level i (slice_index levels (i - 1)) (slice_index levels i)

-- the greatest depth after these levels
abbrev pub greatest_after : List ℕ → ℕ
greatest_after levels = cond (length levels == 0) 0 (slice_index levels (length levels - 1) + 1)

-- the first reason to refuse them, where the header is that of a roll
abbrev pub fault_in : List ℕ → List ℕ → ℕ → Option RollFault
fault_in levels labels d =
    fault_at (λ i. BadLevel (level_place i)) (first_where (level_wrong levels) (length levels))
    (fault_at (λ i. BadLabel (label_place (length levels) i)) (first_where (λ i. wrong_label (slice_index labels i)) (length labels))
    (cond (nat_lt (greatest_after levels) d) (Some BadDepth) None))
