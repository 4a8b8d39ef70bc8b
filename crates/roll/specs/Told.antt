-- The receipt that a roll store tells.
use Rattle.std.specs.Prelude.{ℕ, List, map}
use Rattle.std.specs.List.{zip}
use Rattle.model.specs.Receipt.{Element, Receipt}

-- the element whose level and label are given
abbrev pub element_of : ℕ × ℕ → Element
element_of p = record { label = p.1; level = p.0 }

-- the receipt of the elements whose levels and labels stand beside one another, at depth d
abbrev pub told : List ℕ → List ℕ → ℕ → Receipt
told levels labels d = record { elements = map element_of (zip levels labels); depth = d }
