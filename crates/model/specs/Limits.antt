-- The limits of the product, each once.
use Rattle.std.specs.Prelude.{ℕ, ◌+◌, ◌*◌}

-- the most elements of a receipt
abbrev pub most_elements : ℕ
most_elements = 256

-- the greatest label; the least is 1
abbrev pub most_label : ℕ
most_label = 250

-- the depth at which nothing more opens
abbrev pub most_depth : ℕ
most_depth = 16

-- the greatest rate; the least is 1
abbrev pub most_rate : ℕ
most_rate = 1000

-- the most bytes of a query text; the least is 1
abbrev pub most_text : ℕ
most_text = 512

-- the most "[" and "(" that are open at once
abbrev pub most_open : ℕ
most_open = 8

-- the greatest length of a query
abbrev pub most_length : ℕ
most_length = 16

-- the places that a query of this length may take in a table
abbrev pub places : ℕ → ℕ
places l = 6 * l + 1

-- the most places of a query
abbrev pub most_parts : ℕ
most_parts = places most_length
