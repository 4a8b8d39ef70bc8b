-- A byte machine that takes exactly the query texts and stops at the byte that breaks one.
-- It is no part of what a reader must believe: the grammar is that of the model, and theorems join the two.
-- Contracts of readers cite it, since what it has still to take says how far a reader has come.
use Rattle.std.specs.Prelude.{ℕ, zero, suc, Bool, true, false, cond, List, [], ◌∷◌, codes, ◌==◌}
use Rattle.model.specs.Names.{is_letter, is_name_byte}
use Rattle.grammar.specs.Machines.{Next, dead, go, Out, runs}

-- what is open: the "[" of a step, or a "(" with or without `not`
pub data Frame : Type 0 where
  bracket : Frame
  paren : Frame

-- What may come next, inside what is open, the innermost first.
pub data State : Type 0 where
  -- this byte, then these, then what the state says
  lit : ℕ → List ℕ → State → State
  -- a path
  axis : List Frame → State
  -- "::" or "-or-self::"
  or_self : List Frame → State
  -- "::" or "-sibling::"
  or_sibling : List Frame → State
  -- what follows the "p" of an axis
  after_p : List Frame → State
  test : List Frame → State
  -- at most so many bytes more of a name
  name : ℕ → List Frame → State
  -- a filter, or what may follow a step without one
  held : List Frame → State
  -- "/" and a path, or what may follow a path
  step : List Frame → State
  -- a join or a closing byte
  done : List Frame → State
  -- "and " or "or "
  joint : List Frame → State
  atom : List Frame → State
  -- a closing byte alone
  shut : List Frame → State

-- the bytes, and then the state
abbrev pub lits : List ℕ → State → State
lits [] s = s
lits (c ∷ w) s = lit c w s

abbrev pub on_shut : List Frame → ℕ → Next State
on_shut [] b = dead
on_shut (bracket ∷ fs) b = cond (b == 93) (go (step fs)) dead
on_shut (paren ∷ fs) b = cond (b == 41) (go (done fs)) dead

abbrev pub on_done : List Frame → ℕ → Next State
on_done [] b = dead
on_done (f ∷ fs) b = cond (b == 32) (go (joint (f ∷ fs))) (on_shut (f ∷ fs) b)

abbrev pub on_step : List Frame → ℕ → Next State
on_step fs b = cond (b == 47) (go (axis fs)) (on_done fs b)

abbrev pub on_held : List Frame → ℕ → Next State
on_held fs b = cond (b == 91) (go (atom (bracket ∷ fs))) (on_step fs b)

abbrev pub on_name : ℕ → List Frame → Next State
on_name zero fs = dead
on_name (suc n) fs = go (name n fs)

abbrev pub on_axis : List Frame → ℕ → Next State
on_axis fs b =
    cond (b == 115) (go (lits (codes "elf::") (test fs)))
    (cond (b == 99) (go (lits (codes "hild::") (test fs)))
    (cond (b == 112) (go (after_p fs))
    (cond (b == 100) (go (lits (codes "escendant") (or_self fs)))
    (cond (b == 97) (go (lits (codes "ncestor") (or_self fs)))
    (cond (b == 102) (go (lits (codes "ollowing") (or_sibling fs))) dead)))))

abbrev pub on : State → ℕ → Next State
on (lit c w s) b = cond (b == c) (go (lits w s)) dead
on (axis fs) b = on_axis fs b
on (or_self fs) b = cond (b == 58) (go (lits (codes ":") (test fs))) (cond (b == 45) (go (lits (codes "or-self::") (test fs))) dead)
on (or_sibling fs) b = cond (b == 58) (go (lits (codes ":") (test fs))) (cond (b == 45) (go (lits (codes "sibling::") (test fs))) dead)
on (after_p fs) b = cond (b == 97) (go (lits (codes "rent::") (test fs))) (cond (b == 114) (go (lits (codes "eceding") (or_sibling fs))) dead)
on (test fs) b = cond (b == 42) (go (held fs)) (cond (is_letter b) (go (name 23 fs)) dead)
on (name n fs) b = cond (is_name_byte b) (on_name n fs) (on_held fs b)
on (held fs) b = on_held fs b
on (step fs) b = on_step fs b
on (done fs) b = on_done fs b
on (joint fs) b = cond (b == 97) (go (lits (codes "nd ") (atom fs))) (cond (b == 111) (go (lits (codes "r ") (atom fs))) dead)
on (atom fs) b = cond (b == 40) (go (atom (paren ∷ fs))) (cond (b == 110) (go (lits (codes "ot(") (atom (paren ∷ fs)))) (on_axis fs b))
on (shut fs) b = on_shut fs b

abbrev pub nothing_open : List Frame → Bool
nothing_open [] = true
nothing_open (f ∷ fs) = false

-- whether a text may end here
abbrev pub ends : State → Bool
ends (lit c w s) = false
ends (axis fs) = false
ends (or_self fs) = false
ends (or_sibling fs) = false
ends (after_p fs) = false
ends (test fs) = false
ends (name n fs) = nothing_open fs
ends (held fs) = nothing_open fs
ends (step fs) = nothing_open fs
ends (done fs) = nothing_open fs
ends (joint fs) = false
ends (atom fs) = false
ends (shut fs) = nothing_open fs

abbrev pub run : State → List ℕ → Out
run s t = runs on ends s t

abbrev pub begin : State
begin = lit 47 [] (axis [])
