-- A byte machine that takes exactly the runs of names; contracts of the code cite it, and a theorem joins it to the sheets.
use Rattle.std.specs.Prelude.{ℕ, ◌-◌, Bool, cond, ◌&&◌, List, Some, None, Ok, Err, Option, Result, ◌==◌, nat_lt}
use Rattle.model.specs.Names.{most_name, is_letter, is_name_byte}
use Rattle.grammar.specs.Machines.{Next, dead, go, Out, taken, stops, runs}
use Rattle.names.specs.declared.NamesFault.{NamesFault}
use Rattle.names.specs.declared.NamesFault.TheVariants.{BadName}

-- The state is the room that is left in the name: a name that has not begun has all of it.
abbrev pub fresh : ℕ
fresh = most_name

-- A name begins with a letter; once begun, it may end, or go on while there is room.
abbrev pub room_after : ℕ → ℕ → Next ℕ
room_after room b =
    cond (room == fresh) (cond (is_letter b) (go (room - 1)) dead) (cond (b == 10) (go fresh) (cond (nat_lt 0 room && is_name_byte b) (go (room - 1)) dead))

abbrev pub is_fresh : ℕ → Bool
is_fresh room = room == fresh

abbrev pub run : ℕ → List ℕ → Out
run room t = runs room_after is_fresh room t

-- the answer of a step as the machine has it
abbrev pub to_next : Option ℕ → Next ℕ
to_next None = dead
to_next (Some r) = go r

-- the fault of so many bytes, if the machine stops on them
abbrev pub stopped : ℕ → Out → Result (Unit {0}) NamesFault
stopped len taken = Ok tt
stopped len (stops left) = Err (BadName (len - left))
