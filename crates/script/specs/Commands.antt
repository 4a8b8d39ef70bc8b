-- The lines of a task and what each asks for.
use Rattle.std.specs.Prelude.{ℕ, ◌+◌, ◌-◌, ◌*◌, cond, ◌&&◌, List, [], ◌∷◌, length, Some, None, Option, ◌==◌, nat_le}
use Rattle.model.specs.Names.{is_digit}
use Rattle.model.specs.declared.action.Action.TheVariants.{Open, Close}
use Rattle.script.specs.declared.Command.{Command}
use Rattle.script.specs.declared.Command.TheVariants.{Begin, Act, Roll}

-- the digits, read on from a number
abbrev pub read_on : ℕ → List ℕ → Option ℕ
read_on n [] = Some n
read_on n (b ∷ rest) = cond (is_digit b) (read_on (10 * n + (b - 48)) rest) None

-- one to four decimal digits
abbrev pub number_in : List ℕ → Option ℕ
number_in digits = cond (nat_le 1 (length digits) && nat_le (length digits) 4) (read_on 0 digits) None

abbrev pub opens : Option ℕ → Option Command
opens None = None
opens (Some label) = Some (Act (Open label))

abbrev pub opening_in : List ℕ → Option Command
opening_in digits = opens (number_in digits)

abbrev pub rolls : Option ℕ → Option Command
rolls None = None
rolls (Some space) = Some (Roll (Some space))

abbrev pub rolling_in : List ℕ → Option Command
rolling_in [] = Some (Roll None)
rolling_in (b ∷ rest) = rolls (number_in (b ∷ rest))

-- a command that nothing may follow
abbrev pub alone : Command → List ℕ → Option Command
alone c [] = Some c
alone c (b ∷ rest) = None

-- "+" and a label opens, "-" closes, "=" writes the roll, "=" and a number writes it into that many bytes, "*" begins anew
abbrev pub command_of : List ℕ → Option Command
command_of [] = None
command_of (b ∷ rest) =
    cond (b == 43) (opening_in rest)
    (cond (b == 61) (rolling_in rest)
    (cond (b == 45) (alone (Act Close) rest)
    (cond (b == 42) (alone Begin rest) None)))
