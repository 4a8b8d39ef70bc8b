use Rattle.std.proofs.Common.{refl, rules, arith}
use Rattle.reader.proofs.Moves.{front}
use Rattle.query.proofs.Whole.{parsed_part, parsed_stuck, parsed_none}
use Rattle.query.proofs.parse.Goals as goal

pub returns-in_default : goal.returns-in_default
returns-in_default g c = (0, refl, parsed_none c.args.text.now (search rules))

pub returns-in_default-2 : goal.returns-in_default-2
returns-in_default-2 g c = (0, refl, parsed_none c.args.text.now (search rules))

pub returns-in-Ok : goal.returns-in-Ok
returns-in-Ok g c = (_, refl, parsed_part (g.N.Naming.labels c.args.names.now) c.args.text.now _ c.in-Ok.rest.now _ _ (front c.args.text.now 47 (search rules) (search rules)) c.in-Ok.ensures (λ z. omega arith))

pub returns-in-Err : goal.returns-in-Err
returns-in-Err g c = (_, refl, parsed_stuck c.args.text.now _ c.in-Err.stuck.left (front c.args.text.now 47 (search rules) (search rules)) c.in-Err.ensures)
