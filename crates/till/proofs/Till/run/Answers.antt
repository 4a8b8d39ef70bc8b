use Rattle.std.proofs.Common.{arith}
use Rattle.std.proofs.lemmas.Grind.{common_steps}
use Rattle.model.specs.declared.action.Action.TheVariants.{Open}
use Rattle.model.proofs.Runs.{turn}
use Rattle.till.specs.Held.{receipt_of}
use Rattle.till.proofs.Till.run.Goals as goal

pub loop-action-preserved : goal.loop-action-preserved
loop-action-preserved c =
    let t = turn c.args.actions.now c.loop-action.action-index (Open 0) (receipt_of c.loop-action.self) (receipt_of c.act.new.self) c.loop-action-test.true c.act.ensures.holds in
    grind (arith, common_steps, t)
