use Rattle.std.proofs.Common.{rules}
use Rattle.reader.proofs.Moves.{front}
use Rattle.reader.proofs.Compose.{spine_one, spine_slash, linked_made}
use Rattle.reader.proofs.descent.+spine.Goals as goal

pub returns-in-47 : goal.returns-in-47
returns-in-47 g t c =
    let s = c.in_ok-axis.ensures in
    spine_slash s.0 s.1 _ _ _ c.spine.result (search (rules, front)) (linked_made _ c.args.draft.now c.step.new.draft _ _ _ c.root-before.ensures c.root-here.ensures c.add.ensures) c.spine.ensures

pub returns-in_default : goal.returns-in_default
returns-in_default g t c =
    let s = c.in_ok-axis.ensures in
    spine_one s.0 s.1 _ (search rules) (linked_made _ c.args.draft.now c.step.new.draft _ _ _ c.root-before.ensures c.root-here.ensures c.add.ensures)
