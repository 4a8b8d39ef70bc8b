use Rattle.verdicts.proofs.Sound.{verdicts_are_sound}
use Rattle.verdicts.proofs.verdicts_are_sound.Goals as goal

pub returns : goal.returns
returns c = verdicts_are_sound
