-- What each fault of a receipt or a roll is, in a plain sentence.
use Rattle.std.specs.Prelude.{ℕ, List, codes}
use Rattle.model.specs.declared.fault.ReceiptFault.{ReceiptFault}
use Rattle.model.specs.declared.fault.ReceiptFault.TheVariants.{BadLabel, Ended, Full, TooDeep, NothingOpen}
use Rattle.model.specs.declared.fault.RollFault.{RollFault}
use Rattle.model.specs.declared.fault.RollFault.TheVariants.{NoRoll, BadLayout, BadLevel, BadLabel as BadRollLabel, BadDepth, ShortMemory}

abbrev pub receipt_sentence : ReceiptFault → List ℕ
receipt_sentence BadLabel = codes "The label is 0 or above the greatest."
receipt_sentence Ended = codes "The receipt has ended."
receipt_sentence Full = codes "The receipt has as many elements as it can have."
receipt_sentence TooDeep = codes "Nothing opens any deeper."
receipt_sentence NothingOpen = codes "Nothing is open."

abbrev pub roll_sentence : RollFault → List ℕ
roll_sentence NoRoll = codes "These bytes are no roll of this edition."
roll_sentence BadLayout = codes "The count, an offset or the length is wrong."
roll_sentence (BadLevel at) = codes "This level breaks its rule."
roll_sentence (BadRollLabel at) = codes "This label is 0 or above the greatest."
roll_sentence BadDepth = codes "The depth does not fit the last level."
roll_sentence ShortMemory = codes "The memory is shorter than the roll."
