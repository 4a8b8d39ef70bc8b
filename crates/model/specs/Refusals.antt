-- Each fault as callers are told of it: number, layer, place.
use Rattle.model.specs.declared.fault.Layer.TheVariants.{Receipt, Roll}
use Rattle.model.specs.declared.fault.Refusal.{Refusal}
use Rattle.model.specs.declared.fault.ReceiptFault.{ReceiptFault}
use Rattle.model.specs.declared.fault.ReceiptFault.TheVariants.{BadLabel, Ended, Full, TooDeep, NothingOpen}
use Rattle.model.specs.declared.fault.RollFault.{RollFault}
use Rattle.model.specs.declared.fault.RollFault.TheVariants.{NoRoll, BadLayout, BadLevel, BadLabel as BadRollLabel, BadDepth, ShortMemory}

abbrev pub receipt_refusal : ReceiptFault → Refusal
receipt_refusal BadLabel = record { number = 2; layer = Receipt; place = 0 }
receipt_refusal Ended = record { number = 3; layer = Receipt; place = 0 }
receipt_refusal Full = record { number = 4; layer = Receipt; place = 0 }
receipt_refusal TooDeep = record { number = 5; layer = Receipt; place = 0 }
receipt_refusal NothingOpen = record { number = 6; layer = Receipt; place = 0 }

abbrev pub roll_refusal : RollFault → Refusal
roll_refusal NoRoll = record { number = 16; layer = Roll; place = 0 }
roll_refusal BadLayout = record { number = 17; layer = Roll; place = 0 }
roll_refusal (BadLevel at) = record { number = 18; layer = Roll; place = at }
roll_refusal (BadRollLabel at) = record { number = 19; layer = Roll; place = at }
roll_refusal BadDepth = record { number = 20; layer = Roll; place = 1 }
roll_refusal ShortMemory = record { number = 21; layer = Roll; place = 0 }
