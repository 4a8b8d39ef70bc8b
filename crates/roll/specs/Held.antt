-- What a roll store holds.
use Rattle.std.specs.Prelude.{◌≡◌, List, ℕ, Some, None, Ok, Err, Option, Result}
use Rattle.model.specs.declared.fault.RollFault.{RollFault}
use Rattle.model.specs.Receipt.{Receipt, Lawful}
use Rattle.model.specs.Roll.{roll_of}
use Rattle.model.specs.Reading.{Applies, reading_fault, receipt_in}
use Rattle.roll.specs.Told.{told}
use Rattle.roll.specs.declared.Roll.{Roll}

abbrev pub receipt_of : Roll → Receipt
receipt_of r = told r.levels.now r.labels.now r.depth

-- why its bytes were refused
abbrev pub fault_of : Roll → Option RollFault
fault_of r = r.fault

-- Bytes with no fault tell one receipt: they are its roll, and that of no other lawful one.
abbrev pub Accepts : List ℕ → Receipt → Type 0
Accepts bytes s = (reading_fault bytes ≡ None) × (s ≡ receipt_in bytes) × (bytes ≡ roll_of s) × ((other : Receipt) → Lawful other → bytes ≡ roll_of other → s ≡ other)

-- Other bytes have a first fault, which applies to them; they are the roll of no lawful receipt.
abbrev pub Refuses : List ℕ → RollFault → Type 0
Refuses bytes fault = (reading_fault bytes ≡ Some fault) × Applies bytes fault × ((s : Receipt) → Lawful s → bytes ≡ roll_of s → ⊥)

-- Bytes are read as the store of the receipt that they tell, or refused for their first fault.
abbrev pub IsReading : List ℕ → Result Roll RollFault → Type 0
IsReading bytes (Ok r) = (fault_of r ≡ None) × Accepts bytes (receipt_of r)
IsReading bytes (Err fault) = Refuses bytes fault
