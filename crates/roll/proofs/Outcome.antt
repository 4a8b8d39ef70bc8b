-- What the reading of bytes says, from the fault that was found.
use Rattle.std.proofs.Common.{◌≡◌, ℕ, ◌<◌, List, Some, None, Ok, Err, IfErr, Option, Result, sym, refl, ap, ◌∙◌, arith}
use Rattle.std.proofs.lemmas.Option.{none-some}
use Rattle.model.specs.declared.fault.RollFault.{RollFault}
use Rattle.model.specs.Receipt.{Receipt, Lawful}
use Rattle.model.specs.Roll.{roll_of}
use Rattle.model.specs.Reading.{Applies, byte_at, outcome, reading_fault, reading_of, receipt_in, unless_refused}
use Rattle.roll.specs.Held.{Accepts, Refuses}
use Rattle.model.proofs.FirstFault.{fault_applies}
use Rattle.model.proofs.Readings.{accepted, accepted_roll}
use Rattle.model.proofs.ReadBack.{roll_accepted, roll_tells}

-- What the outcome of the check says of the fault.
pub fault_ok : (o : Option RollFault) → Ok tt ≡ outcome o → o ≡ None
fault_ok None e = refl
fault_ok (Some f) e = let z : ◌≡◌ {A = ℕ} 0 1 = cc in absurd (omega arith)

pub fault_err : (o : Option RollFault) (f : RollFault) → Err f ≡ outcome o → o ≡ Some f
fault_err None f e = let z : ◌≡◌ {A = ℕ} 0 1 = cc in absurd (omega arith)
fault_err (Some g) f e = cc

-- The outcome of a check names a fault that applies.
pub applies : (bytes : List ℕ) (r : Result (Unit {0}) RollFault) → r ≡ outcome (reading_fault bytes) → IfErr r (λ fault. Applies bytes fault)
applies bytes (Ok u) e = tt
applies bytes (Err fault) e = fault_applies bytes fault (fault_err (reading_fault bytes) fault e)

-- Both ways between rolls and accepted bytes, for a reading that gives the fault o and the receipt s.
module _ (bytes : List ℕ) (o : Option RollFault) (s : Receipt) (fault : o ≡ reading_fault bytes) (tells : s ≡ reading_of bytes) where
  pub reads_back : (r : Receipt) → Lawful r → bytes ≡ roll_of r → (o ≡ None) × (s ≡ r)
  reads_back r w e =
      let none : reading_fault bytes ≡ None = ap reading_fault e ∙ roll_accepted r w in
      (fault ∙ none, tells ∙ ap (λ p. unless_refused p (receipt_in bytes)) none ∙ ap receipt_in e ∙ roll_tells r w)

  pub is_written : ((i : ℕ) → byte_at bytes i < 256) → o ≡ None → bytes ≡ roll_of s
  is_written small e =
      let none : reading_fault bytes ≡ None = sym fault ∙ e in
      accepted_roll bytes (accepted bytes none) (small 0, (small 1, (small 2, (small 3, (small 4, (small 5, (small 6, (small 7, tt))))))))
      ∙ ap roll_of (sym (tells ∙ ap (λ p. unless_refused p (receipt_in bytes)) none))

-- Bytes with no fault are the roll of the receipt that they tell, and of no other.
pub accepts : (bytes : List ℕ) (s : Receipt) → ((i : ℕ) → byte_at bytes i < 256) → reading_fault bytes ≡ None → s ≡ receipt_in bytes → Accepts bytes s
accepts bytes s small none tells =
    let whole = tells ∙ sym (ap (λ p. unless_refused p (receipt_in bytes)) none) in
    (none, tells, is_written bytes None s (sym none) whole small refl, λ other w e. (reads_back bytes None s (sym none) whole other w e).1)

-- Bytes with a fault are the roll of no lawful receipt.
pub refuses : (bytes : List ℕ) (fault : RollFault) → reading_fault bytes ≡ Some fault → Refuses bytes fault
refuses bytes fault e = (e, fault_applies bytes fault e, λ s w b. none-some fault (sym (ap reading_fault b ∙ roll_accepted s w) ∙ e))
