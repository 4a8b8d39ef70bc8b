-- Openings and closings that are not refused keep a receipt lawful.
use Rattle.std.proofs.Common.{◌≡◌, ℕ, ◌<◌, ◌≤◌, Some, None, Option, refl, arith}
use Rattle.std.proofs.lemmas.Bool.Decides.{nat_tests}
use Rattle.model.specs.declared.fault.ReceiptFault.{ReceiptFault}
use Rattle.model.specs.Limits.{most_elements, most_label, most_depth}
use Rattle.model.specs.Receipt.{Receipt, Lawful, count_of, empty, opened, closed}
use Rattle.model.specs.Runs.{opening_fault, unless_fault}
use Rattle.model.proofs.Opening.{opened_lawful}

-- What an opening that is not refused has met.
pub record Openable (l : ℕ) (r : Receipt) : Type 0 where
  pub least : 1 ≤ l
  pub most : l ≤ most_label
  pub room : count_of r < most_elements
  pub shallow : r.depth < most_depth
  pub live : 0 < count_of r → 0 < r.depth

pub openable : (l : ℕ) (r : Receipt) → opening_fault l r ≡ None → Openable l r
openable l r e = record { least = grind (arith, nat_tests); most = grind (arith, nat_tests); room = grind (arith, nat_tests); shallow = grind (arith, nat_tests); live = λ h. grind (arith, nat_tests) }

pub empty_lawful : Lawful empty
empty_lawful = record {
  few = omega arith;
  first = λ h. absurd (omega arith);
  later = λ i h. absurd (omega arith);
  shallow = λ i h. absurd (omega arith);
  named = λ i h. absurd (omega arith);
  empty_depth = λ e. refl;
  open_depth = λ i e. absurd (omega arith);
}

pub opening_lawful : (r : Receipt) (l : ℕ) → Lawful r → opening_fault l r ≡ None → Lawful (opened r l)
opening_lawful r l w e = let o = openable l r e in opened_lawful r l w o.least o.most o.room o.shallow o.live

pub closing_lawful : (r : Receipt) → Lawful r → Lawful (closed r)
closing_lawful r w = record {
  few = w.few;
  first = w.first;
  later = w.later;
  shallow = w.shallow;
  named = w.named;
  empty_depth = λ e. let d = w.empty_depth e in omega arith;
  open_depth = λ i e. let d = w.open_depth i e in omega arith;
}

-- What holds of the old receipt, and of the new one where there is no fault, holds of the receipt afterwards.
pub unless : (P : Receipt → Type 0) (o : Option ReceiptFault) (s r : Receipt) → (o ≡ None → P s) → P r → P (unless_fault o s r)
unless P None s r c w = c refl
unless P (Some f) s r c w = w
