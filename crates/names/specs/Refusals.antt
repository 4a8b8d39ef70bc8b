-- Each fault of a sheet as callers are told of it: number, layer and place, and a plain sentence.
use Rattle.std.specs.Prelude.{ℕ, List, codes}
use Rattle.model.specs.declared.fault.Layer.TheVariants.{Names}
use Rattle.model.specs.declared.fault.Refusal.{Refusal}
use Rattle.names.specs.declared.NamesFault.{NamesFault}
use Rattle.names.specs.declared.NamesFault.TheVariants.{TooMuch, BadName, Repeated}

abbrev pub names_refusal : NamesFault → Refusal
names_refusal TooMuch = record { number = 7; layer = Names; place = 0 }
names_refusal (BadName p) = record { number = 8; layer = Names; place = p }
names_refusal (Repeated p) = record { number = 9; layer = Names; place = p }

abbrev pub names_sentence : NamesFault → List ℕ
names_sentence TooMuch = codes "The sheet has too many bytes or too many line ends."
names_sentence (BadName p) = codes "From here on this is no run of names."
names_sentence (Repeated p) = codes "This name stands earlier too."
