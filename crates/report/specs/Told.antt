-- What the programs print of a refusal: its number, its layer, its place and a sentence.
use Rattle.std.specs.Prelude.{ℕ, List, ◌++◌, codes, decimal, Some, None, Option}
use Rattle.model.specs.declared.fault.Refusal.{Refusal}
use Rattle.model.specs.Words.{layer_text}

-- a refusal with the sentence of its fault
abbrev pub fault_text : Refusal → List ℕ → List ℕ
fault_text r sentence = codes "refused by " ++ (decimal r.number ++ (codes ", " ++ (layer_text r.layer ++ (codes ", at " ++ (decimal r.place ++ (codes ": " ++ sentence))))))

-- what is printed of a value that may be missing
abbrev pub text_or_dash : {T : Type 0} → (T → Option (List ℕ)) → Option T → Option (List ℕ)
text_or_dash output (Some x) = output x
text_or_dash output None = Some (codes "-")
