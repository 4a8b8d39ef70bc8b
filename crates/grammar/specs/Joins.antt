-- What follows the first atom of a chain, from left to right: contracts of readers cite it.
use Rattle.std.specs.Prelude.{ℕ, List, [], ◌∷◌, ◌++◌, codes}
use Rattle.model.specs.Grammar.{Atom, atom_text}

pub data Join : Type 0 where
  by_and : Join
  by_or : Join

pub data Joins : Type 0 where
  no_join : Joins
  joined : Join → Atom → Joins → Joins

abbrev pub word : Join → List ℕ
word by_and = codes "and "
word by_or = codes "or "

abbrev pub joins_text : Joins → List ℕ
joins_text no_join = []
joins_text (joined w a j) = 32 ∷ (word w ++ (atom_text a ++ joins_text j))
