-- What a search on from 0 finds, by what it passed over.
use Rattle.std.proofs.Common.{◌≡◌, ℕ, ◌<◌, Bool, true, false, Some, None, Option, sym}
use Rattle.std.specs.Option.{MatchOption}
use Rattle.model.specs.Receipt.{first_where}
use Rattle.model.proofs.Firsts.{first_is}
use Rattle.model.proofs.Search.{first_none}

pub first_from : (f : ℕ → Bool) (n : ℕ) (o : Option ℕ) → MatchOption o ((j : ℕ) → j < n → f j ≡ false) (λ q. (q < n) × (f q ≡ true) × ((j : ℕ) → j < q → f j ≡ false)) → o ≡ first_where f n
first_from f n None m = sym (first_none f n m)
first_from f n (Some q) m = sym (first_is f n q m.0 m.1 m.2)
