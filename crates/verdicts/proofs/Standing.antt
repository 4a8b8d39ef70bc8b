-- What is decided stays so while the receipt goes on, and is what yes and no say.
use Rattle.std.proofs.Common.{ℕ, ◌<◌, arith}
use Rattle.model.specs.Receipt.{Receipt, count_of}
use Rattle.model.specs.Axes.{leads, grows}
use Rattle.model.specs.Query.{any, named, Path}
use Rattle.model.specs.Selection.{selects}
use Rattle.model.specs.Verdict.{Formula, test, first, conj, disj, neg, along, plainly, verdict, or_over, yes_no, three, query_formula, standing}
use Rattle.plane.specs.Steady.{Continues}
use Rattle.verdicts.proofs.Formulas.{formula_is_selection}
use Rattle.verdicts.proofs.Threes.{Kept, kept_over, kept_along, over_none, over_in, told_and, told_or, told_not, told_over, told_along}

-- A verdict is kept while the receipt goes on.
pub verdict_kept : (r r' : Receipt) → Continues r r' → (f : Formula) (x : ℕ) → x < count_of r → Kept (verdict three r f x) (verdict three r' f x)
unfolding verdict
verdict_kept r r' c (test any) x h = grind arith
verdict_kept r r' c (test (named label)) x h = grind (arith, c.label_kept x h)
verdict_kept r r' c first x h = grind arith
verdict_kept r r' c (conj f g) x h = grind (arith, verdict_kept r r' c f x h, verdict_kept r r' c g x h)
verdict_kept r r' c (disj f g) x h = grind (arith, verdict_kept r r' c f x h, verdict_kept r r' c g x h)
verdict_kept r r' c (neg f) x h = grind (arith, verdict_kept r r' c f x h)
verdict_kept r r' c (along a f) x h = kept_along (grows r a x) (grows r' a x) (or_over three (leads r a x) (verdict three r f) (count_of r))
    (or_over three (leads r' a x) (verdict three r' f) (count_of r))
    (or_over three (leads r' a x) (verdict three r' f) (count_of r'))
    (kept_over (leads r a x) (leads r' a x) (verdict three r f) (verdict three r' f) (count_of r) (λ y k. c.kept a x y h k) (λ y k. verdict_kept r r' c f y k))
    (λ g. (c.shut a x h g, over_none (leads r' a x) (verdict three r' f) (count_of r) (count_of r') c.longer (λ y low high. c.nothing_new a x y h g low high)))
    (over_in (leads r' a x) (verdict three r' f) (count_of r) (count_of r') c.longer)

-- What three verdicts decide is what yes and no say.
pub verdict_told : (r : Receipt) (f : Formula) (x : ℕ) → Kept (verdict three r f x) (plainly three (verdict yes_no r f x))
unfolding verdict
verdict_told r (test t) x = grind arith
verdict_told r first x = grind arith
verdict_told r (conj f g) x = told_and (verdict yes_no r f x) (verdict yes_no r g x) (verdict_told r f x) (verdict_told r g x)
verdict_told r (disj f g) x = told_or (verdict yes_no r f x) (verdict yes_no r g x) (verdict_told r f x) (verdict_told r g x)
verdict_told r (neg f) x = told_not (verdict yes_no r f x) (verdict_told r f x)
verdict_told r (along a f) x = told_along (grows r a x) (or_over yes_no (leads r a x) (verdict yes_no r f) (count_of r)) (or_over three (leads r a x) (verdict three r f) (count_of r))
    (told_over (leads r a x) (verdict three r f) (verdict yes_no r f) (count_of r) (λ y k. verdict_told r f y))

-- What the verdict of a query decides, the selection says.
pub standing_told : (r : Receipt) (q : Path) (y : ℕ) → y < count_of r → Kept (standing r q y) (plainly three (selects r q y))
standing_told r q y h = rw (← formula_is_selection r q y h) (verdict_told r (query_formula q) y)
