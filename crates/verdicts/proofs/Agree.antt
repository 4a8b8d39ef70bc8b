-- A show and an audit agree, since three verdicts decide only what the selection says.
use Rattle.std.proofs.Common.{◌≡◌, ℕ, ◌*◌, ◌<◌, ◌≤◌, Bool, true, cond, ltb, List, [], ◌∷◌, ◌++◌, map, length, Some, None, count_by, filter, sym, refl, ap, ◌∙◌, arith}
use lib.ListN.{length-map}
use Rattle.std.specs.List.{ContainsAt as Has, AllByRecursion as All}
use Rattle.std.proofs.lemmas.List.Elements.{filter-append}
use Rattle.std.proofs.ByRecursion.{all-has, All-weaker}
use Rattle.std.proofs.lemmas.List.{map-append}
use Rattle.std.proofs.lemmas.List.Sums.{sum_by-cons, length-filter}
use Rattle.std.proofs.lemmas.Bool.{ltb-true, and_parts}
use Rattle.model.specs.declared.entry.Certainty.{Certainty}
use Rattle.model.specs.declared.entry.Certainty.TheVariants.{Sure, Undecided}
use Rattle.model.specs.declared.entry.Entry.{Entry}
use Rattle.model.specs.Receipt.{Receipt, count_of}
use Rattle.model.specs.Query.{Path}
use Rattle.model.specs.Selection.{path_keeps, start, selects}
use Rattle.model.specs.Verdict.{plainly, three, Three, is_out, undecided, is_in, standing}
use Rattle.model.specs.Show.{if_any, entry_for, entries, is_sure, selected_in, selected_ranks}
use Rattle.model.proofs.Listed.{listed_through, listed_all, listed_has}
use Rattle.verdicts.specs.Agree.{ranks_selected, ShowAndAuditAgree}
use Rattle.verdicts.proofs.Threes.{Kept}
use Rattle.verdicts.proofs.Standing.{standing_told}

-- What holds at one rank, by its verdict and whether it is selected.
ranks_at : (v : Three) (y : ℕ) (b : Bool) → Kept v (plainly three b) → ranks_selected (if_any (entry_for v y b)) ≡ if_any (cond b (Some y) None)
ranks_at v y b k = grind arith

abbrev SureSelected : Entry → Type 0
SureSelected e = e.certainty ≡ Sure → e.selected ≡ true

sure_at : (v : Three) (y : ℕ) (b : Bool) → Kept v (plainly three b) → All SureSelected (if_any (entry_for v y b))
sure_at is_out y b k = tt
sure_at undecided y b k = (λ e. cc, tt)
sure_at is_in y b k = (λ e. grind arith, tt)

entry_at : (v : Three) (y : ℕ) (b : Bool) → Kept v (plainly three b) → b ≡ true → (e : Entry) × (entry_for v y b ≡ Some e) × (e.rank ≡ y) × (e.selected ≡ true)
entry_at is_out y b k e = absurd (grind arith)
entry_at undecided y b k e = (record { rank = y; selected = b; certainty = Undecided }, refl, refl, e)
entry_at is_in y b k e = (record { rank = y; selected = b; certainty = Sure }, refl, refl, e)

selected_append : (xs ys : List Entry) → ranks_selected (xs ++ ys) ≡ ranks_selected xs ++ ranks_selected ys
selected_append xs ys =
    let p : Entry → Bool = λ e. e.selected in
    ap (map (λ (e : Entry). e.rank)) (filter-append p xs ys) ∙ map-append (λ (e : Entry). e.rank) (filter p xs) (filter p ys)

same_ranks : (r : Receipt) (q : Path) → ranks_selected (entries r q) ≡ selected_ranks r q
same_ranks r q =
    listed_through ranks_selected refl selected_append (λ y. entry_for (standing r q y) y (selects r q y)) (λ y. cond (selects r q y) (Some y) None) (count_of r)
    (λ y h. ranks_at (standing r q y) y (selects r q y) (standing_told r q y h))

same_count : (r : Receipt) (q : Path) → selected_in (entries r q) ≡ length (selected_ranks r q)
same_count r q =
    let p : Entry → Bool = λ e. e.selected in
    sym (length-filter p (entries r q)) ∙ sym (length-map (filter p (entries r q)) (λ (e : Entry). e.rank)) ∙ ap length (same_ranks r q)

sure_selected : (r : Receipt) (q : Path) → All SureSelected (entries r q)
sure_selected r q =
    listed_all SureSelected (λ y. entry_for (standing r q y) y (selects r q y)) (count_of r) (λ y h. sure_at (standing r q y) y (selects r q y) (standing_told r q y h))

is_sure_lem : (c : Certainty) → is_sure c ≡ true → c ≡ Sure
is_sure_lem c e = grind arith

-- What passes p passes q, so no more pass p than q.
count_at_most : {X : Type 0} (p q : X → Bool) (xs : List X) → All (λ x. p x ≡ true → q x ≡ true) xs → count_by p xs ≤ count_by q xs
count_at_most p q [] h = omega arith
count_at_most p q (x ∷ xs) h =
    let ih = count_at_most p q xs h.1 in
    let a = sum_by-cons (λ y. cond (p y) 1 0) x xs in
    let b = sum_by-cons (λ y. cond (q y) 1 0) x xs in
    let c = one (p x) (q x) h.0 in
    omega arith
  where
    one : (s t : Bool) → (s ≡ true → t ≡ true) → cond s 1 0 ≤ cond t 1 0
    one s t g = grind arith

selected_present : (r : Receipt) (q : Path) (y : ℕ) → selects r q y ≡ true → y < count_of r
unfolding selects
selected_present r q y t = ltb-true y (count_of r) (and_parts (ltb y (count_of r)) (path_keeps r q (start r) y) t).0

selected_listed : (r : Receipt) (q : Path) (y : ℕ) → selects r q y ≡ true → (e : Entry) × Has (entries r q) e × (e.rank ≡ y) × (e.selected ≡ true)
selected_listed r q y t =
    let h = selected_present r q y t in
    let s = entry_at (standing r q y) y (selects r q y) (standing_told r q y h) t in
    (s.0, listed_has (λ x. entry_for (standing r q x) x (selects r q x)) (count_of r) y s.0 h s.1, s.2, s.3)

pub show_and_audit_agree : ShowAndAuditAgree
show_and_audit_agree = record {
  same_ranks = same_ranks;
  same_count = same_count;
  same_points = λ r q rate. ap (λ n. rate * n) (same_count r q);
  sure_is_selected = λ r q e h. all-has SureSelected (entries r q) e (sure_selected r q) h;
  sure_at_most_selected = λ r q. count_at_most (λ (e : Entry). is_sure e.certainty) (λ (e : Entry). e.selected) (entries r q) (All-weaker SureSelected _ (λ e s t. s (is_sure_lem e.certainty t)) (entries r q) (sure_selected r q));
  selected_is_listed = selected_listed;
}
