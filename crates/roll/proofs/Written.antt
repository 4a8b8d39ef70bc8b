-- A memory whose front is written part by part: the header, the levels, the labels.
use Rattle.std.proofs.Common.{◌≡◌, ℕ, ◌+◌, ◌<◌, ◌≤◌, ltb, List, ◌++◌, length, get_or, take, drop, map, sym, ap, ◌∙◌, append_assoc, arith, length-append, length-take}
use borrow.Rule.Slice.PartMut.{put_mid}
use lib.ListN.{length-map}
use Rattle.std.proofs.lemmas.List.{ext_get_or, get_or-map, length-take-le, take_all, take-append-drop, take-append-le}
use Rattle.std.proofs.lemmas.Slice.{take-put_mid, drop-put_mid, drop-append-drop}
use Rattle.std.proofs.lemmas.Bool.{le-ltb, cond-false}
use Rattle.model.specs.Receipt.{Element, Receipt, absent, count_of, label_at, level_at}
use Rattle.model.specs.Roll.{header, labels, levels, memory_after, roll_length, roll_of}

-- A row that has a number of each element is the list of them.
row : (f : Element → ℕ) (es : List Element) (xs : List ℕ) → length xs ≡ length es → ((i : ℕ) → i < length es → get_or xs i 0 ≡ f (get_or es i absent)) → xs ≡ map f es
row f es xs long there = ext_get_or 0 xs (map f es) (long ∙ sym (length-map es f)) (λ i h. there i (omega arith) ∙ sym (get_or-map f es i absent 0 (omega arith)))

-- A row that has each element's level, or label.
pub levels_row : (r : Receipt) (xs : List ℕ) → length xs ≡ count_of r → ((i : ℕ) → i < length xs → get_or xs i 0 ≡ level_at r i) → xs ≡ levels r.elements
levels_row r xs long there = row (λ (e : Element). e.level) r.elements xs long (λ i h. there i (omega arith))

pub labels_row : (r : Receipt) (xs : List ℕ) → length xs ≡ count_of r → ((i : ℕ) → i < length xs → get_or xs i 0 ≡ label_at r i) → xs ≡ labels r.elements
labels_row r xs long there = row (λ (e : Element). e.label) r.elements xs long (λ i h. there i (omega arith))

rolled : (r : Receipt) (head ls bs : List ℕ) → head ≡ header r.depth (count_of r) → ls ≡ levels r.elements → bs ≡ labels r.elements → head ++ (ls ++ bs) ≡ roll_of r
unfolding roll_of
rolled r head ls bs a b c = ap (λ xs. xs ++ (ls ++ bs)) a ∙ ap (λ xs. header r.depth (count_of r) ++ (xs ++ bs)) b ∙ ap (λ xs. header r.depth (count_of r) ++ (levels r.elements ++ xs)) c

pub written : (r : Receipt) (memory head ls bs : List ℕ) (n j k : ℕ) → n ≡ count_of r → j ≡ n → k ≡ n → roll_length (count_of r) ≤ length memory
    → head ≡ header r.depth (count_of r) → ls ≡ levels r.elements → bs ≡ labels r.elements
    → put_mid (8 + n) k (put_mid 8 j (head ++ drop 8 memory) ls) bs ≡ memory_after r memory
written r memory head ls bs n j k counted a b room headed leveled labeled =
    let l = roll_length (count_of r) in
    let front = head ++ drop 8 memory in
    let middle = put_mid 8 j front ls in
    let whole = put_mid (8 + n) k middle bs in
    let hl = ap length headed in
    let ll = ap length leveled ∙ length-map r.elements (λ (e : Element). e.level) in
    let bl = ap length labeled ∙ length-map r.elements (λ (e : Element). e.label) in
    let fl = length-append head (drop 8 memory) in
    let f8 : 8 ≤ length front = omega arith in
    let t1 = take-put_mid 8 j front ls (8 + n) (omega arith) f8 in
    let t1l = ap length t1 in
    let ml = length-append (take 8 front) ls in
    let f8l = length-take-le 8 front f8 in
    let m8 : 8 + n ≤ length middle = omega (arith, length-take (8 + n) middle) in
    let t2 = take-put_mid (8 + n) k middle bs l (omega arith) m8 in
    let d2 = drop-put_mid (8 + n) k middle bs l (omega arith) m8 (omega arith) in
    let d1 = drop-put_mid 8 j front ls l (omega arith) f8 (omega arith) in
    let d0 = drop-append-drop 8 memory head l (omega arith) hl in
    let t0 = take-append-le 8 head (drop 8 memory) (omega arith) ∙ take_all 8 head (omega arith) in
    let t : take l whole ≡ roll_of r = t2 ∙ ap (λ xs. xs ++ bs) (t1 ∙ ap (λ xs. xs ++ ls) t0) ∙ append_assoc head ls bs ∙ rolled r head ls bs headed leveled labeled in
    sym (take-append-drop l whole) ∙ ap (λ xs. xs ++ drop l whole) t ∙ ap (λ ys. roll_of r ++ ys) (d2 ∙ d1 ∙ d0)
    ∙ sym (cond-false (ltb (length memory) l) memory (roll_of r ++ drop l memory) (le-ltb (length memory) l room))
