-- The bytes of a roll, one by one.
use Rattle.std.proofs.Common.{◌≡◌, ℕ, ◌+◌, ◌-◌, ◌<◌, ◌≤◌, List, ◌++◌, length, get_or, refl, ◌∙◌, arith, length-append}
use Rattle.std.proofs.lemmas.List.{length-map, get_or_append_left, get_or-append_right, get_or-map}
use Rattle.model.specs.Receipt.{Element, Receipt, absent, count_of, level_at, label_at}
use Rattle.model.specs.Roll.{header, header_length, levels, labels, roll_length, roll_of}

abbrev body : Receipt → List ℕ
body r = levels r.elements ++ labels r.elements

abbrev head : Receipt → List ℕ
head r = header r.depth (count_of r)

levels_long : (r : Receipt) → length (levels r.elements) ≡ count_of r
levels_long r = length-map r.elements (λ (e : Element). e.level)

labels_long : (r : Receipt) → length (labels r.elements) ≡ count_of r
labels_long r = length-map r.elements (λ (e : Element). e.label)

pub roll_long : (r : Receipt) → length (roll_of r) ≡ roll_length (count_of r)
unfolding roll_of
roll_long r = simp (length-append, length-map) (omega arith)

pub roll_head : (r : Receipt) (at : ℕ) → at < header_length → get_or (roll_of r) at 0 ≡ get_or (header r.depth (count_of r)) at 0
unfolding roll_of
roll_head r at h = get_or_append_left (head r) (body r) 0 at h

roll_body : (r : Receipt) (at : ℕ) → header_length ≤ at → get_or (roll_of r) at 0 ≡ get_or (body r) (at - header_length) 0
unfolding roll_of
roll_body r at h = get_or-append_right (head r) (body r) header_length at 0 refl h

pub roll_level : (r : Receipt) (at : ℕ) → header_length ≤ at → at - header_length < count_of r → get_or (roll_of r) at 0 ≡ level_at r (at - header_length)
roll_level r at h k =
    let c = levels_long r in
    roll_body r at h
    ∙ get_or_append_left (levels r.elements) (labels r.elements) 0 (at - header_length) (omega arith)
    ∙ get_or-map (λ (e : Element). e.level) r.elements (at - header_length) absent 0 k

pub roll_label : (r : Receipt) (at : ℕ) → header_length + count_of r ≤ at → at < roll_length (count_of r) → get_or (roll_of r) at 0 ≡ label_at r ((at - header_length) - count_of r)
roll_label r at h k =
    roll_body r at (omega arith)
    ∙ get_or-append_right (levels r.elements) (labels r.elements) (count_of r) (at - header_length) 0 (levels_long r) (omega arith)
    ∙ get_or-map (λ (e : Element). e.label) r.elements ((at - header_length) - count_of r) absent 0 (omega arith)
