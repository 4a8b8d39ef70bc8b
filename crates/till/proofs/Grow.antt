-- A table that tells a receipt, once a record is attached, tells the opened receipt, and its links are that one's.
use Rattle.std.proofs.Common.{◌≡◌, ℕ, ◌+◌, ◌<◌, List, [], ◌∷◌, ◌++◌, map, length, get_or, set, IfSome, Some, None, Ok, Err, Option, sym, refl, ap, ◌∙◌, subst, ⊎_elim, arith, length-set, length-append, get_or-set_other, get_or-set_same}
use lib.ListN.{get_or-append, length-map}
use lib.Seq.{get_or-append_seam, map-set_same}
use Rattle.std.proofs.lemmas.Bool.{cases_eq}
use Rattle.std.proofs.lemmas.List.{map-append}
use Rattle.model.specs.Receipt.{Element, Receipt, Lawful, count_of, innermost, last_inside, opened}
use Rattle.model.specs.Runs.{opening_fault, unless_fault, answer}
use Rattle.model.specs.declared.fault.ReceiptFault.{ReceiptFault}
use Rattle.model.proofs.Relatives.{nearest_some}
use Rattle.model.proofs.Search.{last_some}
use Rattle.model.proofs.Opening.{parent_old, parent_new, prev_old, prev_new, first_at, first_else, first_of_new, next_at, next_else, next_of_new}
use Rattle.model.proofs.Lawfully.{opening_lawful}
use Rattle.till.specs.declared.link.Link.{Link}
use Rattle.till.specs.Links.{unused, element, told, Fits, Linked, informed, attached, with_next, with_child}

-- Links alone change nothing that is told.
informed_tells : (ls : List Link) (n : ℕ) (p q : Option ℕ) → map element (informed ls n p q) ≡ map element ls
informed_tells ls n p (Some q) = map-set_same element ls q (with_next (get_or ls q unused) n) unused refl
informed_tells ls n (Some p) None = map-set_same element ls p (with_child (get_or ls p unused) n) unused refl
informed_tells ls n None None = refl

informed_length : (ls : List Link) (n : ℕ) (p q : Option ℕ) → length (informed ls n p q) ≡ length ls
informed_length ls n p (Some q) = length-set ls q _
informed_length ls n (Some p) None = length-set ls p _
informed_length ls n None None = refl

informed_else : (ls : List Link) (n i : ℕ) (p q : Option ℕ) → (p ≡ Some i → ⊥) → (q ≡ Some i → ⊥) → get_or (informed ls n p q) i unused ≡ get_or ls i unused
informed_else ls n i p (Some q) a b = get_or-set_other ls q i (with_next (get_or ls q unused) n) unused (λ e. b (ap Some (sym e)))
informed_else ls n i (Some p) None a b = get_or-set_other ls p i (with_child (get_or ls p unused) n) unused (λ e. a (ap Some (sym e)))
informed_else ls n i None None a b = refl

-- The three ways in which a record fits the opened receipt.
module _ (r : Receipt) (label i : ℕ) (x : Link) (h : i < count_of r) (w : Fits r i x) where
  fit_kept : (last_inside r ≡ Some i → ⊥) → (innermost r ≡ Some i → last_inside r ≡ None → ⊥) → Fits (opened r label) i x
  fit_kept a b = (w.0 ∙ sym (parent_old r label i h), w.1 ∙ sym (first_else r label i h b), w.2 ∙ sym (next_else r label i h a), w.3 ∙ sym (prev_old r label i h))

  fit_next : last_inside r ≡ Some i → Fits (opened r label) i (with_next x (count_of r))
  fit_next e = (w.0 ∙ sym (parent_old r label i h), w.1 ∙ sym (first_else r label i h (λ u p. cc)), sym (next_at r label i e), w.3 ∙ sym (prev_old r label i h))

  fit_first : innermost r ≡ Some i → last_inside r ≡ None → Fits (opened r label) i (with_child x (count_of r))
  fit_first u p = (w.0 ∙ sym (parent_old r label i h), sym (first_at r label i h u p), w.2 ∙ sym (next_else r label i h (λ q. cc)), w.3 ∙ sym (prev_old r label i h))

-- A record of the informed table, where it fitted before.
fit_old : (r : Receipt) (label i : ℕ) (xs : List Link) → i < length xs → i < count_of r → Fits r i (get_or xs i unused) → (u o : Option ℕ) → innermost r ≡ u → last_inside r ≡ o
    → Fits (opened r label) i (get_or (informed xs (count_of r) u o) i unused)
fit_old r label i xs room h w u (Some q) eu eo = ⊎_elim
    (λ (m : q ≡ i).
    let s : get_or (set xs q (with_next (get_or xs q unused) (count_of r))) i unused ≡ with_next (get_or xs i unused) (count_of r) = rw m (get_or-set_same xs i (with_next (get_or xs i unused) (count_of r)) unused room) in
    subst (Fits (opened r label) i) (sym s) (fit_next r label i (get_or xs i unused) h w (eo ∙ ap Some m)))
    (λ ne.
    let s = get_or-set_other xs q i (with_next (get_or xs q unused) (count_of r)) unused (λ e. ne (sym e)) in
    subst (Fits (opened r label) i) (sym s) (fit_kept r label i (get_or xs i unused) h w (λ e. let z : q ≡ i = cc in ne z) (λ a b. cc)))
    (cases_eq q i)
fit_old r label i xs room h w (Some p) None eu eo = ⊎_elim
    (λ (m : p ≡ i).
    let s : get_or (set xs p (with_child (get_or xs p unused) (count_of r))) i unused ≡ with_child (get_or xs i unused) (count_of r) = rw m (get_or-set_same xs i (with_child (get_or xs i unused) (count_of r)) unused room) in
    subst (Fits (opened r label) i) (sym s) (fit_first r label i (get_or xs i unused) h w (eu ∙ ap Some m) eo))
    (λ ne.
    let s = get_or-set_other xs p i (with_child (get_or xs p unused) (count_of r)) unused (λ e. ne (sym e)) in
    subst (Fits (opened r label) i) (sym s) (fit_kept r label i (get_or xs i unused) h w (λ e. cc) (λ a b. let z : p ≡ i = cc in ne z)))
    (cases_eq p i)
fit_old r label i xs room h w None None eu eo = fit_kept r label i (get_or xs i unused) h w (λ e. cc) (λ e _. cc)

abbrev fresh : ℕ → Receipt → Link
fresh label r = record { label = label; level = r.depth; parent = innermost r; child = None; next = None; previous = last_inside r }

fit_new : (r : Receipt) (label : ℕ) → Fits (opened r label) (count_of r) (fresh label r)
fit_new r label = (sym (parent_new r label), sym (first_of_new r label), sym (next_of_new r label), sym (prev_new r label))

-- The relatives of the next element are among those that are there.
pub parent_below : (ls : List Link) (d : ℕ) (o : Option ℕ) → o ≡ innermost (told ls d) → IfSome o (λ p. p < length ls)
parent_below ls d None e = tt
parent_below ls d (Some p) e = let c = length-map ls element in let s = nearest_some (told ls d) d (length (map element ls)) p (sym e) in omega arith

pub previous_below : (ls : List Link) (d : ℕ) (o : Option ℕ) → o ≡ last_inside (told ls d) → IfSome o (λ q. q < length ls)
previous_below ls d None e = tt
previous_below ls d (Some q) e = let c = length-map ls element in let s = last_some _ (length (map element ls)) q (sym e) in omega arith

module _ (ls : List Link) (d label : ℕ) where
  abbrev r : Receipt
  r = told ls d

  abbrev after : List Link
  after = attached ls (fresh label r)

  tells : told after (d + 1) ≡ opened r label
  tells = ap (λ (es : List Element). let s : Receipt = record { elements = es; depth = d + 1 } in s) (informed_tells _ (length ls) (innermost r) (last_inside r) ∙ map-append element ls (fresh label r ∷ []))

  counted : count_of r ≡ length ls
  counted = length-map ls element

  after_length : length after ≡ length ls + 1
  after_length = informed_length _ (length ls) (innermost r) (last_inside r) ∙ length-append ls (fresh label r ∷ [])

  fits_at : Linked ls d → (i : ℕ) → i < length after → Fits (opened r label) i (get_or after i unused)
  fits_at old i h =
      let e = after_length in
      let c = counted in
      let xs : List Link = ls ++ fresh label r ∷ [] in
      let l : length xs ≡ length ls + 1 = length-append ls (fresh label r ∷ []) in
      ⊎_elim
      (λ (m : i ≡ length ls).
      let k : get_or after i unused ≡ fresh label r =
      informed_else xs (length ls) i (innermost r) (last_inside r) (λ q. let b = parent_below ls d (Some i) (sym q) in omega arith) (λ q. let b = previous_below ls d (Some i) (sym q) in omega arith)
      ∙ rw m (get_or-append_seam ls (fresh label r) [] unused) in
      let f : Fits (opened r label) i (fresh label r) = subst (λ j. Fits (opened r label) j (fresh label r)) (c ∙ sym m) (fit_new r label) in
      subst (Fits (opened r label) i) (sym k) f)
      (λ ne.
      let b : i < length ls = omega arith in
      let f : Fits r i (get_or xs i unused) = subst (Fits r i) (sym (get_or-append ls (fresh label r ∷ []) unused i b)) (old i b) in
      subst (λ n. Fits (opened r label) i (get_or (informed xs n (innermost r) (last_inside r)) i unused)) c (fit_old r label i xs (omega arith) (omega arith) f (innermost r) (last_inside r) refl refl))
      (cases_eq i (length ls))

  linked_after : Linked ls d → Linked after (d + 1)
  linked_after old i h = subst (λ s. Fits s i (get_or after i unused)) (sym tells) (fits_at old i h)

-- An opening that is not refused.
pub accepts : {A : Type 0} (o : Option ReceiptFault) (v v' : A) → Ok v' ≡ answer o v → o ≡ None
accepts None v v' e = refl
accepts (Some f) v v' e = cc

-- A refused action leaves the receipt as it is, an accepted one changes it.
pub refused : {A : Type 0} (o : Option ReceiptFault) (v : A) (f : ReceiptFault) (r s : Receipt) → Err f ≡ answer o v → r ≡ unless_fault o s r
refused None v f r s e = cc
refused (Some g) v f r s e = refl

pub record Grown (ls ls' : List Link) (d label : ℕ) : Type 0 where
  pub lawful : Lawful (told ls' (d + 1))
  pub linked : Linked ls' (d + 1)
  pub tells : told ls' (d + 1) ≡ opened (told ls d) label

pub grown : (ls ls' : List Link) (d label : ℕ) (u o : Option ℕ) → Lawful (told ls d) → Linked ls d → opening_fault label (told ls d) ≡ None
    → u ≡ innermost (told ls d) → o ≡ last_inside (told ls d) → ls' ≡ attached ls (record { label = label; level = d; parent = u; child = None; next = None; previous = o }) → Grown ls ls' d label
grown ls ls' d label u o lawful linked none eu eo e =
    let q : ls' ≡ after ls d label = cc in
    let says : told ls' (d + 1) ≡ opened (told ls d) label = ap (λ x. told x (d + 1)) q ∙ tells ls d label in
    record { lawful = subst Lawful (sym says) (opening_lawful (told ls d) label lawful none); linked = subst (λ x. Linked x (d + 1)) (sym q) (linked_after ls d label linked); tells = says }

-- A record that is neither the new one nor told of it is as it was.
pub attached_else : (ls ls' : List Link) (i : ℕ) (l : Link) → ls' ≡ attached ls l → i < length ls → (l.parent ≡ Some i → ⊥) → (l.previous ≡ Some i → ⊥) → get_or ls' i unused ≡ get_or ls i unused
attached_else ls ls' i l e h a b = ap (λ xs. get_or xs i unused) e ∙ informed_else (ls ++ l ∷ []) (length ls) i l.parent l.previous a b ∙ get_or-append ls (l ∷ []) unused i h
