-- A number in so many bytes: what is written reads back, and what is read is what was written.
use Rattle.std.proofs.Common.{◌≡◌, ℕ, zero, suc, ◌+◌, ◌/◌, ◌%◌, ◌^◌, ◌<◌, List, [], ◌∷◌, ◌++◌, length, get_or, take, sym, ap, ◌∙◌, add-one, div-add-mod', arith}
use Rattle.std.specs.Int.Digits.{AllBelowBase}
use Rattle.std.proofs.lemmas.Nat.{div_below, div-mul-add, mod-mul-add}
use Rattle.std.proofs.lemmas.Grind.{pow_more}
use Rattle.std.proofs.lemmas.Int.Digits.{number_push}
use Rattle.std.proofs.ByRecursion.{All-get_or, All-take}
use Rattle.std.proofs.lemmas.List.{length-take-le, nil_from_length, take_all, take_more}
use Rattle.model.specs.Roll.{big_endian}
use Rattle.model.specs.Reading.{number_in}

-- A written number reads back.
pub number_written : (w n : ℕ) → n < 256 ^ w → number_in (big_endian w n) ≡ n
number_written zero n h = omega arith
number_written (suc w) n h =
    let p = rw add-one at (pow_more 256 w) in
    let ih = number_written w (n / 256) (div_below n 256 (256 ^ w) (omega arith) (omega arith)) in
    rw (number_push 256 (big_endian w (n / 256)) (n % 256), ih) (div-add-mod' n 256)

-- Bytes are those that are written for their number.
pub number_read : (w : ℕ) (bytes : List ℕ) → length bytes ≡ w → AllBelowBase 256 bytes → big_endian w (number_in bytes) ≡ bytes
number_read zero bytes e u = sym (nil_from_length bytes e)
number_read (suc w) bytes e u =
    let front = take w bytes in
    let last = get_or bytes w 0 in
    let here : w < length bytes = omega arith in
    let whole : bytes ≡ front ++ (last ∷ []) = sym (take_all (w + 1) bytes (omega arith)) ∙ take_more bytes w 0 here in
    let low = All-get_or (λ d. d < 256) bytes w 0 here u in
    let m = ap number_in whole ∙ number_push 256 front last in
    let ih = number_read w front (length-take-le w bytes (omega arith)) (All-take (λ d. d < 256) w bytes u) in
    rw (m, div-mul-add (number_in front) 256 last low, mod-mul-add (number_in front) 256 last low, ih) (sym whole)
