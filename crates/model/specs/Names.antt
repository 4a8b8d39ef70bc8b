-- What a name is: a letter, then letters, digits, "-", "_" or ".", all ASCII and not too many.
use Rattle.std.specs.Prelude.{ℕ, zero, suc, ◌-◌, Bool, true, false, ◌&&◌, ◌||◌, List, [], ◌∷◌, ◌==◌, nat_le}

-- the most bytes of a name
abbrev pub most_name : ℕ
most_name = 24

-- "A" to "Z" or "a" to "z"
abbrev pub is_letter : ℕ → Bool
is_letter b = (nat_le 65 b && nat_le b 90) || (nat_le 97 b && nat_le b 122)

-- "0" to "9"
abbrev pub is_digit : ℕ → Bool
is_digit b = nat_le 48 b && nat_le b 57

-- a letter, a digit, "-", "_" or "."
abbrev pub is_name_byte : ℕ → Bool
is_name_byte b = is_letter b || (is_digit b || (b == 45 || (b == 95 || b == 46)))

-- at most n bytes, each of which may stand in a name
abbrev pub are_name_bytes : ℕ → List ℕ → Bool
are_name_bytes n [] = true
are_name_bytes zero (b ∷ bs) = false
are_name_bytes (suc n) (b ∷ bs) = is_name_byte b && are_name_bytes n bs

abbrev pub is_name : List ℕ → Bool
is_name [] = false
is_name (b ∷ bs) = is_letter b && are_name_bytes (most_name - 1) bs
