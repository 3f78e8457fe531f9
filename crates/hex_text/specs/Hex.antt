-- Bytes as hexadecimal text. Assumes nothing.
use Rattle.std.specs.Prelude.{◌≡◌, ℕ, ◌+◌, ◌-◌, ◌*◌, ◌/◌, ◌%◌, ◌<◌, cond, ◌&&◌, List, [], ◌∷◌, length, take, All, IsSome, Some, None, Ok, Err, vec_items, Option, Result, Vec, ◌≢◌, nat_le, nat_lt, slice_index}
use Rattle.std.specs.declared.alloc.Global.{Global}
use Rattle.std.specs.List.{slice_get}
use Rattle.hex_text.specs.declared.text.HexFault.{HexFault}
use Rattle.hex_text.specs.declared.text.HexFault.TheVariants.{Odd, Digit, Memory}

-- the value of a digit, in upper or lower case
abbrev pub hex_value : ℕ → Option ℕ
hex_value c = cond (nat_le 48 c && nat_le c 57) (Some (c - 48)) (cond (nat_le 97 c && nat_le c 102) (Some (c - 87)) (cond (nat_le 65 c && nat_le c 70) (Some (c - 55)) None))

-- the digit of a value, in lower case
abbrev pub hex_digit : ℕ → ℕ
hex_digit v = cond (nat_lt v 10) (48 + v) (87 + v)

-- a byte before others, from its two digits
abbrev pub hex_byte : Option ℕ → Option ℕ → Option (List ℕ) → Option (List ℕ)
hex_byte None l bs = None
hex_byte (Some h) None bs = None
hex_byte (Some h) (Some l) None = None
hex_byte (Some h) (Some l) (Some bs) = Some ((16 * h + l) ∷ bs)

-- the bytes that a text writes, two digits for each, or that it writes none
abbrev pub hex_bytes : List ℕ → Option (List ℕ)
hex_bytes [] = Some []
hex_bytes (h ∷ []) = None
hex_bytes (h ∷ l ∷ cs) = hex_byte (hex_value h) (hex_value l) (hex_bytes cs)

-- bytes as text
abbrev pub hex_text : List ℕ → List ℕ
hex_text [] = []
hex_text (b ∷ bs) = hex_digit (b / 16) ∷ hex_digit (b % 16) ∷ hex_text bs

-- what a reading of hexadecimal text answers: the bytes; or it is none, since it has an odd number of digits, or no digit at an index; or memory is short
abbrev pub HexRead : List ℕ → Result (Vec ℕ Global) HexFault → Type 0
HexRead t (Ok v) = hex_bytes t ≡ Some (vec_items v)
HexRead t (Err Odd) = (hex_bytes t ≡ None) × (length t % 2 ≡ 1)
HexRead t (Err (Digit k)) = (hex_bytes t ≡ None) × (hex_value (slice_index t k) ≡ None) × (k < length t)
HexRead t (Err Memory) = Unit {0}

-- where a reading stops at a character, digits stand before it
abbrev pub AfterDigits : List ℕ → HexFault → Type 0
AfterDigits t (Digit k) = All (λ c. IsSome (hex_value c)) (take k t)
AfterDigits t Odd = Unit {0}
AfterDigits t Memory = Unit {0}

-- where two lists differ first, if they do
abbrev pub Differs : List ℕ → List ℕ → Option ℕ → Type 0
Differs xs ys None = xs ≡ ys
Differs xs ys (Some k) = (take k xs ≡ take k ys) × (slice_get xs k ≢ slice_get ys k)
