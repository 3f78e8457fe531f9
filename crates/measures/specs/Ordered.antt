-- The two parts of a value in ordered seconds. Assumes nothing.
use Rattle.std.specs.Prelude.{◌≡◌, ℕ, ◌-◌, ◌/◌, ◌%◌, ◌≤◌, ℤ, pos, negsuc, ◌+ℤ◌, ◌*ℤ◌}

-- the whole second of a rank, rounded down
abbrev pub second_of : ℤ → ℤ
second_of (pos n) = pos (n / 1024)
second_of (negsuc n) = negsuc (n / 1024)

-- the place within the second
abbrev pub place_of : ℤ → ℕ
place_of (pos n) = n % 1024
place_of (negsuc n) = 1023 - n % 1024

-- the rank is 1,024 × second + place, with a place of 0 to 1,023: no other second and no other place makes the same rank
pub record Parts (rank second : ℤ) (place : ℕ) : Type 0 where
  pub few : place ≤ 1023
  pub whole : (pos 1024 *ℤ second) +ℤ pos place ≡ rank
