-- Two's complement at any width: `half` is the worth of the sign bit.
use Rattle.std.specs.Prelude.{ℕ, ◌-◌, ◌*◌, Bool, cond, ℤ, pos, negsuc, nat_lt}

-- below the half the number itself, and from the half on the number less the whole; `negsuc k` is −1 − k
abbrev pub signed : ℕ → ℕ → ℤ
signed half n = cond (nat_lt n half) (pos n) (negsuc (2 * half - 1 - n))

-- the other way
abbrev pub unsigned : ℕ → ℤ → ℕ
unsigned half (pos n) = n
unsigned half (negsuc n) = 2 * half - 1 - n

-- −half to half − 1
abbrev pub in_half : ℕ → ℤ → Bool
in_half half (pos n) = nat_lt n half
in_half half (negsuc n) = nat_lt n half

-- the halves of a byte and of a pair
abbrev pub byte_half : ℕ
byte_half = 128

abbrev pub pair_half : ℕ
pair_half = 32768
