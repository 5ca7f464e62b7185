-- Proofs, and no definitions: cells of two bytes and of a line read as the pair that they were written for.
use Rattle.std.specs.Prelude.{◌≡◌, ℕ, ◌+◌, ◌-◌, ◌*◌, ◌/◌, ◌^◌, ◌<◌, refl}
use Rattle.std.proofs.Common.{arith}
use Rattle.wire.specs.Blocks.{first_pair}
use Rattle.wire.specs.Pairs.{pair_bytes}
use Rattle.sinks.specs.Cells.{octal_digit, octal_line, octal_worth}

pub some_bytes : (n : ℕ) → 0 < n + 1
some_bytes n = omega arith

pub bytes_back : (p : ℕ) → p < 2 ^ 16 → first_pair (pair_bytes p) ≡ p
bytes_back p h = omega arith

-- the digits, from the first on
pub octal_back : (p : ℕ) → p < 2 ^ 16 → octal_worth (octal_line p) ≡ p
octal_back p h =
    let a : 0 + (octal_digit p 0o100000 - 48) ≡ p / 0o100000 = omega arith in
    let b : 8 * (p / 0o100000) + (octal_digit p 0o10000 - 48) ≡ p / 0o10000 = omega arith in
    let d : 8 * (p / 0o10000) + (octal_digit p 0o1000 - 48) ≡ p / 0o1000 = omega arith in
    let e : 8 * (p / 0o1000) + (octal_digit p 0o100 - 48) ≡ p / 0o100 = omega arith in
    let f : 8 * (p / 0o100) + (octal_digit p 0o10 - 48) ≡ p / 0o10 = omega arith in
    let g : 8 * (p / 0o10) + (octal_digit p 1 - 48) ≡ p = omega arith in
    rw (a, b, d, e, f, g) refl
