-- Proofs, and no definitions: `signed` and `unsigned` undo each other.
use Rattle.std.specs.Prelude.{◌≡◌, ℕ, ◌-◌, ◌*◌, ◌<◌, true, false, ltb, ℤ, pos, negsuc, nat_lt, refl}
use Rattle.std.proofs.Common.{⊎_elim, arith}
use Rattle.std.proofs.lemmas.Bool.{cases_Bool, ltb-true, ltb-false, lt-ltb, le-ltb}
use Rattle.cells.specs.Signs.{signed, unsigned, in_half}

pub signed_unsigned : (half : ℕ) (z : ℤ) → in_half half z ≡ true → signed half (unsigned half z) ≡ z
signed_unsigned half (pos n) h = rw h
signed_unsigned half (negsuc n) h =
    let l = ltb-true n half h in
    let e : ltb (2 * half - 1 - n) half ≡ false = le-ltb _ _ (omega arith) in
    let b : 2 * half - 1 - (2 * half - 1 - n) ≡ n = omega arith in
    rw (e, b)

pub unsigned_signed : (half n : ℕ) → n < 2 * half → (unsigned half (signed half n) ≡ n) × (in_half half (signed half n) ≡ true)
unsigned_signed half n l =
    ⊎_elim
    (λ e. rw e (refl, e))
    (λ e.
    let m = ltb-false n half e in
    let b : 2 * half - 1 - (2 * half - 1 - n) ≡ n = omega arith in
    rw e (b, lt-ltb _ _ (omega arith)))
    (cases_Bool (nat_lt n half))

pub unsigned_less : (half : ℕ) (z : ℤ) → in_half half z ≡ true → unsigned half z < 2 * half
unsigned_less half (pos n) h = let l = ltb-true n half h in omega arith
unsigned_less half (negsuc n) h = let l = ltb-true n half h in omega arith
