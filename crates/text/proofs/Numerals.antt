-- The digits of a number, one by one.
use Rattle.std.proofs.Common.{◌≡◌, ℕ, zero, suc, ◌+◌, ◌/◌, ◌%◌, ◌^◌, ◌<◌, ◌≤◌, cond, [], ◌∷◌, ◌++◌, map, length, sym, refl, ap, ◌∙◌, mod-eq_of_lt, le-div_iff_mul-le, arith, ne_eqb}
use native.Mathlib.Nat.{div-eq_of_lt, pow-le-pow_left}
use Rattle.std.specs.Int.Digits.{digits_of}
use Rattle.std.proofs.lemmas.Int.Digits.{digits_of_step, length-digits_of-le}
use Rattle.std.proofs.lemmas.List.{map_push, length-map}
use Rattle.text.specs.Numeral.{numeral}

spelt : (b n : ℕ) → 0 < n → numeral b n ≡ map (λ d. 48 + d) (digits_of b n)
unfolding numeral
spelt b n h =
    ap (λ t. cond t (48 ∷ []) (map (λ d. 48 + d) (digits_of b n))) (ne_eqb n 0 (λ z. omega arith))

pub numeral_one : (b n : ℕ) → 2 ≤ b → n < b → numeral b n ≡ (48 + n % b) ∷ []
unfolding numeral
numeral_one b zero h l = rw (mod-eq_of_lt l) refl
numeral_one b (suc n) h l =
    spelt b (suc n) (omega arith)
    ∙ ap (map (λ d. 48 + d)) (digits_of_step b (suc n) h (omega arith))
    ∙ rw (div-eq_of_lt l) refl

pub numeral_more : (b n : ℕ) → 2 ≤ b → b ≤ n → numeral b n ≡ numeral b (n / b) ++ ((48 + n % b) ∷ [])
numeral_more b n h l =
    let q = (le-div_iff_mul-le {k = b} {x = 1} {y = n} (omega arith)).1 (omega arith) in
    spelt b n (omega arith)
    ∙ ap (map (λ d. 48 + d)) (digits_of_step b n h (omega arith))
    ∙ map_push (λ d. 48 + d) (digits_of b (n / b)) (n % b)
    ∙ ap (λ xs. xs ++ ((48 + n % b) ∷ [])) (sym (spelt b (n / b) q))

-- in octal the largest number has 22 digits
pub length_numeral-le : (b n : ℕ) → 8 ≤ b → n < 2 ^ 64 → length (numeral b n) ≤ 22
unfolding numeral
length_numeral-le b zero h l = omega arith
length_numeral-le b (suc n) h l =
    let p : 8 ^ 22 ≤ b ^ 22 = pow-le-pow_left h 22 in
    rw (spelt b (suc n) (omega arith), length-map) (length-digits_of-le b 22 (suc n) (omega arith) (omega arith))
