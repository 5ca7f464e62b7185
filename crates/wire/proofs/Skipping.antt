-- Blocks in a row, one block on.
use Rattle.std.proofs.Common.{◌≡◌, ℕ, zero, suc, ◌+◌, ◌-◌, ◌<◌, ◌≤◌, List, length, drop, refl, ap, arith, length-drop}
use Rattle.wire.specs.Rows.{extent, behind}

pub behind_none : (n : ℕ) (bs : List ℕ) → n ≡ 0 → behind n bs ≡ bs
unfolding behind
behind_none n bs e = ap (λ j. behind j bs) e

-- with `most` blocks to pass, i of them passed
pub behind_at : (most i : ℕ) (bs : List ℕ) → i < most → behind (most - i) bs ≡ behind (most - (i + 1)) (drop (extent bs) bs)
unfolding behind
behind_at most i bs h = let n : most - i ≡ suc (most - (i + 1)) = omega arith in ap (λ j. behind j bs) n

-- one block more
pub behind_more : (k : ℕ) (bs : List ℕ) → behind (suc k) bs ≡ drop (extent (behind k bs)) (behind k bs)
unfolding behind
behind_more zero bs = refl
behind_more (suc k) bs = behind_more k (drop (extent bs) bs)

pub behind_length : (k : ℕ) (bs : List ℕ) → length (behind k bs) ≤ length bs
unfolding behind
behind_length zero bs = omega arith
behind_length (suc k) bs = omega (arith, behind_length k (drop (extent bs) bs), length-drop (extent bs) bs)

pub behind_one : (k : ℕ) (bs : List ℕ) → behind 1 (behind k bs) ≡ behind (suc k) bs
unfolding behind
behind_one zero bs = refl
behind_one (suc k) bs = behind_one k (drop (extent bs) bs)
