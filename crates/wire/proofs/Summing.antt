-- The sum of the pairs, pair by pair.
use Rattle.std.proofs.Common.{◌≡◌, ℕ, ◌+◌, ◌%◌, ◌<◌, List, [], ◌∷◌, ◌++◌, length, get_or, refl, ap, arith}
use Rattle.wire.specs.Pairs.{pair, pairs, total}

pub total_front : (bs xs rest : List ℕ) → bs ≡ xs ++ rest → length xs ≡ 2 → total (pairs bs) ≡ pair (get_or xs 0 0) (get_or xs 1 0) + total (pairs rest)
total_front bs [] rest e h = absurd (omega arith)
total_front bs (a ∷ []) rest e h = absurd (omega arith)
total_front bs (a ∷ b ∷ []) rest e h = ap (λ l. total (pairs l)) e
total_front bs (a ∷ b ∷ c ∷ xs) rest e h = absurd (omega arith)

pub total_short : (bs : List ℕ) → length bs < 2 → total (pairs bs) ≡ 0
total_short [] h = refl
total_short (a ∷ []) h = refl
total_short (a ∷ b ∷ bs) h = absurd (omega arith)

pub total_append : (xs ys : List ℕ) → length xs % 2 ≡ 0 → total (pairs (xs ++ ys)) ≡ total (pairs xs) + total (pairs ys)
total_append [] ys h = omega arith
total_append (a ∷ []) ys h = absurd (omega arith)
total_append (a ∷ b ∷ xs) ys h = let more = total_append xs ys (omega arith) in omega arith
