-- A number as text.
use Rattle.std.specs.Prelude.{ℕ, ◌+◌, cond, List, [], ◌∷◌, map, ◌==◌}
use Rattle.std.specs.Int.Digits.{digits_of}

-- the digits in a base up to ten: no leading zero, and 0 as `0`
unfoldable pub numeral : ℕ → ℕ → List ℕ
numeral b n = cond (n == 0) (48 ∷ []) (map (λ d. 48 + d) (digits_of b n))
