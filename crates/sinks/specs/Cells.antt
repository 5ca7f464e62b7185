-- A memory as a row of cells of one width, one for each pair.
use Rattle.std.specs.Prelude.{ℕ, zero, suc, ◌+◌, ◌-◌, ◌*◌, ◌/◌, ◌%◌, min, List, [], ◌∷◌, ◌++◌, length, take, drop}

-- the most bytes of its memory that a sink uses
abbrev pub most_bytes : ℕ
most_bytes = 1048576

-- how many cells of w bytes are left behind the first n, in so many bytes
abbrev pub places : ℕ → ℕ → ℕ → ℕ
places w n bytes = min bytes most_bytes / w - n

-- what the first n cells of w bytes stand for
abbrev pub cells : (List ℕ → ℕ) → ℕ → ℕ → List ℕ → List ℕ
cells worth w zero bs = []
cells worth w (suc n) bs = worth (take w bs) ∷ cells worth w n (drop w bs)

-- a memory with xs over its bytes from place `at` on
abbrev pub over : ℕ → List ℕ → List ℕ → List ℕ
over at xs m = take at m ++ (xs ++ drop (at + length xs) m)

-- the digit of a pair that counts units, as text
abbrev pub octal_digit : ℕ → ℕ → ℕ
octal_digit p unit = 48 + p / unit % 8

-- a pair as six octal digits and the end of a line
abbrev pub octal_line : ℕ → List ℕ
octal_line p =
    octal_digit p 0o100000 ∷ octal_digit p 0o10000 ∷ octal_digit p 0o1000 ∷ octal_digit p 0o100 ∷ octal_digit p 0o10
    ∷ octal_digit p 1 ∷ 10 ∷ []

-- what digits are worth behind those that are worth n
abbrev pub worth_behind : ℕ → List ℕ → ℕ
worth_behind n [] = n
worth_behind n (d ∷ ds) = worth_behind (8 * n + (d - 48)) ds

-- what the six digits of a line are worth
abbrev pub octal_worth : List ℕ → ℕ
octal_worth bs = worth_behind 0 (take 6 bs)
