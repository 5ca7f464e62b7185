-- Bytes laid into a memory.
use Rattle.std.specs.Prelude.{ℕ, ◌+◌, ◌-◌, max, Bool, cond, ◌&&◌, List, ◌++◌, length, take, drop, replicate, nat_le}

-- so many zeros
abbrev pub zeros : ℕ → List ℕ
zeros n = replicate n 0

-- a memory with bs over it from `at` on
abbrev pub laid : List ℕ → ℕ → List ℕ → List ℕ
laid mem at bs = take at mem ++ (bs ++ drop (at + length bs) mem)

-- bytes with x in the place of those from a to b
abbrev pub spliced : ℕ → ℕ → List ℕ → List ℕ → List ℕ
spliced a b x bs = take a bs ++ (x ++ drop b bs)

-- a memory whose first `old` bytes were in use, after `new` took their place: what is freed is 0, later bytes stay
abbrev pub rewritten : List ℕ → ℕ → List ℕ → List ℕ
rewritten new old mem = new ++ (zeros (old - length new) ++ drop (max old (length new)) mem)

-- whether the first `used` bytes have a part from a to b, and the memory has room for `size` bytes in its place
abbrev pub has_room : ℕ → ℕ → ℕ → ℕ → List ℕ → Bool
has_room used a b size mem = nat_le a b && (nat_le b used && (nat_le used (length mem) && nat_le ((used - (b - a)) + size) (length mem)))

-- the memory with `size` zeros in the place of that part, or as it was where there is no room
abbrev pub gapped : ℕ → ℕ → ℕ → ℕ → List ℕ → List ℕ
gapped used a b size mem = cond (has_room used a b size mem) (rewritten (spliced a b (zeros size) (take used mem)) used mem) mem
