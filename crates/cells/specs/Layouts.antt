-- Layouts: a data field that has a head, and then groups of one cell.
use Rattle.std.specs.Prelude.{◌≡◌, ℕ, ◌+◌, ◌-◌, ◌*◌, ◌/◌, ◌%◌, ◌<◌, ◌≤◌, Bool, true, cond, ◌&&◌, List, length, ℤ, Some, None, Option, ◌==◌}
use Rattle.wire.specs.Steps.{◌>>=◌}
use Rattle.books.specs.declared.faults.Rule.TheVariants.{DataLength, ListLength}
use Rattle.books.specs.Books.{Reading, Writing, most_bytes}
use Rattle.cells.specs.Cells.{Cell, ◌then◌, repeated, or_fault}

-- the head, the group, and how many groups there may be
pub record Layout : Type 0 where
  pub head : Cell
  pub group : Cell
  pub many : ℕ → Bool

-- the whole, with k groups
abbrev pub whole : Layout → ℕ → Cell
whole l k = l.head then repeated k l.group

-- how many groups of `each` make up a length behind the first so many; none where these do not, or may not be so many
abbrev pub fitted : (ℕ → Bool) → ℕ → ℕ → ℕ → Option ℕ
fitted many first each n = cond (n == first + (n - first) / each * each && many ((n - first) / each)) (Some ((n - first) / each)) None

-- a field has the length of a whole, and reads as that; a list likewise
abbrev pub layout_reading : Layout → List ℕ → Reading
layout_reading l field = do
  k ← or_fault DataLength (length field) (fitted l.many l.head.size l.group.size (length field))
  (whole l k).reading 0 field

abbrev pub layout_writing : Layout → List ℤ → Writing
layout_writing l list = do
  k ← or_fault ListLength (length list) (fitted l.many l.head.count l.group.count (length list))
  (whole l k).writing 0 list

-- Groups are not empty, and each whole has whole pairs and not too many bytes or numbers.
pub record Fitting (l : Layout) : Type 0 where
  pub some_bytes : 0 < l.group.size
  pub some_numbers : 0 < l.group.count
  pub even : (k : ℕ) → l.many k ≡ true → (whole l k).size % 2 ≡ 0
  pub short : (k : ℕ) → l.many k ≡ true → (whole l k).size ≤ most_bytes
  pub few : (k : ℕ) → l.many k ≡ true → (whole l k).count ≤ most_bytes
