-- Cells: the parts of a data field that has a fixed layout.
use Rattle.std.specs.Prelude.{◌≡◌, ℕ, zero, suc, ◌+◌, ◌*◌, ◌/◌, ◌%◌, ◌<◌, cond, List, [], ◌∷◌, ◌++◌, length, take, drop, ℤ, pos, Some, None, Ok, Err, Option, Result, ◌==◌, nat_le, slice_index, slice_index_or, unsigned_abs}
use Rattle.std.specs.List.{AllByRecursion}
use Rattle.wire.specs.Pairs.{Bytes, pair, pair_bytes}
use Rattle.wire.specs.Steps.{◌>>=◌}
use Rattle.books.specs.declared.faults.Rule.{Rule}
use Rattle.books.specs.declared.faults.Rule.TheVariants.{NumberRange, ByteRange}
use Rattle.books.specs.declared.faults.FieldFault.{FieldFault}
use Rattle.books.specs.Books.{Number}
use Rattle.books.specs.Faults.{fault_at}
use Rattle.books.specs.Words.{within}
use Rattle.cells.specs.Signs.{signed, unsigned, in_half, byte_half, pair_half}

-- ---- cells

-- a way from one list to another, told the place in the whole where the list begins, or the fault at its place
abbrev pub Way : Type 0 → Type 0 → Type 0
Way X Y = ℕ → List X → Result (List Y) FieldFault

-- so many bytes that stand for so many numbers: read from an offset on, and written from an index on
pub record Cell : Type 0 where
  pub size : ℕ
  pub count : ℕ
  pub reading : Way ℕ ℤ
  pub writing : Way ℤ ℕ

-- What is written reads back, and what is read is written so, wherever the cell stands.
pub record Sound (c : Cell) : Type 0 where
  pub written : (at : ℕ) (list : List ℤ) (field : List ℕ) → length list ≡ c.count → c.writing at list ≡ Ok field → (length field ≡ c.size) × Bytes field × ((from : ℕ) → c.reading from field ≡ Ok list)
  pub reads : (at : ℕ) (field : List ℕ) (list : List ℤ) → length field ≡ c.size → Bytes field → c.reading at field ≡ Ok list → AllByRecursion Number list × ((from : ℕ) → c.writing from list ≡ Ok field)
  pub counted : (at : ℕ) (field : List ℕ) (list : List ℤ) → length field ≡ c.size → c.reading at field ≡ Ok list → length list ≡ c.count

-- ---- cells in a row

-- the first n by one way, the others by the next; the first fault is told
abbrev pub in_turn : {X Y : Type 0} → ℕ → Way X Y → Way X Y → Way X Y
in_turn n first next at xs = do
  ys ← first at (take n xs)
  more ← next (at + n) (drop n xs)
  Ok (ys ++ more)

-- k times n, each by the same way
abbrev pub turns : {X Y : Type 0} → ℕ → ℕ → Way X Y → Way X Y
turns zero n way at xs = Ok []
turns (suc k) n way at xs = in_turn n way (turns k n way) at xs

-- no bytes and no numbers
abbrev pub empty : Cell
empty = record { size = 0; count = 0; reading = λ at field. Ok []; writing = λ at list. Ok [] }

infixr 30 ◌then◌
abbrev pub ◌then◌ : Cell → Cell → Cell
◌then◌ c d = record {
  size = c.size + d.size;
  count = c.count + d.count;
  reading = in_turn c.size c.reading d.reading;
  writing = in_turn c.count c.writing d.writing;
}

abbrev pub row : List Cell → Cell
row [] = empty
row (c ∷ cs) = c then row cs

abbrev pub repeated : ℕ → Cell → Cell
repeated k c = record {
  size = k * c.size;
  count = k * c.count;
  reading = turns k c.size c.reading;
  writing = turns k c.count c.writing;
}

-- whether a list passes, or its fault
abbrev pub checked : {Y : Type 0} → Result (List Y) FieldFault → Result (Unit {0}) FieldFault
checked (Ok ys) = Ok tt
checked (Err f) = Err f

-- ---- one number in a byte or a pair

-- the number that a byte or pair stands for by what it is worth, and the other way; none where it is out of range
pub record Code : Type 0 where
  pub number : ℕ → Option ℤ
  pub worth : ℤ → Option ℕ

-- Number and worth undo each other, and a worth is below the limit.
pub record Faithful (limit : ℕ) (c : Code) : Type 0 where
  pub forth : (z : ℤ) (n : ℕ) → c.worth z ≡ Some n → (n < limit) × (c.number n ≡ Some z)
  pub back : (n : ℕ) (z : ℤ) → n < limit → c.number n ≡ Some z → Number z × (c.worth z ≡ Some n)

-- what is made of the worth of a number from 0 to top, as it stands
abbrev pub upto_in : {A : Type 0} → (ℕ → A) → ℕ → ℤ → Option A
upto_in of top z = cond (within top z) (Some (of (unsigned_abs z))) None

-- 0 to top, as it stands
abbrev pub upto : ℕ → Code
upto top = record {
  number = λ n. cond (nat_le n top) (Some (pos n)) None;
  worth = upto_in (λ n. n) top;
}

-- what is made of the worth of a number in two's complement
abbrev pub twos_in : {A : Type 0} → (ℕ → A) → ℕ → ℤ → Option A
twos_in of half z = cond (in_half half z) (Some (of (unsigned half z))) None

-- two's complement
abbrev pub twos : ℕ → Code
twos half = record {
  number = λ n. Some (signed half n);
  worth = twos_in (λ n. n) half;
}

-- 0 or 128 for 0 or 1
abbrev pub bit_seven : Code
bit_seven = record {
  number = λ n. cond (n == 0) (Some (pos 0)) (cond (n == 128) (Some (pos 1)) None);
  worth = λ z. cond (within 1 z) (Some (128 * unsigned_abs z)) None;
}

-- a value that there must be, or else a rule is broken at a place
abbrev pub or_fault : {A : Type 0} → Rule → ℕ → Option A → Result A FieldFault
or_fault rule place (Some a) = Ok a
or_fault rule place None = Err (fault_at rule place)

abbrev pub in_byte : Code → Cell
in_byte c = record {
  size = 1;
  count = 1;
  reading = λ at field. or_fault ByteRange at (c.number (slice_index field 0)) >>= λ z. Ok (z ∷ []);
  writing = λ at list. or_fault NumberRange at (c.worth (slice_index_or list 0 (pos 0))) >>= λ n. Ok (n ∷ []);
}

abbrev pub in_pair : Code → Cell
in_pair c = record {
  size = 2;
  count = 1;
  reading = λ at field. or_fault ByteRange at (c.number (pair (slice_index field 0) (slice_index field 1))) >>= λ z. Ok (z ∷ []);
  writing = λ at list. or_fault NumberRange at (c.worth (slice_index_or list 0 (pos 0))) >>= λ n. Ok (pair_bytes n);
}

-- ---- the cells of the blocks

-- 0 to 255
abbrev pub byte : Cell
byte = in_byte (upto 255)

-- 0 to a top
abbrev pub byte_upto : ℕ → Cell
byte_upto top = in_byte (upto top)

abbrev pub pair_upto : ℕ → Cell
pair_upto top = in_pair (upto top)

-- −32,768 to 32,767
abbrev pub signed_pair : Cell
signed_pair = in_pair (twos pair_half)

-- −128 to 127
abbrev pub signed_byte : Cell
signed_byte = in_byte (twos byte_half)

-- the byte 0 or 128 for 0 or 1
abbrev pub blanking : Cell
blanking = in_byte bit_seven

-- B in bit 7, R in bit 6 and the size in the other six bits, as three numbers
abbrev pub flag_numbers : ℕ → List ℤ
flag_numbers n = pos (n / 128) ∷ pos (n / 64 % 2) ∷ pos (n % 64) ∷ []

abbrev pub flag_worth : ℕ → ℤ → ℤ → ℤ → Result ℕ FieldFault
flag_worth at x y z = do
  b ← or_fault NumberRange at ((upto 1).worth x)
  r ← or_fault NumberRange (at + 1) ((upto 1).worth y)
  s ← or_fault NumberRange (at + 2) ((upto 63).worth z)
  Ok (128 * b + 64 * r + s)

abbrev pub flags : Cell
flags = record {
  size = 1;
  count = 3;
  reading = λ at field. Ok (flag_numbers (slice_index field 0));
  writing = λ at list. flag_worth at (slice_index_or list 0 (pos 0)) (slice_index_or list 1 (pos 0)) (slice_index_or list 2 (pos 0)) >>= λ n. Ok (n ∷ []);
}
