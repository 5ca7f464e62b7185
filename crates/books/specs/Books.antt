-- What a book means, its laws, and what its four questions answer.
use Rattle.std.specs.Prelude.{◌≡◌, ℕ, ◌%◌, ◌≤◌, cond, List, length, ℤ, None, Ok, Err, Option, Result, FitsSigned, ◌==◌}
use Rattle.std.specs.Int.{w32}
use Rattle.std.specs.List.{slice_get, AllByRecursion}
use Rattle.wire.specs.Pairs.{Bytes}
use Rattle.books.specs.declared.faults.FieldFault.{FieldFault}
use Rattle.books.specs.declared.faults.Rule.TheVariants.{DataLength}
use Rattle.books.specs.Faults.{fault_at}

-- a data field read: its numbers, or its fault
abbrev pub Reading : Type 0
Reading = Result (List ℤ) FieldFault

-- a list written: the bytes of its data field, or its fault
abbrev pub Writing : Type 0
Writing = Result (List ℕ) FieldFault

-- a signed number of 32 bits
abbrev pub Number : ℤ → Type 0
Number z = FitsSigned w32 z

-- the most bytes of a data field
abbrev pub most_bytes : ℕ
most_bytes = 4092

-- how a book reads and writes at each mode and submode, in that order
pub record Meaning : Type 0 where
  pub reading : ℕ → ℕ → List ℕ → Reading
  pub writing : ℕ → ℕ → List ℤ → Writing

-- The laws of a way to read fields and a way to write lists.
pub record Agree (read : List ℕ → Reading) (write : List ℤ → Writing) : Type 0 where
  -- a list is written as a field exactly when that field reads as the list
  pub written : (list : List ℤ) (field : List ℕ) → AllByRecursion Number list → write list ≡ Ok field → read field ≡ Ok list
  pub reads : (field : List ℕ) (list : List ℤ) → Bytes field → read field ≡ Ok list → write list ≡ Ok field
  -- what is written is bytes, and what is read fits 32 bits
  pub bytes : (list : List ℤ) (field : List ℕ) → AllByRecursion Number list → write list ≡ Ok field → Bytes field
  pub numbers : (field : List ℕ) (list : List ℤ) → Bytes field → read field ≡ Ok list → AllByRecursion Number list
  -- a field that is read has whole pairs, not too many bytes, and no more numbers than a field may have bytes
  pub even : (field : List ℕ) (list : List ℤ) → read field ≡ Ok list → length field % 2 ≡ 0
  pub short : (field : List ℕ) (list : List ℤ) → read field ≡ Ok list → length field ≤ most_bytes
  pub few : (field : List ℕ) (list : List ℤ) → read field ≡ Ok list → length list ≤ most_bytes

-- A book keeps the laws at each mode and submode.
abbrev pub Lawful : Meaning → Type 0
Lawful m = (mode submode : ℕ) → Agree (m.reading mode submode) (m.writing mode submode)

-- ---- what the four questions answer

-- how many numbers a field has, or its fault
abbrev pub judged : Reading → Result ℕ FieldFault
judged (Ok list) = Ok (length list)
judged (Err f) = Err f

-- the number at an index: none past the list, and none at a fault
abbrev pub number_at : Reading → ℕ → Option ℤ
number_at (Ok list) i = slice_get list i
number_at (Err f) i = None

-- how many bytes a list takes, or its fault
abbrev pub weighed : Writing → Result ℕ FieldFault
weighed (Ok field) = Ok (length field)
weighed (Err f) = Err f

-- what a write into a place answers: the fault of the list, or else of the place's length
abbrev pub answered : Writing → List ℕ → Result (Unit {0}) FieldFault
answered (Ok field) place = cond (length place == length field) (Ok tt) (Err (fault_at DataLength (length place)))
answered (Err f) place = Err f

-- what the place then holds: the field, or what it held where the write was turned down
abbrev pub placed : Writing → List ℕ → List ℕ
placed (Ok field) place = cond (length place == length field) field place
placed (Err f) place = place

-- a write into a place: what it answers, and what the place then holds
pub record Writes (w : Writing) (place : List ℕ) (result : Result (Unit {0}) FieldFault) (place' : List ℕ) : Type 0 where
  pub answer : result ≡ answered w place
  pub after : place' ≡ placed w place
