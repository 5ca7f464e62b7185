-- The plain-word book: a data field is its pairs of bytes, and each pair is a number.
use Rattle.std.specs.Prelude.{ℕ, ◌%◌, Bool, false, not, ◌||◌, List, map, length, ℤ, pos, negsuc, Ok, ◌==◌, nat_le, nat_lt, unsigned_abs}
use Rattle.std.specs.List.{flat_map}
use Rattle.wire.specs.Pairs.{pair_bytes, pairs}
use Rattle.wire.specs.Steps.{◌>>=◌, refuse}
use Rattle.books.specs.declared.faults.Rule.TheVariants.{DataLength, ListLength, NumberRange}
use Rattle.books.specs.Faults.{fault_at, first_fail, refuse_at}
use Rattle.books.specs.Books.{Meaning, Reading, Writing, most_bytes}

-- the most numbers of a list
abbrev pub most_words : ℕ
most_words = 2046

-- the highest number
abbrev pub top_word : ℕ
top_word = 65535

-- odd, or too many bytes
abbrev pub bad_length : ℕ → Bool
bad_length n = not (n % 2 == 0) || nat_lt most_bytes n

-- 0 to top
abbrev pub within : ℕ → ℤ → Bool
within top (pos n) = nat_le n top
within top (negsuc n) = false

-- the pairs of a field, as numbers
abbrev pub words : List ℕ → List ℤ
words field = map pos (pairs field)

-- the two bytes of each number of a list without negative numbers
abbrev pub word_bytes : List ℤ → List ℕ
word_bytes list = flat_map (λ z. pair_bytes (unsigned_abs z)) list

-- a field of whole pairs, and not too many, reads as its words
abbrev pub word_reading : List ℕ → Reading
word_reading field = do
  _ ← refuse (bad_length (length field)) (fault_at DataLength (length field))
  Ok (words field)

-- a list of not too many numbers, each 0 to the highest, is written as their bytes
abbrev pub word_writing : List ℤ → Writing
word_writing list = do
  _ ← refuse (nat_lt most_words (length list)) (fault_at ListLength (length list))
  _ ← refuse_at NumberRange (first_fail (within top_word) list)
  Ok (word_bytes list)

-- the same at every mode and submode
abbrev pub plain : Meaning
plain = record { reading = λ mode submode field. word_reading field; writing = λ mode submode list. word_writing list }
