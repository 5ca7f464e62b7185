-- Records: what a block says, what a caller gives, and the bytes of a record's block.
use Rattle.std.specs.Prelude.{ℕ, ◌-◌, ◌*◌, List, [], ◌++◌, length, take, ℤ, Ok, Err}
use Rattle.std.specs.Option.{unwrap_or}
use Rattle.wire.specs.declared.forms.Form.{Form}
use Rattle.wire.specs.declared.forms.Form.TheVariants.{Checksummed}
use Rattle.wire.specs.Blocks.{block_bytes, checksum}
use Rattle.wire.specs.Forms.{form_of, checksum_pairs}
use Rattle.books.specs.Books.{Meaning, Writing}

-- what a block says: a form, a mode, a submode and a list
pub record Record : Type 0 where
  pub form : Form
  pub mode : ℕ
  pub submode : ℕ
  pub numbers : List ℤ

abbrev pub says : Form → ℕ → ℕ → List ℤ → Record
says form mode submode numbers = record { form = form; mode = mode; submode = submode; numbers = numbers }

-- what a caller gives: a form by its number
pub record Given : Type 0 where
  pub form : ℕ
  pub mode : ℕ
  pub submode : ℕ
  pub numbers : List ℤ

abbrev pub gives : ℕ → ℕ → ℕ → List ℤ → Given
gives form mode submode numbers = record { form = form; mode = mode; submode = submode; numbers = numbers }

-- the form that was given; another number than a form's is refused before it comes to this
abbrev pub given_form : ℕ → Form
given_form number = unwrap_or (form_of number) Checksummed

-- the record that was given
abbrev pub recorded : Given → Record
recorded g = says (given_form g.form) g.mode g.submode g.numbers

-- bytes with the CHECKSUM that their form asks for at their end, in the place of what stood there
abbrev pub sealed : Form → List ℕ → List ℕ
sealed form bs =
    take (length bs - 2 * checksum_pairs form) bs ++ checksum form (take (length bs - 2 * checksum_pairs form) bs)

-- the block around a written field
abbrev pub as_block : Record → Writing → Writing
as_block r (Ok field) = Ok (block_bytes r.form r.mode r.submode field)
as_block r (Err f) = Err f

-- a record written as its block under a book
abbrev pub block_writing : Meaning → Record → Writing
block_writing M r = as_block r (M.writing r.mode r.submode r.numbers)

-- the bytes that were written: none where a list has a fault
abbrev pub bytes_in : Writing → List ℕ
bytes_in (Ok bs) = bs
bytes_in (Err f) = []

abbrev pub block_with : Record → Writing → List ℕ
block_with r (Ok field) = block_bytes r.form r.mode r.submode field
block_with r (Err f) = []

-- the block of a record under a book
abbrev pub block_of : Meaning → Record → List ℕ
block_of M r = block_with r (M.writing r.mode r.submode r.numbers)
