-- The two forms of a block.
use Rattle.std.specs.Prelude.{ℕ, zero, suc, ◌+◌, Some, None, Option, Result}
use Rattle.std.specs.Option.{ok_or}
use Rattle.wire.specs.declared.forms.Form.{Form}
use Rattle.wire.specs.declared.forms.NoSuchForm.{NoSuchForm}
use Rattle.wire.specs.declared.forms.Form.TheVariants.{Checksummed, LengthOnly}

-- the number of a form, which is its flag on the wire
abbrev pub form_number : Form → ℕ
form_number Checksummed = 0
form_number LengthOnly = 1

-- the form of a number
abbrev pub form_of : ℕ → Option Form
form_of zero = Some Checksummed
form_of (suc zero) = Some LengthOnly
form_of (suc (suc n)) = None

-- the same, and what is told where there is none
abbrev pub form_numbered : ℕ → Result Form NoSuchForm
form_numbered n = ok_or (form_of n) (record {})

-- how many pairs the CHECKSUM takes
abbrev pub checksum_pairs : Form → ℕ
checksum_pairs Checksummed = 1
checksum_pairs LengthOnly = 0

-- a block without data: LENGTH, the mode pair and the CHECKSUM
abbrev pub fewest_pairs : Form → ℕ
fewest_pairs f = 2 + checksum_pairs f
