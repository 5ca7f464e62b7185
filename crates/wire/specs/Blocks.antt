-- One block as bytes: what it is written as, and what is read at the front of a row of bytes.
use Rattle.std.specs.Prelude.{◌≡◌, ℕ, zero, suc, ◌+◌, ◌-◌, ◌*◌, ◌/◌, ◌%◌, ◌≤◌, Bool, false, not, ◌||◌, List, [], ◌∷◌, ◌++◌, length, take, drop, Ok, Err, Result, ◌==◌, nat_lt, slice_index}
use Rattle.std.specs.List.{between}
use Rattle.wire.specs.declared.blocks.Head.{Head}
use Rattle.wire.specs.declared.blocks.Malformed.{Malformed}
use Rattle.wire.specs.declared.blocks.Malformed.TheVariants.{Short, Flag, Length, Past, Sum, Mode}
use Rattle.wire.specs.declared.forms.Form.{Form}
use Rattle.wire.specs.declared.forms.Form.TheVariants.{Checksummed, LengthOnly}
use Rattle.wire.specs.Forms.{form_number, checksum_pairs, fewest_pairs}
use Rattle.wire.specs.Pairs.{pair, pair_bytes, pair_sum}
use Rattle.wire.specs.Steps.{◌>>=◌, refuse}

-- the number of each refusal of a block by itself
abbrev pub malformed_number : Malformed → ℕ
malformed_number Short = 3
malformed_number Flag = 4
malformed_number Length = 5
malformed_number Past = 6
malformed_number Sum = 7
malformed_number Mode = 8

-- the most pairs of a block, and the highest mode
abbrev pub most_pairs : ℕ
most_pairs = 2048

abbrev pub most_mode : ℕ
most_mode = 63

-- ---- writing

-- LENGTH of a block with so many data bytes: the number of all its pairs
abbrev pub pairs_of : Form → ℕ → ℕ
pairs_of form bytes = fewest_pairs form + bytes / 2

-- all but the CHECKSUM
abbrev pub front : Form → ℕ → ℕ → List ℕ → List ℕ
front form mode submode field =
    pair_bytes (form_number form * 16384 + pairs_of form (length field)) ++ (mode ∷ submode ∷ field)

-- what brings the sum of all pairs to 0
abbrev pub checksum : Form → List ℕ → List ℕ
checksum Checksummed bs = pair_bytes ((65536 - pair_sum bs) % 65536)
checksum LengthOnly bs = []

unfoldable pub block_bytes : Form → ℕ → ℕ → List ℕ → List ℕ
block_bytes form mode submode field =
    front form mode submode field ++ checksum form (front form mode submode field)

-- a block that can be written and read back
pub record Sized (form : Form) (mode : ℕ) (field : List ℕ) : Type 0 where
  pub mode_fits : mode ≤ most_mode
  pub even : length field % 2 ≡ 0
  pub short : pairs_of form (length field) ≤ most_pairs

-- ---- reading

abbrev pub first_pair : List ℕ → ℕ
first_pair bs = pair (slice_index bs 0) (slice_index bs 1)

-- the form of a flag
abbrev pub flagged : ℕ → Result Form Malformed
flagged zero = Ok Checksummed
flagged (suc zero) = Ok LengthOnly
flagged (suc (suc n)) = Err Flag

-- the first two pairs in a form
abbrev pub head_in : Form → List ℕ → Head
head_in form bs = record { form = form; pairs = first_pair bs % 16384; modes = record { mode = slice_index bs 2; submode = slice_index bs 3 } }

-- how many bytes a block has
abbrev pub size : Head → ℕ
size h = 2 * h.pairs

-- LENGTH within its bounds, and the block within the bytes
abbrev pub framed_in : Form → List ℕ → Result Head Malformed
framed_in form bs = do
  _ ← refuse (nat_lt (head_in form bs).pairs (fewest_pairs form) || nat_lt most_pairs (head_in form bs).pairs) Length
  _ ← refuse (nat_lt (length bs) (size (head_in form bs))) Past
  Ok (head_in form bs)

abbrev pub framed : List ℕ → Result Head Malformed
framed bs = do
  _ ← refuse (nat_lt (length bs) 4) Short
  form ← flagged (first_pair bs / 16384)
  framed_in form bs

-- a block without CHECKSUM passes
abbrev pub unbalanced : Form → List ℕ → Bool
unbalanced Checksummed bs = not (pair_sum bs == 0)
unbalanced LengthOnly bs = false

abbrev pub sound : Head → List ℕ → Result (Unit {0}) Malformed
sound h bs = do
  _ ← refuse (unbalanced h.form (take (size h) bs)) Sum
  refuse (nat_lt most_mode h.modes.mode) Mode

-- the head of the block at the front of bs, where that block is well formed
unfoldable pub read_head : List ℕ → Result Head Malformed
read_head bs = do
  h ← framed bs
  _ ← sound h bs
  Ok h

-- where the data field ends: at the CHECKSUM, or with the block
abbrev pub field_end : Head → ℕ
field_end h = 2 * (h.pairs - checksum_pairs h.form)

-- what lies between the mode pair and there
abbrev pub field_of : Head → List ℕ → List ℕ
field_of h bs = between 4 (field_end h) bs

-- what follows the block
abbrev pub rest_of : Head → List ℕ → List ℕ
rest_of h bs = drop (size h) bs

-- a head whose block lies at the front of bs
pub record Framed (h : Head) (bs : List ℕ) : Type 0 where
  pub least : fewest_pairs h.form ≤ h.pairs
  pub most : h.pairs ≤ most_pairs
  pub within : size h ≤ length bs
