-- Worked values of the format: what the definitions say of bytes that were written out by hand.
use Rattle.std.specs.Prelude.{◌≡◌, ℕ, List, [], ◌∷◌, ◌++◌, pos, negsuc, Ok, Err, codes, Result}
use Rattle.std.specs.List.{flat_map}
use Rattle.wire.specs.declared.blocks.Head.{Head}
use Rattle.wire.specs.declared.blocks.Malformed.TheVariants.{Short, Flag, Length, Sum}
use Rattle.wire.specs.declared.forms.Form.{Form}
use Rattle.wire.specs.declared.forms.Form.TheVariants.{Checksummed, LengthOnly}
use Rattle.wire.specs.Blocks.{read_head, field_of}
use Rattle.wire.specs.Pairs.{pair_bytes}
use Rattle.books.specs.declared.faults.Rule.TheVariants.{DataLength, ByteRange, WrongEnd, StraySeparator}
use Rattle.books.specs.Faults.{fault_at}
use Rattle.books.specs.Words.{plain}
use Rattle.judging.specs.declared.faults.BlockFault.TheVariants.{Wire, Leftover}
use Rattle.judging.specs.declared.faults.Refusal.{Refusal}
use Rattle.judging.specs.Faults.{located}
use Rattle.products.specs.declared.closed.Closed.{Closed}
use Rattle.products.specs.Receipts.{receipt, received}
use Rattle.text.specs.declared.lines.Line.{Line}
use Rattle.text.specs.Lines.{line_text}
use Rattle.lines.specs.Listing.{line_of}
use Rattle.four_kinds.specs.FourKinds.{four_kinds}

-- pairs as bytes
abbrev pub bytes_of : List ℕ → List ℕ
bytes_of ps = flat_map pair_bytes ps

abbrev pub head : Form → ℕ → ℕ → ℕ → Head
head form pairs mode submode = record { form = form; pairs = pairs; modes = record { mode = mode; submode = submode } }

-- bytes by their first pair
abbrev pub begun : ℕ → ℕ → ℕ → List ℕ → List ℕ
begun first mode submode rest = pair_bytes first ++ (mode ∷ submode ∷ rest)

-- ---- a product of 44 bytes: an identification, a wind, a text and the end
abbrev pub winds_product : List ℕ
winds_product =
    bytes_of (0x0005 ∷ 0x0101 ∷ 0x0056 ∷ 0x0036 ∷ 0xFE6E ∷ [])
    ++ (bytes_of (0x4008 ∷ 0x0503 ∷ 0x0C80 ∷ 0xFFFE ∷ 0x012C ∷ 0x010E ∷ 0x0019 ∷ 0x2600 ∷ [])
    ++ (bytes_of (0x0006 ∷ 0x0504 ∷ 0x4341 ∷ 0x564F ∷ 0x4B03 ∷ 0x1663 ∷ [])
    ++ bytes_of (0x0003 ∷ 0x0102 ∷ 0xFEFB ∷ [])))

abbrev pub winds_closed : Closed
winds_closed = record { bytes = 44; blocks = 4; close = Checksummed }

-- the text of a line of its listing
abbrev pub text_of : Result Line Refusal → List ℕ
text_of (Ok line) = line_text line
text_of (Err refusal) = []

abbrev pub listed : ℕ → List ℕ
listed n = text_of (line_of four_kinds winds_product winds_closed n)

-- ---- a wind with one barb, at speed 25
abbrev pub one_barb : ℕ → List ℕ
one_barb direction = bytes_of (0x0C80 ∷ 0xFFFE ∷ 0x012C ∷ direction ∷ 25 ∷ 0x2600 ∷ [])

pub record Worked : Type 0 where
  -- one block: form 0, 3/1, the words 86 and 54; its last pair makes the sum
  pub block : read_head (bytes_of (0x0005 ∷ 0x0301 ∷ 0x0056 ∷ 0x0036 ∷ 0xFC6E ∷ [])) ≡ Ok (head Checksummed 5 3 1)
  pub words :
      plain.reading 3 1 (field_of (head Checksummed 5 3 1) (bytes_of (0x0005 ∷ 0x0301 ∷ 0x0056 ∷ 0x0036 ∷ 0xFC6E ∷ [])))
      ≡ Ok (pos 86 ∷ pos 54 ∷ [])
  pub wrong_sum : read_head (bytes_of (0x0005 ∷ 0x0301 ∷ 0x0056 ∷ 0x0036 ∷ 0xFC6F ∷ [])) ≡ Err Sum
  -- first pairs, whatever follows: LENGTH below and above its bounds, flags that no form has, an empty block
  pub too_short : (m s : ℕ) (rest : List ℕ) → read_head (begun 0x0002 m s rest) ≡ Err Length
  pub too_long : (m s : ℕ) (rest : List ℕ) → read_head (begun 0x0801 m s rest) ≡ Err Length
  pub flag_10 : (m s : ℕ) (rest : List ℕ) → read_head (begun 0x8005 m s rest) ≡ Err Flag
  pub flag_11 : (m s : ℕ) (rest : List ℕ) → read_head (begun 0xC005 m s rest) ≡ Err Flag
  pub empty : (s : ℕ) (rest : List ℕ) → read_head (begun 0x4002 3 s rest) ≡ Ok (head LengthOnly 2 3 s)
  pub no_data : (s : ℕ) (rest : List ℕ) → field_of (head LengthOnly 2 3 s) (begun 0x4002 3 s rest) ≡ []
  -- the product of 44 bytes: cut short, with two bytes more, and whole
  pub cut : receipt four_kinds winds_product 38 ≡ Err (located 3 38 (Wire Short))
  pub more : receipt four_kinds (winds_product ++ (0 ∷ 0 ∷ [])) 46 ≡ Err (located 3 38 Leftover)
  pub whole : received four_kinds winds_product 44 ≡ Ok winds_closed
  pub line_0 : listed 0 ≡ codes "bytes=44 blocks=4 close=0\n"
  pub line_1 : listed 1 ≡ codes "block=0 at=0 form=0 mode=1 submode=1 class=control numbers=2\n"
  pub line_2 : listed 2 ≡ codes "block=1 at=10 form=1 mode=5 submode=3 class=data numbers=8\n"
  pub line_3 : listed 3 ≡ codes "block=2 at=26 form=0 mode=5 submode=4 class=data numbers=6\n"
  pub line_4 : listed 4 ≡ codes "block=3 at=38 form=0 mode=1 submode=2 class=control numbers=0\n"
  -- texts: A, RS, B, NUL, and A, B
  pub separator : four_kinds.reading 5 4 (65 ∷ 30 ∷ 66 ∷ 0 ∷ []) ≡ Err (fault_at StraySeparator 1)
  pub no_end : four_kinds.reading 5 4 (65 ∷ 66 ∷ []) ≡ Err (fault_at WrongEnd 1)
  -- winds: 12 bytes are one barb, 10 bytes none; direction 360 passes and 361 does not
  pub north :
      four_kinds.reading 5 3 (one_barb 360)
      ≡ Ok (pos 12 ∷ pos 1 ∷ negsuc 1 ∷ pos 300 ∷ pos 360 ∷ pos 25 ∷ pos 38 ∷ pos 0 ∷ [])
  pub past_north : four_kinds.reading 5 3 (one_barb 361) ≡ Err (fault_at ByteRange 6)
  pub ten_bytes : four_kinds.reading 5 3 (bytes_of (0x0C80 ∷ 0xFFFE ∷ 0x012C ∷ 0x010E ∷ 0x0019 ∷ [])) ≡ Err (fault_at DataLength 10)
