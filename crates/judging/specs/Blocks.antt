-- One block where it stands in a product.
use Rattle.std.specs.Prelude.{ℕ, cond, List, [], length, ℤ, Ok, Err, Result}
use Rattle.wire.specs.declared.blocks.Head.{Head}
use Rattle.wire.specs.Blocks.{read_head, field_of}
use Rattle.wire.specs.Steps.{◌>>=◌, blame}
use Rattle.books.specs.Books.{Meaning}
use Rattle.judging.specs.declared.faults.BlockFault.{BlockFault}
use Rattle.judging.specs.declared.faults.BlockFault.TheVariants.{Wire, Field}
use Rattle.judging.specs.declared.blocks.Found.{Found}
use Rattle.judging.specs.declared.places.Phase.{Phase}
use Rattle.judging.specs.declared.places.Phase.TheVariants.{Shut}
use Rattle.judging.specs.Places.{is_end, placed_in}

-- the list that the book reads in the data field; the end is not put to it
abbrev pub numbers_of : Meaning → Head → List ℕ → Result (List ℤ) BlockFault
numbers_of M h bs =
    cond (is_end h.modes.mode h.modes.submode) (Ok []) (blame Field (M.reading h.modes.mode h.modes.submode (field_of h bs)))

-- a block with its list
pub record Judged : Type 0 where
  pub head : Head
  pub numbers : List ℤ

-- the block at the front of bs as block k of a product in that phase: an open one has no end
unfoldable pub judged_in : Phase → Meaning → ℕ → List ℕ → Result Judged BlockFault
judged_in phase M k bs = do
  h ← blame Wire (read_head bs)
  _ ← placed_in phase k h
  l ← numbers_of M h bs
  Ok (record { head = h; numbers = l })

-- as block k of a closed product
abbrev pub judged_block : Meaning → ℕ → List ℕ → Result Judged BlockFault
judged_block M k bs = judged_in Shut M k bs

-- ---- the same with the count of its numbers
abbrev pub tally : Result (List ℤ) BlockFault → Result ℕ BlockFault
tally (Ok l) = Ok (length l)
tally (Err f) = Err f

abbrev pub counted_numbers : Meaning → Head → List ℕ → Result ℕ BlockFault
counted_numbers M h bs = tally (numbers_of M h bs)

abbrev pub found : Result Judged BlockFault → Result Found BlockFault
found (Ok x) = Ok (record { head = x.head; numbers = length x.numbers })
found (Err f) = Err f
