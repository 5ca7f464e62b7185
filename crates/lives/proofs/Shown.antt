-- The worked life, by computing.
use Rattle.std.proofs.Common.{ℕ, List, [], ◌∷◌, ◌++◌, replicate, pos, negsuc, refl, arith}
use Rattle.wire.specs.declared.forms.Form.TheVariants.{Checksummed}
use Rattle.wire.specs.Blocks.{block_bytes, read_head}
use Rattle.wire.specs.Classes.{tabled}
use Rattle.wire.specs.Pairs.{pair_sum}
use Rattle.wire.specs.Rows.{behind}
use Rattle.books.specs.declared.faults.Rule.TheVariants.{NumberRange}
use Rattle.books.specs.Faults.{fault_at}
use Rattle.judging.specs.declared.faults.Refusal.TheVariants.{List as ListFault}
use Rattle.judging.specs.declared.places.Phase.TheVariants.{Opened, Shut}
use Rattle.judging.specs.Blocks.{judged_in}
use Rattle.judging.specs.Places.{misplaced, astray}
use Rattle.records.specs.Records.{Given, gives}
use Rattle.records.specs.Drafts.{drafted}
use Rattle.products.specs.Opens.{open_walk, open_receipt}
use Rattle.products.specs.Receipts.{receipt, closed_walk}
use Rattle.products.specs.Calls.{adds, withdraws, closes, reopens, content, mended, Stored, stored, outcome, started}
use Rattle.products.specs.Holding.{held}
use Rattle.sending.specs.Sending.{sending}
use Rattle.lives.specs.Lives.{starts, called, turned_down, sends, begins, goes_on}
use Rattle.lives.specs.Worked.{Tray, bytes_of, first_block, word_block, sent_pairs, WorkedLife}

abbrev mem : List ℕ
mem = replicate 40 7

abbrev x0 : Stored
x0 = stored Opened Checksummed (content (bytes_of first_block) 1) 0 mem

abbrev x1 : Stored
x1 = stored Opened Checksummed (content (bytes_of (first_block ++ word_block)) 2) x0.product.bytes x0.memory

abbrev x2 : Stored
x2 = stored Shut Checksummed (content (bytes_of sent_pairs) 3) x1.product.bytes x1.memory

abbrev x3 : Stored
x3 = stored Opened Checksummed (content (bytes_of (first_block ++ word_block)) 2) x2.product.bytes x2.memory

abbrev x4 : Stored
x4 = stored Opened Checksummed (content (bytes_of first_block) 1) x3.product.bytes x3.memory

abbrev word : Given
word = gives 1 2 9 (pos 513 ∷ [])

-- a number below 0 is none of plain words
abbrev wrong : Given
wrong = gives 1 2 9 (pos 1 ∷ (negsuc 0 ∷ []))

abbrev tray_after : Tray
tray_after = record { taken = 7 ∷ sent_pairs; room = 89 }

pub worked_life : WorkedLife
unfolding block_bytes read_head tabled pair_sum behind judged_in misplaced astray drafted open_walk open_receipt receipt closed_walk mended outcome started held sending
worked_life =
    goes_on (goes_on (goes_on (goes_on (goes_on (goes_on (begins (starts mem 0 0 (pos 86 ∷ (pos 54 ∷ [])) x0 (omega arith, (omega arith, tt)) refl))
    (turned_down (adds wrong) (ListFault (fault_at NumberRange 1)) (omega arith, (omega arith, tt)) refl refl))
    (called (adds word) x1 (omega arith, tt) refl refl))
    (called closes x2 tt refl refl))
    (sends 11 tray_after refl refl refl refl))
    (called reopens x3 tt refl refl))
    (called (withdraws 1) x4 tt refl refl)
