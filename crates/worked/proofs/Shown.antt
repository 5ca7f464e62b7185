-- The worked values, by computing.
use Rattle.std.proofs.Common.{◌≡◌, ℕ, false, ltb, List, ◌∷◌, length, refl, arith}
use Rattle.std.proofs.lemmas.Bool.{le-ltb}
use Rattle.wire.specs.Blocks.{read_head}
use Rattle.wire.specs.Classes.{tabled}
use Rattle.wire.specs.Pairs.{pair_sum}
use Rattle.wire.specs.Rows.{behind}
use Rattle.judging.specs.Blocks.{judged_in}
use Rattle.judging.specs.Places.{misplaced, astray}
use Rattle.products.specs.Holding.{held}
use Rattle.products.specs.Receipts.{receipt, closed_walk}
use Rattle.text.specs.Lines.{product_text, block_text}
use Rattle.text.specs.Numeral.{numeral}
use Rattle.worked.specs.Worked.{Worked}

long : (rest : List ℕ) → ltb (length (0 ∷ 0 ∷ 0 ∷ 0 ∷ rest)) 4 ≡ false
long rest = le-ltb _ _ (omega arith)

pub shown : Worked
unfolding read_head tabled pair_sum behind judged_in misplaced astray held receipt closed_walk numeral product_text block_text
shown = record {
  block = refl;
  words = refl;
  wrong_sum = refl;
  too_short = λ m s rest. rw (long rest) refl;
  too_long = λ m s rest. rw (long rest) refl;
  flag_10 = λ m s rest. rw (long rest) refl;
  flag_11 = λ m s rest. rw (long rest) refl;
  empty = λ s rest. rw (long rest) refl;
  no_data = λ s rest. refl;
  cut = refl;
  more = refl;
  whole = refl;
  line_0 = refl;
  line_1 = refl;
  line_2 = refl;
  line_3 = refl;
  line_4 = refl;
  separator = refl;
  no_end = refl;
  north = refl;
  past_north = refl;
  ten_bytes = refl;
}
