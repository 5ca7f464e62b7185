-- Which line has which number.
use Rattle.std.specs.Prelude.{ℕ, ◌-◌, cond, List, Ok, Result, ◌==◌}
use Rattle.wire.specs.Forms.{form_number}
use Rattle.wire.specs.Steps.{◌>>=◌}
use Rattle.books.specs.Books.{Meaning}
use Rattle.judging.specs.declared.faults.Refusal.{Refusal}
use Rattle.products.specs.declared.closed.Closed.{Closed}
use Rattle.products.specs.Holding.{is_held}
use Rattle.reading.specs.Facts.{told_facts}
use Rattle.text.specs.declared.lines.Line.{Line}
use Rattle.text.specs.declared.lines.Line.TheVariants.{Product, Block}

abbrev pub product_line : Meaning → List ℕ → Closed → Result Line Refusal
product_line M mem p = do
  _ ← is_held M mem p
  Ok (Product (record { bytes = p.bytes; blocks = p.blocks; close = form_number p.close }))

abbrev pub block_line : Meaning → List ℕ → Closed → ℕ → Result Line Refusal
block_line M mem p k = do
  f ← told_facts M mem p k
  Ok (Block (record {
    block = k;
    at = f.at;
    form = form_number f.form;
    modes = f.modes;
    class = f.class;
    numbers = f.numbers;
  }))

-- line 0 is the product's, line n that of block n - 1
abbrev pub line_of : Meaning → List ℕ → Closed → ℕ → Result Line Refusal
line_of M mem p n = cond (n == 0) (product_line M mem p) (block_line M mem p (n - 1))
