-- A product as its numbers: its bytes lie in the memory that comes with each call.
use Rattle.std.specs.Prelude.{ℕ}
use Rattle.wire.specs.declared.forms.Form.{Form}
use Rattle.judging.specs.declared.places.Phase.{Phase}
use Rattle.judging.specs.declared.places.Phase.TheVariants.{Opened, Shut}
use Rattle.products.specs.declared.tally.Tally.{Tally}
use Rattle.products.specs.declared.opened.Open.{Open}
use Rattle.products.specs.declared.closed.Closed.{Closed}

-- whether it has its end, its bytes, its blocks with the end where it has one, and its closing form
pub record Product : Type 0 where
  pub phase : Phase
  pub bytes : ℕ
  pub blocks : ℕ
  pub close : Form

abbrev pub of_open : Open → Product
of_open p = record { phase = Opened; bytes = p.bytes; blocks = p.blocks; close = p.close }

abbrev pub of_closed : Closed → Product
of_closed p = record { phase = Shut; bytes = p.bytes; blocks = p.blocks; close = p.close }

abbrev pub as_open : Product → Open
as_open p = record { bytes = p.bytes; blocks = p.blocks; close = p.close }

abbrev pub as_closed : Product → Closed
as_closed p = record { bytes = p.bytes; blocks = p.blocks; close = p.close }

-- what it counts
abbrev pub tally_of : Product → Tally
tally_of p = record { bytes = p.bytes; blocks = p.blocks; close = p.close }
