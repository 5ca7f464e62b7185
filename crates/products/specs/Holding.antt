-- Whether a memory holds a product.
use Rattle.std.specs.Prelude.{ℕ, suc, ◌-◌, ◌*◌, not, ◌||◌, List, length, Ok, Result, ◌==◌}
use Rattle.wire.specs.declared.forms.Form.{Form}
use Rattle.wire.specs.Forms.{form_number, fewest_pairs}
use Rattle.wire.specs.Steps.{◌>>=◌, refuse, blame}
use Rattle.books.specs.Books.{Meaning}
use Rattle.judging.specs.declared.faults.BlockFault.TheVariants.{Leftover}
use Rattle.judging.specs.declared.faults.Refusal.{Refusal}
use Rattle.judging.specs.declared.faults.Refusal.TheVariants.{NotHeld}
use Rattle.judging.specs.declared.places.Phase.{Phase}
use Rattle.judging.specs.declared.places.Phase.TheVariants.{Opened, Shut}
use Rattle.judging.specs.Faults.{located}
use Rattle.records.specs.Records.{Record}
use Rattle.products.specs.Receipts.{Received, receipt}
use Rattle.products.specs.Opens.{open_receipt}
use Rattle.products.specs.declared.opened.Open.{Open}
use Rattle.products.specs.declared.closed.Closed.{Closed}
use Rattle.products.specs.Products.{Product, as_open, as_closed}

-- the bytes of an end
abbrev pub end_size : Form → ℕ
end_size form = 2 * fewest_pairs form

-- what is read in a closed product; the fault of another count of blocks or another closing form stands at the last block
unfoldable pub held : Meaning → List ℕ → Closed → Result Received Refusal
held M mem p = do
  x ← blame NotHeld (receipt M mem p.bytes)
  _ ← refuse (not (suc (length x.records) == p.blocks) || not (form_number x.close == form_number p.close))
      (NotHeld (located (length x.records) (p.bytes - end_size x.close) Leftover))
  Ok x

abbrev pub is_held : Meaning → List ℕ → Closed → Result (Unit {0}) Refusal
is_held M mem p = do
  _ ← held M mem p
  Ok tt

-- what is read in an open product
abbrev pub held_open : Meaning → List ℕ → Open → Result (List Record) Refusal
held_open M mem p = blame NotHeld (open_receipt M mem p.bytes p.blocks)

-- the records of a product that the memory holds
abbrev pub records_in : Phase → Meaning → List ℕ → Product → Result (List Record) Refusal
records_in Opened M mem p = held_open M mem (as_open p)
records_in Shut M mem p = do
  x ← held M mem (as_closed p)
  Ok x.records

abbrev pub holds : Meaning → List ℕ → Product → Result (List Record) Refusal
holds M mem p = records_in p.phase M mem p
