-- Whether a record may become a block of a product.
use Rattle.std.specs.Prelude.{ℕ, ◌-◌, ◌*◌, Bool, not, length, is_some, Ok, Err, Result, nat_lt}
use Rattle.wire.specs.declared.blocks.Malformed.TheVariants.{Mode}
use Rattle.wire.specs.declared.forms.Form.{Form}
use Rattle.wire.specs.Blocks.{most_pairs, most_mode}
use Rattle.wire.specs.Forms.{form_of, fewest_pairs}
use Rattle.wire.specs.Steps.{◌>>=◌, refuse, blame}
use Rattle.books.specs.Books.{Meaning}
use Rattle.judging.specs.declared.faults.BlockFault.TheVariants.{Wire, Misplaced, LateDefinition}
use Rattle.judging.specs.declared.faults.Refusal.{Refusal}
use Rattle.judging.specs.declared.faults.Refusal.TheVariants.{Block, NoSuchForm, List as ListFault, DataTooLong}
use Rattle.judging.specs.Places.{astray}
use Rattle.records.specs.declared.drafts.Draft.{Draft}
use Rattle.records.specs.Records.{Record, Given, says, given_form, recorded, block_of}

-- the most data bytes of a block: 4,090 or 4,092
abbrev pub most_data : Form → ℕ
most_data form = 2 * (most_pairs - fewest_pairs form)

-- the record that a caller gives, where nothing forbids it as block k; `misfit` says that it may not stand there
unfoldable pub drafted : Meaning → ℕ → Bool → Given → Result Record Refusal
drafted M k misfit g = do
  _ ← refuse (not (is_some (form_of g.form))) NoSuchForm
  _ ← refuse (nat_lt most_mode g.mode) (Block (Wire Mode))
  _ ← refuse misfit (Block Misplaced)
  _ ← refuse (astray k g.mode g.submode) (Block LateDefinition)
  field ← blame ListFault (M.writing g.mode g.submode g.numbers)
  _ ← refuse (nat_lt (most_data (given_form g.form)) (length field)) DataTooLong
  Ok (recorded g)

-- the record that a draft stands for
abbrev pub drafts : Draft → Given → Record
drafts d g = says d.form g.mode g.submode g.numbers

-- its form, and the bytes of its block
abbrev pub draft_of : Meaning → Result Record Refusal → Result Draft Refusal
draft_of M (Ok r) = Ok (record { form = r.form; size = length (block_of M r) })
draft_of M (Err e) = Err e
