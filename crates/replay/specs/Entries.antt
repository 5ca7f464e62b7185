-- A record with a list of its own, as the definitions of the calls have it.
use Rattle.std.specs.Prelude.{◌≡◌, vec_items}
use Rattle.std.specs.List.{AllByRecursion}
use Rattle.books.specs.Books.{Number}
use Rattle.records.specs.Asked.{asked}
use Rattle.records.specs.Records.{Given, gives}
use Rattle.records.specs.declared.drafts.Record.{Record}
use Rattle.replay.specs.declared.entries.Entry.{Entry}

-- what an entry gives to a call
abbrev pub entered : Entry → Given
entered e = gives e.form e.modes.mode e.modes.submode (vec_items e.numbers)

-- a record that an entry gives, whose numbers are of 32 bits as the type of its list has it
pub record IsGivenBy (e : Entry) (r : Record) : Type 0 where
  pub given : asked r ≡ entered e
  pub known : AllByRecursion Number (vec_items e.numbers)
