-- A record as the code holds it.
use Rattle.records.specs.declared.drafts.Record.{Record as Asked}
use Rattle.records.specs.Records.{Given, gives}

abbrev pub asked : Asked → Given
asked r = gives r.form r.modes.mode r.modes.submode r.numbers.now
