use Rattle.std.proofs.Common.{rules}
use Rattle.reading.proofs.Telling.{told}
use Rattle.reading.proofs.facts.block_facts.Goals as goal

pub returns-in_err-find_block : goal.returns-in_err-find_block
returns-in_err-find_block g c = search (rules, told)

pub returns : goal.returns
returns g c = search (rules, told)
