use Rattle.std.proofs.Common.{rules}
use Rattle.std.proofs.lemmas.List.{take_rest, drop-drop}
use Rattle.products.proofs.Turns.{walk_at, walk_over}
use Rattle.products.proofs.receipt.walk_blocks.Goals as goal

pub returns-in_err-head : goal.returns-in_err-head
returns-in_err-head g c = search (rules, walk_at, take_rest)

pub returns-then-size-rest : goal.returns-then-size-rest
returns-then-size-rest g c = search (rules, walk_at, take_rest)

pub returns-then-is_end : goal.returns-then-is_end
returns-then-is_end g c = search (rules, walk_at, take_rest)

pub loop-block-preserved : goal.loop-block-preserved
loop-block-preserved g c = search (rules, walk_at, take_rest, drop-drop)

pub returns : goal.returns
returns g c = search (rules, walk_over)
