use Rattle.std.proofs.Common.{◌≡◌, rules}
use Rattle.wire.proofs.Typed.{bytes_typed}
use Rattle.products.specs.Receipts.{receipt, received}
use Rattle.products.proofs.Within.{received_within}
use Rattle.products.proofs.Written.{received_written}
use Rattle.products.proofs.closed.Closed.receive.Goals as goal

pub returns : goal.returns
unfolding receipt
returns g c =
    let M = g.B.Book.meaning c.args.book.now in
    let mem = c.args.memory.now in
    let value : c.walk_blocks.result ≡ received M mem c.args.count = search rules in
    record { value = value; within = received_within M mem c.args.count c.walk_blocks.result value; written = received_written M (g.B.Book.lawful c.args.book.now) mem c.args.count c.walk_blocks.result (bytes_typed mem c.type_inv.memory) value }
