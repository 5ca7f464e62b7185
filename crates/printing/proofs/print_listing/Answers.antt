use Rattle.std.proofs.Common.{◌≡◌, suc, subst, arith}
use Rattle.lines.specs.Listing.{line_of}
use Rattle.printing.specs.Printing.{PrintsAll}
use Rattle.printing.proofs.print_listing.Goals as goal

pub returns-in_ok-print_line : goal.returns-in_ok-print_line
returns-in_ok-print_line g c =
    let last : c.loop-number.number ≡ c.args.product.now.blocks = omega (arith, c.blocks-number-end.ensures) in
    let lines = line_of (g.B.Book.meaning c.args.book.now) c.args.memory.now c.args.product.now in
    subst (λ n. PrintsAll (g.W.Write.contents c.args.output.now) (g.W.Write.contents c.print_line.new.output) lines (suc n)) last (g.W.Write.contents c.loop-number.output, c.loop-number.invariant, c.in_ok-print_line.ensures)
