use Rattle.lines.specs.Listing.{line_of}
use Rattle.printing.specs.Printing.{PrintsAll}
use Rattle.printing.proofs.print_listing.Given as goal

abbrev pub invariant-loop-number : goal.invariant-loop-number
invariant-loop-number g l =
    PrintsAll (g.W.Write.contents l.initial.output) (g.W.Write.contents l.output) (line_of (g.B.Book.meaning l.book) l.memory l.product) l.number
