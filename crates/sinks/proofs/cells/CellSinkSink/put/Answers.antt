use Rattle.std.proofs.Common.{refl, arith}
use Rattle.sinks.proofs.Filling.{took_cell, place_fits, some_left}
use Rattle.sinks.proofs.cells.CellSinkSink.put.Goals as goal

pub returns : goal.returns
returns g c =
    let law = g.met.C.Cell in
    let free = some_left _ _ c.space.ensures.told c.if-space-eq0.false in
    took_cell _ (λ s. s.memory) (λ s. s.count) g.C.Cell.worth _ g.C.Cell.cell law.wide c.args.self.now _ c.args.pair _ c.bytes.ensures
    (place_fits _ _ _ law.some free) free (law.back c.args.pair (omega arith)) refl refl c.lay.ensures
