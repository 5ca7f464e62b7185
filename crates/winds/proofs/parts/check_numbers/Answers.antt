use Rattle.std.proofs.Common.{◌≡◌, ◌+◌, ◌-◌, ◌*◌, ◌/◌, length, Err, sym, ap, ◌∙◌, arith, rules}
use Rattle.cells.specs.Cells.{checked}
use Rattle.cells.proofs.Turning.{turn_passed, turn_failed}
use Rattle.winds.specs.Winds.{barb}
use Rattle.winds.proofs.Barbs.{barb_taken}
use Rattle.winds.proofs.parts.check_numbers.Goals as goal

pub returns-in_err-bytes : goal.returns-in_err-bytes
returns-in_err-bytes c =
    let at = 2 + 6 * c.loop-k.k in
    let t = barb_taken c.args.list.now c.loop-k.k c.as_chunks.result.0.now c.from.result c.as_chunks.ensures.front c.as_chunks.ensures.front_len c.loop-k-test.true c.from.ensures in
    let e : c.from_residual.result ≡ Err c.in_err-bytes.field-0.0 = search rules in
    let h = ap checked (ap (barb.writing at) (sym t) ∙ sym c.bytes.ensures ∙ c.in_err-bytes.was) in
    e ∙ sym (turn_failed 6 barb.writing 2 ((length c.args.list.now - 2) / 6) c.loop-k.k c.args.list.now _ (omega arith) h) ∙ c.loop-k.invariant

pub loop-k-preserved : goal.loop-k-preserved
loop-k-preserved c =
    let at = 2 + 6 * c.loop-k.k in
    let t = barb_taken c.args.list.now c.loop-k.k c.as_chunks.result.0.now c.from.result c.as_chunks.ensures.front c.as_chunks.ensures.front_len c.loop-k-test.true c.from.ensures in
    let h = ap checked (ap (barb.writing at) (sym t) ∙ sym c.bytes.ensures ∙ c.in_ok-bytes.was) in
    sym (turn_passed 6 barb.writing 2 ((length c.args.list.now - 2) / 6) c.loop-k.k c.args.list.now (omega arith) h) ∙ c.loop-k.invariant
