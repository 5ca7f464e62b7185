use Rattle.std.proofs.Common.{◌≡◌, ◌+◌, ◌-◌, ◌*◌, ◌/◌, [], length, take, drop, Err, sym, ap, ◌∙◌, arith, rules}
use Rattle.cells.proofs.Turning.{turn_passed, turn_failed}
use Rattle.winds.specs.Winds.{barb, barb_read}
use Rattle.winds.proofs.Barbs.{chunk_of, read_passes, read_fails}
use Rattle.winds.proofs.parts.check_bytes.Goals as goal

pub returns-in_err-read : goal.returns-in_err-read
returns-in_err-read c =
    let at = 2 + 10 * c.loop-k.k in
    let p = chunk_of 10 2 c.loop-k.k c.args.field.now c.as_chunks.result.0.now [] c.as_chunks.ensures.front c.as_chunks.ensures.front_len c.loop-k-test.true in
    let e : c.from_residual.result ≡ Err c.in_err-read.field-0.0 = search rules in
    let h = read_fails (barb.reading at (take 10 (drop at c.args.field.now))) c.in_err-read.field-0.0 (ap (barb_read at) (sym p) ∙ sym c.read.ensures ∙ c.in_err-read.was) in
    e ∙ sym (turn_failed 10 barb.reading 2 ((length c.args.field.now - 2) / 10) c.loop-k.k c.args.field.now _ (omega arith) h) ∙ c.loop-k.invariant

pub loop-k-preserved : goal.loop-k-preserved
loop-k-preserved c =
    let at = 2 + 10 * c.loop-k.k in
    let p = chunk_of 10 2 c.loop-k.k c.args.field.now c.as_chunks.result.0.now [] c.as_chunks.ensures.front c.as_chunks.ensures.front_len c.loop-k-test.true in
    let h = read_passes (barb.reading at (take 10 (drop at c.args.field.now))) _ (ap (barb_read at) (sym p) ∙ sym c.read.ensures ∙ c.in_ok-read.was) in
    sym (turn_passed 10 barb.reading 2 ((length c.args.field.now - 2) / 10) c.loop-k.k c.args.field.now (omega arith) h) ∙ c.loop-k.invariant
