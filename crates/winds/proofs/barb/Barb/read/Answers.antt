use Rattle.std.proofs.Common.{◌≡◌, ◌∙◌, rules}
use Rattle.winds.proofs.Barbs.{barb_reading_of, barb_read_of}
use Rattle.winds.proofs.barb.Barb.read.Goals as goal

pub returns-in_err-read_up_to-3 : goal.returns-in_err-read_up_to-3
returns-in_err-read_up_to-3 c =
    let e : c.from_residual-in_err-read_up_to-3.result ≡ barb_reading_of c.args.offset c.args.bytes.now = search rules in
    e ∙ barb_read_of c.args.offset c.args.bytes.now c.told-bytes (c.fits-bytes 8)

pub returns : goal.returns
returns c =
    let w = barb_read_of c.args.offset c.args.bytes.now c.told-bytes (c.fits-bytes 8) in
    rw (← w) (search rules)
