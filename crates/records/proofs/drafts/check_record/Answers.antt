use Rattle.std.proofs.Common.{◌≡◌, ◌+◌, false, Some, Ok, sym, ap, ◌∙◌, arith, rules}
use Rattle.wire.specs.Forms.{form_of}
use Rattle.wire.proofs.Coding.{checksum_fits}
use Rattle.judging.specs.Places.{astray}
use Rattle.records.specs.Records.{says, gives}
use Rattle.records.proofs.Sizes.{weighed_back, block_weight, draft_made}
use Rattle.records.proofs.drafts.check_record.Goals as goal

pub returns : goal.returns
returns g c =
    let M = g.B.Book.meaning c.args.book.now in
    let given = c.args.given in
    let form = c.in_ok-form.form in
    let w = weighed_back M (g.B.Book.lawful c.args.book.now) (says form given.modes.mode given.modes.submode given.numbers.now) _ _ c.numbers_known.ensures c.weigh.ensures c.in_ok-weight.was in
    let e15 : form_of given.form ≡ Some form = search rules in
    let e10 : astray c.args.block given.modes.mode given.modes.submode ≡ false = search rules in
    let made = draft_made M c.args.block c.args.misfit (gives given.form given.modes.mode given.modes.submode given.numbers.now) form c.in_ok-weight.weight w e15 (omega arith) c.if-misfit.false e10 (omega arith) in
    let few = c.fewest_bytes.ensures in
    record {
      value = ap (λ n. Ok (record { form = form; size = n + c.in_ok-weight.weight })) few ∙ sym made;
      fits = block_weight M (says form given.modes.mode given.modes.submode given.numbers.now) _ w ∙ ap (λ n. Ok (n + c.in_ok-weight.weight)) (sym few);
      short = omega (arith, few, checksum_fits form);
    }
