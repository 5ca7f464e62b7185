use Rattle.std.proofs.Common.{◌≡◌, false, Some, Ok, sym, ap, ◌∙◌, arith, rules}
use Rattle.wire.specs.Forms.{form_of}
use Rattle.wire.proofs.Passing.{allowed, turned_down, same_ok}
use Rattle.judging.specs.declared.faults.Refusal.TheVariants.{NoRoom}
use Rattle.records.specs.Records.{gives}
use Rattle.products.specs.Answers.{memory_after, opened_by}
use Rattle.products.proofs.Planning.{draft_is, start_crowded, start_done, start_bytes}
use Rattle.products.proofs.opened.Open.start.Goals as goal

pub returns-in_err-check_room : goal.returns-in_err-check_room
returns-in_err-check_room g c =
    let M = g.B.Book.meaning c.args.book.now in
    let mem = c.args.memory.now in
    let list = c.args.numbers.now in
    let close : form_of c.args.closing ≡ Some c.in_ok-close.close = search rules in
    let d = c.in_ok-draft.draft in
    let draft = draft_is M 0 false (gives c.args.form 1 1 list) _ d c.check_record.ensures.value c.in_ok-draft.was in
    let t = turned_down _ NoRoom (sym c.check_room.ensures ∙ c.in_err-check_room.was) in
    let full = start_crowded M mem c.args.closing c.args.form list c.in_ok-close.close close d draft c.in_ok-draft.ensures.fits t.0 in
    let is = t.1 in
    record { answer = (let told = ap opened_by full in search rules); after = sym (ap (λ w. memory_after w mem) full) }

pub returns : goal.returns
returns g c =
    let M = g.B.Book.meaning c.args.book.now in
    let mem = c.args.memory.now in
    let list = c.args.numbers.now in
    let close : form_of c.args.closing ≡ Some c.in_ok-close.close = search rules in
    let d = c.in_ok-draft.draft in
    let draft = draft_is M 0 false (gives c.args.form 1 1 list) _ d c.check_record.ensures.value c.in_ok-draft.was in
    let fits = c.in_ok-draft.ensures.fits in
    let done = start_done M mem c.args.closing c.args.form list c.in_ok-close.close close d draft fits (allowed _ NoRoom (sym c.check_room.ensures ∙ c.in_ok-check_room.was)) in
    let size = start_bytes M mem c.args.closing c.args.form list c.in_ok-close.close close d draft fits in
    let told = same_ok (sym c.in_ok-bytes.was ∙ c.put_block.ensures.answer) in
    record {
      answer = ap (λ n. Ok (record { bytes = n; blocks = 1; close = c.in_ok-close.close })) (told ∙ omega (arith, size)) ∙ sym (ap opened_by done);
      after = c.put_block.ensures.after ∙ sym (ap (λ w. memory_after w mem) done);
    }
