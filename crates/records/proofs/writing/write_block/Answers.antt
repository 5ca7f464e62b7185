use Rattle.std.proofs.Common.{◌≡◌, ℕ, ◌+◌, ◌*◌, ◌%◌, ◌≤◌, length, sym, ap, ◌∙◌, arith, rules}
use Rattle.wire.specs.Forms.{fewest_pairs}
use Rattle.wire.proofs.Coding.{checksum_fits}
use Rattle.std.proofs.lemmas.Bool.{eq-eqb}
use Rattle.books.proofs.Roomy.{just_room, no_room}
use Rattle.books.specs.Books.{most_bytes}
use Rattle.records.specs.Records.{says}
use Rattle.records.proofs.Sizes.{weighed_back}
use Rattle.records.proofs.Putting.{fits_answer, fits_place, other_answer, other_place, same_field, middle_length, headed, ended}
use Rattle.records.proofs.writing.write_block.Goals as goal

pub overflow_add-fewest_bytes : goal.overflow_add-fewest_bytes
overflow_add-fewest_bytes g c =
    let w = weighed_back (g.B.Book.meaning c.args.book.now) (g.B.Book.lawful c.args.book.now) (says c.args.form c.args.given.modes.mode c.args.given.modes.submode c.args.given.numbers.now) _ _ c.numbers_known.ensures c.weigh.ensures c.in_ok-weight.was in
    let short : c.in_ok-weight.weight ≤ most_bytes = w.short in
    let few = c.fewest_bytes.ensures in
    let fits = checksum_fits c.args.form in
    omega (arith, few, fits, short)

pub returns-in_err-check_room : goal.returns-in_err-check_room
returns-in_err-check_room g c =
    let r = says c.args.form c.args.given.modes.mode c.args.given.modes.submode c.args.given.numbers.now in
    let M = g.B.Book.meaning c.args.book.now in
    let w = weighed_back M (g.B.Book.lawful c.args.book.now) r _ _ c.numbers_known.ensures c.weigh.ensures c.in_ok-weight.was in
    let few = c.fewest_bytes.ensures in
    let q = no_room (length c.args.place.now) (c.fewest_bytes.result + c.in_ok-weight.weight) _ _ c.check_room.ensures c.in_err-check_room.was in
    let other : length c.args.place.now ≡ 2 * fewest_pairs c.args.form + c.in_ok-weight.weight → ⊥ =
    λ e.
    let t = eq-eqb (length c.args.place.now) (c.fewest_bytes.result + c.in_ok-weight.weight) (e ∙ ap (λ n. n + c.in_ok-weight.weight) (sym few)) in
    let f = q.0 in
    let z : ◌≡◌ {A = ℕ} 0 1 = cc in
    absurd (omega arith) in
    let is = q.1 in
    let told = other_answer M r _ w c.args.place.now other in
    record { answer = search rules; after = sym (other_place M r _ w c.args.place.now other) }

pub put_head-requires : goal.put_head-requires
put_head-requires g c =
    let place = c.args.place.now in
    let n = c.in_ok-weight.weight in
    let r = says c.args.form c.args.given.modes.mode c.args.given.modes.submode c.args.given.numbers.now in
    let M = g.B.Book.meaning c.args.book.now in
    let w = weighed_back M (g.B.Book.lawful c.args.book.now) r _ _ c.numbers_known.ensures c.weigh.ensures c.in_ok-weight.was in
    let few = c.fewest_bytes.ensures in
    let room : length place ≡ 2 * fewest_pairs c.args.form + n = just_room _ _ _ c.check_room.ensures c.in_ok-check_room.was ∙ ap (λ j. j + n) few in
    let y = same_field M r _ w place _ _ _ c.write.ensures.answer c.in_ok-write.was c.write.ensures.after in
    let l = middle_length c.args.form c.args.given.modes.mode c.args.given.modes.submode w.field place (omega (arith, w.even, w.long)) (omega (arith, w.long, room)) n _ (sym w.long) y in
    let few_pairs = checksum_fits c.args.form in
    record { least = omega (arith, l, room); most = omega (arith, l, room, w.short, few_pairs) }

pub returns : goal.returns
returns g c =
    let place = c.args.place.now in
    let n = c.in_ok-weight.weight in
    let r = says c.args.form c.args.given.modes.mode c.args.given.modes.submode c.args.given.numbers.now in
    let M = g.B.Book.meaning c.args.book.now in
    let w = weighed_back M (g.B.Book.lawful c.args.book.now) r _ _ c.numbers_known.ensures c.weigh.ensures c.in_ok-weight.was in
    let few = c.fewest_bytes.ensures in
    let room : length place ≡ 2 * fewest_pairs c.args.form + n = just_room _ _ _ c.check_room.ensures c.in_ok-check_room.was ∙ ap (λ j. j + n) few in
    let y = same_field M r _ w place _ _ _ c.write.ensures.answer c.in_ok-write.was c.write.ensures.after in
    let even : length w.field % 2 ≡ 0 = omega (arith, w.even, w.long) in
    let whole : length place ≡ 2 * fewest_pairs c.args.form + length w.field = omega (arith, w.long, room) in
    let p = c.put_head.ensures ∙ headed c.args.form c.args.given.modes.mode c.args.given.modes.submode w.field place even whole n _ (sym w.long) y in
    record {
      answer = sym (fits_answer M r n w place room);
      after = ended c.args.form c.args.given.modes.mode c.args.given.modes.submode w.field place even whole _ _ p c.put_end.ensures ∙ sym (fits_place M r n w place room);
    }
