use Rattle.std.proofs.Common.{◌≡◌, ℕ, ◌+◌, ◌-◌, ◌*◌, ◌/◌, ◌%◌, get_or, take, drop, pos, Some, sym, ap, ◌∙◌, arith, w32, SFits, rules}
use Rattle.std.specs.Result.{result_ok}
use Rattle.std.proofs.lemmas.Int.{to_z-of_z}
use Rattle.books.specs.Books.{number_at}
use Rattle.winds.specs.Winds.{barb_of}
use Rattle.winds.proofs.Places.{read_known, chunk_count, chunk_read, number_past, number_in}
use Rattle.winds.proofs.parts.number_at.Goals as goal

pub returns-in_err-get-in_default : goal.returns-in_err-get-in_default
returns-in_err-get-in_default c =
    let p = number_past c.args.field.now (read_known c.args.field.now c.requires) c.args.index _ (omega arith) c.as_chunks.ensures.front_len c.in_err-get-in_default.ensures.lookup.3 in
    rw (← p) (search rules)

pub returns-in_err-barb-in_default : goal.returns-in_err-barb-in_default
returns-in_err-barb-in_default c =
    let at = c.in_ok-get-in_default.ensures.lookup in
    let r = c.read.ensures ∙ chunk_read c.args.field.now (read_known c.args.field.now c.requires) c.as_chunks.result.0.now _ ((c.args.index - 2) / 6) c.as_chunks.ensures.front c.as_chunks.ensures.front_len at.3.0 at.1 in
    let e = sym c.in_err-barb-in_default.was ∙ c.ok-in_default.ensures.value ∙ ap result_ok r in
    let z : ◌≡◌ {A = ℕ} 0 1 = cc in
    absurd (omega arith)

pub returns-in_ok-barb-in_default : goal.returns-in_ok-barb-in_default
returns-in_ok-barb-in_default c =
    let index = c.args.index in
    let j = (index - 2) % 6 in
    let k = read_known c.args.field.now c.requires in
    let n = chunk_count c.args.field.now k.barbs _ k.size c.as_chunks.ensures.front_len in
    let at = c.in_ok-get-in_default.ensures.lookup in
    let l = at.3.0 in
    let r = c.read.ensures ∙ chunk_read c.args.field.now k c.as_chunks.result.0.now _ ((index - 2) / 6) c.as_chunks.ensures.front c.as_chunks.ensures.front_len l at.1 in
    let o = sym c.in_ok-barb-in_default.was ∙ c.ok-in_default.ensures.value ∙ ap result_ok r in
    let e : barb_of (take 6 (drop (2 + 6 * ((index - 2) / 6)) k.list)) ≡ c.in_ok-barb-in_default.barb = cc in
    let m = k.count in
    let w = number_in k.list k.barbs index c.in_ok-barb-in_default.barb k.count (omega arith) (omega arith) e in
    let f : SFits w32 (get_or c.numbers.result j (pos 0)) = search rules in
    ap Some (to_z-of_z w32 _ f) ∙ ap (λ xs. Some (get_or xs j (pos 0))) c.numbers.ensures ∙ w ∙ sym (ap (λ r. number_at r index) k.is)
