use Rattle.std.proofs.Common.{◌≡◌, ◌*◌, ◌/◌, ◌%◌, get_or, pos, nat_abs, sym, ap, ◌∙◌, arith, w32, SFits, rules}
use Rattle.std.proofs.lemmas.Int.{to_z-of_z}
use Rattle.std.proofs.lemmas.List.{take_all}
use Rattle.books.specs.Words.{word_bytes}
use Rattle.books.proofs.PlainWords.{fit_at, words_more}
use Rattle.books.proofs.plain.put_words.Goals as goal

pub overflow_cast-number : goal.overflow_cast-number
overflow_cast-number c =
    let k = fit_at c.args.list.now c.loop-index.index c.loop-index-test.true c.requires.fit in
    let f : SFits w32 (get_or c.args.list.now c.loop-index.index (pos 0)) = search rules in
    simp to_z-of_z (rw k.0 tt, search rules)

pub loop-index-preserved : goal.loop-index-preserved
loop-index-preserved c =
    let z = get_or c.args.list.now c.loop-index.index (pos 0) in
    let k = fit_at c.args.list.now c.loop-index.index c.loop-index-test.true c.requires.fit in
    let f : SFits w32 z = search rules in
    let b = simp to_z-of_z at c.to_be_bytes.ensures in
    let h : get_or c.to_be_bytes.result 0 0 ≡ nat_abs z / 256 = ap (λ l. get_or l 0 0) b ∙ omega arith in
    let l : get_or c.to_be_bytes.result 1 0 ≡ nat_abs z % 256 = ap (λ l. get_or l 1 0) b in
    words_more c.args.list.now c.loop-index.place c.loop-index.index _ _ z c.loop-index-test.true (omega arith) (λ i. z) h l c.loop-index.invariant

pub returns : goal.returns
returns c =
    let i = c.loop-index.index in
    let p = take_all (2 * i) c.loop-index.place (omega arith) in
    let l = take_all i c.args.list.now c.loop-index-test.false in
    sym p ∙ c.loop-index.invariant ∙ ap word_bytes l
