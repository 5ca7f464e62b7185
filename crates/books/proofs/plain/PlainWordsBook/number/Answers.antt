use Rattle.std.proofs.Common.{◌≡◌, ◌+◌, ◌*◌, ◌/◌, length, get_or, None, Some, ap, ◌∙◌, arith, rules}
use Rattle.std.proofs.lemmas.Option.{slice_get_past}
use Rattle.std.proofs.lemmas.Int.{ints}
use Rattle.books.specs.Books.{number_at}
use Rattle.books.specs.Words.{words, word_reading}
use Rattle.books.specs.WordLaws.{words_read, length_words}
use Rattle.books.proofs.PlainWords.{judged_words, nth_words, chunk_word}
use Rattle.books.proofs.plain.PlainWordsBook.number.Goals as goal

pub returns-in_err-word : goal.returns-in_err-word
returns-in_err-word c =
    let field = c.args.field.now in
    let k = judged_words field _ _ _ c.judge.ensures c.ok.ensures.value c.in_ok-ok.was in
    let past = slice_get_past (words field) c.args.index (omega (arith, length_words field, c.as_chunks.ensures.front_len, c.in_err-word.ensures.lookup.3)) in
    let none : number_at (word_reading field) c.args.index ≡ None = ap (λ r. number_at r c.args.index) (words_read field k.0 k.1) ∙ past in
    rw none (search rules)

pub returns : goal.returns
returns c =
    let field = c.args.field.now in
    let index = c.args.index in
    let k = judged_words field _ _ _ c.judge.ensures c.ok.ensures.value c.in_ok-ok.was in
    let at = c.in_ok-word.ensures.lookup in
    let word = c.in_ok-word.word.now in
    let chunk = at.1 ∙ ap (λ xs. get_or xs index word) c.as_chunks.ensures.front in
    let inside = at.3.0 in
    let two = chunk_word (length field / 2) index field word (omega (arith, c.as_chunks.ensures.front_len)) (omega arith) in
    let high : get_or word 0 0 ≡ get_or field (2 * index) 0 = ap (λ xs. get_or xs 0 0) chunk ∙ two.0 in
    let low : get_or word 1 0 ≡ get_or field (2 * index + 1) 0 = ap (λ xs. get_or xs 1 0) chunk ∙ two.1 in
    rw (words_read field k.0 k.1, nth_words field index (omega (arith, c.as_chunks.ensures.front_len))) (ap Some (omega (arith, ints, high, low, c.from_be_bytes.ensures)))
