use Rattle.std.proofs.Common.{Ok, sym, ap, ◌∙◌, arith}
use Rattle.books.specs.Books.{weighed}
use Rattle.books.specs.PassLaws.{all_from_none}
use Rattle.books.specs.Words.{within, top_word}
use Rattle.books.specs.WordLaws.{length_word_bytes, words_written}
use Rattle.books.proofs.plain.PlainWordsBook.weigh.Goals as goal

pub returns-in-None : goal.returns-in-None
returns-in-None c =
    let list = c.args.list.now in
    let all = all_from_none (within top_word) list (sym c.first_outside.ensures ∙ c.in-None.is) in
    sym (ap weighed (words_written list (omega arith) all) ∙ ap Ok (length_word_bytes list))
