use Rattle.std.proofs.Common.{rules}
use Rattle.books.specs.WordLaws.{length_words}
use Rattle.books.proofs.plain.PlainWordsBook.judge.Goals as goal

pub returns : goal.returns
returns c = search (rules, length_words)
