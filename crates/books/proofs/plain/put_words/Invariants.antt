use Rattle.std.proofs.Common.{◌≡◌, ◌*◌, take}
use Rattle.books.specs.Words.{word_bytes}
use Rattle.books.proofs.plain.put_words.Given as goal

abbrev pub invariant-loop-index : goal.invariant-loop-index
invariant-loop-index l = take (2 * l.index) l.place ≡ word_bytes (take l.index l.list)
