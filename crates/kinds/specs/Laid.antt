-- Proofs, and no definitions: a lawful kind over a lawful book is a lawful book.
use Rattle.std.specs.Prelude.{Bool, true, false, cond, ℕ}
use Rattle.books.specs.Books.{Meaning, Agree, Lawful}
use Rattle.kinds.specs.Kinds.{KindMeaning, settles, laid}

pub laid_lawful : (m s : ℕ) (k : KindMeaning) (b : Meaning) → Agree k.reading k.writing → Lawful b → Lawful (laid m s k b)
laid_lawful m s k b own below mode submode = go (settles m s mode submode)
  where
    go : (t : Bool) → Agree (λ field. cond t (k.reading field) (b.reading mode submode field)) (λ list. cond t (k.writing list) (b.writing mode submode list))
    go true = own
    go false = below mode submode
