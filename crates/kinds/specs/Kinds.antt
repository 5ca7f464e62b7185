-- What a kind means, and what a kind laid over a book means.
use Rattle.std.specs.Prelude.{Bool, cond, ◌&&◌, List, ℕ, eqb, ℤ}
use Rattle.books.specs.Books.{Meaning, Reading, Writing}

-- how a kind reads data fields and writes lists
pub record KindMeaning : Type 0 where
  pub reading : List ℕ → Reading
  pub writing : List ℤ → Writing

-- a kind settles the blocks of its own mode and submode
abbrev pub settles : ℕ → ℕ → ℕ → ℕ → Bool
settles m s mode submode = eqb mode m && eqb submode s

-- a kind at a mode and a submode settles its own blocks and passes the others down
abbrev pub laid : ℕ → ℕ → KindMeaning → Meaning → Meaning
laid m s k b = record {
  reading = λ mode submode field. cond (settles m s mode submode) (k.reading field) (b.reading mode submode field);
  writing = λ mode submode list. cond (settles m s mode submode) (k.writing list) (b.writing mode submode list);
}
