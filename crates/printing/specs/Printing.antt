-- What a writer holds after lines were printed to it, where that is known.
use Rattle.std.specs.Prelude.{ℕ, zero, suc, List, Ok, Err, Option, Result}
use Rattle.std.specs.Io.KnownBytes.{Keeps, Appends}
use Rattle.judging.specs.declared.faults.Refusal.{Refusal}
use Rattle.text.specs.declared.lines.Line.{Line}
use Rattle.text.specs.Lines.{line_text}

-- it took the text of a line; without a line nothing is printed well
abbrev pub Prints : Option (List ℕ) → Option (List ℕ) → Result Line Refusal → Type 0
Prints old new (Ok line) = Appends old new (line_text line)
Prints old new (Err e) = ⊥

-- it took the texts of the first n lines, in their order
abbrev pub PrintsAll : Option (List ℕ) → Option (List ℕ) → (ℕ → Result Line Refusal) → ℕ → Type 0
PrintsAll old new lines zero = Keeps old new
PrintsAll old new lines (suc n) = (mid : Option (List ℕ)) × PrintsAll old mid lines n × Prints mid new (lines n)
