-- A line, or a refusal, put at the front of a memory.
use Rattle.std.specs.Prelude.{ℕ, List, Ok, Err, Result}
use Rattle.std.specs.Option.{ok_or}
use Rattle.judging.specs.declared.faults.Refusal.{Refusal}
use Rattle.judging.specs.declared.faults.Refusal.TheVariants.{NoRoom}
use Rattle.text.specs.declared.lines.Line.{Line}
use Rattle.text.specs.Lines.{line_text, length_told, laid}

-- the length of the line; a memory short of it is a refusal too
abbrev pub put_answer : Result Line Refusal → List ℕ → Result ℕ Refusal
put_answer (Ok line) out = ok_or (length_told (line_text line) out) NoRoom
put_answer (Err e) out = Err e

-- the memory after it, which no refusal alters (by cases of its own: what a call on a product leaves is told by another result)
abbrev pub put_after : Result Line Refusal → List ℕ → List ℕ
put_after (Ok line) out = laid (line_text line) out
put_after (Err e) out = out
