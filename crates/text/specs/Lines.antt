-- The text of a line, and what a memory holds after it is written there.
use Rattle.std.specs.Prelude.{ℕ, cond, List, ◌++◌, length, drop, Some, None, Option, codes, nat_le}
use Rattle.wire.specs.Classes.{class_name}
use Rattle.text.specs.Numeral.{numeral}
use Rattle.text.specs.declared.lines.ProductLine.{ProductLine}
use Rattle.text.specs.declared.lines.BlockLine.{BlockLine}
use Rattle.text.specs.declared.lines.RefusalLine.{RefusalLine}
use Rattle.text.specs.declared.lines.Line.{Line}
use Rattle.text.specs.declared.lines.Line.TheVariants.{Product, Block, Refusal}

-- as `bytes=44 blocks=4 close=0`
unfoldable pub product_text : ProductLine → List ℕ
product_text l =
    codes "bytes=" ++ numeral 10 l.bytes
    ++ codes " blocks=" ++ numeral 10 l.blocks
    ++ codes " close=" ++ numeral 10 l.close
    ++ codes "\n"

-- as `block=1 at=10 form=1 mode=5 submode=3 class=data numbers=6`
unfoldable pub block_text : BlockLine → List ℕ
block_text l =
    codes "block=" ++ numeral 10 l.block
    ++ codes " at=" ++ numeral 10 l.at
    ++ codes " form=" ++ numeral 10 l.form
    ++ codes " mode=" ++ numeral 8 l.modes.mode
    ++ codes " submode=" ++ numeral 8 l.modes.submode
    ++ codes " class=" ++ class_name l.class
    ++ codes " numbers=" ++ numeral 10 l.numbers
    ++ codes "\n"

-- as `refused=12 block=1 at=10 rule=4 offset=6`
unfoldable pub refusal_text : RefusalLine → List ℕ
refusal_text l =
    codes "refused=" ++ numeral 10 l.refused
    ++ codes " block=" ++ numeral 10 l.block
    ++ codes " at=" ++ numeral 10 l.at
    ++ codes " rule=" ++ numeral 10 l.rule
    ++ codes " offset=" ++ numeral 10 l.offset
    ++ codes "\n"

abbrev pub line_text : Line → List ℕ
line_text (Product l) = product_text l
line_text (Block l) = block_text l
line_text (Refusal l) = refusal_text l

-- the length of a line, where the memory has room for it
abbrev pub length_told : List ℕ → List ℕ → Option ℕ
length_told line memory = cond (nat_le (length line) (length memory)) (Some (length line)) None

-- the memory with the line at its front, or as it was where it is short (apart from `memory`, which lays bytes at any place and
-- asks for no room; this crate does not rest on it)
abbrev pub laid : List ℕ → List ℕ → List ℕ
laid line memory = cond (nat_le (length line) (length memory)) (line ++ drop (length line) memory) memory
