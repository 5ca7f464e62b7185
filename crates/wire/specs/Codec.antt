-- What is written is what is read, block by block.
use Rattle.std.specs.Prelude.{◌≡◌, ℕ, List, ◌++◌, length, Ok}
use Rattle.wire.specs.declared.blocks.Head.{Head}
use Rattle.wire.specs.declared.forms.Form.{Form}
use Rattle.wire.specs.Blocks.{Sized, Framed, block_bytes, pairs_of, read_head, field_of, rest_of}
use Rattle.wire.specs.Pairs.{Bytes}

-- the bytes begin with the block that the head tells of
pub record Decoded (h : Head) (bs : List ℕ) : Type 0 where
  pub whole : bs ≡ block_bytes h.form h.modes.mode h.modes.submode (field_of h bs) ++ rest_of h bs
  pub sized : Sized h.form h.modes.mode (field_of h bs)
  pub lies : Framed h bs

-- the head of a written block
abbrev pub head_of : Form → ℕ → ℕ → List ℕ → Head
head_of form mode submode field = record { form = form; pairs = pairs_of form (length field); modes = record { mode = mode; submode = submode } }

-- a written block is read back, and what follows it is left
pub record Encoded (form : Form) (mode submode : ℕ) (field rest : List ℕ) : Type 0 where
  pub head : read_head (block_bytes form mode submode field ++ rest) ≡ Ok (head_of form mode submode field)
  pub field_again : field_of (head_of form mode submode field) (block_bytes form mode submode field ++ rest) ≡ field
  pub rest_again : rest_of (head_of form mode submode field) (block_bytes form mode submode field ++ rest) ≡ rest

pub record Codec : Type 0 where
  pub decodes : (bs : List ℕ) (h : Head) → Bytes bs → read_head bs ≡ Ok h → Decoded h bs
  pub encodes : (form : Form) (mode submode : ℕ) (field rest : List ℕ) → Sized form mode field → Encoded form mode submode field rest
