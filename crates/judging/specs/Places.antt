-- Where a block may stand in a product. Definitions above use `misplaced` and `astray` by name, and do not open them.
use Rattle.std.specs.Prelude.{ℕ, Bool, true, false, not, ◌&&◌, Result, ◌==◌, nat_lt}
use Rattle.std.specs.Bool.{beq}
use Rattle.wire.specs.declared.blocks.Head.{Head}
use Rattle.wire.specs.declared.classes.Class.{Class}
use Rattle.wire.specs.declared.classes.Class.TheVariants.{Control, Definition, Description, Data, Unknown}
use Rattle.wire.specs.Classes.{class_of}
use Rattle.wire.specs.Forms.{fewest_pairs}
use Rattle.wire.specs.Steps.{◌>>=◌, refuse}
use Rattle.judging.specs.declared.faults.BlockFault.{BlockFault}
use Rattle.judging.specs.declared.faults.BlockFault.TheVariants.{Misplaced, LateDefinition, EndWithData}
use Rattle.judging.specs.declared.places.Phase.{Phase}
use Rattle.judging.specs.declared.places.Phase.TheVariants.{Opened, Shut}

abbrev pub is_identification : ℕ → ℕ → Bool
is_identification mode submode = mode == 1 && submode == 1

abbrev pub is_end : ℕ → ℕ → Bool
is_end mode submode = mode == 1 && submode == 2

abbrev pub defines : Class → Bool
defines Definition = true
defines Control = false
defines Description = false
defines Data = false
defines Unknown = false

-- the identification is not first, or another block is
unfoldable pub misplaced : ℕ → ℕ → ℕ → Bool
misplaced k mode submode = not (beq (k == 0) (is_identification mode submode))

-- a definition that is not block 1
unfoldable pub astray : ℕ → ℕ → ℕ → Bool
astray k mode submode = defines (class_of mode submode) && not (k == 1)

-- whether a block may stand as block k
abbrev pub placed : ℕ → Head → Result (Unit {0}) BlockFault
placed k h = do
  _ ← refuse (misplaced k h.modes.mode h.modes.submode) Misplaced
  _ ← refuse (astray k h.modes.mode h.modes.submode) LateDefinition
  refuse (is_end h.modes.mode h.modes.submode && nat_lt (fewest_pairs h.form) h.pairs) EndWithData

-- an open product has no end
abbrev pub bars_end : Phase → Bool
bars_end Opened = true
bars_end Shut = false

-- whether a block may stand as block k of a product in that phase
abbrev pub placed_in : Phase → ℕ → Head → Result (Unit {0}) BlockFault
placed_in phase k h = do
  _ ← refuse (bars_end phase && is_end h.modes.mode h.modes.submode) Misplaced
  placed k h
