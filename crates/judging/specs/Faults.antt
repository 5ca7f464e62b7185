-- The number of each refusal.
use Rattle.std.specs.Prelude.{ℕ, Some, None, Option}
use Rattle.judging.specs.declared.faults.BlockFault.{BlockFault}
use Rattle.judging.specs.declared.faults.BlockFault.TheVariants.{Count, OddCount, Wire, Misplaced, LateDefinition, EndWithData, Field, Leftover, TooManyBlocks}
use Rattle.judging.specs.declared.faults.ReceiptFault.{ReceiptFault}
use Rattle.judging.specs.declared.faults.Refusal.{Refusal}
use Rattle.judging.specs.declared.faults.Refusal.TheVariants.{Block, NoSuchForm, NotHeld, NoSuchBlock, List, DataTooLong, NoMoreBlocks, NoRoom, SinkFull}
use Rattle.books.specs.declared.faults.FieldFault.{FieldFault}
use Rattle.wire.specs.Blocks.{malformed_number}

-- of receipt
abbrev pub block_fault_number : BlockFault → ℕ
block_fault_number Count = 1
block_fault_number OddCount = 2
block_fault_number (Wire m) = malformed_number m
block_fault_number Misplaced = 9
block_fault_number LateDefinition = 10
block_fault_number EndWithData = 11
block_fault_number (Field f) = 12
block_fault_number Leftover = 13
block_fault_number TooManyBlocks = 14

-- at a block and its first byte
abbrev pub located : ℕ → ℕ → BlockFault → ReceiptFault
located k at f = record { fault = f; place = record { block = k; at = at } }

-- of the other calls
abbrev pub refusal_number : Refusal → ℕ
refusal_number (Block f) = block_fault_number f
refusal_number NoSuchForm = 15
refusal_number (NotHeld f) = 16
refusal_number NoSuchBlock = 17
refusal_number (List f) = 18
refusal_number DataTooLong = 19
refusal_number NoMoreBlocks = 20
refusal_number NoRoom = 21
refusal_number SinkFull = 22

-- the fault of a data field or a list that a fault carries
abbrev pub field_in : BlockFault → Option FieldFault
field_in (Field f) = Some f
field_in Count = None
field_in OddCount = None
field_in (Wire m) = None
field_in Misplaced = None
field_in LateDefinition = None
field_in EndWithData = None
field_in Leftover = None
field_in TooManyBlocks = None

abbrev pub field_within : Refusal → Option FieldFault
field_within (Block f) = field_in f
field_within (NotHeld f) = field_in f.fault
field_within (List f) = Some f
field_within NoSuchForm = None
field_within NoSuchBlock = None
field_within DataTooLong = None
field_within NoMoreBlocks = None
field_within NoRoom = None
field_within SinkFull = None
