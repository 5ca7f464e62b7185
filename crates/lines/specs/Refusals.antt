-- The line of a refused product.
use Rattle.std.specs.Prelude.{ℕ, Some, None, Option}
use Rattle.books.specs.declared.faults.FieldFault.{FieldFault}
use Rattle.books.specs.Faults.{rule_number}
use Rattle.judging.specs.declared.faults.BlockFault.{BlockFault}
use Rattle.judging.specs.declared.faults.ReceiptFault.{ReceiptFault}
use Rattle.judging.specs.Faults.{block_fault_number, field_in}
use Rattle.text.specs.declared.lines.Line.{Line}
use Rattle.text.specs.declared.lines.Line.TheVariants.{Refusal}

-- the rule that a fault of a data field or a list names, and 0 where there is no fault
abbrev pub rule_told : Option FieldFault → ℕ
rule_told (Some f) = rule_number f.rule
rule_told None = 0

-- and where it is broken
abbrev pub offset_told : Option FieldFault → ℕ
offset_told (Some f) = f.place
offset_told None = 0

-- the same of a refused product, 0 where the book found no fault
abbrev pub field_rule : BlockFault → ℕ
field_rule f = rule_told (field_in f)

abbrev pub field_offset : BlockFault → ℕ
field_offset f = offset_told (field_in f)

abbrev pub refusal_line : ReceiptFault → Line
refusal_line f = Refusal (record {
  refused = block_fault_number f.fault;
  block = f.place.block;
  at = f.place.at;
  rule = field_rule f.fault;
  offset = field_offset f.fault;
})
