use Rattle.std.proofs.Common.{◌≡◌, ◌-◌}
use Rattle.wire.specs.Rows.{behind}
use Rattle.wire.proofs.rows.skip_blocks.Given as goal

-- the blocks that are left lead to the same rest
abbrev pub invariant-loop : goal.invariant-loop
invariant-loop l = behind (l.blocks - l.counter) l.rest ≡ behind l.blocks l.bytes
