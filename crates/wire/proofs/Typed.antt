-- What the type of a slice tells of its elements.
use Rattle.std.proofs.Common.{ℕ, List, get_or, arith, w8, Fits}
use Rattle.std.proofs.ByRecursion.{All-from_get_or}
use Rattle.wire.specs.Pairs.{Byte, Bytes}

pub bytes_typed : (bs : List ℕ) → ((i : ℕ) → Fits w8 (get_or bs i 0)) → Bytes bs
bytes_typed bs t = All-from_get_or Byte bs 0 (λ i h. let k = t i in omega arith)
