-- From what the pairs of a product find in the sink to the answer of its sending.
use Rattle.std.proofs.Common.{◌≡◌, ℕ, ◌-◌, Bool, true, false, cond, List, length, take, Ok, Err, refl, ap, arith}
use Rattle.std.specs.Prelude.{nat_lt}
use Rattle.wire.specs.Pairs.{pairs}
use Rattle.wire.specs.Steps.{◌>>=◌, refuse, blame}
use Rattle.books.specs.Books.{Meaning}
use Rattle.judging.specs.declared.faults.Refusal.TheVariants.{SinkFull}
use Rattle.products.specs.Receipts.{Received}
use Rattle.sinks.specs.declared.sink.Full.{Full}
use Rattle.sinks.specs.Sinks.{sent}
use Rattle.products.specs.declared.closed.Closed.{Closed}
use Rattle.products.specs.Holding.{held}
use Rattle.sending.specs.Sending.{pairs_in, sending}

-- all of the memory's first bytes, as the code takes them
pub whole : (mem : List ℕ) (p : Closed) (n : ℕ) → n ≡ p.bytes → pairs (take (n - 0) mem) ≡ pairs_in mem p
whole mem p n e = let all : n - 0 ≡ p.bytes = omega arith in ap (λ k. pairs (take k mem)) all

answered : (b : Bool) (n : ℕ) → blame (λ (_ : Full). SinkFull) (cond b (Err (record {})) (Ok n)) ≡ (refuse b SinkFull >>= (λ _. Ok n))
answered true n = refl
answered false n = refl

pub sending_told : (M : Meaning) (mem : List ℕ) (p : Closed) (room : ℕ) (x : Received) → held M mem p ≡ Ok x → blame (λ _. SinkFull) (sent room (length (pairs_in mem p))) ≡ sending M mem p room
unfolding sending
sending_told M mem p room x h = rw h (answered (nat_lt room (length (pairs_in mem p))) (length (pairs_in mem p)))
