-- What a sink does with its memory, and what a sending answers.
use Rattle.std.specs.Prelude.{◌≡◌, ℕ, ◌+◌, ◌*◌, ◌≤◌, cond, List, [], ◌++◌, length, Ok, Err, Result, nat_lt}
use Rattle.std.specs.Borrow.{MutBor}
use Rattle.std.specs.List.{flat_map}
use Rattle.sinks.specs.Cells.{cells, over, places}
use Rattle.sinks.specs.declared.sink.Full.{Full}

-- the number of this refusal
abbrev pub full_number : ℕ
full_number = 22

-- a sink s becomes t as it takes ps; onward: what led to s by taking qs leads on to t by taking qs and then ps
pub record Took {S : Type 0} (taken : S → List ℕ) (room : S → ℕ) (wrote : S → List ℕ → S → Type 0) (s : S) (ps : List ℕ) (t : S) : Type 0 where
  pub all : taken t ≡ taken s ++ ps
  pub left : room t + length ps ≡ room s
  pub words : wrote s ps t
  pub onward : (r : S) (qs : List ℕ) → wrote r qs s → wrote r (qs ++ ps) t

-- what a sending of n pairs answers, by the room that there is
abbrev pub sent : ℕ → ℕ → Result ℕ Full
sent room n = cond (nat_lt room n) (Err (record {})) (Ok n)

-- a memory with all pairs in its first cells, or as it was where it lacks the places
abbrev pub laid : ℕ → (ℕ → List ℕ) → List ℕ → List ℕ → List ℕ
laid w cell ps m = cond (nat_lt (places w 0 (length m)) (length ps)) m (over 0 (flat_map cell ps) m)

-- a new sink with the memory a: no cell is filled, so it has taken nothing, and all places of a are left
pub record Begun (worth : List ℕ → ℕ) (w : ℕ) (memory : MutBor (List ℕ)) (count : ℕ) (a : MutBor (List ℕ)) : Type 0 where
  pub lent : memory.ghost_name ≡ a.ghost_name
  pub bytes : memory.now ≡ a.now
  pub none : count ≡ 0
  pub taken : cells worth w count memory.now ≡ []
  pub room : places w count (length memory.now) ≡ places w 0 (length a.now)

-- a sink with the memory a and n cells filled becomes one with the memory b and m cells filled, as it takes ps
pub record Wrote (w : ℕ) (cell : ℕ → List ℕ) (a : MutBor (List ℕ)) (n : ℕ) (ps : List ℕ) (b : MutBor (List ℕ)) (m : ℕ) : Type 0 where
  pub lent : b.ghost_name ≡ a.ghost_name
  pub counted : m ≡ n + length ps
  pub within : w * n ≤ length a.now → w * m ≤ length a.now
  pub bytes : w * n ≤ length a.now → b.now ≡ over (w * n) (flat_map cell ps) a.now
