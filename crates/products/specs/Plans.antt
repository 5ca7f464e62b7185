-- What the checks of a call tell the code that then writes: no public contract cites these.
use Rattle.std.specs.Prelude.{◌≡◌, ℕ, suc, ◌+◌, ◌-◌, ◌≤◌, List, length, take, Ok}
use Rattle.memory.specs.Laid.{spliced}
use Rattle.books.specs.Books.{Meaning, weighed}
use Rattle.records.specs.declared.drafts.Draft.{Draft}
use Rattle.records.specs.Drafts.{drafts}
use Rattle.records.specs.Records.{Given, block_writing, block_of}
use Rattle.products.specs.Receipts.{most_blocks}
use Rattle.products.specs.Calls.{Call, leads_to, content, stored, outcome}
use Rattle.products.specs.Products.{Product}

-- the call is accepted, and leaves n blocks, with x in the place of the bytes a to b
pub record Planned (M : Meaning) (mem : List ℕ) (p : Product) (c : Call) (x : List ℕ) (a b n : ℕ) : Type 0 where
  pub result : outcome M mem p c ≡ Ok (stored (leads_to c) p.close (content (spliced a b x (take p.bytes mem)) n) p.bytes mem)
  pub forward : a ≤ b
  pub inside : b ≤ p.bytes
  pub within : p.bytes ≤ length mem
  pub room : (p.bytes - (b - a)) + length x ≤ length mem
  pub few : n ≤ suc most_blocks

-- the same, with the block of a record that was given
pub record Ready (M : Meaning) (mem : List ℕ) (p : Product) (c : Call) (d : Draft) (g : Given) (a b n : ℕ) : Type 0 where
  pub planned : Planned M mem p c (block_of M (drafts d g)) a b n
  pub fits : weighed (block_writing M (drafts d g)) ≡ Ok d.size
  pub size : length (block_of M (drafts d g)) ≡ d.size
