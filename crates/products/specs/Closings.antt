-- The bytes of a closed product.
use Rattle.std.specs.Prelude.{◌≡◌, ℕ, List, [], ◌++◌, take, Ok, slice_index_or}
use Rattle.std.specs.List.{flat_map}
use Rattle.wire.specs.declared.forms.Form.{Form}
use Rattle.wire.specs.Blocks.{block_bytes}
use Rattle.books.specs.Books.{Meaning}
use Rattle.records.specs.Records.{Record, block_of}
use Rattle.products.specs.declared.closed.Closed.{Closed}
use Rattle.products.specs.Receipts.{Received, receipt}

-- the end in a form
abbrev pub end_of : Form → List ℕ
end_of form = block_bytes form 1 2 []

-- what block k of a product says: the record at k, and behind the records the end
abbrev pub end_record : Form → Record
end_record form = record { form = form; mode = 1; submode = 2; numbers = [] }

abbrev pub block_record : Received → ℕ → Record
block_record x k = slice_index_or x.records k (end_record x.close)

-- the blocks of records, in order
abbrev pub blocks_of : Meaning → List Record → List ℕ
blocks_of M rs = flat_map (block_of M) rs

-- the bytes of a closed product: the blocks of its records in order, then the end
abbrev pub closed_bytes : Meaning → Received → List ℕ
closed_bytes M x = flat_map (block_of M) x.records ++ end_of x.close

-- a product's bytes in memory are those of what is read in it
abbrev pub AsWritten : Meaning → List ℕ → Closed → Type 0
AsWritten M mem p =
    (x : Received) × (receipt M mem p.bytes ≡ Ok x) × (take p.bytes mem ≡ closed_bytes M x)
