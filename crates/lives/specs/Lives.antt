-- The life of a product: an accepted start or receipt, then any calls on it, refused ones too, on one memory, book and sink.
use Rattle.std.specs.Prelude.{◌≡◌, ℕ, ◌+◌, List, [], ◌∷◌, ◌++◌, take, ℤ, Ok, Err, slice_set}
use Rattle.std.specs.List.{remove, AllByRecursion}
use Rattle.wire.specs.declared.forms.Form.{Form}
use Rattle.wire.specs.Pairs.{Bytes}
use Rattle.books.specs.Books.{Meaning, Number}
use Rattle.judging.specs.declared.faults.Refusal.{Refusal}
use Rattle.judging.specs.declared.places.Phase.TheVariants.{Shut}
use Rattle.records.specs.Records.{Record, gives, given_form, recorded}
use Rattle.products.specs.Receipts.{Received, receipt, received}
use Rattle.products.specs.declared.closed.Closed.{Closed}
use Rattle.products.specs.Products.{Product, of_closed, as_closed}
use Rattle.products.specs.Calls.{Call, adds, replaces, withdraws, closes, reopens, wants, Stored, outcome, started}
use Rattle.sending.specs.Sending.{pairs_in, sending}

-- what an accepted call leaves of the records, by its arguments alone
abbrev pub leaves : Call → List Record → List Record
leaves (adds g) rs = rs ++ (recorded g ∷ [])
leaves (replaces k g) rs = slice_set rs k (recorded g)
leaves (withdraws k) rs = remove rs k
leaves closes rs = rs
leaves reopens rs = rs

-- the numbers of a call's list are of 32 bits, as the type of the list has it
abbrev pub Typed : Call → Type 0
Typed (adds g) = AllByRecursion Number g.numbers
Typed (replaces k g) = AllByRecursion Number g.numbers
Typed (withdraws k) = Unit {0}
Typed closes = Unit {0}
Typed reopens = Unit {0}

-- an accepted sending: the bytes as they then stood, the records and the closing form then left, and the number told
pub record Sent : Type 0 where
  pub stood : List ℕ
  pub left : List Record
  pub close : Form
  pub told : ℕ

-- a product with its memory and its sink, and what its past has left
pub record World (S : Type 0) : Type 0 where
  pub product : Product
  pub memory : List ℕ
  pub sink : S
  pub left : List Record
  pub close : Form
  pub sent : List Sent

-- the product's bytes
abbrev pub bytes_now : {S : Type 0} → World S → List ℕ
bytes_now w = take w.product.bytes w.memory

-- a sink is known by what it has taken and the room that it has left
module _ {S : Type 0} (taken : S → List ℕ) (room : S → ℕ) (M : Meaning) where
  -- a start or a receipt that is accepted
  pub data Begins (s : S) : World S → Type 0 where
    starts : (mem : List ℕ) (closing form : ℕ) (list : List ℤ) (x : Stored) → AllByRecursion Number list → started M mem closing form list ≡ Ok x
        → Begins s (record { product = x.product; memory = x.memory; sink = s; left = recorded (gives form 1 1 list) ∷ []; close = given_form closing; sent = [] })
    receives : (mem : List ℕ) (n : ℕ) (x : Received) (p : Closed) → Bytes mem → receipt M mem n ≡ Ok x → received M mem n ≡ Ok p
        → Begins s (record { product = of_closed p; memory = mem; sink = s; left = x.records; close = x.close; sent = [] })

  -- one call that the product's phase allows, accepted or turned down
  pub data Step (w : World S) : World S → Type 0 where
    called : (c : Call) (x : Stored) → Typed c → w.product.phase ≡ wants c → outcome M w.memory w.product c ≡ Ok x
        → Step w (record { product = x.product; memory = x.memory; sink = w.sink; left = leaves c w.left; close = w.close; sent = w.sent })
    turned_down : (c : Call) (e : Refusal) → Typed c → w.product.phase ≡ wants c → outcome M w.memory w.product c ≡ Err e → Step w w
    sends : (n : ℕ) (s : S) → w.product.phase ≡ Shut → sending M w.memory (as_closed w.product) (room w.sink) ≡ Ok n
        → taken s ≡ taken w.sink ++ pairs_in w.memory (as_closed w.product) → room s + n ≡ room w.sink
        → Step w (record {
          product = w.product;
          memory = w.memory;
          sink = s;
          left = w.left;
          close = w.close;
          sent = w.sent ++ (record { stood = bytes_now w; left = w.left; close = w.close; told = n } ∷ []);
        })
    unsent : (e : Refusal) → w.product.phase ≡ Shut → sending M w.memory (as_closed w.product) (room w.sink) ≡ Err e → Step w w

  pub data Life (s : S) : World S → Type 0 where
    begins : {w : World S} → Begins s w → Life s w
    goes_on : {w v : World S} → Life s w → Step w v → Life s v
