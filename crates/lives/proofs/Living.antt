-- What holds of every life.
use Rattle.std.proofs.Common.{◌≡◌, ℕ, List, ◌++◌, length, take, Ok, Err, sym, ap, ◌∙◌, ap₂, arith}
use Rattle.std.specs.List.{flat_map, AllByRecursion}
use Rattle.std.proofs.ByRecursion.{All-push}
use Rattle.std.proofs.lemmas.List.{append-nil, length-take-le, take-take, flat_map_more}
use Rattle.wire.specs.declared.forms.Form.{Form}
use Rattle.wire.specs.Pairs.{pairs}
use Rattle.wire.proofs.Passing.{same_ok}
use Rattle.books.specs.Books.{Meaning, Lawful}
use Rattle.judging.specs.declared.faults.ReceiptFault.{ReceiptFault}
use Rattle.judging.specs.declared.faults.Refusal.TheVariants.{NotHeld}
use Rattle.judging.specs.declared.places.Phase.TheVariants.{Shut}
use Rattle.records.specs.Records.{Record}
use Rattle.records.specs.Drafts.{drafted}
use Rattle.products.specs.Receipts.{Received, receipt}
use Rattle.products.specs.Products.{Product, as_closed}
use Rattle.products.specs.Holding.{held, holds}
use Rattle.products.specs.Calls.{Call, adds, replaces, withdraws, closes, reopens, mended, outcome}
use Rattle.sending.specs.Sending.{pairs_in, sending}
use Rattle.lives.specs.Lives.{World, bytes_now, Begins, starts, receives, Step, called, turned_down, sends, unsent, Life, begins, goes_on}
use Rattle.lives.specs.Law.{writing, OneLife, OneWriting}
use Rattle.lives.proofs.Keeping.{Sound, holds_closed, held_closed, held_sound, outcome_sound, started_sound, receipt_sound}

-- ---- nothing but a memory that does not hold the product gives 16
mended_other : (M : Meaning) (mem : List ℕ) (f : Form) (n : ℕ) (bs : List ℕ) (c : Call) (e : ReceiptFault) → mended M mem f n bs c ≡ Err (NotHeld e) → ⊥
unfolding mended drafted
mended_other M mem f n bs (adds g) e h = grind arith
mended_other M mem f n bs (replaces k g) e h = grind arith
mended_other M mem f n bs (withdraws k) e h = grind arith
mended_other M mem f n bs closes e h = grind arith
mended_other M mem f n bs reopens e h = grind arith

outcome_other : (M : Meaning) (mem : List ℕ) (p : Product) (c : Call) (rs : List Record) (e : ReceiptFault) → holds M mem p ≡ Ok rs → outcome M mem p c ≡ Err (NotHeld e) → ⊥
unfolding outcome
outcome_other M mem p c rs e k h = mended_other M mem p.close p.blocks (take p.bytes mem) c e (grind arith)

sending_other : (M : Meaning) (mem : List ℕ) (p : Product) (room : ℕ) (x : Received) (e : ReceiptFault) → held M mem (as_closed p) ≡ Ok x → sending M mem (as_closed p) room ≡ Err (NotHeld e) → ⊥
unfolding sending
sending_other M mem p room x e k h = grind arith

pub sending_told : (M : Meaning) (mem : List ℕ) (p : Product) (room n : ℕ) → sending M mem (as_closed p) room ≡ Ok n → n ≡ length (pairs_in mem (as_closed p))
unfolding sending
sending_told M mem p room n h = grind arith

module _ {S : Type 0} (taken : S → List ℕ) (room : S → ℕ) (M : Meaning) (L : Lawful M) where
  -- what a life keeps
  record Kept (s : S) (w : World S) : Type 0 where
    sound : Sound M w.product w.memory w.close w.left
    sink_holds : taken w.sink ≡ taken s ++ flat_map (λ x. pairs x.stood) w.sent
    told : AllByRecursion (λ x. x.told ≡ length (pairs x.stood)) w.sent
    received_again : AllByRecursion (λ x. receipt M x.stood (length x.stood) ≡ Ok (record { records = x.left; close = x.close })) w.sent

  -- a sound product's bytes alone are received again
  alone : (p : Product) (mem : List ℕ) (f : Form) (rs : List Record) → p.phase ≡ Shut → Sound M p mem f rs
      → receipt M (take p.bytes mem) (length (take p.bytes mem)) ≡ Ok (record { records = rs; close = f })
  alone p mem f rs e s =
      let n : length (take p.bytes mem) ≡ p.bytes = length-take-le p.bytes mem (omega (arith, s.room)) in
      ap (receipt M (take p.bytes mem)) n ∙ holds_closed M L p (take p.bytes mem) f rs e (record {
        lasting = s.lasting;
        bytes_is = s.bytes_is;
        blocks_is = s.blocks_is;
        close_is = s.close_is;
        stands = take-take p.bytes p.bytes mem (omega arith) ∙ s.stands;
        room = omega (arith, n, s.room);
      })

  begins_kept : (s : S) (w : World S) → Begins taken room M s w → Kept s w
  begins_kept s w (starts mem closing form list x known h) = record { sound = started_sound M L mem closing form list x known h; sink_holds = sym (append-nil (taken s)); told = tt; received_again = tt }
  begins_kept s w (receives mem n x p ok h k) = record { sound = receipt_sound M L mem n x p ok h k; sink_holds = sym (append-nil (taken s)); told = tt; received_again = tt }

  step_kept : (s : S) (w v : World S) → Kept s w → Step taken room M w v → Kept s v
  step_kept s w v k (called c x known e h) = record {
    sound = outcome_sound M L c w.product w.memory w.close w.left x known k.sound e h;
    sink_holds = k.sink_holds;
    told = k.told;
    received_again = k.received_again;
  }
  step_kept s w v k (turned_down c e known p h) = k
  step_kept s w v k (sends n t e h all left) = record {
    sound = k.sound;
    sink_holds = all ∙ ap (λ u. u ++ pairs (bytes_now w)) k.sink_holds ∙ flat_map_more (λ y. pairs y.stood) (taken s) w.sent _;
    told = All-push (λ y. y.told ≡ length (pairs y.stood)) w.sent _ k.told (sending_told M w.memory w.product _ n h);
    received_again = All-push (λ y. receipt M y.stood (length y.stood) ≡ Ok (record { records = y.left; close = y.close })) w.sent _ k.received_again
        (alone w.product w.memory w.close w.left e k.sound);
  }
  step_kept s w v k (unsent e p h) = k

  life_kept : (s : S) (w : World S) → Life taken room M s w → Kept s w
  life_kept s w (begins b) = begins_kept s w b
  life_kept s w (goes_on {w = u} l t) = step_kept s u w (life_kept s u l) t

  pub one_life : (s : S) (w : World S) → Life taken room M s w → OneLife taken M s w
  one_life s w l =
      let k = life_kept s w l in
      let p = w.product in
      record {
        written = k.sound.stands;
        held = λ c e f. outcome_other M w.memory p c w.left f (held_sound M L p w.memory w.close w.left k.sound);
        held_sending = λ free e f. sending_other M w.memory p free _ f (held_closed M L p w.memory w.close w.left e k.sound);
        sink_holds = k.sink_holds;
        told = k.told;
        received_again = k.received_again;
      }

pub one_writing : {S T : Type 0} (taken : S → List ℕ) (room : S → ℕ) (taken' : T → List ℕ) (room' : T → ℕ) → OneWriting taken room taken' room'
one_writing taken room taken' room' M L = record {
  each = one_life taken room M L;
  equal_bytes = λ s t w v l m e f.
      let a = (life_kept taken room M L s w l).sound in
      let b = (life_kept taken' room' M L t v m).sound in (
        λ q.
            let r = same_ok (sym (alone taken room M L w.product w.memory w.close w.left e a) ∙ ap (λ bs. receipt M bs (length bs)) q ∙ alone taken' room' M L v.product v.memory v.close v.left f b) in
            (ap (λ x. x.records) r, ap (λ x. x.close) r),
        λ q. a.stands ∙ ap (λ ph. writing M ph w.close w.left) (e ∙ sym f) ∙ ap₂ (writing M v.product.phase) q.1 q.0 ∙ sym b.stands,
      );
}
