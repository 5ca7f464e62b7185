-- Proofs, and no definitions: rows of sound cells are sound.
use Rattle.std.specs.Prelude.{◌≡◌, ℕ, zero, suc, ◌+◌, ◌*◌, List, [], ◌∷◌, ◌++◌, length, take, drop, Ok, refl}
use Rattle.std.proofs.Common.{ap, zero-mul, suc-mul, arith}
use Rattle.std.specs.List.{AllByRecursion}
use Rattle.std.proofs.ByRecursion.{All-append, All-take, All-drop}
use Rattle.std.proofs.lemmas.List.{length-append, length-take-le, length-drop, take_at, drop_at, take-append-drop, nil_from_length}
use Rattle.wire.specs.Pairs.{Byte}
use Rattle.wire.proofs.Passing.{went_on}
use Rattle.books.specs.Books.{Number}
use Rattle.cells.specs.Cells.{Way, Cell, Sound, in_turn, empty, ◌then◌, row, repeated}

-- ---- one way and then the next
module _ {X Y : Type 0} where
  pub turned : (n : ℕ) (first next : Way X Y) (at : ℕ) (xs : List X) (ys : List Y) → in_turn n first next at xs ≡ Ok ys → (front back : List Y) × (first at (take n xs) ≡ Ok front) × (next (at + n) (drop n xs) ≡ Ok back) × (front ++ back ≡ ys)
  turned n first next at xs ys h =
      let a = went_on (first at (take n xs)) _ h in
      let b = went_on (next (at + n) (drop n xs)) _ a.2 in
      let e = b.2 in
      (a.0, b.0, a.1, b.1, cc)

  pub turn : (n : ℕ) (first next : Way X Y) (at : ℕ) (fore aft : List X) (front back : List Y) → length fore ≡ n → first at fore ≡ Ok front → next (at + n) aft ≡ Ok back → in_turn n first next at (fore ++ aft) ≡ Ok (front ++ back)
  turn n first next at fore aft front back l f g =
      let t : take n (fore ++ aft) ≡ fore = take_at fore aft n l in
      let d : drop n (fore ++ aft) ≡ aft = drop_at fore aft n l in
      rw (t, d, f, g)

pub empty_sound : Sound empty
empty_sound = record {
  written = λ at list field l h.
      let e = nil_from_length list l in
      (let f : field ≡ [] = cc in rw f refl, let f : field ≡ [] = cc in rw f tt, λ from. cc);
  reads = λ at field list l b h.
      let e = nil_from_length field l in
      (let f : list ≡ [] = cc in rw f tt, λ from. cc);
  counted = λ at field list l h. let f : list ≡ [] = cc in rw f refl;
}

-- ---- what of a list of the right length goes to each of two cells
front_length : {X : Type 0} (xs : List X) (m n : ℕ) → length xs ≡ m + n → length (take m xs) ≡ m
front_length xs m n l = length-take-le m xs (omega arith)

back_length : {X : Type 0} (xs : List X) (m n : ℕ) → length xs ≡ m + n → length (drop m xs) ≡ n
back_length xs m n l = omega (arith, length-drop m xs)

joined_length : {X : Type 0} (xs ys zs : List X) (m n : ℕ) → xs ++ ys ≡ zs → length xs ≡ m → length ys ≡ n → length zs ≡ m + n
joined_length xs ys zs m n e f g = omega (arith, ap length e, length-append xs ys)

pub then_sound : (c d : Cell) → Sound c → Sound d → Sound (c then d)
then_sound c d s t = record {
  written = λ at list field l h.
      let k = turned c.count c.writing d.writing at list field h in
      let p = s.written at (take c.count list) k.0 (front_length list c.count d.count l) k.2 in
      let q = t.written (at + c.count) (drop c.count list) k.1 (back_length list c.count d.count l) k.3 in
      let e = k.4 in
      let whole = take-append-drop c.count list in (
        joined_length k.0 k.1 field c.size d.size e p.0 q.0,
        rw e at (All-append Byte k.0 k.1 p.1 q.1),
        λ from. let r = turn c.size c.reading d.reading from k.0 k.1 _ _ p.0 (p.2 from) (q.2 (from + c.size)) in
            rw (e, whole) at r,
      );
  reads = λ at field list l b h.
      let k = turned c.size c.reading d.reading at field list h in
      let fl = front_length field c.size d.size l in
      let bl = back_length field c.size d.size l in
      let p = s.reads at (take c.size field) k.0 fl (All-take Byte c.size field b) k.2 in
      let q = t.reads (at + c.size) (drop c.size field) k.1 bl (All-drop Byte c.size field b) k.3 in
      let n = s.counted at (take c.size field) k.0 fl k.2 in
      let e = k.4 in
      let whole = take-append-drop c.size field in (
        rw e at (All-append Number k.0 k.1 p.0 q.0),
        λ from. let r = turn c.count c.writing d.writing from k.0 k.1 _ _ n (p.1 from) (q.1 (from + c.count)) in
            rw (e, whole) at r,
      );
  counted = λ at field list l h.
      let k = turned c.size c.reading d.reading at field list h in
      let n = s.counted at (take c.size field) k.0 (front_length field c.size d.size l) k.2 in
      let m = t.counted (at + c.size) (drop c.size field) k.1 (back_length field c.size d.size l) k.3 in
      joined_length k.0 k.1 list c.count d.count k.4 n m;
}

-- a row is sound where each of its cells is
pub row_sound : (cs : List Cell) → AllByRecursion Sound cs → Sound (row cs)
row_sound [] s = empty_sound
row_sound (c ∷ cs) s = then_sound c (row cs) s.0 (row_sound cs s.1)

pub repeated_sound : (k : ℕ) (c : Cell) → Sound c → Sound (repeated k c)
repeated_sound zero c s = rw (zero-mul c.size, zero-mul c.count) empty_sound
repeated_sound (suc k) c s =
    let e : suc k * c.size ≡ c.size + k * c.size = omega (arith, suc-mul k c.size) in
    let f : suc k * c.count ≡ c.count + k * c.count = omega (arith, suc-mul k c.count) in
    rw (e, f) (then_sound c (repeated k c) s (repeated_sound k c s))
