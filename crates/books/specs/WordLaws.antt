-- Proofs, and no definitions: the plain-word book keeps the laws of a book.
use Rattle.std.specs.Prelude.{◌≡◌, ℕ, ◌+◌, ◌*◌, ◌/◌, ◌%◌, ◌<◌, ◌≤◌, true, false, not, ltb, List, [], ◌∷◌, length, ℤ, pos, negsuc, None, Ok, ◌==◌, nat_lt, unsigned_abs, refl}
use Rattle.std.proofs.Common.{ap, ◌∙◌, arith}
use Rattle.std.specs.List.{AllByRecursion}
use Rattle.std.proofs.lemmas.Bool.{leb-true, le-leb, eqb-true, eq-eqb, ltb-false, le-ltb, or_parts, or_from, not-false, not_from_true}
use Rattle.std.proofs.ByRecursion.{All-weaker}
use Rattle.std.proofs.lemmas.List.{length-map}
use Rattle.wire.specs.Pairs.{Bytes, pairs}
use Rattle.wire.proofs.Passing.{passed}
use Rattle.books.specs.declared.faults.Rule.TheVariants.{DataLength, ListLength, NumberRange}
use Rattle.books.specs.Books.{Agree, Lawful, Number, most_bytes}
use Rattle.books.specs.Faults.{fault_at, first_fail}
use Rattle.books.specs.PassLaws.{passed_refuse_at, all_from_none, none_from_all}
use Rattle.books.specs.Words.{most_words, top_word, bad_length, within, words, word_bytes, word_reading, word_writing, plain}

-- ---- lengths
length_pairs : (bs : List ℕ) → length (pairs bs) ≡ length bs / 2
length_pairs [] = refl
length_pairs (a ∷ []) = refl
length_pairs (a ∷ b ∷ bs) = omega (arith, length_pairs bs)

pub length_words : (bs : List ℕ) → length (words bs) ≡ length bs / 2
length_words bs = length-map (pairs bs) pos ∙ length_pairs bs

pub length_word_bytes : (zs : List ℤ) → length (word_bytes zs) ≡ 2 * length zs
length_word_bytes [] = refl
length_word_bytes (z ∷ zs) = omega (arith, length_word_bytes zs)

-- ---- there and back
pub within_top : (top : ℕ) (z : ℤ) → within top z ≡ true → (z ≡ pos (unsigned_abs z)) × (unsigned_abs z ≤ top)
within_top top (pos n) h = (refl, leb-true n top h)
within_top top (negsuc n) h = let z : ◌≡◌ {A = ℕ} 0 1 = cc in absurd (omega arith)

number_within : (z : ℤ) → within top_word z ≡ true → Number z
number_within (pos n) h = record { sfits = omega (arith, leb-true n top_word h) }
number_within (negsuc n) h = let z : ◌≡◌ {A = ℕ} 0 1 = cc in absurd (omega arith)

words_of_bytes : (zs : List ℤ) → AllByRecursion (λ z. within top_word z ≡ true) zs → words (word_bytes zs) ≡ zs
words_of_bytes [] h = refl
words_of_bytes (pos n ∷ zs) h =
    let e : 256 * (n / 256) + n % 256 ≡ n = omega arith in
    rw (e, words_of_bytes zs h.1)
words_of_bytes (negsuc n ∷ zs) h = let z : ◌≡◌ {A = ℕ} 0 1 = let b : false ≡ true = h.0 in cc in absurd (omega arith)

bytes_of_words : (bs : List ℕ) → length bs % 2 ≡ 0 → Bytes bs → word_bytes (words bs) ≡ bs
bytes_of_words [] e h = refl
bytes_of_words (a ∷ []) e h = absurd (omega arith)
bytes_of_words (a ∷ b ∷ bs) e h =
    let k : b < 256 = h.1.0 in
    let high : (256 * a + b) / 256 ≡ a = omega arith in
    let low : (256 * a + b) % 256 ≡ b = omega arith in
    rw (high, low, bytes_of_words bs (omega arith) h.1.1)

words_within : (bs : List ℕ) → Bytes bs → AllByRecursion (λ z. within top_word z ≡ true) (words bs)
words_within [] h = tt
words_within (a ∷ []) h = tt
words_within (a ∷ b ∷ bs) h =
    let j : a < 256 = h.0 in
    let k : b < 256 = h.1.0 in
    (le-leb _ _ (omega arith), words_within bs h.1.1)

word_bytes_fit : (zs : List ℤ) → AllByRecursion (λ z. within top_word z ≡ true) zs → Bytes (word_bytes zs)
word_bytes_fit [] h = tt
word_bytes_fit (z ∷ zs) h = let k = within_top top_word z h.0 in (omega arith, (omega arith, word_bytes_fit zs h.1))

-- ---- what an accepted field and an accepted list are, and that these are accepted
pub read_words : (field : List ℕ) (list : List ℤ) → word_reading field ≡ Ok list → (length field % 2 ≡ 0) × (length field ≤ most_bytes) × (words field ≡ list)
read_words field list h =
    let k = passed (bad_length (length field)) (fault_at DataLength (length field)) (λ _. Ok (words field)) h in
    let t = or_parts (not (length field % 2 == 0)) (nat_lt most_bytes (length field)) k.0 in
    let o = k.1 in
    (eqb-true _ _ (not-false _ t.0), ltb-false _ _ t.1, cc)

pub words_read : (field : List ℕ) → length field % 2 ≡ 0 → length field ≤ most_bytes → word_reading field ≡ Ok (words field)
words_read field e l =
    let t : bad_length (length field) ≡ false = or_from _ _ (not_from_true _ (eq-eqb (length field % 2) 0 e)) (le-ltb most_bytes (length field) l) in
    rw t

pub written_words : (list : List ℤ) (field : List ℕ) → word_writing list ≡ Ok field → (length list ≤ most_words) × AllByRecursion (λ z. within top_word z ≡ true) list × (word_bytes list ≡ field)
written_words list field h =
    let k = passed (nat_lt most_words (length list)) (fault_at ListLength (length list)) _ h in
    let m = passed_refuse_at NumberRange (first_fail (within top_word) list) (λ _. Ok (word_bytes list)) field k.1 in
    let o = m.1 in
    (ltb-false _ _ k.0, all_from_none (within top_word) list m.0, cc)

pub words_written : (list : List ℤ) → length list ≤ most_words → AllByRecursion (λ z. within top_word z ≡ true) list → word_writing list ≡ Ok (word_bytes list)
words_written list l a =
    let t : ltb most_words (length list) ≡ false = le-ltb _ _ l in
    let n : first_fail (within top_word) list ≡ None = none_from_all (within top_word) list a in
    rw (t, n)

-- ---- the laws
words_agree : Agree word_reading word_writing
words_agree = record {
  written = λ list field _ h.
      let k = written_words list field h in
      let n = length_word_bytes list in
      let r = words_read (word_bytes list) (omega arith) (omega arith) in
      let w = words_of_bytes list k.1 in
      let e = k.2 in
      rw (← e, r, w);
  reads = λ field list b h.
      let k = read_words field list h in
      let n = length_words field in
      let r = words_written (words field) (omega arith) (words_within field b) in
      let e = k.2 in
      rw (← e, r, bytes_of_words field k.0 b);
  bytes = λ list field _ h.
      let k = written_words list field h in
      let e = k.2 in
      rw e at (word_bytes_fit list k.1);
  numbers = λ field list b h.
      let k = read_words field list h in
      let e = k.2 in
      rw e at (All-weaker (λ z. within top_word z ≡ true) Number number_within (words field) (words_within field b));
  even = λ field list h. (read_words field list h).0;
  short = λ field list h. (read_words field list h).1;
  few = λ field list h. let k = read_words field list h in let e = ap length k.2 in omega (arith, length_words field);
}

pub plain_lawful : Lawful plain
plain_lawful mode submode = words_agree
