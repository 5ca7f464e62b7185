-- What the four questions of the plain-word book need.
use Rattle.std.proofs.Common.{◌≡◌, ℕ, zero, suc, ◌+◌, ◌*◌, ◌/◌, ◌%◌, ◌<◌, ◌≤◌, true, List, [], ◌∷◌, ◌++◌, length, get_or, take, set, ℤ, pos, nat_abs, Some, None, Ok, Err, Option, Result, sym, refl, ap, ◌∙◌, arith}
use Rattle.std.specs.List.{slice_get}
use Rattle.std.specs.Result.{result_ok}
use Rattle.std.specs.Simd.{first_chunks}
use Rattle.std.proofs.ByRecursion.{All-get_or}
use Rattle.std.proofs.lemmas.List.{append_assoc, length-set, take_more, take_more_set}
use Rattle.wire.specs.Pairs.{pair, pair_bytes}
use Rattle.books.specs.declared.faults.FieldFault.{FieldFault}
use Rattle.books.specs.Books.{Reading, Writing, judged, weighed, most_bytes}
use Rattle.books.specs.Faults.{first_fail}
use Rattle.books.specs.PassLaws.{all_from_none, none_from_all}
use Rattle.books.specs.Words.{most_words, top_word, within, words, word_bytes, word_reading, word_writing}
use Rattle.books.specs.WordLaws.{length_words, length_word_bytes, within_top, read_words, written_words, words_written}

pub nth_words : (bs : List ℕ) (i : ℕ) → i < length bs / 2 → slice_get (words bs) i ≡ Some (pos (pair (get_or bs (2 * i) 0) (get_or bs (2 * i + 1) 0)))
nth_words [] i h = absurd (omega arith)
nth_words (a ∷ []) i h = absurd (omega arith)
nth_words (a ∷ b ∷ bs) zero h = refl
nth_words (a ∷ b ∷ bs) (suc i) h =
    let e : 2 * suc i ≡ suc (suc (2 * i)) = omega arith in
    let f : 2 * suc i + 1 ≡ suc (suc (2 * i + 1)) = omega arith in
    rw (f, e) (nth_words bs i (omega arith))

-- the two bytes of each chunk of two
pub chunk_word : (k i : ℕ) (bs d : List ℕ) → i < k → 2 * k ≤ length bs → (get_or (get_or (first_chunks 2 k bs) i d) 0 0 ≡ get_or bs (2 * i) 0) × (get_or (get_or (first_chunks 2 k bs) i d) 1 0 ≡ get_or bs (2 * i + 1) 0)
chunk_word zero i bs d l m = absurd (omega arith)
chunk_word (suc k) i [] d l m = absurd (omega arith)
chunk_word (suc k) i (a ∷ []) d l m = absurd (omega arith)
chunk_word (suc k) zero (a ∷ b ∷ bs) d l m = (refl, refl)
chunk_word (suc k) (suc i) (a ∷ b ∷ bs) d l m =
    let e : 2 * suc i ≡ suc (suc (2 * i)) = omega arith in
    let f : 2 * suc i + 1 ≡ suc (suc (2 * i + 1)) = omega arith in
    rw (f, e) (chunk_word k i bs d (omega arith) (omega arith))

-- ---- what a count of words and a weight tell
ok_back : (r : Result ℕ FieldFault) (n : ℕ) → result_ok r ≡ Some n → r ≡ Ok n
ok_back (Ok m) n h = cc
ok_back (Err f) n h = let z : ◌≡◌ {A = ℕ} 0 1 = cc in absurd (omega arith)

ok_judged : (r : Reading) (a : Result ℕ FieldFault) (n : ℕ) → a ≡ judged r → a ≡ Ok n → (list : List ℤ) × (r ≡ Ok list) × (length list ≡ n)
ok_judged (Ok list) a n e h = (list, refl, cc)
ok_judged (Err f) a n e h = let z : ◌≡◌ {A = ℕ} 0 1 = cc in absurd (omega arith)

ok_weighed : (r : Writing) (a : Result ℕ FieldFault) (n : ℕ) → a ≡ weighed r → a ≡ Ok n → (field : List ℕ) × (r ≡ Ok field) × (length field ≡ n)
ok_weighed (Ok field) a n e h = (field, refl, cc)
ok_weighed (Err f) a n e h = let z : ◌≡◌ {A = ℕ} 0 1 = cc in absurd (omega arith)

pub counted_words : (field : List ℕ) (a : Result ℕ FieldFault) (count : ℕ) → a ≡ judged (word_reading field) → a ≡ Ok count → (length field % 2 ≡ 0) × (length field ≤ most_bytes) × (count ≡ length field / 2)
counted_words field a count e h =
    let k = ok_judged (word_reading field) a count e h in
    let w = read_words field k.0 k.1 in
    let l = ap length w.2 in
    let n = k.2 in
    (w.0, w.1, omega (arith, length_words field))

pub judged_words : (field : List ℕ) (a : Result ℕ FieldFault) (o : Option ℕ) (n : ℕ) → a ≡ judged (word_reading field) → o ≡ result_ok a → o ≡ Some n → (length field % 2 ≡ 0) × (length field ≤ most_bytes) × (n ≡ length field / 2)
judged_words field a o n e v h = counted_words field a n e (ok_back a n (sym v ∙ h))

pub weighed_words : (list : List ℤ) (a : Result ℕ FieldFault) (weight : ℕ) → a ≡ weighed (word_writing list) → a ≡ Ok weight → (length list ≤ most_words) × (first_fail (within top_word) list ≡ None) × (weight ≡ 2 * length list) × (word_writing list ≡ Ok (word_bytes list))
weighed_words list a weight e h =
    let k = ok_weighed (word_writing list) a weight e h in
    let w = written_words list k.0 k.1 in
    let l = ap length w.2 in
    let n = k.2 in
    (w.0, none_from_all (within top_word) list w.1, omega (arith, length_word_bytes list), words_written list w.0 w.1)

-- ---- a loop that writes the words
word_bytes_append : (xs ys : List ℤ) → word_bytes (xs ++ ys) ≡ word_bytes xs ++ word_bytes ys
word_bytes_append [] ys = refl
word_bytes_append (x ∷ xs) ys = ap (λ r. pair_bytes (nat_abs x) ++ r) (word_bytes_append xs ys)

pub words_more : (list : List ℤ) (place : List ℕ) (i high low : ℕ) (z : ℤ) → i < length list → length place ≡ 2 * length list → z ≡ get_or list i (pos 0) → high ≡ nat_abs z / 256 → low ≡ nat_abs z % 256 → take (2 * i) place ≡ word_bytes (take i list) → take (2 * (i + 1)) (set (set place (2 * i) high) (2 * i + 1) low) ≡ word_bytes (take (i + 1) list)
words_more list place i high low z l n e h k inv =
    let s = set place (2 * i) high in
    let m : length s ≡ 2 * length list = length-set place (2 * i) high ∙ n in
    let j : 2 * (i + 1) ≡ 2 * i + 1 + 1 = omega arith in
    let a = take_more_set s (2 * i + 1) low (omega arith) in
    let b = take_more_set place (2 * i) high (omega arith) in
    let p = take_more list i (pos 0) l in
    let q = word_bytes_append (take i list) (get_or list i (pos 0) ∷ []) in
    let two = ap (λ t. t ++ (low ∷ [])) (b ∙ ap (λ t. t ++ (high ∷ [])) inv) in
    let left : take (2 * i + 1 + 1) (set s (2 * i + 1) low) ≡ word_bytes (take i list) ++ (high ∷ low ∷ []) = a ∙ two ∙ append_assoc (word_bytes (take i list)) (high ∷ []) (low ∷ []) in
    let here : word_bytes (get_or list i (pos 0) ∷ []) ≡ high ∷ low ∷ [] = rw (← e, h, k) in
    let right : word_bytes (take (i + 1) list) ≡ word_bytes (take i list) ++ (high ∷ low ∷ []) = ap word_bytes p ∙ q ∙ ap (λ t. word_bytes (take i list) ++ t) here in
    rw j (left ∙ sym right)

pub fit_at : (list : List ℤ) (i : ℕ) → i < length list → first_fail (within top_word) list ≡ None → (get_or list i (pos 0) ≡ pos (nat_abs (get_or list i (pos 0)))) × (nat_abs (get_or list i (pos 0)) ≤ top_word)
fit_at list i l h = within_top top_word _ (All-get_or (λ z. within top_word z ≡ true) list i (pos 0) l (all_from_none (within top_word) list h))
