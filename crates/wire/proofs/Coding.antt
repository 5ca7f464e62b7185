-- One block: what is written is read back, and what is read was written so.
use Rattle.std.proofs.Common.{◌≡◌, ℕ, zero, suc, ◌+◌, ◌-◌, ◌*◌, ◌/◌, ◌%◌, ◌≤◌, false, ◌||◌, ltb, List, [], ◌∷◌, ◌++◌, length, get_or, take, drop, Ok, Err, Result, sym, refl, ap, ◌∙◌, ap₂, arith}
use Rattle.std.proofs.lemmas.List.{append_assoc, length-append, take_at, drop_at, take-append-drop, length-take-le, length-drop}
use Rattle.std.proofs.lemmas.Bool.{le-ltb, eqb-true, eq-eqb, or_from, not_from_true, not-false}
use Rattle.std.proofs.ByRecursion.{All-drop}
use Rattle.wire.specs.declared.blocks.Head.{Head}
use Rattle.wire.specs.declared.blocks.Malformed.{Malformed}
use Rattle.wire.specs.declared.blocks.Malformed.TheVariants.{Mode}
use Rattle.wire.specs.declared.forms.Form.{Form}
use Rattle.wire.specs.declared.forms.Form.TheVariants.{Checksummed, LengthOnly}
use Rattle.wire.specs.Blocks.{Sized, Framed, pairs_of, front, checksum, block_bytes, first_pair, flagged, head_in, size, framed_in, framed, unbalanced, sound, read_head, most_pairs, most_mode}
use Rattle.wire.specs.Codec.{Decoded, Encoded, Codec, head_of}
use Rattle.wire.specs.Forms.{form_number, checksum_pairs, fewest_pairs}
use Rattle.wire.specs.Pairs.{Byte, Bytes, pair, pairs, total, pair_sum}
use Rattle.wire.specs.Rows.{extent}
use Rattle.wire.specs.Steps.{◌>>=◌, refuse}
use Rattle.wire.proofs.Passing.{pass, go_on, same_ok}
use Rattle.wire.proofs.Summing.{total_append}

-- ---- forms as numbers
pub number_fits : (f : Form) → form_number f ≤ 1
number_fits Checksummed = omega arith
number_fits LengthOnly = omega arith

pub checksum_fits : (f : Form) → checksum_pairs f ≤ 1
checksum_fits Checksummed = omega arith
checksum_fits LengthOnly = omega arith

flag_number : (n : ℕ) (f : Form) → flagged n ≡ Ok f → n ≡ form_number f
flag_number zero f e = ap form_number (same_ok e)
flag_number (suc zero) f e = ap form_number (same_ok e)
flag_number (suc (suc n)) f e = absurd (let z : ◌≡◌ {A = ℕ} 0 1 = cc in omega arith)

number_flag : (f : Form) → flagged (form_number f) ≡ Ok f
number_flag Checksummed = refl
number_flag LengthOnly = refl

-- ---- the CHECKSUM
checksum_length : (f : Form) (xs : List ℕ) → length (checksum f xs) ≡ 2 * checksum_pairs f
checksum_length Checksummed xs = refl
checksum_length LengthOnly xs = refl

pub block_length : (f : Form) (m s : ℕ) (d : List ℕ) → length d % 2 ≡ 0 → length (block_bytes f m s d) ≡ 2 * pairs_of f (length d)
unfolding block_bytes
block_length f m s d even = rw length-append (omega (arith, checksum_length f (front f m s d)))

balanced : (f : Form) (xs : List ℕ) → length xs % 2 ≡ 0 → unbalanced f (xs ++ checksum f xs) ≡ false
unfolding pair_sum
balanced Checksummed xs h =
    not_from_true _ (eq-eqb _ _ (omega (arith, total_append xs (checksum Checksummed xs) h)))
balanced LengthOnly xs h = refl

-- the pair that balances a block is the pair that it ends in
checksum_is : (f : Form) (xs t : List ℕ) → length xs % 2 ≡ 0 → 2 * checksum_pairs f ≤ length t → Bytes t
    → unbalanced f (xs ++ take (2 * checksum_pairs f) t) ≡ false → t ≡ checksum f xs ++ drop (2 * checksum_pairs f) t
unfolding pair_sum
checksum_is Checksummed xs [] h l ok z = absurd (omega arith)
checksum_is Checksummed xs (u ∷ []) h l ok z = absurd (omega arith)
checksum_is Checksummed xs (u ∷ v ∷ t) h l ok z =
    let s : total (pairs (xs ++ (u ∷ v ∷ []))) % 65536 ≡ 0 = eqb-true _ _ (not-false _ z) in
    let e : 256 * u + v ≡ (65536 - total (pairs xs) % 65536) % 65536 = omega (arith, total_append xs (u ∷ v ∷ []) h, ok.0, ok.1.0) in
    ap₂ (λ x y. x ∷ y ∷ t) (omega (arith, e, ok.1.0)) (omega (arith, e, ok.1.0))
checksum_is LengthOnly xs t h l ok z = refl

-- ---- what is written is read back
module _ (f : Form) (m s : ℕ) (d rest : List ℕ) (z : Sized f m d) where
  len : ℕ
  len = pairs_of f (length d)

  all : List ℕ
  all = block_bytes f m s d ++ rest

  all_as : all ≡ front f m s d ++ (checksum f (front f m s d) ++ rest)
  unfolding all block_bytes
  all_as = append_assoc (front f m s d) (checksum f (front f m s d)) rest

  len_two : length (block_bytes f m s d) ≡ 2 * len
  unfolding len
  len_two = block_length f m s d z.even

  block_all : take (2 * len) all ≡ block_bytes f m s d
  unfolding all
  block_all = take_at _ _ _ len_two

  rest_all : drop (2 * len) all ≡ rest
  unfolding all
  rest_all = drop_at _ _ _ len_two

  len_most : len ≤ most_pairs
  unfolding len
  len_most = z.short

  first : first_pair all ≡ form_number f * 16384 + len
  unfolding len
  first = rw all_as (omega arith)

  field_all : take (2 * (len - checksum_pairs f) - 4) (drop 4 all) ≡ d
  unfolding len
  field_all = rw all_as (take_at d (checksum f (front f m s d) ++ rest) _ (omega (arith, z.even)))

  long : 2 * len ≤ length all
  unfolding all
  long = rw length-append (omega (arith, len_two))

  head_all : head_in f all ≡ head_of f m s d
  unfolding len
  head_all =
      let p : first_pair all % 16384 ≡ len = omega (arith, first, len_most) in
      let o : get_or all 2 0 ≡ m = rw all_as refl in
      let u : get_or all 3 0 ≡ s = rw all_as refl in
      λ i. record { form = f; pairs = p i; modes = record { mode = o i; submode = u i } }

  whole_balanced : unbalanced f (block_bytes f m s d) ≡ false
  unfolding block_bytes
  whole_balanced = balanced f (front f m s d) (omega (arith, z.even))

  framed_again : framed_in f all ≡ Ok (head_of f m s d)
  unfolding len
  framed_again =
      let p : (head_in f all).pairs ≡ len = ap (λ h. h.pairs) head_all in
      let e5 : (ltb (head_in f all).pairs (fewest_pairs f) || ltb most_pairs (head_in f all).pairs) ≡ false =
      rw p (or_from _ _ (le-ltb len (fewest_pairs f) (omega arith)) (le-ltb most_pairs len len_most)) in
      let e6 : ltb (length all) (size (head_in f all)) ≡ false = rw p (le-ltb _ _ long) in
      pass _ _ _ e5 (pass _ _ _ e6 (ap Ok head_all))

  sound_again : sound (head_of f m s d) all ≡ Ok tt
  unfolding len
  sound_again =
      pass _ _ _ (ap (unbalanced f) block_all ∙ whole_balanced) (ap (λ b. refuse b Mode) (le-ltb most_mode m z.mode_fits))

  head_again : read_head all ≡ Ok (head_of f m s d)
  unfolding read_head len
  head_again =
      let e3 : ltb (length all) 4 ≡ false = le-ltb _ _ (omega (arith, long)) in
      let n : first_pair all / 16384 ≡ form_number f = omega (arith, first, len_most, number_fits f) in
      let framing : framed all ≡ Ok (head_of f m s d) = pass _ _ _ e3 (go_on _ _ _ (ap flagged n ∙ number_flag f) framed_again) in
      go_on _ _ _ framing (go_on _ _ _ sound_again refl)

  encoded : Encoded f m s d rest
  unfolding all len
  encoded = record { head = head_again; field_again = field_all; rest_again = rest_all }

-- ---- what is read was written so
module _ (a b c e : ℕ) (t : List ℕ) (f : Form) (len : ℕ)
    (ok : Bytes (a ∷ b ∷ c ∷ e ∷ t))
    (first : pair a b ≡ form_number f * 16384 + len)
    (least : fewest_pairs f ≤ len) (most : len ≤ most_pairs) (long : 2 * len ≤ 4 + length t)
    (sums : unbalanced f (take (2 * len) (a ∷ b ∷ c ∷ e ∷ t)) ≡ false) (mode_fits : c ≤ most_mode) where
  bs : List ℕ
  bs = a ∷ b ∷ c ∷ e ∷ t

  fb : ℕ
  fb = 2 * (len - checksum_pairs f) - 4

  k : ℕ
  k = 2 * checksum_pairs f

  tail : List ℕ
  tail = drop fb t

  field_long : length (take fb t) ≡ fb
  unfolding fb
  field_long = length-take-le fb t (omega arith)

  length_is : form_number f * 16384 + pairs_of f (length (take fb t)) ≡ pair a b
  unfolding fb
  length_is = omega (arith, field_long)

  front_is : front f c e (take fb t) ≡ a ∷ b ∷ c ∷ e ∷ take fb t
  front_is =
      let w = length_is in
      ap₂ (λ x y. x ∷ y ∷ c ∷ e ∷ take fb t) (omega (arith, w, ok.1.0)) (omega (arith, w, ok.1.0))

  parts : bs ≡ front f c e (take fb t) ++ tail
  unfolding bs tail
  parts = ap (λ u. a ∷ b ∷ c ∷ e ∷ u) (sym (take-append-drop fb t)) ∙ ap (λ u. u ++ drop fb t) (sym front_is)

  tail_long : k ≤ length tail
  unfolding k tail fb
  tail_long = rw (length-drop (2 * (len - checksum_pairs f) - 4) t) (omega arith)

  near : List ℕ
  near = front f c e (take fb t) ++ take k tail

  near_rest : bs ≡ near ++ drop k tail
  unfolding near
  near_rest =
      parts ∙ ap (λ u. front f c e (take fb t) ++ u) (sym (take-append-drop k tail))
      ∙ sym (append_assoc (front f c e (take fb t)) (take k tail) (drop k tail))

  sums_up : length (take k tail) ≡ k → length (front f c e (take fb t)) + length (take k tail) ≡ 2 * len
  unfolding k fb
  sums_up h = omega (arith, field_long)

  near_long : length near ≡ 2 * len
  unfolding near
  near_long = length-append (front f c e (take fb t)) (take k tail) ∙ sums_up (length-take-le k tail tail_long)

  near_is : take (2 * len) bs ≡ near
  near_is = ap (take (2 * len)) near_rest ∙ take_at near (drop k tail) (2 * len) near_long

  rest_is : drop (2 * len) bs ≡ drop k tail
  rest_is = ap (drop (2 * len)) near_rest ∙ drop_at near (drop k tail) (2 * len) near_long

  front_even : length (front f c e (take fb t)) % 2 ≡ 0
  unfolding fb
  front_even = omega (arith, field_long)

  tail_bytes : Bytes tail
  unfolding tail
  tail_bytes = All-drop Byte fb t ok.1.1.1.1

  tail_balanced : unbalanced f (front f c e (take fb t) ++ take k tail) ≡ false
  unfolding near bs
  tail_balanced = ap (unbalanced f) (sym near_is) ∙ sums

  tail_is : tail ≡ checksum f (front f c e (take fb t)) ++ drop k tail
  unfolding k tail
  tail_is = checksum_is f (front f c e (take fb t)) tail front_even tail_long tail_bytes tail_balanced

  decoded : Decoded (record { form = f; pairs = len; modes = record { mode = c; submode = e } }) (a ∷ b ∷ c ∷ e ∷ t)
  unfolding fb k bs block_bytes
  decoded = record {
    whole =
        parts
        ∙ ap (λ u. front f c e (take fb t) ++ u) (tail_is ∙ ap (λ u. checksum f (front f c e (take fb t)) ++ u) (sym rest_is))
        ∙ sym (append_assoc (front f c e (take fb t)) (checksum f (front f c e (take fb t))) (drop (2 * len) bs));
    sized = record { mode_fits = mode_fits; even = omega (arith, field_long); short = omega (arith, field_long) };
    lies = record { least = least; most = most; within = omega arith };
  }

-- what the checks of a head tell
record Checked (f : Form) (bs : List ℕ) (h : Head) : Type 0 where
  is : h ≡ head_in f bs
  least : fewest_pairs f ≤ first_pair bs % 16384
  most : first_pair bs % 16384 ≤ most_pairs
  within : 2 * (first_pair bs % 16384) ≤ length bs
  balances : unbalanced f (take (2 * (first_pair bs % 16384)) bs) ≡ false
  mode_fits : get_or bs 2 0 ≤ most_mode

checked : (f : Form) (bs : List ℕ) (h : Head) → (framed_in f bs >>= (λ h. sound h bs >>= (λ _. Ok h))) ≡ Ok h → Checked f bs h
checked f bs h e =
    record { is = grind arith; least = grind arith; most = grind arith; within = grind arith; balances = grind arith; mode_fits = grind arith }

read_back : (f : Form) (bs : List ℕ) (h : Head) → Bytes bs → 4 ≤ length bs → first_pair bs / 16384 ≡ form_number f → Checked f bs h → Decoded h bs
read_back f [] h ok l n k = absurd (omega arith)
read_back f (a ∷ []) h ok l n k = absurd (omega arith)
read_back f (a ∷ b ∷ []) h ok l n k = absurd (omega arith)
read_back f (a ∷ b ∷ c ∷ []) h ok l n k = absurd (omega arith)
read_back f (a ∷ b ∷ c ∷ e ∷ t) h ok l n k =
    let is = k.is in
    rw is (decoded a b c e t f (pair a b % 16384) ok (omega (arith, n)) k.least k.most (omega (arith, k.within)) k.balances k.mode_fits)

-- a head that is read passed its checks in the form of its flag
by_flag : (bs : List ℕ) (h : Head) (r : Result Form Malformed) → flagged (first_pair bs / 16384) ≡ r
    → (r >>= (λ f. framed_in f bs >>= (λ h. sound h bs >>= (λ _. Ok h)))) ≡ Ok h → (f : Form) × (flagged (first_pair bs / 16384) ≡ Ok f) × Checked f bs h
by_flag bs h (Ok f) n e = (f, n, checked f bs h e)
by_flag bs h (Err x) n e = absurd (let z : ◌≡◌ {A = ℕ} 0 1 = cc in omega arith)

read_long : (bs : List ℕ) (h : Head) → read_head bs ≡ Ok h → 4 ≤ length bs
unfolding read_head
read_long bs h e = grind arith

read_checked : (bs : List ℕ) (h : Head) → read_head bs ≡ Ok h → (f : Form) × (flagged (first_pair bs / 16384) ≡ Ok f) × Checked f bs h
unfolding read_head
read_checked bs h e = by_flag bs h _ refl (grind arith)

decodes : (bs : List ℕ) (h : Head) → Bytes bs → read_head bs ≡ Ok h → Decoded h bs
decodes bs h ok e = let k = read_checked bs h e in read_back k.0 bs h ok (read_long bs h e) (flag_number _ k.0 k.1) k.2

-- the first pair of a block tells how far it reaches
extent_long : (bs : List ℕ) → 4 ≤ length bs → extent bs ≡ 2 * (first_pair bs % 16384)
extent_long [] l = absurd (omega arith)
extent_long (a ∷ []) l = absurd (omega arith)
extent_long (a ∷ b ∷ bs) l = refl

pub extent_is : (bs : List ℕ) (h : Head) → read_head bs ≡ Ok h → extent bs ≡ size h
extent_is bs h e = extent_long bs (read_long bs h e) ∙ sym (ap size (read_checked bs h e).2.is)

-- a head that is read lies in front of the bytes
pub head_lies : (bs : List ℕ) (h : Head) → read_head bs ≡ Ok h → Framed h bs
head_lies bs h e =
    let k = read_checked bs h e in
    let is = k.2.is in
    rw is (record { least = k.2.least; most = k.2.most; within = k.2.within })

pub codec : Codec
codec = record { decodes = decodes; encodes = encoded }
