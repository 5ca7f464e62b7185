use Rattle.std.proofs.Common.{◌≡◌, ℕ, ◌+◌, ◌-◌, ◌/◌, ◌%◌, List, [], ◌∷◌, ◌++◌, length, take, ap, ◌∙◌, arith}
use borrow.Rule.Slice.PartMut.{put_mid}
use Rattle.std.proofs.lemmas.List.{append-nil, drop_all, drop-drop}
use Rattle.wire.specs.Pairs.{pair_bytes, pair_sum}
use Rattle.records.proofs.writing.put_checksum.Goals as goal

-- a write up to the end
last-two : (xs ys : List ℕ) (a : ℕ) → put_mid a (length xs - a) xs ys ≡ take a xs ++ ys
last-two xs ys a =
    ap (λ u. take a xs ++ (ys ++ u)) (drop-drop (length xs - a) a xs ∙ drop_all (a + (length xs - a)) xs (omega arith)) ∙ ap (λ u. take a xs ++ u) (append-nil ys)

two_bytes : (s t : ℕ) → s ≡ t → (((0 + (65536 - s)) % 65536) / 256 % 256) ∷ (((0 + (65536 - s)) % 65536) % 256) ∷ [] ≡ pair_bytes ((65536 - t) % 65536)
two_bytes s t e =
    let high : ((0 + (65536 - s)) % 65536) / 256 % 256 ≡ ((65536 - t) % 65536) / 256 = omega arith in
    let low : ((0 + (65536 - s)) % 65536) % 256 ≡ ((65536 - t) % 65536) % 256 = omega arith in
    cc

pub returns : goal.returns
returns c =
    let place = c.args.place.now in
    let end = length place - 2 in
    let all : end - 0 ≡ end = omega arith in
    last-two place c.copy_from_slice.new.self end
    ∙ ap (λ u. take end place ++ u) (c.copy_from_slice.ensures.after ∙ c.to_be_bytes-checksum.ensures ∙ two_bytes c.sum_pairs-sum.result (pair_sum (take end place)) (c.sum_pairs-sum.ensures ∙ ap (λ n. pair_sum (take n place)) all))
