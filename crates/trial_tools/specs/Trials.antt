-- What a writing answers and leaves, and words that stand for repetitions.
use Prim.{Unit}
use denote.Ref.{MutBor}
use Rattle.std.specs.Fn.{Shared}
use Rattle.std.specs.Prelude.{◌≡◌, ◌==◌, ℕ, Bool, ◌<◌, ◌+◌, ◌++◌, List, length, Ok}
use Rattle.std.specs.List.{repeat, position_or_len, before_first, after_first}
use Rattle.std.specs.Str.Parse.{digits_value, without_leading_plus}
use Rattle.hex.specs.Hex.{decode_of}

-- a byte is `*`
abbrev pub is_star : ℕ → Bool
is_star b = b == 42

-- a word is `N*PART`, or a part that stands there once
abbrev pub Repeats : List ℕ → ℕ → List ℕ → Type 0
Repeats word n part =
    (position_or_len is_star word ≡ length word → (n ≡ 1) × (part ≡ word))
    × (position_or_len is_star word < length word → (n ≡ digits_value 10 (without_leading_plus (before_first is_star word))) × (part ≡ after_first is_star word))

-- the bytes after are those before, and behind them those of the word's hex digits, as often as it says
abbrev pub Appends : List ℕ → List ℕ → List ℕ → Type 0
Appends word before after = (n : ℕ) × (digits : List ℕ) × (piece : List ℕ)
    × Repeats word n digits × (decode_of digits ≡ Ok piece) × (after ≡ before ++ repeat n piece)

-- a writing gives r and leaves the text in a memory just as long, and gives s and leaves a memory one byte shorter as it was
abbrev pub WritingJustFits : {F R : Type 0} → (F → List ℕ → R → List ℕ → Type 0) → F → List ℕ → R → R → Type 0
WritingJustFits gives f text r s = ((long : List ℕ) × (length long ≡ length text) × gives f long r text)
    × ((short : List ℕ) × (length short + 1 ≡ length text) × gives f short s short)

-- a call at a `&mut` to x may give r, and leave x' there
abbrev pub Gives : {F T R : Type 0} → Shared F (MutBor T × Unit {0}) (R × (MutBor T × Unit {0})) → F → T → R → T → Type 0
Gives {F} {T} g f x r x' = (shown : MutBor T) × (left : MutBor T) × (shown.now ≡ x) × g.post f (shown, tt) (r, (left, tt)) × (left.now ≡ x')

-- `WritingJustFits` of a closure: by what it may give at a `&mut`
abbrev pub JustFits : {F R : Type 0} → Shared F (MutBor (List ℕ) × Unit {0}) (R × (MutBor (List ℕ) × Unit {0})) → F → List ℕ → R → R → Type 0
JustFits g = WritingJustFits (Gives g)
