-- Going through checks that may refuse, forwards and backwards.
use Rattle.std.proofs.Common.{◌≡◌, ℕ, Bool, true, false, Ok, Err, Result, sym, refl, ap, ◌∙◌, arith}
use Rattle.std.specs.Prelude.{MatchResult, IsErrAnd}
use Rattle.wire.specs.Steps.{◌>>=◌, refuse, blame}

pub pass : {B E : Type 0} (b : Bool) (e : E) (k : Unit {0} → Result B E) {x : Result B E} → b ≡ false → k tt ≡ x → (refuse b e >>= k) ≡ x
pass b e k h t = rw h t

pub go_on : {A B E : Type 0} (m : Result A E) (a : A) (k : A → Result B E) {x : Result B E} → m ≡ Ok a → k a ≡ x → (m >>= k) ≡ x
go_on m a k h t = rw h t

pub passed : {B E : Type 0} (b : Bool) (e : E) (k : Unit {0} → Result B E) {x : B} → (refuse b e >>= k) ≡ Ok x → (b ≡ false) × (k tt ≡ Ok x)
passed true e k h = absurd (let z : ◌≡◌ {A = ℕ} 0 1 = cc in omega arith)
passed false e k h = (refl, h)

pub allowed : {E : Type 0} (b : Bool) (e : E) {u : Unit {0}} → refuse b e ≡ Ok u → b ≡ false
allowed true e h = absurd (let z : ◌≡◌ {A = ℕ} 0 1 = cc in omega arith)
allowed false e h = refl

pub turned_down : {E : Type 0} (b : Bool) (e : E) {f : E} → refuse b e ≡ Err f → (b ≡ true) × (f ≡ e)
turned_down true e h = (refl, cc)
turned_down false e h = absurd (let z : ◌≡◌ {A = ℕ} 0 1 = cc in omega arith)

pub went_on : {A B E : Type 0} (m : Result A E) (k : A → Result B E) {x : B} → (m >>= k) ≡ Ok x → (a : A) × (m ≡ Ok a) × (k a ≡ Ok x)
went_on (Ok a) k h = (a, refl, h)
went_on (Err e) k h = absurd (let z : ◌≡◌ {A = ℕ} 0 1 = cc in omega arith)

pub blameless : {A E F : Type 0} (f : E → F) (m : Result A E) {x : A} → blame f m ≡ Ok x → m ≡ Ok x
blameless f (Ok a) h = cc
blameless f (Err e) h = absurd (let z : ◌≡◌ {A = ℕ} 0 1 = cc in omega arith)

pub not_blamed : {A E F : Type 0} (f : E → F) (m : Result A E) {x : A} → m ≡ Ok x → blame f m ≡ Ok x
not_blamed f m h = rw h refl

pub same_ok : {A E : Type 0} {a b : A} → ◌≡◌ {A = Result A E} (Ok a) (Ok b) → a ≡ b
same_ok h = cc

pub from_there : {A B E : Type 0} (m : Result A E) (a : A) (k : A → Result B E) {y : Result B E} → m ≡ Ok a → (m >>= k) ≡ y → k a ≡ y
from_there m a k e h = sym (go_on m a k e refl) ∙ h

-- a result whose error a closure has told in other words
pub blamed : {A E F : Type 0} (f : E → F) (P : E → F → Type 0) (r : Result A E) (q : Result A F) → MatchResult r (λ x. q ≡ Ok x) (λ e. IsErrAnd q (P e))
    → ((e : E) (x : F) → P e x → x ≡ f e) → q ≡ blame f r
blamed f P (Ok x) q h post = h
blamed f P (Err e) (Ok x) h post = absurd h
blamed f P (Err e) (Err y) h post = ap Err (post e y h)

pub blamed_alike : {A E F : Type 0} (f : E → F) (P : A → Type 0) (Q : Type 0) (r : Result A E) (q : Result A F) → q ≡ blame f r → MatchResult r P (λ _. Q) → MatchResult q P (λ _. Q)
blamed_alike f P Q (Ok x) q e h = rw e h
blamed_alike f P Q (Err d) q e h = rw e h
