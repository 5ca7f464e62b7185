-- Steps, one after the other, and the life that they are.
use Rattle.std.specs.Prelude.{◌≡◌, ℕ, ◌-◌, List, [], ◌∷◌, ◌++◌, length, take, drop, Ok, Err, Result}
use Rattle.books.specs.Books.{Meaning}
use Rattle.products.specs.Products.{Product, as_open, as_closed}
use Rattle.judging.specs.declared.places.Phase.{Phase}
use Rattle.judging.specs.declared.places.Phase.TheVariants.{Opened, Shut}
use Rattle.sinks.specs.Sinks.{Took}
use Rattle.lives.specs.Lives.{World, Life}
use Rattle.lives.specs.Law.{OneLife}
use Rattle.replay.specs.declared.beginning.Beginning.{Beginning}
use Rattle.replay.specs.declared.beginning.NotBegun.{NotBegun}
use Rattle.replay.specs.declared.steps.State.{State}
use Rattle.replay.specs.declared.steps.State.TheVariants.{Opened as OpenState, Shut as ShutState}
use Rattle.replay.specs.declared.steps.Step.{Step}
use Rattle.replay.specs.declared.steps.Told.{Told}
use Rattle.replay.specs.Beginnings.{begun, memory_begun}
use Rattle.replay.specs.States.{product_in}
use Rattle.replay.specs.Steps.{Outcome, Scene, played}

-- the outcome of steps: what each was told, and all pairs that they put
abbrev pub Run : Type 0
Run = Outcome (List Told)

abbrev pub followed_by : Scene → Run → Run
followed_by x y = record { told = x.told ∷ y.told; product = y.product; memory = y.memory; put = x.put ++ y.put }

-- steps on a product and its memory, with a sink that has so much room
unfoldable pub run : Meaning → ℕ → Product → List ℕ → List Step → Run
run M room p mem [] = record { told = []; product = p; memory = mem; put = [] }
run M room p mem (s ∷ steps) =
    followed_by (played M room p mem s)
    (run M (room - length (played M room p mem s).put) (played M room p mem s).product (played M room p mem s).memory steps)

-- as many of the steps as there are places to tell what came of them
abbrev pub run_told : Meaning → ℕ → Product → List ℕ → List Step → List Told → Run
run_told M room p mem steps places = run M room p mem (take (length places) steps)

-- those places after it
abbrev pub places_after : Run → List Told → List Told
places_after x places = x.told ++ drop (length x.told) places

-- a life from its beginning, or why there is none
abbrev pub run_from : Meaning → ℕ → List ℕ → List Step → List Told → Result State NotBegun → Result Run NotBegun
run_from M room mem steps places (Ok state) = Ok (run_told M room (product_in state) mem steps places)
run_from M room mem steps places (Err e) = Err e

abbrev pub replayed : Meaning → ℕ → List ℕ → Beginning → List Step → List Told → Result Run NotBegun
replayed M room mem b steps places = run_from M room (memory_begun M mem b) steps places (begun M mem b)

-- the product that it ends in
abbrev pub in_phase : Phase → Product → State
in_phase Opened p = OpenState (as_open p)
in_phase Shut p = ShutState (as_closed p)

abbrev pub ends_in : Result Run NotBegun → Result State NotBegun
ends_in (Ok x) = Ok (in_phase x.product.phase x.product)
ends_in (Err e) = Err e

-- what a life that began makes of something, which without a life stays as it was
abbrev pub after_run : {A : Type 0} → (Run → A → A) → Result Run NotBegun → A → A
after_run f (Ok x) before = f x before
after_run f (Err e) before = before

-- the memory and the places for what was told, after it
abbrev pub ends_with : Result Run NotBegun → List ℕ → List ℕ
ends_with = after_run (λ x _. x.memory)

abbrev pub tells : Result Run NotBegun → List Told → List Told
tells = after_run places_after

-- the sink after it: it took all that the steps put, or is as it was
abbrev pub Sank : {S : Type 0} → (S → List ℕ) → (S → ℕ) → (S → List ℕ → S → Type 0) → Result Run NotBegun → S → S → Type 0
Sank taken room wrote (Ok x) s t = Took taken room wrote s x.put t
Sank taken room wrote (Err e) s t = t ≡ s

-- there is a life that began at the sink s and has come to this product, memory and sink; and the law of one writing holds of it
pub record Lived {S : Type 0} (taken : S → List ℕ) (room : S → ℕ) (M : Meaning) (s : S) (p : Product) (mem : List ℕ) (t : S) : Type 0 where
  pub world : World S
  pub life : Life taken room M s world
  pub product_is : world.product ≡ p
  pub memory_is : world.memory ≡ mem
  pub sink_is : world.sink ≡ t
  pub law : OneLife taken M s world
