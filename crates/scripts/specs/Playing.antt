-- What a player answers, and what it then has: the bytes of its memory, and the product once there is one.
use Rattle.std.specs.Prelude.{ℕ, min, List, length, take, replicate, Some, None, Ok, Err, vec_items, Option, Result}
use Rattle.memory.specs.Laid.{laid}
use Rattle.four_kinds.specs.FourKinds.{four_kinds}
use Rattle.products.specs.Products.{Product}
use Rattle.replay.specs.declared.beginning.Beginning.{Beginning}
use Rattle.replay.specs.declared.beginning.Beginning.TheVariants.{Start as Starting, Receive as Receiving}
use Rattle.replay.specs.declared.beginning.NotBegun.{NotBegun}
use Rattle.replay.specs.declared.beginning.NotBegun.TheVariants.{Start as NoStart, Receipt as NoReceipt}
use Rattle.replay.specs.declared.steps.State.{State}
use Rattle.replay.specs.declared.steps.Step.{Step as Call}
use Rattle.replay.specs.declared.steps.Told.TheVariants.{Made, Refused, NotAllowed}
use Rattle.replay.specs.Beginnings.{begun, memory_begun}
use Rattle.replay.specs.States.{product_in}
use Rattle.replay.specs.Steps.{Scene, played}
use Rattle.scripts.specs.declared.answers.Answer.{Answer}
use Rattle.scripts.specs.declared.answers.Answer.TheVariants.{Sized, Told, NotReceived}
use Rattle.commands.specs.declared.command.Command.{Command}
use Rattle.commands.specs.declared.command.Command.TheVariants.{Memory, Start, Receive, Step}

pub record Turn : Type 0 where
  pub answer : Answer
  pub memory : List ℕ
  pub product : Option Product

abbrev pub turn : Answer → List ℕ → Option Product → Turn
turn a mem p = record { answer = a; memory = mem; product = p }

-- the product of either type
abbrev pub of_stages : Option State → Option Product
of_stages None = None
of_stages (Some s) = Some (product_in s)

abbrev pub not_allowed : List ℕ → Option Product → Turn
not_allowed mem p = turn (Told NotAllowed) mem p

-- a step's outcome as a turn
abbrev pub turned : Scene → Turn
turned x = turn (Told x.told) x.memory (Some x.product)

-- a call is put to a product that there is; a script has no sink, and so no room for pairs
abbrev pub called : List ℕ → Option Product → Call → Turn
called mem None c = not_allowed mem None
called mem (Some p) c = turned (played four_kinds 0 p mem c)

-- why no product came about, as an answer
abbrev pub unbegun : NotBegun → Answer
unbegun (NoStart e) = Told (Refused e)
unbegun (NoReceipt e) = NotReceived e

abbrev pub begun_turn : Result State NotBegun → List ℕ → Turn
begun_turn (Ok s) mem = turn (Told (Made (product_in s).bytes (product_in s).blocks)) mem (Some (product_in s))
begun_turn (Err e) mem = turn (unbegun e) mem None

-- a product is started or received only where there is none
abbrev pub begun_by : List ℕ → Option Product → Beginning → Turn
begun_by mem None b = begun_turn (begun four_kinds mem b) (memory_begun four_kinds mem b)
begun_by mem (Some p) b = not_allowed mem (Some p)

-- bytes at the front of a memory, as many as fit
abbrev pub laid_by : List ℕ → List ℕ → List ℕ
laid_by bs mem = laid mem 0 (take (min (length bs) (length mem)) bs)

abbrev pub received_by : List ℕ → Option Product → List ℕ → Turn
received_by mem None bs = begun_by (laid_by bs mem) None (Receiving (length bs))
received_by mem (Some p) bs = not_allowed mem (Some p)

-- the turn of a command; the size of the memory stays
abbrev pub turn_by : List ℕ → Option Product → Command → Turn
turn_by mem p (Memory n) = not_allowed mem p
turn_by mem p (Start o) = begun_by mem p (Starting o)
turn_by mem p (Receive bs) = received_by mem p (vec_items bs)
turn_by mem p (Step c) = called mem p c

-- the size of a memory is chosen before there is a product; the memory is then zeros
abbrev pub sized_by : List ℕ → Option Product → ℕ → Turn
sized_by mem None n = turn (Sized n) (replicate n 0) None
sized_by mem (Some p) n = not_allowed mem (Some p)

abbrev pub answer_by : List ℕ → Option Product → Command → Turn
answer_by mem p (Memory n) = sized_by mem p n
answer_by mem p (Start o) = turn_by mem p (Start o)
answer_by mem p (Receive bs) = turn_by mem p (Receive bs)
answer_by mem p (Step c) = turn_by mem p (Step c)
