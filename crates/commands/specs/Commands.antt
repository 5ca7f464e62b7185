-- Commands, and the words that their lines begin with.
use Rattle.std.specs.Prelude.{◌≡◌, ℕ, ◌≤◌, List, take, codes}
use Prim.{Unit}
use Rattle.commands.specs.declared.command.Command.{Command}
use Rattle.commands.specs.declared.command.Command.TheVariants.{Memory, Start, Receive, Step}
use Rattle.replay.specs.declared.steps.Step.{Step as Call}
use Rattle.replay.specs.declared.steps.Step.TheVariants.{Add, Replace, Withdraw, Close, Reopen, Send}

-- the calls that a script can make: it sends nothing
abbrev pub InScript : Call → Type 0
InScript (Add e) = Unit {0}
InScript (Replace k e) = Unit {0}
InScript (Withdraw k) = Unit {0}
InScript Close = Unit {0}
InScript Reopen = Unit {0}
InScript Send = ⊥

-- no command asks for more memory than a script may have
abbrev pub InBounds : Command → Type 0
InBounds (Memory n) = n ≤ 1048576
InBounds (Start o) = Unit {0}
InBounds (Receive bs) = Unit {0}
InBounds (Step s) = InScript s

-- the word that a command's line begins with
abbrev pub step_word : Call → List ℕ
step_word (Add e) = codes "add"
step_word (Replace k e) = codes "replace"
step_word (Withdraw k) = codes "withdraw"
step_word Close = codes "close"
step_word Reopen = codes "reopen"
step_word Send = codes "send"

abbrev pub word_of : Command → List ℕ
word_of (Memory n) = codes "memory"
word_of (Start o) = codes "start"
word_of (Receive bs) = codes "receive"
word_of (Step s) = step_word s

-- a text begins with a word
abbrev pub Begins : List ℕ → List ℕ → Type 0
Begins word text = (n : ℕ) × (word ≡ take n text)
