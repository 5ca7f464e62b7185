-- A life that was worked by hand: a start, an addition that is turned down, an addition, a closing, a sending, a reopening and
-- a withdrawal, under plain words.
use Rattle.std.specs.Prelude.{ℕ, List, [], ◌∷◌, ◌++◌, replicate, pos}
use Rattle.std.specs.List.{flat_map}
use Rattle.wire.specs.declared.forms.Form.TheVariants.{Checksummed, LengthOnly}
use Rattle.wire.specs.Pairs.{pair_bytes}
use Rattle.books.specs.Words.{plain}
use Rattle.judging.specs.declared.places.Phase.TheVariants.{Opened}
use Rattle.records.specs.Records.{Record, says}
use Rattle.lives.specs.Lives.{World, Life}

-- a sink that is only a list of pairs and a number
pub record Tray : Type 0 where
  pub taken : List ℕ
  pub room : ℕ

abbrev pub bytes_of : List ℕ → List ℕ
bytes_of ps = flat_map pair_bytes ps

-- the identification, the word that was added, and the end
abbrev pub first_block : List ℕ
first_block = 0x0005 ∷ 0x0101 ∷ 0x0056 ∷ 0x0036 ∷ 0xFE6E ∷ []

abbrev pub word_block : List ℕ
word_block = 0x4003 ∷ 0x0209 ∷ 0x0201 ∷ []

abbrev pub end_block : List ℕ
end_block = 0x0003 ∷ 0x0102 ∷ 0xFEFB ∷ []

abbrev pub identification : Record
identification = says Checksummed 1 1 (pos 86 ∷ pos 54 ∷ [])

abbrev pub word : Record
word = says LengthOnly 2 9 (pos 513 ∷ [])

abbrev pub sent_pairs : List ℕ
sent_pairs = first_block ++ (word_block ++ end_block)

abbrev pub tray_before : Tray
tray_before = record { taken = 7 ∷ []; room = 100 }

-- in a memory of 40 bytes, which were all 7
abbrev pub world_after : World Tray
world_after = record {
  product = record { phase = Opened; bytes = 10; blocks = 1; close = Checksummed };
  memory = bytes_of first_block ++ (replicate 12 0 ++ replicate 18 7);
  sink = record { taken = 7 ∷ sent_pairs; room = 89 };
  left = identification ∷ [];
  close = Checksummed;
  sent = record { stood = bytes_of sent_pairs; left = identification ∷ (word ∷ []); close = Checksummed; told = 11 } ∷ [];
}

abbrev pub WorkedLife : Type 0
WorkedLife = Life {S = Tray} (λ s. s.taken) (λ s. s.room) plain tray_before world_after
