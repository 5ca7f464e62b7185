-- Why a line's hex digits cannot be read.
use Rattle.hex.specs.declared.error.FromHexError.{FromHexError}
use Rattle.hex.specs.declared.error.FromHexError.TheVariants.{InvalidHexCharacter, InvalidStringLength, OddLength, OutOfMemory}
use Rattle.commands.specs.declared.faults.ScriptFault.{ScriptFault}
use Rattle.commands.specs.declared.faults.ScriptFault.TheVariants.{Unreadable, NoMemory}

abbrev pub hex_fault : FromHexError → ScriptFault
hex_fault OutOfMemory = NoMemory
hex_fault OddLength = Unreadable
hex_fault InvalidStringLength = Unreadable
hex_fault (InvalidHexCharacter c index) = Unreadable
