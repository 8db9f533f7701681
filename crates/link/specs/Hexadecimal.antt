-- Bytes as text: two hexadecimal digits each.
use Rattle.std.specs.Prelude.{◌≡◌, ℕ, ◌%◌, List, length, Ok, Err, Result}
use Rattle.std.specs.List.{AllPass}
use Rattle.std.specs.Global.{Vec}
use Rattle.hex.specs.declared.error.FromHexError.{FromHexError}
use Rattle.hex.specs.declared.error.FromHexError.TheVariants as hex
use Rattle.hex.specs.Hex.{is_hex_digit, decode_of}
use Rattle.link.specs.declared.hexadecimal.HexError.{HexError}
use Rattle.link.specs.declared.hexadecimal.HexError.TheVariants.{Refused, OutOfMemory}
use Rattle.link.specs.declared.refusal.Refusal.TheVariants.{Malformed}

-- an even number of digits, in upper or lower case
abbrev pub IsHexadecimal : List ℕ → Type 0
IsHexadecimal text = (length text % 2 ≡ 0) × AllPass is_hex_digit text

-- what reading gives, if memory suffices: the bytes of hexadecimal text, and else it is malformed
abbrev pub Gives : List ℕ → Result (Vec ℕ) HexError → Type 0
Gives text (Ok v) = IsHexadecimal text × (decode_of text ≡ Ok v.items)
Gives text (Err OutOfMemory) = Unit {0}
Gives text (Err (Refused r)) = (r ≡ Malformed) × (IsHexadecimal text → ⊥)

-- it gives these bytes, if memory suffices
abbrev pub GivesBytes : List ℕ → Result (Vec ℕ) HexError → Type 0
GivesBytes bytes (Ok v) = v.items ≡ bytes
GivesBytes bytes (Err OutOfMemory) = Unit {0}
GivesBytes bytes (Err (Refused r)) = ⊥

-- why text is not read, by what the kit's decoder says
abbrev pub error_of : FromHexError → HexError
error_of hex.OutOfMemory = OutOfMemory
error_of hex.OddLength = Refused Malformed
error_of hex.InvalidStringLength = Refused Malformed
error_of (hex.InvalidHexCharacter c i) = Refused Malformed
