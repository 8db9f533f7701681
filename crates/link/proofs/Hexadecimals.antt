-- What the kit's decoder answers is what reading gives.
use Rattle.std.proofs.Common.{◌≡◌, ℕ, List, Ok, Err, Result, refl, sym, ap, ◌∙◌, inl, inr, ◌⊎◌}
use Rattle.std.specs.Global.{Vec}
use Rattle.hex.specs.declared.error.FromHexError.{FromHexError}
use Rattle.hex.specs.declared.error.FromHexError.TheVariants.{OutOfMemory, OddLength, InvalidStringLength, InvalidHexCharacter}
use Rattle.hex.specs.Hex.{IsBytes, decode_of, encode_lower, encode_upper}
use Rattle.hex.proofs.HexLemmas.{decode_of-encode_lower, decode_of-encode_upper, decode_of-ok, decode_of-digits}
use Rattle.link.specs.declared.hexadecimal.HexError.{HexError}
use Rattle.link.specs.declared.hexadecimal.HexError.TheVariants.{Refused, OutOfMemory as NoMemory}
use Rattle.link.specs.Hexadecimal.{IsHexadecimal, Gives, GivesBytes, error_of}

-- what is decoded is hexadecimal
pub decoded_is_hexadecimal : (text bytes : List ℕ) → decode_of text ≡ Ok bytes → IsHexadecimal text
decoded_is_hexadecimal text bytes h = let d = decode_of-ok text bytes h in (d.0, d.1)

-- and what is not decoded is not
pub undecoded_is_not : (text : List ℕ) (e : FromHexError) → decode_of text ≡ Err e → IsHexadecimal text → ⊥
undecoded_is_not text e h is = let d = decode_of-digits text is.0 is.1 in absurd (cc (sym h ∙ d.1))

-- an error but for memory
refused : (text : List ℕ) (e : FromHexError) → (e ≡ OutOfMemory → ⊥) → (e ≡ OutOfMemory) ⊎ (decode_of text ≡ Err e) → IsHexadecimal text → ⊥
refused text e other (inl m) is = other m
refused text e other (inr u) is = undecoded_is_not text e u is

pub error_gives : (text : List ℕ) (e : FromHexError) → (e ≡ OutOfMemory) ⊎ (decode_of text ≡ Err e) → Gives text (Err (error_of e))
error_gives text OutOfMemory h = tt
error_gives text OddLength h = (refl, refused text OddLength (λ e. absurd cc) h)
error_gives text InvalidStringLength h = (refl, refused text InvalidStringLength (λ e. absurd cc) h)
error_gives text (InvalidHexCharacter c i) h = (refl, refused text (InvalidHexCharacter c i) (λ e. absurd cc) h)

-- what spells some bytes gives these
pub spelled_gives : (text bytes : List ℕ) (r : Result (Vec ℕ) HexError) → decode_of text ≡ Ok bytes → Gives text r → GivesBytes bytes r
spelled_gives text bytes (Ok v) h g = cc (sym g.1 ∙ h)
spelled_gives text bytes (Err NoMemory) h g = tt
spelled_gives text bytes (Err (Refused x)) h g = g.1 (decoded_is_hexadecimal text bytes h)

pub lower_gives : (text bytes : List ℕ) (r : Result (Vec ℕ) HexError) → Gives text r → IsBytes bytes → text ≡ encode_lower bytes → GivesBytes bytes r
lower_gives text bytes r g is e = spelled_gives text bytes r (ap decode_of e ∙ decode_of-encode_lower bytes is) g

pub upper_gives : (text bytes : List ℕ) (r : Result (Vec ℕ) HexError) → Gives text r → IsBytes bytes → text ≡ encode_upper bytes → GivesBytes bytes r
upper_gives text bytes r g is e = spelled_gives text bytes r (ap decode_of e ∙ decode_of-encode_upper bytes is) g
