-- User names in plain bytes, and as messages spell them (RFC 5802, sections 5.1 and 7).
use Rattle.std.specs.Prelude.{ℕ, ◌≡◌, ◌≤◌, ◌==◌, Bool, true, false, not, ◌&&◌, ◌||◌, if◌then◌else◌, IsTrue, List, [], ◌∷◌, length, flat_map, codes}
use Rattle.std.specs.Str.{byte}
use Rattle.scram_text.specs.Class.{Lacks}

-- no byte is a comma
abbrev pub LacksComma : List ℕ → Type 0
LacksComma bytes = Lacks (byte ",") bytes

-- the text begins with "2C" or "3D", which may follow `=` in a saslname
abbrev pub begins_with_escape : List ℕ → Bool
begins_with_escape [] = false
begins_with_escape (a ∷ []) = false
begins_with_escape (a ∷ b ∷ rest) = (a == byte "2") && (b == byte "C") || (a == byte "3") && (b == byte "D")

-- each `=` begins "=2C" or "=3D"
abbrev pub is_escaped : List ℕ → Bool
is_escaped [] = true
is_escaped (c ∷ rest) = (not (c == byte "=") || begins_with_escape rest) && is_escaped rest

-- saslname = 1*(value-safe-char / "=2C" / "=3D"), as "a=2Cb". That the characters are UTF-8 without NUL is asked of the whole text
-- (IsUtf8Text).
pub record IsSaslName (spelled : List ℕ) : Type 0 where
  pub at_least : 1 ≤ length spelled
  pub no_comma : LacksComma spelled
  pub escaped : IsTrue (is_escaped spelled)

-- a comma is spelled "=2C", an equals sign "=3D", and each other byte as itself
abbrev pub byte_spelling : ℕ → List ℕ
byte_spelling c = if c == byte "," then codes "=2C" else (if c == byte "=" then codes "=3D" else c ∷ [])

-- the spelling of a name: that of each byte in turn, so that "a,b=c" is "a=2Cb=3Dc"
abbrev pub name_spelling : List ℕ → List ℕ
name_spelling name = flat_map byte_spelling name

-- the saslname spells this name
abbrev pub SpellsName : (name spelled : List ℕ) → Type 0
SpellsName name spelled = spelled ≡ name_spelling name
