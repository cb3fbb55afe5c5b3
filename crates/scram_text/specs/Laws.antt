-- The laws of the grammar: base64 has its usual form, parts are UTF-8, a text is a message in at most one way, and it is decidable
-- whether it is one.
use Rattle.std.specs.Prelude.{ℕ, ◌≡◌, ◌≤◌, ◌⊎◌, List, length}
use Rattle.std.specs.List.{AllByRecursion}
use Rattle.std.specs.Str.{IsUtf8}
use Rattle.std.specs.declared.result.Result.TheVariants.{Ok}
use Rattle.base64.specs.GeneralPurpose.{IsBytes}
use Rattle.scram_text.specs.Limits.{max_channel_len}
use Rattle.scram_text.specs.Class.{IsPlainName}
use Rattle.scram_text.specs.Name.{LacksComma, SpellsName}
use Rattle.scram_text.specs.Base64Field.{base64, base64_len, base64_decoded}
use Rattle.scram_text.specs.Parts.{parts}
use Rattle.scram_text.specs.Messages.{ClientFirstParts, IsClientFirst, ServerFirstParts, IsServerFirst, ClientFinalParts, IsClientFinal}
use Rattle.scram_text.specs.Messages.{ServerFinalParts, IsServerFinal}

-- the base64 of these bytes decodes to them, has no comma, and has four characters for each three bytes or part of three
pub record IsUsualBase64 (bytes : List ℕ) : Type 0 where
  pub decoded : base64_decoded (base64 bytes) ≡ Ok bytes
  pub no_comma : LacksComma (base64 bytes)
  pub len : length (base64 bytes) ≡ base64_len (length bytes)

-- base64 has its usual form, for 1 to 1536 bytes
abbrev pub HasUsualBase64 : Type 0
HasUsualBase64 = (bytes : List ℕ) → IsBytes bytes → 1 ≤ length bytes → length bytes ≤ max_channel_len → IsUsualBase64 bytes

-- the parts of a UTF-8 text are UTF-8
abbrev pub PartsAreUtf8 : Type 0
PartsAreUtf8 = (text : List ℕ) → IsUtf8 text → AllByRecursion IsUtf8 (parts text)

-- a saslname spells at most one name
abbrev pub SpellsOneName : Type 0
SpellsOneName = (one other spelled : List ℕ) → SpellsName one spelled → SpellsName other spelled → one ≡ other

-- it is decidable whether a text spells a plain name
abbrev pub NameIsDecided : Type 0
NameIsDecided = (spelled : List ℕ) → ((name : List ℕ) × IsPlainName name × SpellsName name spelled)
    ⊎ ((name : List ℕ) → IsPlainName name → SpellsName name spelled → ⊥)

-- a text is a client-first message in at most one way
abbrev pub HasOneClientFirst : Type 0
HasOneClientFirst = (text : List ℕ) (p q : ClientFirstParts) → IsClientFirst text p → IsClientFirst text q → p ≡ q

-- it is decidable whether a text is a client-first message
abbrev pub ClientFirstIsDecided : Type 0
ClientFirstIsDecided = (text : List ℕ) → ((p : ClientFirstParts) × IsClientFirst text p)
    ⊎ ((p : ClientFirstParts) → IsClientFirst text p → ⊥)

-- a text is a server-first message in at most one way
abbrev pub HasOneServerFirst : Type 0
HasOneServerFirst = (text : List ℕ) (p q : ServerFirstParts) → IsServerFirst text p → IsServerFirst text q → p ≡ q

-- it is decidable whether a text is a server-first message
abbrev pub ServerFirstIsDecided : Type 0
ServerFirstIsDecided = (text : List ℕ) → ((p : ServerFirstParts) × IsServerFirst text p)
    ⊎ ((p : ServerFirstParts) → IsServerFirst text p → ⊥)

-- a text is a client-final message in at most one way
abbrev pub HasOneClientFinal : Type 0
HasOneClientFinal = (text : List ℕ) (p q : ClientFinalParts) → IsClientFinal text p → IsClientFinal text q → p ≡ q

-- it is decidable whether a text is a client-final message
abbrev pub ClientFinalIsDecided : Type 0
ClientFinalIsDecided = (text : List ℕ) → ((p : ClientFinalParts) × IsClientFinal text p)
    ⊎ ((p : ClientFinalParts) → IsClientFinal text p → ⊥)

-- a text is a server-final message in at most one way
abbrev pub HasOneServerFinal : Type 0
HasOneServerFinal = (text : List ℕ) (p q : ServerFinalParts) → IsServerFinal text p → IsServerFinal text q → p ≡ q

-- it is decidable whether a text is a server-final message
abbrev pub ServerFinalIsDecided : Type 0
ServerFinalIsDecided = (text : List ℕ) → ((p : ServerFinalParts) × IsServerFinal text p)
    ⊎ ((p : ServerFinalParts) → IsServerFinal text p → ⊥)
