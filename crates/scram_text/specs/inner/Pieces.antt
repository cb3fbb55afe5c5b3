-- What the readers cut a message into before they read its parts.
use Rattle.std.specs.Prelude.{◌≡◌, ◌≤◌, ◌+◌, [], ◌∷◌, ◌++◌, List, ℕ, length, replicate, IfSome, is_some, Bool, false, ◌&&◌, ◌==◌}
use Rattle.std.specs.Str.{byte}
use Rattle.std.specs.Option.{option_copied}
use Rattle.std.specs.declared.option.Option.{Option}
use Rattle.scram_text.specs.Class.{IsUtf8Text, IsNonce, is_letter}
use Rattle.scram_text.specs.Name.{IsSaslName}
use Rattle.scram_text.specs.Messages.{ClientFirstParts, bare_parts, client_first_mandatory}
use Rattle.scram_text.specs.Limits.{max_message_len, max_nonce_part_len}
use Rattle.scram_text.specs.Parts.{parts, parts_of_some, mext_parts, joined, IsValue, is_named, AreExtensions}
use Rattle.scram_text.specs.Faults.{IsFirstMisfit, places, first_of, places_with_mext}
use Rattle.scram_text.specs.declared.client_final.Pieces.{Pieces}
use Rattle.scram_text.specs.declared.server_first.Pieces.{Pieces as ServerPieces}
use Rattle.scram_text.specs.declared.client_first.Pieces.{Pieces as FirstPieces}
use Rattle.scram_text.specs.declared.client_first.BarePieces.{BarePieces}
use Rattle.scram_text.specs.declared.client_first.Bare.{Bare}
use Rattle.scram_text.specs.declared.fault.TextFault.{TextFault}
use Rattle.scram_text.specs.declared.fault.TextWhy.{TextWhy}
use Rattle.scram_text.specs.declared.fault.TextWhy.TheVariants.{Name, Nonce, Extension}

-- the most parts of a message: one more than it can have commas
abbrev pub most_parts : ℕ
most_parts = max_message_len + 1

-- the fault is that of the first part that is not an extension, if all of them must be extensions, with parts counted from k
abbrev pub IsExtensionMisfit : ℕ → List (List ℕ) → TextFault → Type 0
IsExtensionMisfit k pieces f =
    (most : ℕ) → IsFirstMisfit most (replicate (length pieces) Extension) k pieces f

-- the part is a letter, `=`, and one byte or more
abbrev pub is_attribute : List ℕ → Bool
is_attribute [] = false
is_attribute (a ∷ []) = false
is_attribute (a ∷ b ∷ []) = false
is_attribute (a ∷ b ∷ c ∷ value) = is_letter a && (b == byte "=")

-- the parts of a text that may be client-final
pub record IsCutClientFinal (message : List ℕ) (pieces : Pieces) : Type 0 where
  pub short : length message ≤ max_message_len
  pub utf8_text : IsUtf8Text message
  pub whole : message ≡ pieces.without_proof.now ++ byte "," ∷ pieces.proof.now
  pub cut : parts pieces.without_proof.now ≡ pieces.channel.now ∷ pieces.nonce.now ∷ parts_of_some (option_copied pieces.rest)
  pub cut_whole : parts message ≡ pieces.channel.now ∷ pieces.nonce.now
      ∷ (parts_of_some (option_copied pieces.rest) ++ pieces.proof.now ∷ [])
  pub count : pieces.parts ≡ length (parts message)
  pub few : length (parts message) ≤ most_parts
  pub channel_len : length pieces.channel.now ≤ max_message_len

-- the parts are a mandatory extension, if the first begins with "m=", and then the others
pub record IsMextAndRest (pieces rest : List (List ℕ)) (mext : Option (List ℕ)) : Type 0 where
  pub cut : pieces ≡ mext_parts mext ++ rest
  pub value : IfSome mext IsValue
  pub headed : is_named (byte "m") (first_of pieces) ≡ is_some mext

-- the fault is that of a first part that begins with "m=" and is not a mandatory extension, whatever the later places are
abbrev pub IsMextMisfit : ℕ → List (List ℕ) → TextFault → Type 0
IsMextMisfit k pieces f =
    (most : ℕ) (later : List TextWhy) → IsFirstMisfit most (places (places_with_mext pieces later) [] (length pieces)) k pieces f

-- the parts of a text that may be server-first
pub record IsCutServerFirst (message : List ℕ) (pieces : ServerPieces) : Type 0 where
  pub short : length message ≤ max_message_len
  pub utf8_text : IsUtf8Text message
  pub mext : Option (List ℕ)
  pub mext_and_rest : IsMextAndRest (parts message) (pieces.nonce.now ∷ pieces.salt.now ∷ pieces.count.now
      ∷ parts_of_some (option_copied pieces.rest)) mext
  pub has_mext_is : pieces.has_mext ≡ is_some mext
  pub index : pieces.index ≡ length (mext_parts mext)
  pub few : length (parts message) ≤ most_parts

-- the parts of a text that may be client-first
pub record IsCutClientFirst (message : List ℕ) (pieces : FirstPieces) : Type 0 where
  pub short : length message ≤ max_message_len
  pub utf8_text : IsUtf8Text message
  pub header : message ≡ pieces.header.now ++ pieces.bare.now
  pub header_parts : pieces.header.now ≡ pieces.flag.now ++ byte "," ∷ (pieces.authzid.now ++ byte "," ∷ [])
  pub cut : parts message ≡ pieces.flag.now ∷ pieces.authzid.now ∷ parts pieces.bare.now
  pub enough : length (places_with_mext (parts pieces.bare.now) []) + 2 ≤ length (parts pieces.bare.now)
  pub few : length (parts message) ≤ most_parts

-- the parts of a text that may be client-first-bare, with parts counted from 2
pub record IsCutBare (bare : List ℕ) (pieces : BarePieces) : Type 0 where
  pub mext : Option (List ℕ)
  pub mext_and_rest : IsMextAndRest (parts bare) (pieces.name.now ∷ pieces.nonce.now ∷ parts_of_some (option_copied pieces.rest)) mext
  pub has_mext_is : pieces.has_mext ≡ is_some mext
  pub index : pieces.index ≡ 2 + length (mext_parts mext)

-- the parts of client-first-bare
pub record IsBare (pieces : List (List ℕ)) (p : ClientFirstParts) : Type 0 where
  pub cut : pieces ≡ bare_parts p
  pub headed : is_named (byte "m") (first_of pieces) ≡ is_some p.mext
  pub mext : IfSome p.mext IsValue
  pub name : IsSaslName p.name
  pub nonce : IsNonce max_nonce_part_len p.nonce
  pub extensions : AreExtensions p.extensions

-- what was read of client-first-bare shows these parts
pub record ShowsBare (m : Bare) (p : ClientFirstParts) : Type 0 where
  pub mandatory : m.mandatory ≡ client_first_mandatory p
  pub name : m.name ≡ p.name
  pub nonce : m.nonce.now ≡ p.nonce
  pub extensions : m.extensions.now ≡ joined p.extensions

-- the fault is that of the first part of client-first-bare that does not fit its place, with parts counted from 2
abbrev pub IsBareMisfit : List (List ℕ) → TextFault → Type 0
IsBareMisfit pieces f =
    IsFirstMisfit max_nonce_part_len (places (places_with_mext pieces (Name ∷ Nonce ∷ [])) [] (length pieces)) 2 pieces f
