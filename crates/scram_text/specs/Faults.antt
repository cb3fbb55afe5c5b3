-- What is wrong with a text that is not a message: its first fault. A fault is one of the whole text or of one of its parts, and the
-- four messages differ only in the places of their parts.
use Rattle.std.specs.Prelude.{ℕ, ◌≡◌, ◌<◌, ◌≤◌, ◌+◌, ◌-◌, ◌⊎◌, List, [], ◌∷◌, ◌++◌, length, drop, replicate, IfSome, if◌then◌else◌, IsTrue}
use Rattle.std.specs.List.{zip}
use Rattle.std.specs.Str.{byte}
use Rattle.std.specs.declared.option.Option.{Option}
use Rattle.scram_text.specs.Limits.{max_channel_len, max_message_len, max_nonce_len, max_nonce_part_len, max_salt_len, max_tag_len}
use Rattle.scram_text.specs.FirstUnmet.{IsFirstUnmet}
use Rattle.scram_text.specs.Class.{IsNonce, IsUtf8Text}
use Rattle.scram_text.specs.Name.{IsSaslName}
use Rattle.scram_text.specs.Parts.{parts, is_named, is_flag, authzid_text, IsAttrVal, IsValue, IsExtension, SpellsCount, SpellsField}
use Rattle.scram_text.specs.declared.fault.TextFault.{TextFault}
use Rattle.scram_text.specs.declared.fault.TextWhy.{TextWhy}
use Rattle.scram_text.specs.declared.fault.TextWhy.TheVariants.{TooLong, NotText, Missing, Flag, Authzid, Mandatory, Name, Nonce, Salt, Count}
use Rattle.scram_text.specs.declared.fault.TextWhy.TheVariants.{Channel, Extension, Proof, Verifier, ErrorValue}
use Rattle.scram_text.specs.declared.fault.WriteFault.{WriteFault}
use Rattle.scram_text.specs.declared.fault.WriteFault.TheVariants.{Unwritable, OverLimit, NoMemory}

-- the number of a reader's fault
abbrev pub text_why_number : TextWhy → ℕ
text_why_number TooLong = 1
text_why_number NotText = 2
text_why_number Missing = 3
text_why_number Flag = 4
text_why_number Authzid = 5
text_why_number Mandatory = 6
text_why_number Name = 7
text_why_number Nonce = 8
text_why_number Salt = 9
text_why_number Count = 10
text_why_number Channel = 11
text_why_number Extension = 12
text_why_number Proof = 13
text_why_number Verifier = 14
text_why_number ErrorValue = 15

-- the number of a writer's fault
abbrev pub write_fault_number : WriteFault → ℕ
write_fault_number Unwritable = 16
write_fault_number OverLimit = 17
write_fault_number NoMemory = 99

-- the fault of the part with this index, for this reason
abbrev pub fault : (part : ℕ) → TextWhy → TextFault
fault part why = record { part = part; why = why }

-- the part is empty, or "a=" and a saslname
abbrev pub IsAuthzid : List ℕ → Type 0
IsAuthzid part = (authzid : Option (List ℕ)) × (part ≡ authzid_text authzid) × IfSome authzid IsSaslName

-- what a part must be at the place that gives this fault, in a message whose nonce has at most `max_nonce` characters. TooLong, NotText
-- and Missing are faults of no place.
abbrev pub Fits : (max_nonce : ℕ) → TextWhy → (part : List ℕ) → Type 0
Fits max_nonce TooLong part = Unit {0}
Fits max_nonce NotText part = Unit {0}
Fits max_nonce Missing part = Unit {0}
Fits max_nonce Flag part = IsTrue (is_flag part)
Fits max_nonce Authzid part = IsAuthzid part
Fits max_nonce Mandatory part = IsAttrVal (byte "m") IsValue part
Fits max_nonce Name part = IsAttrVal (byte "n") IsSaslName part
Fits max_nonce Nonce part = IsAttrVal (byte "r") (IsNonce max_nonce) part
Fits max_nonce Salt part = IsAttrVal (byte "s") (SpellsField max_salt_len) part
Fits max_nonce Count part = IsAttrVal (byte "i") SpellsCount part
Fits max_nonce Channel part = IsAttrVal (byte "c") (SpellsField max_channel_len) part
Fits max_nonce Extension part = IsExtension part
Fits max_nonce Proof part = IsAttrVal (byte "p") (SpellsField max_tag_len) part
Fits max_nonce Verifier part = IsAttrVal (byte "v") (SpellsField max_tag_len) part
Fits max_nonce ErrorValue part = IsAttrVal (byte "e") IsValue part

-- the fault is that of the first part that does not fit its place, with parts counted from k
pub record IsFirstMisfit (max_nonce : ℕ) (places : List TextWhy) (k : ℕ) (pieces : List (List ℕ)) (f : TextFault) : Type 0 where
  pub part : List ℕ
  pub first : IsFirstUnmet (λ row. Fits max_nonce row.0 row.1) (zip places pieces) (f.why, part)
  pub index : f.part ≡ k + length first.before

-- the places of n parts: the fixed ones at the front and at the back, and extensions between them
abbrev pub places : (front back : List TextWhy) → (n : ℕ) → List TextWhy
places front back n = front ++ (replicate (n - (length front + length back)) Extension ++ back)

-- a part is missing, or does not fit its place
abbrev pub IsPartFault : (max_nonce : ℕ) → (front back : List TextWhy) → (pieces : List (List ℕ)) → TextFault → Type 0
IsPartFault max_nonce front back pieces f =
    ((length pieces < length front + length back) × (f ≡ fault (length pieces) Missing))
    ⊎ ((length front + length back ≤ length pieces)
    × IsFirstMisfit max_nonce (places front back (length pieces)) 0 pieces f)

-- the text has more than 2048 bytes, or is not UTF-8 without NUL
abbrev pub IsWholeFault : List ℕ → TextFault → Type 0
IsWholeFault text f =
    ((max_message_len < length text) × (f ≡ fault 0 TooLong))
    ⊎ ((length text ≤ max_message_len) × (IsUtf8Text text → ⊥) × (f ≡ fault 0 NotText))

-- the first fault of a text that is not a message with these fixed places
abbrev pub IsFault : (max_nonce : ℕ) → (front back : List TextWhy) → (text : List ℕ) → TextFault → Type 0
IsFault max_nonce front back text f =
    IsWholeFault text f
    ⊎ ((length text ≤ max_message_len) × IsUtf8Text text × IsPartFault max_nonce front back (parts text) f)

-- the first part, or the empty text if there is none
abbrev pub first_of : List (List ℕ) → List ℕ
first_of [] = []
first_of (part ∷ pieces) = part

-- the later places, and before them that of a mandatory extension if the first part begins with "m="
abbrev pub places_with_mext : List (List ℕ) → List TextWhy → List TextWhy
places_with_mext pieces later = if is_named (byte "m") (first_of pieces) then Mandatory ∷ later else later

-- the places of client-first: its bare message is what follows the second part
abbrev pub client_first_places : List (List ℕ) → List TextWhy
client_first_places pieces = Flag ∷ Authzid ∷ places_with_mext (drop 2 pieces) (Name ∷ Nonce ∷ [])

-- the first fault of a text that is not a client-first message
abbrev pub IsClientFirstFault : List ℕ → TextFault → Type 0
IsClientFirstFault text f = IsFault max_nonce_part_len (client_first_places (parts text)) [] text f

-- the places of server-first, whose first part may ask for a mandatory extension
abbrev pub server_first_places : List (List ℕ) → List TextWhy
server_first_places pieces = places_with_mext pieces (Nonce ∷ Salt ∷ Count ∷ [])

-- the first fault of a text that is not a server-first message
abbrev pub IsServerFirstFault : List ℕ → TextFault → Type 0
IsServerFirstFault text f = IsFault max_nonce_len (server_first_places (parts text)) [] text f

-- the first fault of a text that is not a client-final message
abbrev pub IsClientFinalFault : List ℕ → TextFault → Type 0
IsClientFinalFault text f = IsFault max_nonce_len (Channel ∷ Nonce ∷ []) (Proof ∷ []) text f

-- the place of server-final's first part: ErrorValue if it begins with "e=", else Verifier
abbrev pub verifier_or_error_place : List ℕ → TextWhy
verifier_or_error_place part = if is_named (byte "e") part then ErrorValue else Verifier

-- the places of server-final: only its first part is fixed
abbrev pub server_final_places : List (List ℕ) → List TextWhy
server_final_places pieces = verifier_or_error_place (first_of pieces) ∷ []

-- the first fault of a text that is not a server-final message. It has no nonce, so the limit of a nonce plays no part.
abbrev pub IsServerFinalFault : List ℕ → TextFault → Type 0
IsServerFinalFault text f = IsFault max_nonce_len (server_final_places (parts text)) [] text f
