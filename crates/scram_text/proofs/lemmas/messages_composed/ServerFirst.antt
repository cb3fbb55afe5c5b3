-- What is written as server-first is the text of its parts, and a message.
use Rattle.std.proofs.Common.{◌≡◌, ℕ, ◌≤◌, List, ◌∷◌, ◌++◌, length, refl, sym, ◌∙◌, ap, subst, append_assoc}
use Rattle.std.specs.Prelude.{codes, decimal}
use Rattle.std.specs.Str.{byte}
use Rattle.base64.specs.GeneralPurpose.{IsBytes}
use Rattle.scram_text.specs.Limits.{max_message_len, max_nonce_len}
use Rattle.scram_text.specs.Class.{IsUtf8Text}
use Rattle.scram_text.specs.Base64Field.{base64}
use Rattle.scram_text.specs.Messages.{server_first_text, IsServerFirst}
use Rattle.scram_text.specs.Draft.{after_comma}
use Rattle.scram_text.specs.Written.{server_first_of, CanBeServerFirst}
use Rattle.scram_text.proofs.lemmas.Texts.{IsUtf8Text-append, plain_is_text, nonce_is_text, count_is_text, base64_is_text}
use Rattle.scram_text.proofs.lemmas.messages_composed.Joined.{extensions_join_after_comma, after_comma_is_text}

-- pieces joined one after another are one text, however they are grouped
server_first_pieces_regroup : (a n s v i k e : List ℕ)
    → (((((a ++ n) ++ s) ++ v) ++ i) ++ k) ++ e ≡ (a ++ n) ++ (s ++ (v ++ (i ++ (k ++ e))))
server_first_pieces_regroup a n s v i k e = simp append_assoc

-- what is written of server-first is its text
pub pieces_compose_server_first : (nonce salt : List ℕ) (count : ℕ) (extensions : List ℕ)
    → (((((codes "r=" ++ nonce) ++ codes ",s=") ++ base64 salt) ++ codes ",i=") ++ decimal count) ++ after_comma extensions
    ≡ server_first_text (server_first_of nonce salt count extensions)
unfolding server_first_text
pieces_compose_server_first nonce salt count extensions =
    server_first_pieces_regroup (codes "r=") nonce (codes ",s=") (base64 salt) (codes ",i=") (decimal count) (after_comma extensions)
    ∙ ap (λ (t : List ℕ). (codes "r=" ++ nonce) ++ byte "," ∷ ((codes "s=" ++ base64 salt) ++ byte "," ∷ t))
    (sym (extensions_join_after_comma (codes "i=" ++ decimal count) extensions))

-- the text of what can be written as server-first is a server-first message, if it is within the limit
pub written_is_server_first : (nonce salt : List ℕ) (count : ℕ) (extensions : List ℕ) → IsBytes salt
    → CanBeServerFirst nonce salt count extensions
    → length (server_first_text (server_first_of nonce salt count extensions)) ≤ max_message_len
    → IsServerFirst (server_first_text (server_first_of nonce salt count extensions)) (server_first_of nonce salt count extensions)
written_is_server_first nonce salt count extensions bytes can short =
    let lead = IsUtf8Text-append (codes "r=") nonce (plain_is_text (codes "r=") refl) (nonce_is_text max_nonce_len nonce can.nonce_class) in
    let salted = IsUtf8Text-append _ (base64 salt) (IsUtf8Text-append _ (codes ",s=") lead (plain_is_text (codes ",s=") refl))
    (base64_is_text salt bytes) in
    let counted = IsUtf8Text-append _ (decimal count) (IsUtf8Text-append _ (codes ",i=") salted (plain_is_text (codes ",i=") refl))
    (count_is_text count can.count_class) in
    let whole = IsUtf8Text-append _ (after_comma extensions) counted (after_comma_is_text extensions can.extensions_class.utf8_text) in
    record {
      spelled = refl;
      mext = tt;
      nonce = can.nonce_class;
      salt = can.salt_class;
      count = can.count_class;
      extensions = can.extensions_class.each;
      utf8_text = subst IsUtf8Text (pieces_compose_server_first nonce salt count extensions) whole;
      short = short;
    }
