-- What is written as server-final is the text of its parts, and a message.
use Rattle.std.proofs.Common.{◌≡◌, ℕ, ◌≤◌, List, ◌++◌, length, refl, sym, subst}
use Rattle.std.specs.Prelude.{codes}
use Rattle.base64.specs.GeneralPurpose.{IsBytes}
use Rattle.scram_text.specs.Limits.{max_message_len}
use Rattle.scram_text.specs.Class.{IsUtf8Text}
use Rattle.scram_text.specs.Base64Field.{base64}
use Rattle.scram_text.specs.Messages.{VerifierOrError, verifier, server_error, verifier_or_error_text, IsVerifierOrError, server_final_text}
use Rattle.scram_text.specs.Messages.{IsServerFinal}
use Rattle.scram_text.specs.Draft.{after_comma}
use Rattle.scram_text.specs.Written.{server_final_of, CanBeVerifierOrError, CanBeServerFinal}
use Rattle.scram_text.proofs.lemmas.Texts.{IsUtf8Text-append, plain_is_text, base64_is_text}
use Rattle.scram_text.proofs.lemmas.messages_composed.Joined.{extensions_join_after_comma, after_comma_is_text}

-- what is written of server-final is its text
pub pieces_compose_server_final : (v : VerifierOrError) (extensions : List ℕ)
    → verifier_or_error_text v ++ after_comma extensions ≡ server_final_text (server_final_of v extensions)
unfolding server_final_text
pieces_compose_server_final v extensions = sym (extensions_join_after_comma (verifier_or_error_text v) extensions)

-- `v=` and the base64 of a signature is a text in UTF-8
pub signature_is_text : (signature : List ℕ) → IsBytes signature → IsUtf8Text (codes "v=" ++ base64 signature)
signature_is_text signature bytes =
    IsUtf8Text-append (codes "v=") (base64 signature) (plain_is_text (codes "v=") refl) (base64_is_text signature bytes)

-- `e=` and an error value in UTF-8 is a text in UTF-8
pub error_is_text : (value : List ℕ) → IsUtf8Text value → IsUtf8Text (codes "e=" ++ value)
error_is_text value is = IsUtf8Text-append (codes "e=") value (plain_is_text (codes "e=") refl) is

-- what can be written as a verifier or an error is in its class
writable_verifier_or_error_is_one : (v : VerifierOrError) → CanBeVerifierOrError v → IsVerifierOrError v
writable_verifier_or_error_is_one (verifier signature) can = can
writable_verifier_or_error_is_one (server_error value) can = can.0

-- the text of what can be written as server-final is a server-final message, if it is within the limit
pub written_is_server_final : (v : VerifierOrError) (extensions : List ℕ) → IsUtf8Text (verifier_or_error_text v)
    → CanBeServerFinal v extensions → length (server_final_text (server_final_of v extensions)) ≤ max_message_len
    → IsServerFinal (server_final_text (server_final_of v extensions)) (server_final_of v extensions)
written_is_server_final v extensions told can short =
    let whole = IsUtf8Text-append _ (after_comma extensions) told (after_comma_is_text extensions can.extensions_class.utf8_text) in
    record {
      spelled = refl;
      verifier_or_error = writable_verifier_or_error_is_one v can.verifier_or_error_class;
      extensions = can.extensions_class.each;
      utf8_text = subst IsUtf8Text (pieces_compose_server_final v extensions) whole;
      short = short;
    }
