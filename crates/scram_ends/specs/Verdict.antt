-- The verdict on a client-final message (RFC 5802, sections 3, 5.1 and 7): the refusal of the first row of a table that the messages do not
-- meet, or acceptance if they meet every row.
use Rattle.std.specs.Prelude.{ℕ, ◌≡◌, ◌≤◌, ◌⊎◌, false, List, [], ◌∷◌, length, codes}
use Rattle.std.specs.List.{AllByRecursion}
use Rattle.std.specs.declared.option.Option.TheVariants.{Some}
use Rattle.scram_text.specs.Messages.{gs2_header, ClientFinalParts, IsClientFinal, client_final_mandatory, VerifierOrError, verifier, server_error}
use Rattle.scram_text.specs.Messages.{ServerFinalParts, server_final_text}
use Rattle.scram_text.specs.FirstUnmet.{IsFirstUnmet}
use Rattle.scram_ends.specs.Entry.{Keys}
use Rattle.scram_ends.specs.Stages.{Challenged}
use Rattle.scram_ends.specs.Auth.{auth_message, server_signature, IsProof}
use Rattle.scram_ends.specs.Opening.{Opening, IsOpening, IsAllowed}
use Rattle.scram_ends.specs.declared.verdict.Refusal.{Refusal}
use Rattle.scram_ends.specs.declared.verdict.Refusal.TheVariants.{InvalidEncoding, ExtensionsNotSupported, OtherNonce, Channel, InvalidProof}
use Rattle.scram_ends.specs.declared.verdict.Refusal.TheVariants.{NotAuthorised}
use Rattle.scram_ends.specs.declared.verdict.Verdict.{Verdict}
use Rattle.scram_ends.specs.declared.verdict.Verdict.TheVariants as verdict
use Rattle.scram_ends.specs.declared.verdict.Judged.{Judged}
use Rattle.scram_ends.specs.declared.verdict.Judged.TheVariants as judged

-- the refusals that come from the parts of client-final, in the order in which they are judged. InvalidEncoding is not among them:
-- it is the answer to a text that is not a client-final message.
abbrev pub refusals_in_order : List Refusal
refusals_in_order = ExtensionsNotSupported ∷ OtherNonce ∷ Channel ∷ InvalidProof ∷ NotAuthorised ∷ []

-- what each row asks of the parts of client-final, given the opening: no mandatory extension; the nonce that was sent; the
-- gs2-header of client-first as channel binding; a proof for keys that the entry has; a name to act as that is allowed.
-- InvalidEncoding is not a row: nothing would meet it.
abbrev pub AsksOfFinal : Refusal → Challenged → Opening → ClientFinalParts → Type 0
AsksOfFinal InvalidEncoding login opening final = ⊥
AsksOfFinal ExtensionsNotSupported login opening final = client_final_mandatory final ≡ false
AsksOfFinal OtherNonce login opening final = final.nonce ≡ opening.challenge.nonce
AsksOfFinal Channel login opening final = final.channel ≡ gs2_header opening.first
AsksOfFinal InvalidProof login opening final =
    (keys : Keys) × (login.entry.keys ≡ Some keys)
    × IsProof login.mechanism keys (auth_message opening.first login.server_first final) final.proof
AsksOfFinal NotAuthorised login opening final = IsAllowed login.entry opening.name opening.authzid

-- what a server may answer to client-final: acceptance with its signature, or a refusal
pub data Due : Type 0 where
  accept : (signature : List ℕ) → Due
  refuse : Refusal → Due

-- the verdict on the parts, given the opening: the refusal of the first row that they do not meet; or, if they meet every row,
-- acceptance with the ServerSignature for the entry's keys
abbrev pub IsVerdictOn : Challenged → Opening → ClientFinalParts → Due → Type 0
IsVerdictOn login opening final (refuse refusal) = IsFirstUnmet (λ row. AsksOfFinal row login opening final) refusals_in_order refusal
IsVerdictOn login opening final (accept signature) =
    AllByRecursion (λ row. AsksOfFinal row login opening final) refusals_in_order
    × ((keys : Keys) × (login.entry.keys ≡ Some keys)
    × (signature ≡ server_signature login.mechanism keys (auth_message opening.first login.server_first final)))

-- the messages are an opening and a client-final message, and this is the verdict on their parts
pub record IsDueToParts (login : Challenged) (client_final : List ℕ) (due : Due) : Type 0 where
  pub opening : Opening
  pub final : ClientFinalParts
  pub is_opening : IsOpening login.entry login.client_first login.server_first opening
  pub is_final : IsClientFinal client_final final
  pub is_verdict : IsVerdictOn login opening final due

-- what is due to a text received as client-final: InvalidEncoding if it is not a client-final message, else the verdict on its parts
abbrev pub IsDue : Challenged → (client_final : List ℕ) → Due → Type 0
IsDue login client_final due =
    (((final : ClientFinalParts) → IsClientFinal client_final final → ⊥) × (due ≡ refuse InvalidEncoding))
    ⊎ IsDueToParts login client_final due

-- the server-error-value of a refusal (RFC 5802, section 7)
abbrev pub error_value : Refusal → List ℕ
error_value InvalidEncoding = codes "invalid-encoding"
error_value ExtensionsNotSupported = codes "extensions-not-supported"
error_value OtherNonce = codes "other-error"
error_value Channel = codes "channel-bindings-dont-match"
error_value InvalidProof = codes "invalid-proof"
error_value NotAuthorised = codes "other-error"

-- the verifier or the error that server-final contains
abbrev pub verifier_or_error_due : Due → VerifierOrError
verifier_or_error_due (accept signature) = verifier signature
verifier_or_error_due (refuse refusal) = server_error (error_value refusal)

-- the parts of server-final, with no extensions
abbrev pub final_due : Due → ServerFinalParts
final_due due = record { verifier_or_error = verifier_or_error_due due; extensions = [] }

-- the server's last message
abbrev pub due_text : Due → List ℕ
due_text due = server_final_text (final_due due)

-- the verdict that the server's caller gets: what is due, without the signature
abbrev pub verdict_of : Due → Verdict
verdict_of (accept signature) = verdict.Accepted
verdict_of (refuse refusal) = verdict.Refused refusal

-- if it is an acceptance, its signature is not empty
abbrev pub CanBeReported : Due → Type 0
CanBeReported (accept signature) = 1 ≤ length signature
CanBeReported (refuse refusal) = Unit {0}

-- what is due according to this judgement
abbrev pub due_of : Judged → Due
due_of (judged.Accepted signature) = accept signature.items
due_of (judged.Refused refusal) = refuse refusal
