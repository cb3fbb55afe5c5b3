-- Some verdict is due to each login, and the server's line that tells it can be written.
use Rattle.std.proofs.Common.{◌≡◌, inl, inr, ℕ, ◌≤◌, List, [], length, refl, sym, ◌∙◌, ap, subst, arith}
use Rattle.std.proofs.lemmas.Bool.{cases_lt}
use Rattle.mac_core.specs.Mechanism.{digest_len_by}
use Rattle.mac_core.specs.declared.mechanism.Mechanism.{Mechanism}
use Rattle.mac_core.proofs.lemmas.Lengths.{length-hmac_by}
use Rattle.mac_core.proofs.lemmas.Digests.{AreBytes, mac_is_bytes}
use Rattle.scram_text.specs.Limits.{max_message_len, max_tag_len}
use Rattle.scram_text.specs.Messages.{verifier, server_error, IsServerFinal}
use Rattle.scram_text.proofs.lemmas.Base64.{bytes_are_field}
use Rattle.scram_text.proofs.lemmas.messages_composed.ServerFinal.{signature_is_text, error_is_text, written_is_server_final}
use Rattle.scram_ends.specs.Stages.{challenged_login}
use Rattle.scram_ends.specs.Verdict.{Due, accept, refuse, due_text, final_due, error_value}
use Rattle.scram_ends.specs.Login.{IsAuthentic}
use Rattle.scram_ends.specs.declared.verdict.Refusal.{Refusal}
use Rattle.scram_ends.proofs.lemmas.HonestLogins.{digest_length_is_in_range}
use Rattle.scram_ends.proofs.lemmas.Verdicts.{due_signature_is_servers}
use Rattle.scram_ends.proofs.lemmas.Written.{signature_can_be_written, signature_fits, refusal_can_be_written, refusal_fits}
use Rattle.scram_ends.proofs.lemmas.Decided.{some_verdict_is_due}
use Rattle.log_grammar.specs.Lines.{said, accepts, refuses, IsLogLineWritable}
use Rattle.log_grammar.specs.Demands.{Accounts, IsChallenged, IsVerdictDue}
use Rattle.log_grammar.proofs.lemmas.lines.Written.{refusal_is_writable, ok_is_writable}
use Rattle.log_grammar.proofs.lemmas.lines.TextBytes.{utf8_is_message}

-- some verdict is due to any client-final message, if the texts before it open a login
pub some_verdict : (accounts : Accounts) (mechanism account first challenge last : List ℕ)
    → IsChallenged accounts mechanism account first challenge
    → (due : Due) × IsVerdictDue accounts mechanism account first challenge last due
some_verdict accounts mechanism account first challenge last is =
    let due = some_verdict_is_due (challenged_login (accounts.entry is.m account) is.m first challenge) last is.opening is.opens in
    (due.0, (is.m, is.offered, due.1))

-- the message that accepts with a signature is a server-final message
acceptance_is_server_final : (signature : List ℕ) → AreBytes signature → 1 ≤ length signature → length signature ≤ max_tag_len
    → IsServerFinal (due_text (accept signature)) (final_due (accept signature))
acceptance_is_server_final signature fits some within =
    let field = bytes_are_field max_tag_len signature fits some within in
    let short : length (due_text (accept signature)) ≤ max_message_len = elim
    (cases_lt max_message_len (length (due_text (accept signature)))) [
      | inl long ↦ absurd (signature_fits signature within long)
      | inr fits ↦ fits
    ] in
    written_is_server_final (verifier signature) [] (signature_is_text signature fits) (signature_can_be_written signature field) short

-- the message that refuses for a reason is a server-final message
refusal_is_server_final : (why : Refusal) → IsServerFinal (due_text (refuse why)) (final_due (refuse why))
refusal_is_server_final why =
    let can = refusal_can_be_written why in
    let short : length (due_text (refuse why)) ≤ max_message_len = elim (cases_lt max_message_len (length (due_text (refuse why)))) [
      | inl long ↦ absurd (refusal_fits why long)
      | inr fits ↦ fits
    ] in
    written_is_server_final (server_error (error_value why)) [] (error_is_text (error_value why) can.verifier_or_error_class.1) can short

-- a signature as long as a mechanism's digests has from 1 to 64 bytes
signature_length_is_in_range : (m : Mechanism) (n : ℕ) → n ≡ digest_len_by m → (1 ≤ n) × (n ≤ max_tag_len)
signature_length_is_in_range m n is = let range = digest_length_is_in_range m in (omega (arith, is, range.0), omega (arith, is, range.1))

-- `S NO` with the message of a refusal can be written
pub due_refusal_is_writable : (why : Refusal) → IsLogLineWritable (said (refuses (due_text (refuse why))))
due_refusal_is_writable why =
    let final = refusal_is_server_final why in
    let text = due_text (refuse why) in
    refusal_is_writable text (utf8_is_message text final.utf8_text.utf8) final.short

-- an acceptance with this signature can be written, by a message that bears it
pub record WritableAcceptance (signature : List ℕ) : Type 0 where
  pub text : List ℕ
  pub line : IsLogLineWritable (said (accepts text))
  pub authentic : IsAuthentic text signature

-- if acceptance is due to a login, `S OK` can be written with a message that has the signature due
pub due_acceptance_is_writable : (accounts : Accounts) (mechanism account first challenge last signature : List ℕ)
    → IsVerdictDue accounts mechanism account first challenge last (accept signature) → WritableAcceptance signature
due_acceptance_is_writable accounts mechanism account first challenge last signature is =
    let (keys, auth, signed) = due_signature_is_servers (challenged_login (accounts.entry is.0 account) is.0 first challenge) last signature
    is.2 in
    let bytes = subst AreBytes (sym signed) (mac_is_bytes is.0 keys.server auth) in
    let range = signature_length_is_in_range is.0 (length signature) (ap length signed ∙ length-hmac_by is.0 keys.server auth) in
    let final = acceptance_is_server_final signature bytes range.0 range.1 in
    let text = due_text (accept signature) in
    record {
      text = text;
      line = ok_is_writable text (utf8_is_message text final.utf8_text.utf8) final.short;
      authentic = record { last = final_due (accept signature); is_last = final; not_mandatory = refl; is_verifier = refl };
    }
