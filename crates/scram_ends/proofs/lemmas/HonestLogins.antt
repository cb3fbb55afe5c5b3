-- Honest logins succeed.
use Rattle.std.proofs.Common.{◌≡◌, ℕ, ◌≤◌, List, [], ◌++◌, length, sym, ◌∙◌, ap, subst, refl, arith}
use Rattle.std.specs.Prelude.{codes}
use Rattle.mac_core.specs.Mechanism.{digest_len_by, hi_by, client_key_by, stored_key_by}
use Rattle.mac_core.specs.Keys.{xor_bytes}
use Rattle.mac_core.specs.declared.mechanism.Mechanism.{Mechanism}
use Rattle.mac_core.specs.declared.mechanism.Mechanism.TheVariants.{ScramSha1, ScramSha256}
use Rattle.mac_core.proofs.lemmas.Lengths.{length-hmac_by}
use Rattle.mac_core.proofs.lemmas.Digests.{AreBytes, mac_is_bytes, length-xor, xor_bytes_cancels}
use Rattle.scram_text.specs.Limits.{max_tag_len}
use Rattle.scram_text.specs.Parts.{have_mandatory}
use Rattle.scram_text.specs.Messages.{ClientFirstParts, ServerFirstParts, server_first_mandatory, client_final_text, verifier}
use Rattle.scram_text.specs.Written.{client_final_of}
use Rattle.scram_text.proofs.lemmas.Base64.{bytes_are_field}
use Rattle.scram_text.proofs.lemmas.messages_composed.ServerFinal.{signature_is_text, written_is_server_final}
use Rattle.scram_text.proofs.lemmas.ClientFirst.{has_one_client_first}
use Rattle.scram_text.proofs.lemmas.ServerFirst.{has_one_server_first}
use Rattle.scram_ends.specs.Entry.{Entry, password_keys}
use Rattle.scram_ends.specs.Stages.{Answered, challenged_login}
use Rattle.scram_ends.specs.Auth.{auth_message, client_signature, server_signature, IsProof, proof_of}
use Rattle.scram_ends.specs.Opening.{IsOpening}
use Rattle.scram_ends.specs.Verdict.{accept, IsDue, due_text, final_due}
use Rattle.scram_ends.specs.Login.{IsAuthentic, IsValidLogin}
use Rattle.scram_ends.specs.First.{IsChallengeTo}
use Rattle.scram_ends.specs.Honest.{IsHonest, honest_signature, max_honest_final_len}
use Rattle.scram_ends.specs.Laws.{HonestLogsIn}
use Rattle.scram_ends.proofs.lemmas.client_messages.ClientFirst.{honest_is_taken_up}
use Rattle.scram_ends.proofs.lemmas.client_messages.ClientFinal.{length-client_final_text}
use Rattle.scram_ends.proofs.lemmas.client_messages.Headers.{honest_header_is_short}
use Rattle.scram_ends.proofs.lemmas.client_messages.Expectations.{proofs_are_same, signatures_are_same}
use Rattle.scram_ends.proofs.lemmas.Verdicts.{acceptance_is_due}
use Rattle.scram_ends.proofs.lemmas.Written.{signature_can_be_written, signature_is_short}

-- a mechanism's digests have from 1 to 32 bytes
pub digest_length_is_in_range : (m : Mechanism) → (1 ≤ digest_len_by m) × (digest_len_by m ≤ 32)
digest_length_is_in_range ScramSha1 = (omega arith, omega arith)
digest_length_is_in_range ScramSha256 = (omega arith, omega arith)

-- the server-final message that accepts with a signature has this signature as its verifier
pub due_text_is_authentic : (signature : List ℕ)
    → AreBytes signature → 1 ≤ length signature → length signature ≤ max_tag_len → IsAuthentic (due_text (accept signature)) signature
due_text_is_authentic signature fits some within = record {
  last = final_due (accept signature);
  is_last = written_is_server_final (verifier signature) [] (signature_is_text signature fits)
      (signature_can_be_written signature (bytes_are_field max_tag_len signature fits some within)) (signature_is_short signature within);
  not_mandatory = refl;
  is_verifier = refl;
}

-- the proof made from a password is a proof for the keys of this password
password_proof_passes : (m : Mechanism) (password salt auth proof : List ℕ) (count : ℕ)
    → proof ≡ proof_of m password salt count auth → IsProof m (password_keys m password salt count) auth proof
password_proof_passes m password salt auth proof count is =
    let key = client_key_by m (hi_by m password salt count) in
    let signature = client_signature m (password_keys m password salt count) auth in
    let key_length : length key ≡ digest_len_by m = length-hmac_by m (hi_by m password salt count) (codes "Client Key") in
    let same : length key ≡ length signature = key_length ∙ sym (length-hmac_by m (stored_key_by m key) auth) in
    record {
      len = ap length is ∙ (length-xor key signature same ∙ key_length);
      opens = ap (λ (p : List ℕ). stored_key_by m (xor_bytes p signature)) is ∙ ap (λ (k : List ℕ). stored_key_by m k)
          (xor_bytes_cancels key signature same);
    }

-- the client-final message of an honest client has at most so many bytes
pub honest_final_is_short : (l : Answered) → IsHonest l → length l.client_final ≤ max_honest_final_len
honest_final_is_short l honest =
    let final = honest.final in
    let header = honest_header_is_short honest.is_first final.channel honest.is_final.channel in
    let is_proof = password_proof_passes l.mechanism l.password _ _ final.proof _ honest.is_final.proof in
    let proof : length final.proof ≤ 32 = omega (arith, is_proof.len, (digest_length_is_in_range l.mechanism).1) in
    let parts : final ≡ client_final_of final.channel final.nonce [] final.proof =
    ap (λ (e : List (List ℕ)). record final { extensions = e }) honest.is_final.no_extensions in
    let spelled = honest.is_final.is_final.spelled ∙ ap client_final_text parts in
    omega (
      arith,
      ap length spelled,
      length-client_final_text final.channel final.nonce final.proof header honest.is_final.is_final.nonce.at_most proof,
    )

-- an honest client's first message and a challenge of the account to it open its login
honest_login_opens : (e : Entry) (server_nonce : List ℕ) (l : Answered) → 1 ≤ length server_nonce
    → IsChallengeTo e l.client_first server_nonce l.server_first
    → (honest : IsHonest l)
    → IsOpening e l.client_first l.server_first
    (record { first = honest.first; name = l.name; authzid = l.authzid; challenge = honest.challenge })
honest_login_opens e server_nonce l some challenge honest =
    let first : challenge.first ≡ honest.first = has_one_client_first l.client_first challenge.first honest.first challenge.is_first
    honest.is_first.is_first in
    let same = has_one_server_first l.server_first honest.challenge _ honest.is_challenge challenge.is_challenge in
    record {
      is_first = honest.is_first.is_first;
      taken_up = honest_is_taken_up honest.is_first;
      is_challenge = honest.is_challenge;
      not_mandatory = ap (λ (p : ServerFirstParts). server_first_mandatory p) same;
      longer = (
        server_nonce,
        ap (λ (p : ServerFirstParts). p.nonce) same ∙ ap (λ (p : ClientFirstParts). p.nonce ++ server_nonce) first,
        some,
      );
      salt = ap (λ (p : ServerFirstParts). p.salt) same;
      count = ap (λ (p : ServerFirstParts). p.count) same;
    }

-- the law: an honest login succeeds
pub honest_logs_in : HonestLogsIn
honest_logs_in e server_nonce l has_keys allowed some challenge honest =
    let m = l.mechanism in
    let login = challenged_login e m l.client_first l.server_first in
    let auth = auth_message honest.first l.server_first honest.final in
    let keys = password_keys m l.password e.salt e.count in
    let signature = honest_signature l honest in
    let is_opening = honest_login_opens e server_nonce l some challenge honest in
    let same : signature ≡ server_signature m keys auth = signatures_are_same m m l.password _ e.salt auth auth _ e.count
    refl is_opening.salt is_opening.count refl in
    let long : length signature ≡ digest_len_by m = length-hmac_by m _ auth in
    let range = digest_length_is_in_range m in
    let authentic : IsAuthentic (due_text (accept signature)) signature =
    due_text_is_authentic signature (mac_is_bytes m _ auth) (omega (arith, long, range.0)) (omega (arith, long, range.1)) in
    let valid : IsValidLogin login l.client_final (due_text (accept signature)) = record {
      opening = record { first = honest.first; name = l.name; authzid = l.authzid; challenge = honest.challenge };
      final = honest.final;
      keys = keys;
      is_opening = is_opening;
      is_final = honest.is_final.is_final;
      not_mandatory = ap (λ (xs : List (List ℕ)). have_mandatory xs) honest.is_final.no_extensions;
      nonce = honest.is_final.sent_nonce;
      channel = honest.is_final.channel;
      has_keys = has_keys;
      proof = password_proof_passes m l.password e.salt auth honest.final.proof e.count
          (honest.is_final.proof ∙ proofs_are_same m m l.password _ e.salt auth auth _ e.count refl is_opening.salt is_opening.count refl);
      allowed = allowed;
      authentic = subst (λ (s : List ℕ). IsAuthentic (due_text (accept signature)) s) same authentic;
    } in (
      subst (λ (s : List ℕ). IsDue login l.client_final (accept s)) (sym same) (acceptance_is_due login l.client_final _ valid),
      authentic,
      valid,
    )
