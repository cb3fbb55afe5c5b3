-- A client that has composed client-final is honest, and expects the signature of its login.
use Rattle.std.proofs.Common.{◌≡◌, ℕ, List, [], ◌++◌, ◌∙◌, ap, refl}
use Rattle.mac_core.specs.declared.mechanism.Mechanism.{Mechanism}
use Rattle.scram_text.specs.Messages.{ServerFirstParts, IsServerFirst, client_final_without_proof, ClientFinalParts, client_final_text, IsClientFinal}
use Rattle.scram_text.specs.Written.{client_final_of, IsClientFinalWithoutProof}
use Rattle.scram_ends.specs.Auth.{auth_to_challenge, auth_message, proof_of, expected_signature}
use Rattle.scram_ends.specs.Stages.{Started, answered_login}
use Rattle.scram_ends.specs.Client.{StandsForStarted, IsAnswer}
use Rattle.scram_ends.specs.declared.client.ClientAnswer.{ClientAnswer}
use Rattle.scram_ends.specs.declared.client.ClientOne.{ClientOne}

-- a mechanism, a salt, a count and a text signed, and others that are equal
module _ (m n : Mechanism) (password salt other auth text : List ℕ) (count also : ℕ) (e : m ≡ n) (f : salt ≡ other) (g : count ≡ also)
    (h : auth ≡ text) where
  -- equal arguments make equal proofs
  pub proofs_are_same : proof_of m password salt count auth ≡ proof_of n password other also text
  proofs_are_same = λ i. proof_of (e i) password (f i) (g i) (h i)

  -- equal arguments make equal signatures
  pub signatures_are_same : expected_signature m password salt count auth ≡ expected_signature n password other also text
  signatures_are_same = λ i. expected_signature (e i) password (f i) (g i) (h i)

-- a client that has composed client-final has done so honestly, and expects the signature of this login
pub client_answers_honestly : (w : ClientOne) (answer : ClientAnswer) (l : Started)
    (server_first password header nonce salt without_proof : List ℕ) (count : ℕ) (p : ServerFirstParts)
    → (started : StandsForStarted w l) → IsServerFirst server_first p → header ≡ w.header.items → nonce ≡ p.nonce → salt ≡ p.salt
    → count ≡ p.count
    → without_proof ≡ client_final_without_proof (client_final_of header nonce [] answer.proof.items)
    → IsClientFinalWithoutProof answer.without_proof (client_final_of header nonce [] answer.proof.items)
    → answer.proof.items ≡ proof_of w.mechanism password salt count (auth_to_challenge started.first server_first ++ without_proof)
    → answer.expected.items
    ≡ expected_signature w.mechanism password salt count (auth_to_challenge started.first server_first ++ without_proof)
    → IsClientFinal (client_final_text (client_final_of header nonce [] answer.proof.items))
    (client_final_of header nonce [] answer.proof.items)
    → IsAnswer answer (answered_login l password server_first (client_final_text (client_final_of header nonce [] answer.proof.items)))
client_answers_honestly w answer l server_first password header nonce salt without_proof count p started is_challenge is_header is_nonce
    is_salt is_count is_without_proof held is_proof is_signature is_final =
    let q : ClientFinalParts = client_final_of header nonce [] answer.proof.items in
    let auth : auth_to_challenge started.first server_first ++ without_proof ≡ auth_message started.first server_first q =
    ap (λ (text : List ℕ). auth_to_challenge started.first server_first ++ text) is_without_proof in
    record {
      honest = record {
        first = started.first;
        challenge = p;
        final = q;
        is_first = started.is_first;
        is_challenge = is_challenge;
        is_final = record {
          is_final = is_final;
          channel = is_header ∙ started.header;
          sent_nonce = is_nonce;
          no_extensions = refl;
          proof = is_proof ∙ proofs_are_same w.mechanism l.mechanism password salt p.salt _ _ count p.count started.mechanism is_salt
              is_count auth;
        };
      };
      without_proof = held;
      proof = refl;
      expected = is_signature ∙ signatures_are_same w.mechanism l.mechanism password salt p.salt _ _ count p.count started.mechanism is_salt
          is_count auth;
    }
