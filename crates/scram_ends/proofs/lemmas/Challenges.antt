-- The nonce of a challenge and the client's own; and a challenge to answer is not refused.
use Rattle.std.proofs.Common.{◌≡◌, ℕ, ◌<◌, ◌+◌, true, false, List, ◌++◌, length, take, drop, length-append, sym, ◌∙◌, ap, subst, arith, eqb}
use Rattle.std.specs.Prelude.{◌≢◌}
use Rattle.std.specs.Borrow.{Bor}
use Rattle.std.specs.Cmp.Lexicographic.{pointwise}
use Rattle.std.specs.declared.option.Option.TheVariants.{Some}
use Rattle.std.proofs.lemmas.Bool.{eqb-true, eqb-false}
use Rattle.std.proofs.lemmas.Bool.Decides.{Decides-eqb}
use Rattle.std.proofs.lemmas.Slice.Eq.{strip_prefix_is}
use Rattle.scram_text.specs.FirstUnmet.{IsFirstUnmet}
use Rattle.scram_text.specs.Messages.{ServerFirstParts}
use Rattle.scram_text.proofs.lemmas.FirstUnmet.{met_rows_have_no_first_unmet}
use Rattle.scram_text.proofs.lemmas.ServerFirst.{has_one_server_first}
use Rattle.scram_ends.specs.Stages.{Started}
use Rattle.scram_ends.specs.Client.{StandsForStarted, challenge_faults_in_order, AsksOfChallenge, IsAnswerable, IsChallengeFault}
use Rattle.scram_ends.specs.declared.client.Limits.{Limits}
use Rattle.scram_ends.specs.declared.client.ClientOne.{ClientOne}
use Rattle.scram_ends.specs.declared.client.ClientFault.{ClientFault}
use Rattle.scram_ends.specs.declared.client.ClientFault.TheVariants.{Text}

-- a challenge's nonce that does not begin with the client's is not the client's with more after it
pub nonce_begins_otherwise : (client_nonce nonce sent prefix : List ℕ)
    → sent ≡ nonce → prefix ≡ client_nonce → ((rest : List ℕ) → sent ≢ prefix ++ rest) → (more : List ℕ) → nonce ≡ client_nonce ++ more → ⊥
nonce_begins_otherwise client_nonce nonce sent prefix same is none more cut =
    none more (same ∙ (cut ∙ ap (λ (front : List ℕ). front ++ more) (sym is)))

-- a challenge's nonce that begins with the client's is the client's with the rest after it
pub nonce_begins_with_clients : (client_nonce nonce sent prefix rest : List ℕ)
    → sent ≡ nonce → prefix ≡ client_nonce → sent ≡ prefix ++ rest → nonce ≡ client_nonce ++ rest
nonce_begins_with_clients client_nonce nonce sent prefix rest same is cut = sym same ∙ (cut ∙ ap (λ (front : List ℕ). front ++ rest) is)

-- a challenge's nonce from which the client's was stripped is the client's with the rest after it
pub stripped_nonce_begins_with_clients : {client_nonce nonce sent prefix : List ℕ} (rest : Bor (List ℕ)) → sent ≡ nonce
    → prefix ≡ client_nonce
    → (pointwise eqb (take (length prefix) sent) prefix ≡ true) × (rest.now ≡ drop (length prefix) sent)
    × (length rest.now + length prefix ≡ length sent)
    → nonce ≡ client_nonce ++ rest.now
stripped_nonce_begins_with_clients {client_nonce} {nonce} {sent} {prefix} rest same is stripped =
    nonce_begins_with_clients client_nonce nonce sent prefix rest.now same is
    (strip_prefix_is Decides-eqb sent prefix (Some rest) stripped)

-- if a challenge's nonce is the client's with nothing after it, it is not longer
pub nonce_is_not_longer : (client_nonce nonce rest : List ℕ)
    → nonce ≡ client_nonce ++ rest → eqb (length rest) 0 ≡ true → length client_nonce < length nonce → ⊥
nonce_is_not_longer client_nonce nonce rest is empty long =
    omega (arith, long, ap length is, length-append client_nonce rest, eqb-true (length rest) 0 empty)

-- if a challenge's nonce is the client's with more after it, it is longer
pub nonce_is_longer : (client_nonce nonce rest : List ℕ)
    → nonce ≡ client_nonce ++ rest → eqb (length rest) 0 ≡ false → length client_nonce < length nonce
nonce_is_longer client_nonce nonce rest is some =
    omega (arith, ap length is, length-append client_nonce rest, eqb-false (length rest) 0 some)

-- a challenge that is refused is not one to answer
pub refused_is_not_answerable : (limits : Limits) (client_nonce server_first : List ℕ) (fault : ClientFault) (c : ServerFirstParts)
    → IsChallengeFault limits client_nonce server_first fault → IsAnswerable limits client_nonce server_first c → ⊥
refused_is_not_answerable limits client_nonce server_first (Text fault) c h a = h.0 c a.is_challenge
refused_is_not_answerable limits client_nonce server_first fault c h a =
    met_rows_have_no_first_unmet (λ row. AsksOfChallenge row limits client_nonce c) challenge_faults_in_order fault a.asked
    (subst (λ (p : ServerFirstParts). IsFirstUnmet (λ row. AsksOfChallenge row limits client_nonce p) challenge_faults_in_order fault)
    (has_one_server_first server_first h.0 c h.1 a.is_challenge) h.2)

-- a fault of a challenge for the limits and the nonce that the client keeps is a fault for those of its login
pub login_has_challenge_fault : (w : ClientOne) (l : Started) (server_first : List ℕ) (fault : ClientFault)
    → StandsForStarted w l → IsChallengeFault w.limits w.nonce.items server_first fault
    → IsChallengeFault l.limits l.nonce server_first fault
login_has_challenge_fault w l server_first fault started is =
    subst (λ (limits : Limits). IsChallengeFault limits l.nonce server_first fault) started.limits
    (subst (λ (nonce : List ℕ). IsChallengeFault w.limits nonce server_first fault) started.nonce is)
