-- The gs2-header and the bare message that a client has sent, and keeps.
use Rattle.std.proofs.Common.{◌≡◌, ℕ, ◌≤◌, List, length, ◌∙◌, ap, arith}
use Rattle.std.specs.declared.option.Option.{Option}
use Rattle.scram_text.specs.Parts.{authzid_text}
use Rattle.scram_text.specs.Messages.{ClientFirstParts, gs2_header, client_first_bare}
use Rattle.scram_text.specs.declared.client_first.Flag.TheVariants.{NoBinding}
use Rattle.scram_ends.specs.Honest.{IsHonestFirst}
use Rattle.scram_ends.specs.Stages.{Started}
use Rattle.scram_ends.specs.Client.{StandsForStarted}
use Rattle.scram_ends.specs.declared.client.ClientOne.{ClientOne}
use Rattle.scram_ends.specs.declared.lengths.TheConstants.{MAX_HEADER_LEN, MAX_BARE_LEN}
use Rattle.scram_ends.proofs.lemmas.client_messages.ClientFirst.{honest_is_taken_up}
use Rattle.scram_ends.proofs.lemmas.client_messages.Lengths.{length-header, unbound_header_is_short, plain_bare_is_short}

-- a client-first message of an honest client
module _ {name : List ℕ} {authzid : Option (List ℕ)} {nonce client_first : List ℕ} {first : ClientFirstParts}
    (honest : IsHonestFirst name authzid nonce client_first first) where
  -- the header of an honest client-first message is not empty, and no longer than a header may be
  pub header_is_in_range : (1 ≤ length (gs2_header first)) × (length (gs2_header first) ≤ MAX_HEADER_LEN)
  unfolding gs2_header
  header_is_in_range =
      let is = honest_is_taken_up honest in
      (omega (arith, length-header first.flag (authzid_text first.authzid)), unbound_header_is_short first authzid is.unbound is.is_authzid)

  -- what is the header of an honest client-first message is no longer than a header may be
  pub honest_header_is_short : (header : List ℕ) → header ≡ gs2_header first → length header ≤ MAX_HEADER_LEN
  honest_header_is_short header same = omega (arith, ap length same, header_is_in_range.1)

  -- what is the bare message of an honest client-first message is no longer than a client's may be
  pub honest_bare_is_short : (bare : List ℕ) → bare ≡ client_first_bare first → length bare ≤ MAX_BARE_LEN
  honest_bare_is_short bare same =
      let nonce_is : first.nonce ≡ nonce = ap (λ (p : ClientFirstParts). p.nonce) honest.built in
      let whole = same ∙ ap client_first_bare honest.built in
      omega (
        arith,
        ap length whole,
        plain_bare_is_short NoBinding authzid name nonce honest.plain (omega (arith, ap length nonce_is, honest.is_first.nonce.at_most)),
      )

-- the header that a client keeps is not empty, and no longer than a header may be
pub kept_header_is_in_range : (w : ClientOne) (l : Started) (header : List ℕ)
    → StandsForStarted w l → header ≡ w.header.items → (1 ≤ length header) × (length header ≤ MAX_HEADER_LEN)
kept_header_is_in_range w l header started same =
    let range = header_is_in_range started.is_first in
    let long : length header ≡ length (gs2_header started.first) = ap length (same ∙ started.header) in
    (omega (arith, long, range.0), omega (arith, long, range.1))
