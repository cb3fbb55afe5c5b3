use Rattle.std.proofs.Common.{rules, ◌≡◌, ℕ, List, [], ◌∷◌, ◌++◌, subst}
use Rattle.std.specs.Str.{byte}
use Rattle.mac_core.specs.Mechanism.{IsScramMac}
use Rattle.mac_core.specs.declared.mechanism.Mechanism.{Mechanism}
use Rattle.mac_core.specs.declared.mechanism.ScramMac.{ScramMac}
use Rattle.scram_text.specs.Messages.{client_first_bare}
use Rattle.scram_ends.proofs.lemmas.ReadyMacs.{ready_macs_are}
use Rattle.scram_ends.proofs.signing.ReadyKeys.signing.Goals as goal

pub invariant_of-result : goal.invariant_of-result
invariant_of-result c =
    let keys = c.args.self.now in
    let macs = ready_macs_are keys.mechanism keys.proof_mac keys.signature_mac keys.stored.items keys.server.items keys.ready in
    record {
      is_mac = ∣ (
        keys.server.items,
        _,
        c.with_challenge-2.ensures keys.mechanism keys.server.items (c.copy-2.ensures keys.mechanism keys.server.items [] macs.1),
      ) ∣₁;
    }

pub returns : goal.returns
returns c m keys first are same =
    let ready = c.args.self.now in
    let macs = ready_macs_are ready.mechanism ready.proof_mac ready.signature_mac ready.stored.items ready.server.items ready.ready in
    let to_challenge : List ℕ → List ℕ = λ bare. bare ++ byte "," ∷ [] ++ c.args.server_first.now ++ byte "," ∷ [] in
    let of_keys : (mac : ScramMac) (own key : List ℕ) → own ≡ key → IsScramMac ready.mechanism mac own (to_challenge c.args.bare.now)
    → IsScramMac m mac key (to_challenge (client_first_bare first)) =
    λ mac own key is_own is_mac. subst (λ (bare : List ℕ). IsScramMac m mac key (to_challenge bare)) same
    (subst (λ (k : List ℕ). IsScramMac m mac k (to_challenge c.args.bare.now)) is_own
    (subst (λ (by : Mechanism). IsScramMac by mac own (to_challenge c.args.bare.now)) are.mechanism is_mac)) in
    record {
      mechanism = are.mechanism;
      stored = search rules;
      proof_mac = of_keys c.with_challenge.result ready.stored.items keys.stored are.stored
          (c.with_challenge.ensures ready.mechanism ready.stored.items (c.copy.ensures ready.mechanism ready.stored.items [] macs.0));
      signature_mac = of_keys c.with_challenge-2.result ready.server.items keys.server are.server
          (c.with_challenge-2.ensures ready.mechanism ready.server.items (c.copy-2.ensures ready.mechanism ready.server.items [] macs.1));
    }
