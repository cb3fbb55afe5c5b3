use Rattle.std.proofs.Common.{rules, ◌≡◌, ℕ, List, [], subst}
use Rattle.mac_core.specs.Mechanism.{IsScramMac}
use Rattle.scram_ends.proofs.signing.ReadyKeys.new.Goals as goal

pub invariant_of-result : goal.invariant_of-result
invariant_of-result c =
    let stored : c.as_slice-3.result.now ≡ c.copy_of.result.items = search rules in
    let server : c.as_slice-4.result.now ≡ c.copy_of-2.result.items = search rules in
    record {
      ready = ∣ (
        subst (λ (key : List ℕ). IsScramMac c.args.mechanism c.new.result key []) stored c.new.ensures,
        subst (λ (key : List ℕ). IsScramMac c.args.mechanism c.new-2.result key []) server c.new-2.ensures,
      ) ∣₁;
    }
