use Rattle.scram_ends.proofs.signing.Signing.new.Goals as goal

pub invariant_of-result : goal.invariant_of-result
invariant_of-result c = record { is_mac = ∣ (c.args.keys.now.server.items, _, c.running_mac-2.ensures) ∣₁ }
