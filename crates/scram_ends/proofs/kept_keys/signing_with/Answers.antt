use Rattle.scram_ends.specs.Entry.{keys_of}
use Rattle.scram_ends.proofs.kept_keys.signing_with.Goals as goal

pub returns-in-Some : goal.returns-in-Some
returns-in-Some c first = c.signing.ensures c.args.mechanism (keys_of c.args.keys.now) first (c.are_of.ensures.0 c.if-are_of.true)

pub returns-in_default : goal.returns-in_default
returns-in_default c first = c.signing-signing.ensures c.args.mechanism (keys_of c.args.keys.now) first c.new-ready.ensures
