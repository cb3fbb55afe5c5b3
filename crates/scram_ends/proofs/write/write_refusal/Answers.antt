use Rattle.std.proofs.Common.{◌≡◌, rules}
use Rattle.scram_ends.specs.Verdict.{error_value}
use Rattle.scram_ends.proofs.lemmas.Written.{refusal_can_be_written, refusal_fits, written_unless_full}
use Rattle.scram_ends.proofs.write.write_refusal.Goals as goal

pub returns : goal.returns
returns g c =
    let value : c.as_bytes-value.result.now ≡ error_value c.args.refusal = search rules in
    written_unless_full (rw value at c.write_server_final.ensures) (refusal_can_be_written c.args.refusal) (refusal_fits c.args.refusal)
