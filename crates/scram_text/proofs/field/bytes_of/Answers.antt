use Rattle.std.proofs.Common.{◌<◌, length, take, rules}
use Rattle.scram_text.proofs.lemmas.Base64.{long_base64_spells_no_field}
use Rattle.scram_text.proofs.field.bytes_of.Goals as goal

pub returns-in_default-clause-none : goal.returns-in_default-clause-none
returns-in_default-clause-none g c = λ spells.
    let long : g.row.MOST < length (take c.in_ok-size.size c.decode.new.buffer) = search rules in
    long_base64_spells_no_field g.row.MOST _ c.args.text.now (take c.in_ok-size.size c.decode.new.buffer) c.in_ok-size.ensures.field
    c.in_ok-size.ensures.text long spells
