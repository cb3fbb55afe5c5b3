use Rattle.std.proofs.Common.{subst}
use Rattle.book_format.proofs.lemmas.ValueTypes.{ComesBack}
use Rattle.book_format.proofs.lemmas.WritesItself.{hotp_writes_itself}
use Rattle.book_format.proofs.write.token.hotp_value.Goals as goal

pub returns-clause-itself : goal.returns-clause-itself
returns-clause-itself c =
    hotp_writes_itself c.args.fields.now c.requires c.bytes.ensures.length c.count.ensures.range
    (subst ComesBack c.bytes.ensures.value c.put_hex.ensures.back)
