use Rattle.std.proofs.Common.{subst}
use Rattle.book_format.proofs.lemmas.ValueTypes.{ComesBack}
use Rattle.book_format.proofs.lemmas.WritesItself.{mech_writes_itself}
use Rattle.book_format.proofs.write.account.keys_value.Goals as goal

pub returns-clause-itself : goal.returns-clause-itself
returns-clause-itself c = λ len fits.
    mech_writes_itself len c.args.keys.now fits (subst ComesBack c.bytes.ensures.value c.put_hex.ensures.back)
    (subst ComesBack c.as_slice.ensures.value c.put_hex-2.ensures.back)
    (subst ComesBack c.as_slice-2.ensures.value c.put_hex-3.ensures.back)
