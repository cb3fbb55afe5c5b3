use Rattle.std.proofs.Common.{sym, subst}
use Rattle.std.specs.Str.{IsUtf8}
use Rattle.scram_text.proofs.lemmas.Texts.{plain_is_text}
use Rattle.scram_text.proofs.name.PlainName.text.Goals as goal

pub unreachable-requires : goal.unreachable-requires
unreachable-requires c =
    c.in-Err.ensures.cases.0 (subst IsUtf8 (sym c.bytes.ensures.value) (plain_is_text _ c.bytes.ensures.fits.each).utf8)
