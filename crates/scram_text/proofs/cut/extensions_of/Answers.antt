use Rattle.std.proofs.Common.{sym}
use Rattle.std.proofs.lemmas.List.Splits.{join_with_byte-slice_split}
use Rattle.std.specs.Str.{byte}
use Rattle.scram_text.proofs.cut.extensions_of.Goals as goal

pub returns-clause-text : goal.returns-clause-text
returns-clause-text c = rw c.in-Some.is (sym (join_with_byte-slice_split (byte ",") c.in-Some.text.now))
