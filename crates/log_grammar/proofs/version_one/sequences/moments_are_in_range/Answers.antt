use Rattle.log_grammar.proofs.lemmas.session_laws.MomentRanges.{moments_are_in_range}
use Rattle.log_grammar.proofs.version_one.sequences.moments_are_in_range.Goals as goal

pub returns : goal.returns
returns c = moments_are_in_range
