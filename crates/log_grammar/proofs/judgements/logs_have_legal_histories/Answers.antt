use Rattle.std.proofs.Common.{inr}
use Rattle.log_grammar.proofs.lemmas.demands.EachAccount.{each_account_has_its_history}
use Rattle.log_grammar.proofs.lemmas.session_laws.MomentRanges.{moments_are_in_range}
use Rattle.log_grammar.proofs.judgements.logs_have_legal_histories.Goals as goal

pub returns : goal.returns
returns c = λ accounts bytes lines rest place told are spells account.
    (each_account_has_its_history accounts told
    (moments_are_in_range accounts bytes lines rest place told are (inr spells))).0 spells.replies account
