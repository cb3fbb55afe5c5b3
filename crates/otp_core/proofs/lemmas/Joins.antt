-- Histories that continue where others led.
use Rattle.std.proofs.Common.{◌++◌, [], ◌∷◌}
use Rattle.otp_core.specs.Laws.{HistoriesJoin, LegalHistoriesJoin}
use Rattle.otp_core.proofs.lemmas.AlikePasts.{alike_is_transitive, alike_pasts_share_reply}
use Rattle.otp_core.proofs.lemmas.Steps.{attempt_keeps_pasts_alike}

-- the law: a history that is legal from the token to which another leads is legal after it from the start, and both together are alike to
-- it alone
pub legal_histories_join : LegalHistoriesJoin
legal_histories_join start earlier middle [] after legal = (after.legal, after.alike)
legal_histories_join start earlier middle (a ∷ later) after legal =
    let front = legal_histories_join start earlier middle later after legal.2 in (
      (legal.0, alike_pasts_share_reply start middle (later ++ earlier) later a.moment a.sent a.reply front.1 legal.0 legal.1, front.0),
      attempt_keeps_pasts_alike start middle (later ++ earlier) later a.moment a.sent a.reply front.1 legal.0 legal.1,
    )

-- the law: a history that leads on from the token to which another leads, after it leads from the start of that one
pub histories_join : HistoriesJoin
histories_join start earlier middle later end after on =
    let front = legal_histories_join start earlier middle later after on.legal in record {
      legal = front.0;
      alike = alike_is_transitive start middle end (later ++ earlier) later [] front.1 on.alike;
    }
