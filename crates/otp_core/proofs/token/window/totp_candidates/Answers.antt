use Rattle.std.proofs.Common.{rules, FitsSigned, w64, to_z-of_z}
use Rattle.otp_core.proofs.lemmas.Windows.{last_step_cuts_window, no_last_step_keeps_window}
use Rattle.otp_core.proofs.token.window.totp_candidates.Goals as goal

pub returns-in-Some : goal.returns-in-Some
returns-in-Some c = λ w.
    let fits : FitsSigned w64 c.args.token.now.drift = search rules in
    last_step_cuts_window _ _ _ _ _ w c.in-Some.is c.max-first.ensures (simp to_z-of_z at (c.totp_window-near.ensures w))

pub returns-in-None : goal.returns-in-None
returns-in-None c = λ w.
    let fits : FitsSigned w64 c.args.token.now.drift = search rules in
    no_last_step_keeps_window _ _ _ w c.in-None.is (simp to_z-of_z at (c.totp_window-near.ensures w))
