use Rattle.std.proofs.Common.{◌≡◌, sym, subst, rules, List, ℕ}
use Rattle.std.proofs.lemmas.Result.{IfOk-weaker}
use Rattle.log_grammar.specs.Lines.{IsLine, from_server, mechs, cont, accepts}
use Rattle.commands.specs.inner.ClientSteps.{ShowsKeys}
use Rattle.commands.specs.declared.login.client_end.Stage.{Stage}
use Rattle.commands.specs.declared.login.client_end.Stage.TheVariants.{Silent, Begun, Proved}
use Rattle.commands.proofs.lemmas.ClientLines.{beginning_may_be_said, answer_may_be_said, silence_may_be_kept, no_line_makes_client_leave}
use Rattle.commands.proofs.lemmas.ClientLines.{offer_leaver_has_to_leave, challenge_leaver_has_to_leave, acceptance_leaver_has_to_leave}
use Rattle.commands.proofs.login.client_end.ClientEnd.hear.Goals.{in_default-via-in-Ok+in_default, in_default-via-in_default}
use Rattle.commands.proofs.login.client_end.ClientEnd.hear.Goals as goal

pub returns-in_default-clause-leaves : goal.returns-in_default-clause-leaves
returns-in_default-clause-leaves c = λ left.
    no_line_makes_client_leave c.args.self.now.user c.args.self.now.stage c.args.line.now (λ line is. elim c.in_default.branch [
      | in_default-via-in-Ok+in_default w ↦
          let only = rw w.in_default.is at (c.read_line.ensures.every (from_server line) is) in search (rules, only)
      | in_default-via-in_default w ↦ rw w.in_default.is at (c.read_line.ensures.every (from_server line) is)
    ])

pub returns-in-Proved-Accepts-clause-is_in : goal.returns-in-Proved-Accepts-clause-is_in
returns-in-Proved-Accepts-clause-is_in c =
    let stage : c.args.self.now.stage ≡ Proved c.in-Proved-Accepts.client = sym c.in-Proved-Accepts.ensures.value in
    let line : IsLine c.args.line.now (from_server (accepts c.in-Proved-Accepts.message)) =
    rw (c.in-Ok-FromServer.field-0-is, c.in-Proved-Accepts.is-1) at c.in-Ok-FromServer.ensures.ok in
    IfOk-weaker c.check_signature.result _ _
    (λ next shows is. subst (λ (s : Stage). ShowsKeys s c.args.line.now) (sym stage) (c.in-Proved-Accepts.message, line, shows is))
    c.check_signature.ensures.is_in

pub returns-in-Proved-Accepts-clause-says : goal.returns-in-Proved-Accepts-clause-says
returns-in-Proved-Accepts-clause-says c =
    silence_may_be_kept c.args.self.now c.args.self.now.stage _ c.args.line.now c.check_signature.result c.check_signature.ensures.silent

pub returns-in-Silent-Mechs-clause-says : goal.returns-in-Silent-Mechs-clause-says
returns-in-Silent-Mechs-clause-says c =
    let stage : c.args.self.now.stage ≡ Silent = search (rules, c.in-Silent-Mechs.is-0) in
    let line : IsLine c.args.line.now (from_server (mechs c.in-Silent-Mechs.names.now)) =
    rw (c.in-Ok-FromServer.field-0-is, c.in-Silent-Mechs.is-1) at c.in-Ok-FromServer.ensures.ok in
    beginning_may_be_said c.args.self.now c.args.self.now.stage _ c.args.line.now c.in-Silent-Mechs.names.now c.send_first.result stage
    line c.send_first.ensures.says

pub returns-in_ok-challenge-in-Begun-Cont-clause-says : goal.returns-in_ok-challenge-in-Begun-Cont-clause-says
returns-in_ok-challenge-in-Begun-Cont-clause-says c =
    let stage : c.args.self.now.stage ≡ Begun c.in-Begun-Cont.client = sym c.in-Begun-Cont.ensures.value in
    let line : IsLine c.args.line.now (from_server (cont c.in-Begun-Cont.message)) =
    rw (c.in-Ok-FromServer.field-0-is, c.in-Begun-Cont.is-1) at c.in-Ok-FromServer.ensures.ok in
    let message : c.in-Begun-Cont.message ≡ c.as_slice.result.now = search rules in
    answer_may_be_said c.args.self.now c.in-Begun-Cont.client c.args.self.now.stage _ c.args.line.now c.as_slice.result.now
    c.send_final.result stage
    (subst (λ (text : List ℕ). IsLine c.args.line.now (from_server (cont text))) message line) c.send_final.ensures.says

pub returns-in-Silent-Mechs-clause-leaves : goal.returns-in-Silent-Mechs-clause-leaves
returns-in-Silent-Mechs-clause-leaves c =
    let stage : c.args.self.now.stage ≡ Silent = search (rules, c.in-Silent-Mechs.is-0) in
    let line : IsLine c.args.line.now (from_server (mechs c.in-Silent-Mechs.names.now)) =
    rw (c.in-Ok-FromServer.field-0-is, c.in-Silent-Mechs.is-1) at c.in-Ok-FromServer.ensures.ok in
    offer_leaver_has_to_leave c.args.self.now.user c.args.self.now.stage c.args.line.now c.in-Silent-Mechs.names.now c.send_first.result
    stage line c.send_first.ensures.leaves

pub returns-in_ok-challenge-in-Begun-Cont-clause-leaves : goal.returns-in_ok-challenge-in-Begun-Cont-clause-leaves
returns-in_ok-challenge-in-Begun-Cont-clause-leaves c =
    let stage : c.args.self.now.stage ≡ Begun c.in-Begun-Cont.client = sym c.in-Begun-Cont.ensures.value in
    let line : IsLine c.args.line.now (from_server (cont c.in-Begun-Cont.message)) =
    rw (c.in-Ok-FromServer.field-0-is, c.in-Begun-Cont.is-1) at c.in-Ok-FromServer.ensures.ok in
    let message : c.in-Begun-Cont.message ≡ c.as_slice.result.now = search rules in
    challenge_leaver_has_to_leave c.args.self.now.user c.in-Begun-Cont.client c.args.self.now.stage c.args.line.now c.as_slice.result.now
    c.send_final.result stage
    (subst (λ (text : List ℕ). IsLine c.args.line.now (from_server (cont text))) message line) c.send_final.ensures.leaves

pub returns-in-Proved-Accepts-clause-leaves : goal.returns-in-Proved-Accepts-clause-leaves
returns-in-Proved-Accepts-clause-leaves c =
    let stage : c.args.self.now.stage ≡ Proved c.in-Proved-Accepts.client = sym c.in-Proved-Accepts.ensures.value in
    let line : IsLine c.args.line.now (from_server (accepts c.in-Proved-Accepts.message)) =
    rw (c.in-Ok-FromServer.field-0-is, c.in-Proved-Accepts.is-1) at c.in-Ok-FromServer.ensures.ok in
    acceptance_leaver_has_to_leave c.args.self.now.user c.in-Proved-Accepts.client c.args.self.now.stage c.args.line.now
    c.in-Proved-Accepts.message c.check_signature.result stage line c.check_signature.ensures.leaves
