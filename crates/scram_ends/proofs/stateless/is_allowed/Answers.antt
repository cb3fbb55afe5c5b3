use Rattle.std.proofs.Common.{◌≡◌, sym, ◌∙◌}
use Rattle.scram_ends.proofs.lemmas.Stateless.{own_name_is_allowed}
use Rattle.scram_ends.proofs.stateless.is_allowed.Goals as goal

pub returns-then-are_same : goal.returns-then-are_same
returns-then-are_same g c = λ entry plain act_as others of_name of_authzid.
    let same : c.in-Some.spelled ≡ c.args.name.now =
    sym c.spelled.ensures.value ∙ (c.are_same.ensures.0 c.if-are_same.true ∙ c.spelled-in-Some.ensures.value) in (
      (λ _. own_name_is_allowed entry plain act_as c.args.authzid.now c.args.name.now c.in-Some.spelled c.in-Some.is same of_name of_authzid),
      λ _. c.if-are_same.true,
    )
