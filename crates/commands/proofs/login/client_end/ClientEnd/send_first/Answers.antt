use Rattle.std.proofs.Common.{◌≡◌, ◌++◌, ◌∙◌, sym, rules}
use Rattle.std.specs.Prelude.{codes}
use Rattle.scram_ends.specs.{name_of}
use Rattle.commands.proofs.lemmas.ClientLines.{asked_or_best_is_chosen, no_mechanism_is_chosen}
use Rattle.commands.proofs.login.client_end.ClientEnd.send_first.Goals as goal

pub returns-clause-says : goal.returns-clause-says
returns-clause-says c =
    let (client_first, is, started_by) = c.in-Ok.ensures.ok in
    let message : c.as_slice-2.result.now ≡ client_first = search (rules, is) in
    let front : c.as_slice.result.now ≡ codes "AUTH " ++ (name_of c.in-Some.mechanism ++ codes " :") = search rules in
    record {
      login = _;
      is_of_user = record {
        is_mechanism = asked_or_best_is_chosen c.args.self.now.user.mechanism c.choose.result c.args.names.now c.in-Some.mechanism
            (sym c.or.ensures ∙ c.in-Some.is)
            c.choose.ensures.some c.choose.ensures.best;
        are_limits = c.usual-limits.ensures;
        is_name = search rules;
        is_authzid = search rules;
        is_nonce = search rules;
      };
      waits = started_by;
      line = search (rules, message, front);
    }

pub returns-in_default-clause-leaves : goal.returns-in_default-clause-leaves
returns-in_default-clause-leaves c = λ is mechanism.
    no_mechanism_is_chosen c.args.self.now.user.mechanism c.choose.result c.args.names.now mechanism
    (sym c.or.ensures ∙ c.in_default.is) c.choose.ensures.none
