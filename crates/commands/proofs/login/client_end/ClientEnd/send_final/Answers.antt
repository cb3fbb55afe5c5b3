use Rattle.std.proofs.Common.{◌≡◌, ◌++◌, ◌∷◌, [], List, ℕ, subst, rules}
use Rattle.std.specs.Prelude.{codes}
use Rattle.std.specs.Str.{byte}
use Rattle.log_grammar.specs.Payload.{escaped}
use Rattle.commands.proofs.login.client_end.ClientEnd.send_final.Goals as goal

pub returns-in-Ok-clause-says : goal.returns-in-Ok-clause-says
returns-in-Ok-clause-says c = λ login started.
    let (client_final, is, waits) = c.in-Ok.ensures.ok login started in
    let answerable = c.in-Ok.ensures.answerable tt login started in
    let message : c.as_slice.result.now ≡ client_final = search (rules, is) in
    record {
      challenge = answerable.0;
      answerable = answerable.1;
      client_final = client_final;
      waits = waits;
      line = subst (λ (text : List ℕ). c.in_ok-message_line-in-Ok.field-0.items ≡ codes "RESP :"
          ++ (escaped text ++ byte "\n" ∷ [])) message c.in_ok-message_line-in-Ok.ensures.ok;
    }

pub returns-in-Err-Spent-clause-leaves : goal.returns-in-Err-Spent-clause-leaves
returns-in-Err-Spent-clause-leaves c = λ is login started parts answerable.
    rw c.in-Err-Spent.field-0-is at (c.in-Err-Spent.ensures.every login parts started answerable)
