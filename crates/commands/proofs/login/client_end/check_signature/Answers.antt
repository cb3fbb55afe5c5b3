use Rattle.std.proofs.Common.{◌≡◌, sym, subst, rules, ℕ, List}
use Rattle.scram_ends.specs.Login.{IsAuthentic}
use Rattle.commands.proofs.login.client_end.check_signature.Goals as goal

pub returns-in-Ok-last-clause-is_in : goal.returns-in-Ok-last-clause-is_in
returns-in-Ok-last-clause-is_in c =
    let message : c.as_slice.result.now ≡ c.args.message = search rules in
    λ is l x. subst (λ (text : List ℕ). IsAuthentic text x.signature) message (c.in-Ok-last.ensures.ok l x)

pub returns-clause-leaves : goal.returns-clause-leaves
returns-clause-leaves c =
    let message : c.as_slice.result.now ≡ c.args.message = search rules in
    λ is l x authentic.
    let accepted = c.in-Err.ensures.every l x
    (subst (λ (text : List ℕ). IsAuthentic text x.signature) (sym message) authentic) in cc accepted
