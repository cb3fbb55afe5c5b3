use Rattle.std.proofs.Common.{◌≡◌, ℕ, List, ◌↔◌, sym, ◌∙◌, subst}
use Rattle.std.specs.Prelude.{IsTrue}
use Rattle.std.specs.List.{Contains}
use Rattle.scram_text.proofs.lemmas.Names.{one_name_per_spelling}
use Rattle.scram_ends.proofs.stateless.is_among.Goals as goal

pub returns-in-Some : goal.returns-in-Some
returns-in-Some g c = λ name is.
    let same : c.bytes.result.now ≡ name =
    c.bytes.ensures.value ∙ one_name_per_spelling c.in-Some.name name (sym c.in-Some.ensures.some ∙ is.spelled) in
    subst (λ (n : List ℕ). IsTrue c.has.result ↔ Contains (g.N.OtherNames.names c.args.others.now) n) same c.has.ensures
