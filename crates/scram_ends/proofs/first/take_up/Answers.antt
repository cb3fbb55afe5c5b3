use Rattle.std.proofs.Common.{length, sym, ◌∙◌, subst, ap, refl, inl, inr, arith}
use Rattle.scram_text.proofs.lemmas.FirstUnmet.{found_is_first}
use Rattle.scram_ends.specs.Opening.{IsUnbound}
use Rattle.scram_ends.specs.First.{client_first_faults_in_order, AsksOfClientFirst}
use Rattle.scram_ends.specs.declared.first.FirstFault.TheVariants.{OutsideProfile}
use Rattle.scram_ends.proofs.lemmas.client_messages.Lengths.{unbound_header_is_short}
use Rattle.scram_ends.proofs.first.take_up.Goals as goal

pub returns-in_default-clause-err : goal.returns-in_default-clause-err
returns-in_default-clause-err c =
    let found = c.in_ok-message.ensures.found in
    let shows = found.2 in (
      found.0,
      found.1,
      found_is_first (λ row. AsksOfClientFirst row found.0) client_first_faults_in_order OutsideProfile (inr (
        sym shows.mandatory ∙ c.if-message.false,
        inr (
          subst IsUnbound shows.flag c.if-not-is_unbound.ensures.unbound,
          inl (
            refl,
            λ plain. c.in_default.ensures.none plain.0 plain.1 (rw shows.name plain.2) (rw shows.authzid plain.3),
          ),
        ),
      )),
    )

pub returns-clause-header : goal.returns-clause-header
returns-clause-header c =
    let found = c.in_ok-message.ensures.found in
    let shows = found.2 in
    let authzid = c.in-Some.ensures.some.1 in
    let short = unbound_header_is_short found.0 c.in-Some.authzid
    (subst IsUnbound shows.flag c.if-not-is_unbound.ensures.unbound) (rw shows.authzid at authzid) in
    omega (arith, ap length shows.header, short)
