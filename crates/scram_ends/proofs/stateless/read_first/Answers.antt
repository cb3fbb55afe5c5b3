use Rattle.std.proofs.Common.{sym, ◌∙◌, subst, refl, inl, inr}
use Rattle.scram_text.proofs.lemmas.FirstUnmet.{found_is_first}
use Rattle.scram_ends.specs.Opening.{IsUnbound}
use Rattle.scram_ends.specs.First.{client_first_faults_in_order, AsksOfClientFirst}
use Rattle.scram_ends.specs.declared.first.FirstFault.TheVariants.{OutsideProfile}
use Rattle.scram_ends.proofs.stateless.read_first.Goals as goal

pub returns-then-not-are_plain : goal.returns-then-not-are_plain
returns-then-not-are_plain c =
    let found = c.in_ok-message.ensures.found in
    let shows = found.2 in
    record {
      ok = tt;
      err = (
        found.0,
        found.1,
        found_is_first (λ row. AsksOfClientFirst row found.0) client_first_faults_in_order OutsideProfile (inr (
          sym shows.mandatory ∙ c.if-message.false,
          inr (
            subst IsUnbound shows.flag c.if-not-is_unbound.ensures.unbound,
            inl (
              refl,
              λ plain. c.if-not-are_plain.ensures.not plain.0 plain.1 (rw shows.name plain.2) (rw shows.authzid plain.3),
            ),
          ),
        )),
      );
    }
