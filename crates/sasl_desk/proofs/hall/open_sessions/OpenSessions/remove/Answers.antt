use Rattle.std.proofs.Common.{sym, ◌∙◌, refl, arith}
use Rattle.std.proofs.lemmas.Bool.{eqb-true}
use Rattle.std.proofs.lemmas.List.Quantifiers.{position-Some}
use Rattle.std.proofs.lemmas.List.Sorted.{IsPermutation-swap_remove}
use Rattle.sasl_desk.specs.OpenSessions.{has_number}
use Rattle.sasl_desk.proofs.lemmas.Lists.{find_gives_none_without_position}
use Rattle.sasl_desk.proofs.hall.open_sessions.OpenSessions.remove.Goals as goal

pub returns-in-Some-clause-some : goal.returns-in-Some-clause-some
returns-in-Some-clause-some c =
    let place = position-Some (has_number c.args.number) c.args.self.now c.in-Some.index c.swap_remove.result
    (sym c.index_of.ensures ∙ c.in-Some.is) in (
      rw (← c.self.view_is, c.swap_remove.ensures.items)
          (IsPermutation-swap_remove c.self.inside.sessions.items c.in-Some.index c.swap_remove.result
          (rw (← c.self.view_is) at place.0) c.swap_remove.ensures.value),
      eqb-true _ c.args.number (rw (← c.swap_remove.ensures.value) at (rw (← c.self.view_is) at place.1)),
      omega (arith, c.swap_remove.ensures.len, c.self.invariant),
    )

pub returns-in-None-clause-none : goal.returns-in-None-clause-none
returns-in-None-clause-none c =
    (find_gives_none_without_position (has_number c.args.number) c.args.self.now (sym c.index_of.ensures ∙ c.in-None.is), refl)
