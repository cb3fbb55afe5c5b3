use Rattle.std.proofs.Common.{sym, ◌∙◌, ap, refl}
use Rattle.std.specs.declared.option.Option.TheVariants.{Some}
use Rattle.std.proofs.lemmas.List.Quantifiers.{position-Some}
use Rattle.std.proofs.lemmas.Option.{slice_get-get_or}
use Rattle.sasl_desk.specs.OpenSessions.{has_number}
use Rattle.sasl_desk.proofs.lemmas.Lists.{found_is_at_position, find_gives_none_without_position}
use Rattle.sasl_desk.proofs.hall.open_sessions.OpenSessions.session.Goals as goal

pub returns-in-Some-clause-some : goal.returns-in-Some-clause-some
returns-in-Some-clause-some c =
    let here = sym c.index_of.ensures ∙ c.in-Some.is in
    let inside = position-Some (has_number c.args.number) c.args.self.now c.in-Some.index c.index.result.now here in (
      c.index.result.now,
      found_is_at_position (has_number c.args.number) c.args.self.now c.in-Some.index here
          ∙ rw (← c.self.view_is) (slice_get-get_or c.self.inside.sessions.items c.in-Some.index c.index.result.now
          (rw (← c.self.view_is) at inside.0)
          ∙ ap Some (sym c.index.ensures)),
      refl,
    )

pub returns-in-None-clause-none : goal.returns-in-None-clause-none
returns-in-None-clause-none c = find_gives_none_without_position (has_number c.args.number) c.args.self.now
    (sym c.index_of.ensures ∙ c.in-None.is)
