use Rattle.std.proofs.Common.{◌∷◌, ◌++◌}
use Rattle.std.specs.Prelude.{codes, decimal}
use Rattle.std.specs.Str.{byte}
use Rattle.commands.proofs.lemmas.EventWords.{text_begins_with_number, one_text_follows_number}
use Rattle.commands.proofs.hall.event.read_line_event.Goals as goal

pub returns-in_default-clause-none : goal.returns-in_default-clause-none
returns-in_default-clause-none c = λ session moment said is at whole.
    c.in_default.ensures.none session (decimal moment ++ (byte " " ∷ said))
    (text_begins_with_number (codes "line ") c.args.line.now c.in_ok-text.text.now c.in_ok-text.ensures session
    (decimal moment ++ (byte " " ∷ said)) is whole)

pub returns-in-None-clause-none : goal.returns-in-None-clause-none
returns-in-None-clause-none c = λ session moment said is at whole.
    c.in-None.ensures.none moment said at
    (one_text_follows_number (codes "line ") c.args.line.now c.in_ok-text.text.now c.in_ok-text.ensures
    c.in-Some.session c.in-Some.rest.now c.in-Some.ensures.some session (decimal moment ++ (byte " " ∷ said)) is whole)
