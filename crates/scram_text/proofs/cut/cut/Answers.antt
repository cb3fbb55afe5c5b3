use Rattle.std.proofs.Common.{sym, ◌+◌}
use Rattle.std.proofs.lemmas.List.{take_rest}
use Rattle.scram_text.proofs.lemmas.Parts.{first_comma_cuts_parts, unfound_comma_leaves_one_part, first_comma_cuts_text}
use Rattle.scram_text.proofs.cut.cut.Goals as goal

pub returns-in-None-clause-parts : goal.returns-in-None-clause-parts
returns-in-None-clause-parts c = (unfound_comma_leaves_one_part c.args.text.now (sym c.in-None.ensures)).0

pub returns-in-None-clause-no_comma : goal.returns-in-None-clause-no_comma
returns-in-None-clause-no_comma c = (unfound_comma_leaves_one_part c.args.text.now (sym c.in-None.ensures)).1

pub returns-in-Some-clause-parts : goal.returns-in-Some-clause-parts
returns-in-Some-clause-parts c = (first_comma_cuts_parts c.args.text.now c.in-Some.at (sym c.in-Some.ensures)).0

pub returns-in-Some-clause-no_comma : goal.returns-in-Some-clause-no_comma
returns-in-Some-clause-no_comma c = (first_comma_cuts_parts c.args.text.now c.in-Some.at (sym c.in-Some.ensures)).1

pub returns-in-Some-clause-whole : goal.returns-in-Some-clause-whole
returns-in-Some-clause-whole c = rw (take_rest c.args.text.now (c.in-Some.at + 1))
    (first_comma_cuts_text c.args.text.now c.in-Some.at (sym c.in-Some.ensures))
