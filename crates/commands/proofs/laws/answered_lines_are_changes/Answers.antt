use Rattle.std.proofs.Common.{reverse}
use Rattle.commands.proofs.lemmas.Attempts.{answered_lines_are_changes_all, answered_lines_are_changes_saved, answered_lines_are_changes_first}
use Rattle.commands.proofs.lemmas.Attempts.{answered_lines_are_changes_within, replies_are_changes}
use Rattle.commands.proofs.laws.answered_lines_are_changes.Goals as goal

pub returns-clause-all : goal.returns-clause-all
returns-clause-all g c = answered_lines_are_changes_all g.S.BookStore.IsStored

pub returns-clause-changes : goal.returns-clause-changes
returns-clause-changes g c = λ attempts old new leads.
    replies_are_changes g.S.BookStore.facts g.S.BookStore.IsStored old (reverse attempts) new leads

pub returns-clause-saved : goal.returns-clause-saved
returns-clause-saved g c = answered_lines_are_changes_saved g.S.BookStore.IsStored

pub returns-clause-within : goal.returns-clause-within
returns-clause-within g c = answered_lines_are_changes_within g.S.BookStore.IsStored

pub returns-clause-first : goal.returns-clause-first
returns-clause-first g c = λ path name moment input old fault new text.
    answered_lines_are_changes_first g.S.BookStore.IsStored name moment path input old fault
    new text
