use Rattle.std.proofs.Common.{refl, reverse}
use Rattle.commands.proofs.lemmas.Attempts.{replies_are_changes}
use Rattle.commands.proofs.laws.other_commands_make_changes.Goals as goal

pub returns-clause-unlock : goal.returns-clause-unlock
returns-clause-unlock g c = λ words old new run. (run.first, refl, run.is_unlocked.1)

pub returns-clause-enrol : goal.returns-clause-enrol
returns-clause-enrol g c = λ words input old new run. (run.is_added.saved.first, refl, run.is_added.saved.is_enrolled)

pub returns-clause-told : goal.returns-clause-told
returns-clause-told g c = λ start told store saved.
    replies_are_changes g.S.BookStore.facts g.S.BookStore.IsStored start (reverse told) saved.last saved.is_last
