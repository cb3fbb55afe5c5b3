use Rattle.std.proofs.Common.{inl, inr, List, [], ◌∷◌, ◌++◌, ℕ, Option, reverse, subst}
use Rattle.std.specs.Io.KnownBytes.{Appends}
use Rattle.sasl_desk.proofs.lemmas.runs.BooksAfterReplies.{replies_spend_counters}
use Rattle.commands.specs.Attempts.{printed_replies, PrintsUntil}
use Rattle.commands.proofs.lemmas.Attempts.{answered_lines_are_changes_all, answered_lines_are_changes_saved, answered_lines_are_changes_first}
use Rattle.commands.proofs.lemmas.Attempts.{answered_lines_are_changes_within, earlier_counters_are_spent, run_holds_its_book}
use Rattle.commands.proofs.laws.verified_counters_are_spent.Goals as goal

pub returns-clause-all : goal.returns-clause-all
returns-clause-all g c = λ words input old all_passed new run text spent may before.
    let (attempts, makes, printed) = answered_lines_are_changes_all _ _ run.moment input [] run.first all_passed run.last
    run.answers in (
      run.last.held.book,
      attempts,
      answered_lines_are_changes_saved _ _ run.moment input [] run.first all_passed run.last text run.answers
          (run_holds_its_book _ words old run.moment run.first run.begins) may,
      makes,
      subst (λ (o : Option (List ℕ)). Appends o new (printed_replies attempts)) run.begins.is_printed
          (subst (λ (o : Option (List ℕ)). Appends run.first.printed o (printed_replies attempts)) run.printed printed),
      replies_spend_counters run.first.held.book (reverse attempts) run.last.held.book spent makes.leads before,
    )

pub returns-clause-first : goal.returns-clause-first
returns-clause-first g c = λ words input old fault new run text spent may before.
    let (left, last, attempts, is_text, makes, printed) = answered_lines_are_changes_first _ _ run.moment _ input
    run.first fault run.last text run.answers (run_holds_its_book _ words old run.moment run.first run.begins) may in (
      left,
      last,
      attempts,
      is_text,
      makes,
      subst (λ (o : Option (List ℕ)). PrintsUntil fault attempts o new) run.begins.is_printed
          (subst (λ (o : Option (List ℕ)). PrintsUntil fault attempts run.first.printed o) run.printed printed),
      replies_spend_counters run.first.held.book (reverse attempts) left spent makes.leads before,
    )

pub returns-clause-between : goal.returns-clause-between
returns-clause-between g c = λ words input old moment first last all_passed middle text spent begins answers may before.
    let (attempts, makes, printed) = answered_lines_are_changes_all _ _ moment input last first all_passed middle
    answers in (
      attempts,
      answered_lines_are_changes_saved _ _ moment input last first all_passed middle text answers
          (run_holds_its_book _ words old moment first begins) may,
      subst (λ (o : Option (List ℕ)). Appends o middle.printed (printed_replies attempts)) begins.is_printed printed,
      replies_spend_counters first.held.book (reverse attempts) middle.held.book spent makes.leads before,
    )

pub returns-clause-within : goal.returns-clause-within
returns-clause-within g c = λ words input old moment first middle asked text spent begins saves may before.
    let (attempts, printed, left) = answered_lines_are_changes_within _ _ moment input first middle asked text saves
    (run_holds_its_book _ words old moment first begins) may in
    let shown : Appends old middle.printed (printed_replies attempts) =
    subst (λ (o : Option (List ℕ)). Appends o middle.printed (printed_replies attempts)) begins.is_printed printed in
    elim left [
      | inl (is_text, makes) ↦ (
        middle.held.book,
        attempts,
        is_text,
        shown,
        replies_spend_counters first.held.book (reverse attempts) middle.held.book spent makes.leads before,
      )
      | inr (is_text, makes) ↦ (
        saves.next,
        attempts,
        is_text,
        shown,
        earlier_counters_are_spent attempts saves.attempt spent saves.next
            (replies_spend_counters first.held.book (reverse (attempts ++ saves.attempt ∷ [])) saves.next spent makes.leads
            before),
      )
    ]
