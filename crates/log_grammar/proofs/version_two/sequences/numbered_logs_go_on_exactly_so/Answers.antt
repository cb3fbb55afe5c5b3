use Rattle.std.proofs.Common.{◌≡◌, ℕ, List, ◌++◌, [], ◌∷◌, sym, ◌∙◌, ap, subst}
use Rattle.account_book.specs.AccountAttempt.{AccountAttempt}
use Rattle.log_grammar.specs.Lines.{LogLine}
use Rattle.log_grammar.specs.Places.{Place}
use Rattle.log_grammar.specs.Demands.{Accounts, Demands, demands}
use Rattle.log_grammar.specs.state_machine.Steps.{told_at}
use Rattle.log_grammar.specs.Numbered.{Numbered, numbered, IsNumberedLogUpTo}
use Rattle.log_grammar.specs.state_machine.NumberedSteps.{put, IsNumberedTransition}
use Rattle.log_grammar.specs.laws.NumberedLaws.{HasLastNumberedTransition}
use Rattle.log_grammar.proofs.lemmas.many_sessions.OneReading.{own_place_decides_transition, numbered_lines_have_one_reading}
use Rattle.log_grammar.proofs.lemmas.many_sessions.WithoutLast.{numbered_log_has_last_transition}
use Rattle.log_grammar.proofs.lemmas.state_machine.PlaceBefore.{challenge_has_one_account}
use Rattle.log_grammar.proofs.lemmas.many_sessions.LinesOfNumber.{one_and_others_cover_each, put_sets_own, put_keeps_others}
use Rattle.log_grammar.proofs.lemmas.many_sessions.LogSteps.{equal_places_spell_log, numbered_log_goes_on}
use Rattle.log_grammar.proofs.version_two.sequences.numbered_logs_go_on_exactly_so.Goals as goal

-- the line may stand at its number after the log and moves no other number, and `all` is `told` with the reply that the line records
abbrev StandsAndTells : ℕ → Demands → List (Numbered LogLine) → (ℕ → Place) → List AccountAttempt → ℕ → LogLine → (ℕ → Place)
    → List AccountAttempt
    → Type 0
StandsAndTells limit d log places told n line next all =
    IsNumberedTransition limit d log places told n line (next n) × ((m : ℕ) → (m ≡ n → ⊥) → next m ≡ places m)
    × (all ≡ told ++ told_at (places n) line)

-- the last line of a log may stand after the lines before it
last_line_stands : (limit : ℕ) (d : Demands) (log : List (Numbered LogLine)) (places : ℕ → Place) (told : List AccountAttempt) (n : ℕ)
    (line : LogLine)
    (next : ℕ → Place) (all : List AccountAttempt)
    → (s : HasLastNumberedTransition limit d log n line next all) → ((m : ℕ) → s.before m ≡ places m) → s.told ≡ told
    → StandsAndTells limit d log places told n line next all
last_line_stands limit d log places told n line next all s same also = (
  own_place_decides_transition limit d log s.before places s.told told n line (next n) s.goes (same n) also,
  λ m other. s.others m (λ e. other (sym e)) ∙ same m,
  s.told_are ∙ ap (λ (t : List AccountAttempt). t ++ told_at (s.before n) line) also ∙ ap (λ (p : Place). told ++ told_at p line) (same n),
)

-- a log continues with a line that may stand at its number
standing_line_goes_on : (limit : ℕ) (accounts : Accounts) (log : List (Numbered LogLine)) (places : ℕ → Place)
    (told : List AccountAttempt) (n : ℕ) (line : LogLine)
    (next : ℕ → Place) (all : List AccountAttempt) → IsNumberedLogUpTo limit (demands accounts) log places told
    → StandsAndTells limit (demands accounts) log places told n line next all
    → IsNumberedLogUpTo limit (demands accounts) (log ++ numbered n line ∷ []) next all
standing_line_goes_on limit accounts log places told n line next all s stands =
    let more = log ++ numbered n line ∷ [] in
    let longer = numbered_log_goes_on limit (demands accounts) log places told n line (next n) s stands.0 in
    let same = one_and_others_cover_each (λ (m : ℕ). put n (next n) places m ≡ next m) n (put_sets_own n (next n) places)
    (λ m other. put_keeps_others n (next n) places m other ∙ sym (stands.1 m (λ e. other (sym e)))) in
    subst (λ (t : List AccountAttempt). IsNumberedLogUpTo limit (demands accounts) more next t) (sym stands.2)
    (equal_places_spell_log limit (demands accounts) more (put n (next n) places) next (told ++ told_at (places n) line) same longer)

pub returns : goal.returns
returns c = λ limit accounts log places told n line next all s. (
  λ longer.
      let stood = numbered_log_has_last_transition limit (demands accounts) log n line next all longer in
      let same = numbered_lines_have_one_reading limit (demands accounts) (challenge_has_one_account accounts) log stood.before places stood.told
      told stood.spells s in
      last_line_stands limit (demands accounts) log places told n line next all stood same.0 same.1,
  λ stands. standing_line_goes_on limit accounts log places told n line next all s stands,
)
