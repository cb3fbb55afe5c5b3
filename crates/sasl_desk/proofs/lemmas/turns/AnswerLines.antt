-- What holds of each line of an answer: it is shown of each line that a session says, and of `E`.
use Rattle.std.proofs.Common.{ℕ, List, ◌++◌}
use Rattle.std.specs.List.{AllByRecursion}
use Rattle.std.specs.declared.option.Option.{Option}
use Rattle.std.specs.declared.option.Option.TheVariants.{None, Some}
use Rattle.log_grammar.specs.Lines.{LogLine, said, ended, cont, accepts, refuses}
use Rattle.sasl_desk.specs.inner.SessionTurns.{said_lines, end_lines}
use Rattle.sasl_desk.specs.declared.session.Session.{Session}
use Rattle.sasl_desk.specs.declared.session.event.Saying.{Saying}
use Rattle.sasl_desk.specs.declared.session.event.Saying.TheVariants.{Nothing, Continues, Accepts, Refuses}

-- what holds of `E` holds of each line by which a session ends
end_lines_have : (P : LogLine → Type 0) → P ended → (session : Option Session) → AllByRecursion P (end_lines session)
end_lines_have P of_end (Some session) = tt
end_lines_have P of_end None = (of_end, tt)

-- what holds of each challenge, acceptance and refusal, and of `E`, holds of each line of an answer
pub answer_lines_have : (P : LogLine → Type 0) → ((text : List ℕ) → P (said (cont text))) → ((text : List ℕ) → P (said (accepts text)))
    → ((text : List ℕ) → P (said (refuses text))) → P ended
    → (says : Saying) (session : Option Session) (message : List ℕ) → AllByRecursion P (said_lines says message ++ end_lines session)
answer_lines_have P of_cont of_ok of_no of_end Nothing session message = end_lines_have P of_end session
answer_lines_have P of_cont of_ok of_no of_end Continues session message = (of_cont message, end_lines_have P of_end session)
answer_lines_have P of_cont of_ok of_no of_end Accepts session message = (of_ok message, end_lines_have P of_end session)
answer_lines_have P of_cont of_ok of_no of_end Refuses session message = (of_no message, end_lines_have P of_end session)
