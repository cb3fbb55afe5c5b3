use Rattle.log_grammar.specs.Demands.{demands}
use Rattle.log_grammar.proofs.lemmas.many_sessions.OneReading.{front_told_comes_first}
use Rattle.log_grammar.proofs.version_two.sequences.first_numbered_lines_are_logs.Goals as goal

pub returns : goal.returns
returns c = λ limit accounts log more places told s.
    let f = front_told_comes_first limit (demands accounts) log more places told s in
    (f.places, f.earlier, f.spells)
