-- An output that is taken back from a log holds what it held in that log.
use Rattle.std.proofs.Common.{◌≡◌, ◌∙◌, ℕ, List, Option, ap}
use Rattle.sasl_log.specs.declared.sink.OverWrite.{OverWrite}

-- an output that was taken from a log, which is the one that was kept, holds what the output of that one held
pub taken_output_holds_log : {O : Type 0} (contents : O → Option (List ℕ)) {taken : Option (List ℕ)} {log kept : OverWrite O}
    → taken ≡ contents log.writer.writer → log ≡ kept → taken ≡ contents kept.writer.writer
taken_output_holds_log contents is same = is ∙ ap (λ (l : OverWrite _). contents l.writer.writer) same
