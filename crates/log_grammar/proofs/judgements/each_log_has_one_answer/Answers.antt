use Rattle.std.proofs.Common.{inl, inr}
use Rattle.log_grammar.proofs.lemmas.kinds.OneAnswer.{each_log_of_any_version_is_judged, clean_log_has_no_fault, log_has_one_judgement}
use Rattle.log_grammar.proofs.judgements.each_log_has_one_answer.Goals as goal

pub returns : goal.returns
returns c = λ accounts bytes. elim (each_log_of_any_version_is_judged accounts bytes) [
  | inl clean ↦ inl (clean, λ k why is. clean_log_has_no_fault accounts bytes k clean is.fault)
  | inr judged ↦
      let (k, why, is) = judged in
      inr (
        λ clean. clean_log_has_no_fault accounts bytes k clean is.fault,
        k,
        why,
        is,
        λ j other also. log_has_one_judgement accounts bytes j k other why also is,
      )
]
