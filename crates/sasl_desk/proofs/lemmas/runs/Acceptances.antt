-- Which lines have an acceptance, and the lines up to the first.
use Rattle.std.proofs.Common.{◌≡◌, true, Bool, List, [], ◌∷◌, ◌++◌, refl, ◌∙◌}
use Rattle.std.specs.List.{list_any}
use Rattle.std.proofs.lemmas.Bool.{or_left, or_right}
use Rattle.std.proofs.lemmas.List.Folds.{list_any-append}
use Rattle.log_grammar.specs.Lines.{LogLine, header_one, header_two, said, heard, bad, gone, ended, accepts}
use Rattle.log_grammar.specs.Counts.{is_acceptance}
use Rattle.sasl_desk.specs.Alone.{up_to_acceptance}

-- the lines have an acceptance
unfoldable pub has_acceptance : List LogLine → Bool
has_acceptance lines = list_any is_acceptance lines

-- lines that begin with lines with an acceptance have an acceptance
pub front_brings_acceptance : (lines more : List LogLine) → has_acceptance lines ≡ true → has_acceptance (lines ++ more) ≡ true
unfolding has_acceptance
front_brings_acceptance lines more is = list_any-append is_acceptance lines more
    ∙ or_left (list_any is_acceptance lines) (list_any is_acceptance more) is

-- lines that end in lines with an acceptance have an acceptance
pub rest_brings_acceptance : (lines more : List LogLine) → has_acceptance more ≡ true → has_acceptance (lines ++ more) ≡ true
unfolding has_acceptance
rest_brings_acceptance lines more is = list_any-append is_acceptance lines more
    ∙ or_right (list_any is_acceptance lines) (list_any is_acceptance more) is

-- what follows lines with an acceptance is not among those up to the acceptance
pub acceptance_cuts_rest : (lines more : List LogLine) → has_acceptance lines ≡ true
    → up_to_acceptance (lines ++ more) ≡ up_to_acceptance lines
unfolding has_acceptance
acceptance_cuts_rest [] more is = absurd (cc is)
acceptance_cuts_rest (said (accepts message) ∷ lines) more is = refl
acceptance_cuts_rest (said line ∷ lines) more is = cc (acceptance_cuts_rest lines more is)
acceptance_cuts_rest (header_one ∷ lines) more is = cc (acceptance_cuts_rest lines more is)
acceptance_cuts_rest (header_two ∷ lines) more is = cc (acceptance_cuts_rest lines more is)
acceptance_cuts_rest (heard line ∷ lines) more is = cc (acceptance_cuts_rest lines more is)
acceptance_cuts_rest (bad ∷ lines) more is = cc (acceptance_cuts_rest lines more is)
acceptance_cuts_rest (gone ∷ lines) more is = cc (acceptance_cuts_rest lines more is)
acceptance_cuts_rest (ended ∷ lines) more is = cc (acceptance_cuts_rest lines more is)
