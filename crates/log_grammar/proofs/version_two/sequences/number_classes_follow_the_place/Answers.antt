use Rattle.log_grammar.proofs.lemmas.many_sessions.DueClasses.{number_classes_follow_the_place}
use Rattle.log_grammar.proofs.version_two.sequences.number_classes_follow_the_place.Goals as goal

pub returns : goal.returns
returns c = number_classes_follow_the_place
