use Rattle.log_grammar.proofs.lemmas.state_machine.DueClasses.{classes_follow_the_place}
use Rattle.log_grammar.proofs.version_one.sequences.classes_follow_the_place.Goals as goal

pub returns : goal.returns
returns c = classes_follow_the_place
