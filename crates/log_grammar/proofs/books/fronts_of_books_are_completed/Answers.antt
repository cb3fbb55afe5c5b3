use Rattle.log_grammar.proofs.lemmas.kinds.Completed.{fronts_of_books_are_completed}
use Rattle.log_grammar.proofs.books.fronts_of_books_are_completed.Goals as goal

pub returns : goal.returns
returns c = fronts_of_books_are_completed
