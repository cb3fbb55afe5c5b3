use Rattle.book_format.proofs.lemmas.Laws.{has_one_book_fault}
use Rattle.book_format.proofs.laws.has_one_book_fault.Goals as goal

pub returns : goal.returns
returns c = has_one_book_fault
