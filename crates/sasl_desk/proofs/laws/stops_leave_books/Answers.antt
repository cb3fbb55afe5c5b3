use Rattle.sasl_desk.proofs.lemmas.runs.Stores.{stopped_desk_leaves_book, unbegun_text_is_of_book}
use Rattle.sasl_desk.proofs.laws.stops_leave_books.Goals as goal

pub returns-clause-begun : goal.returns-clause-begun
returns-clause-begun g c = λ start calls desk text s. stopped_desk_leaves_book s text

pub returns-clause-unbegun : goal.returns-clause-unbegun
returns-clause-unbegun g c = λ book store text working read. unbegun_text_is_of_book book store working read text
