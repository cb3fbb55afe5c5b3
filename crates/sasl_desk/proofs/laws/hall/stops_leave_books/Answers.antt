use Rattle.sasl_desk.proofs.lemmas.halls.Stores.{stopped_hall_leaves_book}
use Rattle.sasl_desk.proofs.laws.hall.stops_leave_books.Goals as goal

pub returns : goal.returns
returns g c = λ start calls hall text s. stopped_hall_leaves_book s text
