-- The open sessions of a hall, each with its number.
use Rattle.std.specs.Prelude.{ℕ, ◌==◌, Bool}
use Rattle.sasl_desk.specs.declared.hall.open_session.OpenSession.{OpenSession}

-- the open session has this number
abbrev pub has_number : ℕ → OpenSession → Bool
has_number number open_session = open_session.number == number
