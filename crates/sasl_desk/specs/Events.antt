-- What a client does, as its bytes.
use Rattle.std.specs.Prelude.{ℕ, List}
use Rattle.sasl_desk.specs.declared.session.event.Event.{Event}
use Rattle.sasl_desk.specs.declared.session.event.Event.TheVariants.{Line, Gone}

-- a client sends a line, whose bytes these are, or goes away
pub data ClientEvent : Type 0 where
  sends : (text : List ℕ) → ClientEvent
  goes_away : ClientEvent

-- the event that is handed in
abbrev pub event_shown : Event → ClientEvent
event_shown (Line text) = sends text.now
event_shown Gone = goes_away
