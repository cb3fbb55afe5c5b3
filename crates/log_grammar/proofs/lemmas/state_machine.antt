-- Main lemmas, `log_goes_on` and `log_has_last_transition` (LogSteps): a log of version 1 goes on with a line if and only if the line may
-- stand at its place, and is the reply due if it is a reply.
-- Cited by the laws `goes_on_by_a_line`, `goes_on_by_no_other` and `logs_go_on_exactly_so`, by completions, demands, kinds, outcome_laws,
-- login_laws and upgraded_logs, and by `commands` and `sasl_desk`. Read in this order:
-- Within: the parts of a session within others. Growth: a session with one line more. Shortening: a session without its last line.
-- LogSteps: a log with one line more, and without its last. Transitions: what holds of each kind of line holds of every transition.
-- OneReading: the place and the replies of a log follow from its lines. PlaceBefore: so they do with the demands of accounts.
-- DemandsAside: a log is also one without demands. DueClasses: which classes of lines are due at a place.
-- Standings: a line may stand, is of a class that is not due, or fails. StepKinds: a line begins a session, ends one, or does neither.
-- PlacesDecided: it is decidable of which kind a place or a line is.
pub mod Within
pub mod Growth
pub mod Shortening
pub mod LogSteps
pub mod Transitions
pub mod OneReading
pub mod PlaceBefore
pub mod DemandsAside
pub mod DueClasses
pub mod Standings
pub mod StepKinds
pub mod PlacesDecided
