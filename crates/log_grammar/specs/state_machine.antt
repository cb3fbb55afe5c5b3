-- The grammar once more, for a program that writes or reads a log line by line: a place is a state, and a line leads from one to
-- the next. Laws say that it agrees with the grammar of the folder above.
pub mod Steps
pub mod DueClasses
pub mod NumberedSteps
pub mod NumberedDueClasses
pub mod OpenNumbers
