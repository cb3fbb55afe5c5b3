-- The four messages: limits, characters, parts, whole messages; the first fault of any other text; what is read and written; laws. And how
-- bytes are split into lines.
pub mod Limits
pub mod Class
pub mod Name
pub mod Base64Field
pub mod Parts
pub mod Messages
pub mod FirstUnmet
pub mod Faults
pub mod Shown
pub mod Draft
pub mod Appended
pub mod SplitLines
pub mod Written
pub mod Laws
pub mod inner
