-- Main lemmas, `read_book_text_stands` and `book_text_is_read` (BookTexts): a text is read as a book if and only if it is that book's.
-- Cited by `Contents::read`, and in Laws, which the laws of src/laws.rt cite. Read in this order:
-- Steps: a step that gives a value. Demands: a reading gives a value, or the fault of the first demand that is not met.
-- PassedTests: a value that passed a test. Rows: a table, row by row. RowKinds: each kind of row.
-- ValueTypes: numbers, bytes and hash functions. NameLists: lists of names. TokenTables: a token. FaultPlaces: the account of a fault.
-- AccountTables: the accounts. Documents: the tree of a book. ReadRanges: what is read is in its ranges. BookTexts: the text of a book.
-- Laws: each text has exactly one book, or exactly one first fault. HexTexts: hexadecimal texts with too few or too many digits.
-- Lists: how a list of names is read. Put: an insert into a table. InOrder: inserts in the order of their keys.
-- WritesItself: a value is written as its own tree. Depths: how deep the tree of a book is.
pub mod AccountTables
pub mod BookTexts
pub mod Demands
pub mod Depths
pub mod Documents
pub mod FaultPlaces
pub mod HexTexts
pub mod InOrder
pub mod Laws
pub mod Lists
pub mod NameLists
pub mod PassedTests
pub mod Put
pub mod ReadRanges
pub mod RowKinds
pub mod Rows
pub mod Steps
pub mod TokenTables
pub mod ValueTypes
pub mod WritesItself
