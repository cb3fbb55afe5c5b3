-- The numbers of faults of an account book.
use Rattle.std.specs.Prelude.{ℕ}
use Rattle.book_format.specs.declared.fault.BookWhy.{BookWhy}
use Rattle.book_format.specs.declared.fault.BookWhy.TheVariants.{Toml, Format, Key, Name, Salt, Count, KeyLength, Token, NoMemory}

-- the number of what is wrong with a book's text
abbrev pub book_why_number : BookWhy → ℕ
book_why_number Toml = 60
book_why_number Format = 61
book_why_number Key = 62
book_why_number Name = 63
book_why_number Salt = 64
book_why_number Count = 65
book_why_number KeyLength = 66
book_why_number Token = 67
book_why_number NoMemory = 99
