-- The words of a command line, with each value that begins with a hyphen joined to its option.
use Rattle.std.specs.Prelude.{◌==◌, ◌&&◌, ◌||◌, Bool, false, List, [], ◌∷◌, ◌++◌, codes, if◌then◌else◌}
use Rattle.std.specs.Str.{byte, bytes_eq}
use Rattle.clap.specs.Words.{Text}

-- whether the value of the option that a word names, a name or a nonce, may be a word that begins with a hyphen
abbrev pub takes_hyphen : Text → Bool
takes_hyphen word =
    bytes_eq word (codes "--name") || bytes_eq word (codes "--as") || bytes_eq word (codes "--client-nonce")
    || bytes_eq word (codes "--server-nonce")

-- whether a word begins with a hyphen
abbrev pub begins_with_hyphen : Text → Bool
begins_with_hyphen [] = false
begins_with_hyphen (first ∷ rest) = first == byte "-"

-- whether the second word begins with a hyphen and is the value of the option that the first names
abbrev pub is_value_of : (word next : Text) → Bool
is_value_of word next = begins_with_hyphen next && takes_hyphen word

-- the words of a line, from the left: an option and its value are one word, with `=` between them, if the value begins with a hyphen; all
-- other words are as given
abbrev pub joined : (line : List Text) → List Text
joined [] = []
joined (word ∷ []) = word ∷ []
joined (word ∷ next ∷ rest) =
    if is_value_of word next then (word ++ byte "=" ∷ next) ∷ joined rest else word ∷ joined (next ∷ rest)
