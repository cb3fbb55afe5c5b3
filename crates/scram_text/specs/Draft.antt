-- A text that is composed piece by piece.
use Rattle.std.specs.Prelude.{ℕ, ◌≡◌, ◌<◌, true, false, List, [], ◌∷◌, length}
use Rattle.std.specs.Str.{byte}
use Rattle.scram_text.specs.declared.draft.Draft.{Draft}

-- the draft is one of this text: it holds the text, or is marked as too long, and then the text has more than `most` bytes
pub record IsDraftOf {most : ℕ} (draft : Draft most) (text : List ℕ) : Type 0 where
  pub held : draft.too_long ≡ false → draft.text.items ≡ text
  pub too_long : draft.too_long ≡ true → most < length text

-- a comma and the text, or nothing if the text is empty
abbrev pub after_comma : List ℕ → List ℕ
after_comma [] = []
after_comma (c ∷ text) = byte "," ∷ c ∷ text
