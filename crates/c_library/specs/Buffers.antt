-- What a call leaves in a caller's buffers.
use Rattle.std.specs.Prelude.{ℕ, ◌-◌, ◌≡◌, List, ◌++◌, length, drop, replicate}

-- the buffer begins with the text, and the rest of it is as before
abbrev pub IsPut : (old new text : List ℕ) → Type 0
IsPut old new text = new ≡ text ++ drop (length text) old

-- the buffer of this length has the text and then zeros
abbrev pub IsPadded : (room : ℕ) → (buffer text : List ℕ) → Type 0
IsPadded room buffer text = buffer ≡ text ++ replicate (room - length text) 0
