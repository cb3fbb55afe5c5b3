-- What a call does to a vector that it appends a text to.
use Rattle.std.specs.Prelude.{ℕ, ◌+◌, ◌≤◌, ◌<◌, ◌≡◌, List, ◌++◌, length, Result, OnOk, OnErr, Vec, vec_items, vec_len, vec_capacity}

-- the vector's capacity does not shrink
abbrev pub KeepsRoom : {Z : Type 0} → (old new : Vec ℕ Z) → Type 0
KeepsRoom old new = vec_capacity old ≤ vec_capacity new

-- if the call returns Err, the vector's bytes are as before. In no case does its capacity shrink.
abbrev pub LeavesOnErr : {T E Z : Type 0} → Result T E → (old new : Vec ℕ Z) → Type 0
LeavesOnErr result old new = OnErr result (vec_items new ≡ vec_items old) × KeepsRoom old new

-- if the call returns Ok, the text is appended; if it returns Err, nothing is. In no case does the vector's capacity shrink.
abbrev pub IsAppended : {T E Z : Type 0} → Result T E → (old new : Vec ℕ Z) → (text : List ℕ) → Type 0
IsAppended result old new text =
    OnOk result (vec_items new ≡ vec_items old ++ text) × LeavesOnErr result old new

-- the vector's spare capacity is too small for so many bytes
abbrev pub LacksRoomFor : {Z : Type 0} → Vec ℕ Z → (bytes : ℕ) → Type 0
LacksRoomFor v bytes = vec_capacity v < vec_len v + bytes

-- the vector's spare capacity is too small for the text
abbrev pub LacksRoom : {Z : Type 0} → Vec ℕ Z → (text : List ℕ) → Type 0
LacksRoom v text = LacksRoomFor v (length text)

-- the text is appended, as `IsAppended` says; if the call returns Err, the vector had no room reserved for the text
abbrev pub IsAppendedOrFull : {T E Z : Type 0} → Result T E → (old new : Vec ℕ Z) → (text : List ℕ) → Type 0
IsAppendedOrFull result old new text = IsAppended result old new text × OnErr result (LacksRoom old text)
