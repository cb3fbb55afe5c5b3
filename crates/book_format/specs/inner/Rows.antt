-- How the rows of a table are read.
use Rattle.std.specs.Prelude.{ℕ, List, [], ◌∷◌, Option, Some, None, Result, Ok, Err}
use Rattle.toml.specs.Data.{Data, Members, get_member}
use Rattle.book_format.specs.Keys.{is_among, has_only}
use Rattle.book_format.specs.Rows.{Row, Table, table_keys}
use Rattle.book_format.specs.RowKinds.{bound_at}
use Rattle.book_format.specs.inner.Steps.{◌>>=◌, pass_or}
use Rattle.book_format.specs.inner.Values.{table_of}
use Rattle.book_format.specs.declared.fault.BookWhy.{BookWhy}
use Rattle.book_format.specs.declared.fault.BookWhy.TheVariants.{Key}

-- for each row, how its value is read from a table
abbrev pub RowReadings : {T : Type 0} → List (Row T) → Type 0
RowReadings [] = Unit {0}
RowReadings (r ∷ rows) = (Members → Result r.V BookWhy) × RowReadings rows

infixr 3 ◌&◌
-- two things together: with it, what is said of each row of a table is listed row by row
abbrev pub ◌&◌ : {A B : Type 0} → A → B → A × B
thing & more = (thing, more)

-- a function of the values of all rows, one argument for each, to an X
abbrev pub Maker : {T : Type 0} → List (Row T) → Type 0 → Type 0
Maker [] X = X
Maker (r ∷ rows) X = r.V → Maker rows X

-- how a table is read
pub record Reading {T : Type 0} (t : Table T) : Type 0 where
  pub rows : RowReadings t.rows
  -- the record that the values of the rows make
  pub from_values : Maker t.rows T

-- an X made of the values of all rows, or the fault of the first row that has one
abbrev pub read_rows : {T X : Type 0} (rows : List (Row T)) → RowReadings rows → Maker rows X → Members → Result X BookWhy
read_rows [] readings x ms = Ok x
read_rows (r ∷ rows) readings make ms = readings.0 ms >>= λ value. read_rows rows readings.1 (make value) ms

-- the record of a table whose marks were checked before, or the first fault: unknown keys come before the rows
unfoldable pub read_table : {T : Type 0} (t : Table T) → Reading t → Members → Result T BookWhy
read_table t reading ms =
    pass_or (has_only (is_among (table_keys t)) ms) Key >>= λ known. read_rows t.rows reading.rows reading.from_values ms

-- the record whose table this TOML value is, or the first fault
unfoldable pub table_in : {T : Type 0} (t : Table T) → Reading t → Data → Result T BookWhy
table_in t reading d = table_of d >>= read_table t reading

-- what `read` makes of a value if there is one, else `missing`
abbrev pub read_or : {V : Type 0} → Result V BookWhy → (Data → Result V BookWhy) → Option Data → Result V BookWhy
read_or missing read None = missing
read_or missing read (Some d) = read d

-- what `read` makes of the value at a key, or the fault, which is Key if the key is missing
abbrev pub read_at : {V : Type 0} → List ℕ → (Data → Result V BookWhy) → Members → Result V BookWhy
read_at key read ms = read_or (Err Key) read (get_member key ms)

-- what `read` makes of the value at a key, with the natural number at another key as its bound
abbrev pub read_up_to : {V : Type 0} → List ℕ → (ℕ → Data → Result V BookWhy) → (bound : List ℕ) → Members → Result V BookWhy
read_up_to key read bound ms = read_at key (read (bound_at bound ms)) ms

-- what `read` makes of the value at a key, or `other` if the key is missing
abbrev pub read_or_default : {V : Type 0} → V → List ℕ → (Data → Result V BookWhy) → Members → Result V BookWhy
read_or_default other key read ms = read_or (Ok other) read (get_member key ms)

-- what `read` makes of the value at a key, or None if the key is missing
abbrev pub read_some : {V : Type 0} → List ℕ → (Data → Result V BookWhy) → Members → Result (Option V) BookWhy
read_some key read ms = read_or (Ok None) (λ d. read d >>= λ v. Ok (Some v)) (get_member key ms)
