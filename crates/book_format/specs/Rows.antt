-- The tables of the format, each a list of rows, one for each key. From the rows follow which TOML table is that of a value,
-- what is demanded of a table in which order, and the table that a value is written as.
use Rattle.std.specs.Prelude.{ℕ, ◌≡◌, ◌++◌, List, [], ◌∷◌, map, Option, Some, IsTrue}
use Rattle.toml.specs.Data.{Data, table, Members, no_members, get_member}
use Rattle.book_format.specs.Keys.{is_among, has_only}
use Rattle.book_format.specs.Put.{put_all}
use Rattle.book_format.specs.Demands.{Demand, must}
use Rattle.book_format.specs.declared.fault.BookWhy.{BookWhy}
use Rattle.book_format.specs.declared.fault.BookWhy.TheVariants.{Key}

-- how values of a type are written in TOML, and what is demanded of them
pub record ValueType (V : Type 0) : Type 1 where
  -- this TOML value is that of this value
  pub Is : Data → V → Type 0
  -- the demands that a TOML value has to meet to be that of some value
  pub demands : Data → List (Demand BookWhy)
  -- the TOML value that a value is written as
  pub write : V → Data

-- the TOML value that this value is written as is that of this value
abbrev pub WritesItself : {V : Type 0} → ValueType V → V → Type 0
WritesItself values v = values.Is (values.write v) v

-- a row of the table of a record T: one key, with a value of type V
pub record Row (T : Type 0) : Type 1 where
  pub V : Type 0
  pub key : List ℕ
  -- the table has this value at the key, in the row's way
  pub Has : Members → V → Type 0
  -- the demands on the table at the key
  pub demands : Members → List (Demand BookWhy)
  -- what is written at the key for a value, if anything
  pub write : V → Option Data
  -- the field of the record that the row is for
  pub field : T → V

-- the table of a record T, row by row
pub record Table (T : Type 0) : Type 1 where
  -- keys that have one fixed value each
  pub marks : List (List ℕ × Data)
  -- the other keys
  pub rows : List (Row T)

-- the keys of rows, in the order of the rows
abbrev pub row_keys : {T : Type 0} → List (Row T) → List (List ℕ)
row_keys [] = []
row_keys (r ∷ rows) = r.key ∷ row_keys rows

-- the keys that a table may have
abbrev pub table_keys : {T : Type 0} → Table T → List (List ℕ)
table_keys t = map (λ mark. mark.0) t.marks ++ row_keys t.rows

-- each mark is in the table
abbrev pub HasMarks : List (List ℕ × Data) → Members → Type 0
HasMarks [] ms = Unit {0}
HasMarks (mark ∷ marks) ms = (get_member mark.0 ms ≡ Some mark.1) × HasMarks marks ms

-- the table has at each row the value of its field
abbrev pub HasRows : {T : Type 0} → List (Row T) → Members → T → Type 0
HasRows [] ms x = Unit {0}
HasRows (r ∷ rows) ms x = r.Has ms (r.field x) × HasRows rows ms x

-- the table is that of this record: it has the marks, no unknown key, and each field in its row
pub record IsTable {T : Type 0} (t : Table T) (ms : Members) (x : T) : Type 0 where
  pub marks : HasMarks t.marks ms
  pub known : IsTrue (has_only (is_among (table_keys t)) ms)
  pub rows : HasRows t.rows ms x

-- the TOML value is the table of this record
abbrev pub IsTableIn : {T : Type 0} → Table T → Data → T → Type 0
IsTableIn t d x = (ms : Members) × (d ≡ table ms) × IsTable t ms x

-- the demands of rows on a table, row by row
abbrev pub row_demands : {T : Type 0} → List (Row T) → Members → List (Demand BookWhy)
row_demands [] ms = []
row_demands (r ∷ rows) ms = r.demands ms ++ row_demands rows ms

-- the demands that a table has to meet to be that of a record, except on its marks: no unknown key, and then those of its rows
unfoldable pub table_demands : {T : Type 0} → Table T → Members → List (Demand BookWhy)
table_demands t ms = must (has_only (is_among (table_keys t)) ms) Key ∷ row_demands t.rows ms

-- what is written at each key of the rows, if anything
abbrev pub row_entries : {T : Type 0} → List (Row T) → T → List (List ℕ × Option Data)
row_entries [] x = []
row_entries (r ∷ rows) x = (r.key, r.write (r.field x)) ∷ row_entries rows x

-- what is written at each key of a table
abbrev pub table_entries : {T : Type 0} → Table T → T → List (List ℕ × Option Data)
table_entries t x = map (λ mark. (mark.0, Some mark.1)) t.marks ++ row_entries t.rows x

-- the table that a record is written as, with its keys in byte order
unfoldable pub written_table : {T : Type 0} → Table T → T → Members
written_table t x = put_all (table_entries t x) no_members
