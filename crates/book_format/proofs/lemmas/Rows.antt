-- A table whose rows are read exactly is read as the value whose table it is; any other is refused for the first demand that it does not
-- meet. So it is with such tables as a type of values.
use Rattle.std.proofs.Common.{◌≡◌, List, [], ◌∷◌, Result, Ok, refl, sym, ap, subst, ◌∙◌}
use Rattle.toml.specs.Data.{Data, table, Members, as_table}
use Rattle.book_format.specs.Keys.{is_among, has_only}
use Rattle.book_format.specs.inner.Steps.{pass_or}
use Rattle.book_format.specs.Rows.{ValueType, Row, Table, table_keys, HasMarks, HasRows, IsTable, row_demands, table_demands}
use Rattle.book_format.specs.inner.Rows.{RowReadings, Maker, Reading, read_rows, read_table, table_in}
use Rattle.book_format.specs.inner.Values.{table_of}
use Rattle.book_format.specs.RowKinds.{table_type}
use Rattle.book_format.specs.declared.fault.BookWhy.{BookWhy}
use Rattle.book_format.specs.declared.fault.BookWhy.TheVariants.{Key}
use Rattle.book_format.proofs.lemmas.Demands.{FollowsDemands, both_follow, test_follows, required_follows}
use Rattle.book_format.proofs.lemmas.Steps.{each_step_gives_value, test_was_passed, same_ok_has_same_value}

-- the values of all rows
abbrev pub Values : {T : Type 0} → List (Row T) → Type 0
Values [] = Unit {0}
Values (r ∷ rows) = r.V × Values rows

-- the fields of a T, as the values of the rows
abbrev pub fields_of : {T : Type 0} (rows : List (Row T)) → T → Values rows
fields_of [] x = tt
fields_of (r ∷ rows) x = (r.field x, fields_of rows x)

-- what is made of these values
abbrev pub made : {T X : Type 0} (rows : List (Row T)) → Maker rows X → Values rows → X
made [] x vs = x
made (r ∷ rows) make vs = made rows (make vs.0) vs.1

-- each row has its value
abbrev pub HasValues : {T : Type 0} (rows : List (Row T)) → Members → Values rows → Type 0
HasValues [] ms vs = Unit {0}
HasValues (r ∷ rows) ms vs = r.Has ms vs.0 × HasValues rows ms vs.1

-- a row is read exactly: as the value that the table has there and no other, and otherwise refused for the first demand that is not met
pub record IsExactRow {T : Type 0} (r : Row T) (read : Members → Result r.V BookWhy) : Type 0 where
  pub found : (ms : Members) (v : r.V) → read ms ≡ Ok v → r.Has ms v
  pub held : (ms : Members) (v : r.V) → r.Has ms v → read ms ≡ Ok v
  pub follows : (ms : Members) → FollowsDemands (r.demands ms) (read ms)

-- each row of the list is read exactly
abbrev pub AreExactRows : {T : Type 0} (rows : List (Row T)) → RowReadings rows → Type 0
AreExactRows [] readings = Unit {0}
AreExactRows (r ∷ rows) readings = IsExactRow r readings.0 × AreExactRows rows readings.1

-- a table is read exactly: its T is its fields and nothing else, and each of its rows is read exactly
pub record IsExactTable {T : Type 0} (t : Table T) (reading : Reading t) : Type 0 where
  pub gives : (vs : Values t.rows) → fields_of t.rows (made t.rows reading.from_values vs) ≡ vs
  pub keeps : (x : T) → made t.rows reading.from_values (fields_of t.rows x) ≡ x
  pub rows : AreExactRows t.rows reading.rows

-- values that were read by exact rows are those that the table has there, and what was read is made of them
read_rows_stand : {T X : Type 0} (rows : List (Row T)) (readings : RowReadings rows) (make : Maker rows X) (ms : Members) (x : X)
    → AreExactRows rows readings
    → read_rows rows readings make ms ≡ Ok x → (vs : Values rows) × HasValues rows ms vs × (made rows make vs ≡ x)
read_rows_stand [] readings make ms x sound h = (tt, tt, same_ok_has_same_value make x h)
read_rows_stand (r ∷ rows) readings make ms x sound h =
    let (v, read, rest) = each_step_gives_value (readings.0 ms) (λ v. read_rows rows readings.1 (make v) ms) x h in
    let (vs, has, same) = read_rows_stand rows readings.1 (make v) ms x sound.1 rest in
    ((v, vs), (sound.0.found ms v read, has), same)

-- if the table has the values of exact rows, what is made of them is read
rows_are_read : {T X : Type 0} (rows : List (Row T)) (readings : RowReadings rows) (make : Maker rows X) (ms : Members) (vs : Values rows)
    → AreExactRows rows readings → HasValues rows ms vs → read_rows rows readings make ms ≡ Ok (made rows make vs)
rows_are_read [] readings make ms vs sound h = refl
rows_are_read (r ∷ rows) readings make ms vs sound h =
    rw (sound.0.held ms vs.0 h.0) (rows_are_read rows readings.1 (make vs.0) ms vs.1 sound.1 h.1)

-- a table that has the fields of a value row by row has the rows of the value
fields_fill_rows : {T : Type 0} (rows : List (Row T)) (ms : Members) (x : T) → HasValues rows ms (fields_of rows x) → HasRows rows ms x
fields_fill_rows [] ms x h = tt
fields_fill_rows (r ∷ rows) ms x h = (h.0, fields_fill_rows rows ms x h.1)

-- a table that has the rows of a value has its fields row by row
rows_hold_fields : {T : Type 0} (rows : List (Row T)) (ms : Members) (x : T) → HasRows rows ms x → HasValues rows ms (fields_of rows x)
rows_hold_fields [] ms x h = tt
rows_hold_fields (r ∷ rows) ms x h = (h.0, rows_hold_fields rows ms x h.1)

-- if a value is read from a table that has its marks, the table is that of the value
pub read_table_stands : {T : Type 0} (t : Table T) (reading : Reading t) → IsExactTable t reading → (ms : Members) (x : T)
    → HasMarks t.marks ms → read_table t reading ms ≡ Ok x → IsTable t ms x
unfolding read_table
read_table_stands t reading sound ms x marks h =
    let (u, known, rest) = each_step_gives_value (pass_or (has_only (is_among (table_keys t)) ms) Key)
    (λ u. read_rows t.rows reading.rows reading.from_values ms) x
    h in
    let (vs, has, same) = read_rows_stand t.rows reading.rows reading.from_values ms x sound.rows rest in
    let fields = sym (sound.gives vs) ∙ ap (fields_of t.rows) same in
    record {
      marks = marks;
      known = test_was_passed _ Key u known;
      rows = fields_fill_rows t.rows ms x (subst (λ vs. HasValues t.rows ms vs) fields has);
    }

-- the table of a value is read as this value
pub table_is_read : {T : Type 0} (t : Table T) (reading : Reading t) → IsExactTable t reading → (ms : Members) (x : T) → IsTable t ms x
    → read_table t reading ms ≡ Ok x
unfolding read_table
table_is_read t reading sound ms x h =
    let fields = rows_hold_fields t.rows ms x h.rows in
    rw h.known (rows_are_read t.rows reading.rows reading.from_values ms (fields_of t.rows x) sound.rows fields ∙ ap Ok (sound.keeps x))

-- reading rows follows their demands
rows_follow : {T : Type 0} (X : Type 0) (rows : List (Row T)) (readings : RowReadings rows) (make : Maker rows X) (ms : Members)
    → AreExactRows rows readings → FollowsDemands (row_demands rows ms) (read_rows rows readings make ms)
rows_follow X [] readings make ms sound = refl
rows_follow X (r ∷ rows) readings make ms sound =
    both_follow (r.demands ms) (row_demands rows ms) (readings.0 ms) (λ v. read_rows rows readings.1 (make v) ms)
    (sound.0.follows ms) (λ v is. rows_follow X rows readings.1 (make v) ms sound.1)

-- reading a table follows its demands
pub table_follows : {T : Type 0} (t : Table T) (reading : Reading t) → IsExactTable t reading → (ms : Members)
    → FollowsDemands (table_demands t ms) (read_table t reading ms)
unfolding read_table table_demands
table_follows t reading sound ms = test_follows (has_only (is_among (table_keys t)) ms) Key (row_demands t.rows ms)
    (λ known. read_rows t.rows reading.rows reading.from_values ms)
    (λ is. rows_follow _ t.rows reading.rows reading.from_values ms sound.rows)

-- a type of values is read exactly: as its own values and no other, and otherwise refused for the first demand that is not met
pub record IsExactType {V : Type 0} (values : ValueType V) (read : Data → Result V BookWhy) : Type 0 where
  pub found : (d : Data) (v : V) → read d ≡ Ok v → values.Is d v
  pub held : (d : Data) (v : V) → values.Is d v → read d ≡ Ok v
  pub follows : (d : Data) → FollowsDemands (values.demands d) (read d)

-- a value that is read as a table is that table
pub read_members_stand : (d : Data) (ms : Members) → table_of d ≡ Ok ms → d ≡ table ms
read_members_stand (table ns) ms h = ap table (same_ok_has_same_value ns ms h)
read_members_stand d ms h = absurd (cc h)

-- if a table without marks is read exactly, so is the type of such tables
pub table_type_is_exact : {T : Type 0} (t : Table T) (reading : Reading t) → IsExactTable t reading
    → ((ms : Members) → HasMarks t.marks ms) → IsExactType (table_type t) (table_in t reading)
unfolding table_in
table_type_is_exact t reading sound marks = record {
  found = λ d x h.
      let (ms, is_table, rest) = each_step_gives_value (table_of d) (read_table t reading) x h in
      (ms, read_members_stand d ms is_table, read_table_stands t reading sound ms x (marks ms) rest);
  held = λ d x h. rw h.1 (table_is_read t reading sound h.0 x h.2);
  follows = λ d. required_follows Key (table_demands t) (as_table d) (read_table t reading) (table_follows t reading sound);
}
