-- The kinds of rows: a key that must be there, one whose bound is the value at another key, and two that may be missing.
use Rattle.std.specs.Prelude.{ℕ, ◌≡◌, ◌⊎◌, List, codes, pos, Option, Some, None, option_map}
use Prim.Native.String.{String}
use Rattle.toml.specs.Data.{Data, integer, table, Members, get_member, as_table}
use Rattle.book_format.specs.Demands.{if_there, required}
use Rattle.book_format.specs.Rows.{ValueType, Row, Table, IsTableIn, table_demands, written_table}
use Rattle.book_format.specs.declared.fault.BookWhy.TheVariants.{Key}

-- the table has a value of this type at a key
abbrev pub HasAt : {V : Type 0} → List ℕ → ValueType V → Members → V → Type 0
HasAt key values ms v = (d : Data) × (get_member key ms ≡ Some d) × values.Is d v

-- the table has this value at a key, or lacks the key if there is no value
abbrev pub HasSome : {V : Type 0} → List ℕ → ValueType V → Members → Option V → Type 0
HasSome key values ms None = get_member key ms ≡ None
HasSome key values ms (Some v) = HasAt key values ms v

-- the natural number at a key, which bounds the value at another key; 0 if anything else is there, or nothing
abbrev pub bound_at : List ℕ → Members → ℕ
bound_at key ms = bound_of (get_member key ms)
  where
    bound_of : Option Data → ℕ
    bound_of (Some (integer (pos n))) = n
    bound_of o = 0

-- a row whose key must be there
abbrev pub row : {T V : Type 0} → String → ValueType V → (T → V) → Row T
row name values field = record {
  V = _;
  key = codes name;
  Has = HasAt (codes name) values;
  demands = λ ms. required Key values.demands (get_member (codes name) ms);
  write = λ v. Some (values.write v);
  field = field;
}

-- a row whose key must be there, of a type with a bound: the natural number at another key. How a value is written does not depend on
-- the bound, so 0 is used for it there.
abbrev pub row_up_to : {T V : Type 0} → String → (ℕ → ValueType V) → String → (T → V) → Row T
row_up_to name values bound field = record {
  V = _;
  key = codes name;
  Has = λ ms. HasAt (codes name) (values (bound_at (codes bound) ms)) ms;
  demands = λ ms. required Key (values (bound_at (codes bound) ms)).demands (get_member (codes name) ms);
  write = λ v. Some ((values 0).write v);
  field = field;
}

-- a row whose key may be missing. A missing key means `other`, which is written with its key like any value.
abbrev pub row_or_default : {T V : Type 0} → V → String → ValueType V → (T → V) → Row T
row_or_default other name values field = record {
  V = _;
  key = codes name;
  Has = λ ms v. ((get_member (codes name) ms ≡ None) × (v ≡ other)) ⊎ HasAt (codes name) values ms v;
  demands = λ ms. if_there values.demands (get_member (codes name) ms);
  write = λ v. Some (values.write v);
  field = field;
}

-- a row whose key may be missing, which means that there is no value
abbrev pub optional_row : {T V : Type 0} → String → ValueType V → (T → Option V) → Row T
optional_row name values field = record {
  V = Option _;
  key = codes name;
  Has = HasSome (codes name) values;
  demands = λ ms. if_there values.demands (get_member (codes name) ms);
  write = option_map values.write;
  field = field;
}

-- the values that are tables of this form. The marks are not among the demands: either there are none, or they are judged before.
abbrev pub table_type : {T : Type 0} → Table T → ValueType T
table_type t = record {
  Is = IsTableIn t;
  demands = λ d. required Key (table_demands t) (as_table d);
  write = λ x. table (written_table t x);
}
