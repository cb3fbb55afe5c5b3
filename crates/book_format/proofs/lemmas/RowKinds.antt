-- A row of each kind is read exactly, if the type of its values is.
use Rattle.std.proofs.Common.{◌≡◌, ◌⊎◌, ℕ, List, codes, Option, Some, None, Result, Ok, Err, refl, sym, subst, ◌∙◌, inl, inr}
use Prim.Native.String.{String}
use Rattle.toml.specs.Data.{Data, Members, get_member}
use Rattle.book_format.specs.inner.Steps.{◌>>=◌}
use Rattle.book_format.specs.Rows.{ValueType}
use Rattle.book_format.specs.Demands.{required, if_there}
use Rattle.book_format.specs.inner.Rows.{read_or, read_at, read_up_to, read_or_default, read_some}
use Rattle.book_format.specs.RowKinds.{HasAt, HasSome, row, row_up_to, row_or_default, optional_row, bound_at}
use Rattle.book_format.specs.declared.fault.BookWhy.{BookWhy}
use Rattle.book_format.specs.declared.fault.BookWhy.TheVariants.{Key}
use Rattle.book_format.proofs.lemmas.Demands.{FollowsDemands, making_keeps_faults}
use Rattle.book_format.proofs.lemmas.Steps.{each_step_gives_value, same_ok_has_same_value}
use Rattle.book_format.proofs.lemmas.Rows.{IsExactRow, IsExactType}

module _ {V : Type 0} (values : ValueType V) (read : Data → Result V BookWhy) (sound : IsExactType values read) where
  -- a value that was read at a key that must be there is there
  read_at_stands : (v : V) (o : Option Data) → read_or (Err Key) read o ≡ Ok v → (d : Data) × (o ≡ Some d) × values.Is d v
  read_at_stands v None h = absurd (cc h)
  read_at_stands v (Some d) h = (d, refl, sound.found d v h)

  -- if a key has a value of the type, it is read, whatever a missing key would give
  value_at_is_read : (missing : Result V BookWhy) (key : List ℕ) (ms : Members) (v : V) → HasAt key values ms v
      → read_or missing read (get_member key ms) ≡ Ok v
  value_at_is_read missing key ms v h = rw h.1 (sound.held h.0 v h.2)

  -- if a key was read that may be missing, either it is missing and the default was read, or its value was
  read_or_stands : (other v : V) (o : Option Data) → read_or (Ok other) read o ≡ Ok v
      → ((o ≡ None) × (v ≡ other)) ⊎ ((d : Data) × (o ≡ Some d) × values.Is d v)
  read_or_stands other v None h = inl (refl, sym (same_ok_has_same_value other v h))
  read_or_stands other v (Some d) h = inr (d, refl, sound.found d v h)

  -- an optional value that was read is what the key has
  read_some_stands : (key : List ℕ) (ms : Members) (v : Option V) (o : Option Data) → get_member key ms ≡ o
      → read_or (Ok None) (λ d. read d >>= λ v. Ok (Some v)) o ≡ Ok v → HasSome key values ms v
  read_some_stands key ms None None at h = at
  read_some_stands key ms (Some v) None at h = absurd (cc h)
  read_some_stands key ms v (Some d) at h =
      let (x, said, same) = each_step_gives_value (read d) (λ v. Ok (Some v)) v h in
      subst (λ o. HasSome key values ms o) (same_ok_has_same_value (Some x) v same) (d, at, sound.found d x said)

  -- if a key has an optional value, it is read
  optional_value_is_read : (key : List ℕ) (ms : Members) (v : Option V) → HasSome key values ms v → read_some key read ms ≡ Ok v
  optional_value_is_read key ms None h = rw h refl
  optional_value_is_read key ms (Some v) h = rw (h.1, sound.held h.0 v h.2) refl

  -- reading a value at a key that must be there follows the demands for the key and on the value
  read_at_follows : (o : Option Data) → FollowsDemands (required Key values.demands o) (read_or (Err Key) read o)
  read_at_follows None = refl
  read_at_follows (Some d) = sound.follows d

  -- reading a value that has a default follows the demands on it, if it is there
  read_or_follows : (other : V) (o : Option Data) → FollowsDemands (if_there values.demands o) (read_or (Ok other) read o)
  read_or_follows other None = refl
  read_or_follows other (Some d) = sound.follows d

  -- reading an optional value follows the demands on it, if it is there
  read_some_follows : (o : Option Data)
      → FollowsDemands (if_there values.demands o) (read_or (Ok None) (λ d. read d >>= λ v. Ok (Some v)) o)
  read_some_follows None = refl
  read_some_follows (Some d) = sound.follows d ∙ making_keeps_faults (read d) Some

-- a row whose key must be there is read exactly, if its type is
pub row_is_exact : {T V : Type 0} (name : String) (values : ValueType V) (read : Data → Result V BookWhy) (field : T → V)
    → IsExactType values read → IsExactRow (row name values field) (read_at (codes name) read)
row_is_exact name values read field sound = record {
  found = λ ms v h. read_at_stands values read sound v (get_member (codes name) ms) h;
  held = λ ms v h. value_at_is_read values read sound (Err Key) (codes name) ms v h;
  follows = λ ms. read_at_follows values read sound (get_member (codes name) ms);
}

-- a row whose type depends on the number at another key is read exactly, if the type is for each number
pub row_up_to_is_exact : {T V : Type 0} (name : String) (values : ℕ → ValueType V) (read : ℕ → Data → Result V BookWhy) (bound : String)
    (field : T → V) → ((n : ℕ) → IsExactType (values n) (read n))
    → IsExactRow (row_up_to name values bound field) (read_up_to (codes name) read (codes bound))
row_up_to_is_exact name values read bound field sound = record {
  found = λ ms v h.
      let most = bound_at (codes bound) ms in read_at_stands (values most) (read most) (sound most) v (get_member (codes name) ms) h;
  held = λ ms v h.
      let most = bound_at (codes bound) ms in value_at_is_read (values most) (read most) (sound most) (Err Key) (codes name) ms v h;
  follows = λ ms.
      let most = bound_at (codes bound) ms in read_at_follows (values most) (read most) (sound most) (get_member (codes name) ms);
}

-- a row with a default is read exactly, if its type is
pub row_or_default_is_exact : {T V : Type 0} (other : V) (name : String) (values : ValueType V) (read : Data → Result V BookWhy)
    (field : T → V) → IsExactType values read
    → IsExactRow (row_or_default other name values field) (read_or_default other (codes name) read)
row_or_default_is_exact other name values read field sound = record {
  found = λ ms v h. read_or_stands values read sound other v (get_member (codes name) ms) h;
  held = λ ms v h. elim h [
    | inl missing ↦ rw (missing.0, missing.1) refl
    | inr has ↦ value_at_is_read values read sound (Ok other) (codes name) ms v has
  ];
  follows = λ ms. read_or_follows values read sound other (get_member (codes name) ms);
}

-- a row that may be missing is read exactly, if its type is
pub optional_is_exact : {T V : Type 0} (name : String) (values : ValueType V) (read : Data → Result V BookWhy) (field : T → Option V)
    → IsExactType values read → IsExactRow (optional_row name values field) (read_some (codes name) read)
optional_is_exact name values read field sound = record {
  found = λ ms v h. read_some_stands values read sound (codes name) ms v (get_member (codes name) ms) refl h;
  held = λ ms v h. optional_value_is_read values read sound (codes name) ms v h;
  follows = λ ms. read_some_follows values read sound (get_member (codes name) ms);
}
