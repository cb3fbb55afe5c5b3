-- The parts of a verifier that is read.
use Rattle.std.specs.Prelude.{ℕ, ◌≡◌, List}
use Rattle.mac_core.specs.declared.mechanism.Mechanism.{Mechanism}
use Rattle.scram_text.specs.Class.{Lacks}
use Rattle.c_library.specs.Verifiers.{outer, inner}
use Rattle.c_library.specs.declared.verifier.Spelling.{Spelling}
use Rattle.c_library.specs.declared.verifier.Verifier.{Verifier}

-- no field but the last has the byte that ends it
pub record AreCut (s : Spelling) (count salt stored : List ℕ) : Type 0 where
  pub count_ends : Lacks (outer s) count
  pub salt_ends : Lacks (inner s) salt
  pub stored_ends : Lacks (outer s) stored

-- what was found is spelled so, and has these keys of this mechanism
pub record HasKeys (v : Verifier) (s : Spelling) (mechanism : Mechanism) (count : ℕ) (salt stored server : List ℕ) : Type 0 where
  pub is_spelling : v.spelling ≡ s
  pub is_mechanism : v.mechanism ≡ mechanism
  pub is_count : v.count ≡ count
  pub is_salt : v.salt ≡ salt
  pub is_stored : v.stored.items ≡ stored
  pub is_server : v.server.items ≡ server
