-- A name among names, as a test finds it.
use Rattle.std.proofs.Common.{ℕ, List, ◌↔◌, sym, refl}
use Rattle.std.specs.Prelude.{IsTrue}
use Rattle.std.specs.List.{Contains, list_any}
use Rattle.std.specs.Str.{bytes_eq}
use Rattle.std.proofs.lemmas.List.Folds.{list_any-from_Any}
use Rattle.std.proofs.lemmas.Map.Views.{Contains-from_any}
use Rattle.std.proofs.lemmas.Slice.Eq.{bytes_eq-Decides}

-- a test for a name passes for one in the list if and only if the name is in it
pub found_iff_among : (names : List (List ℕ)) (wanted : List ℕ)
    → IsTrue (list_any (λ name. bytes_eq name wanted) names) ↔ Contains names wanted
found_iff_among names wanted = (
  Contains-from_any {eq = λ q name. bytes_eq name q} (λ x y same. sym ((bytes_eq-Decides y x).0 same)) wanted names,
  λ among. list_any-from_Any (λ name. bytes_eq name wanted) names
      (among.0, wanted, among.1, among.2, (bytes_eq-Decides wanted wanted).1 refl),
)
