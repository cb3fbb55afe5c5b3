-- The base64 of bytes passes a test that its symbols and its padding pass.
use Rattle.std.proofs.Common.{◌≡◌, ℕ, zero, suc, ◌+◌, ◌*◌, ◌/◌, ◌%◌, ◌<◌, Bool, true, List, [], ◌∷◌, length, replicate, refl, arith}
use Rattle.std.specs.Prelude.{slice_index}
use Rattle.std.specs.List.{list_all}
use Rattle.std.proofs.lemmas.Bool.{and_parts}
use Rattle.std.proofs.lemmas.List.Folds.{list_all-append}
use Rattle.base64.specs.Engines.{standard}
use Rattle.base64.specs.GeneralPurpose.{IsBytes}
use Rattle.base64.specs.Rfc4648.{encode_symbols, padding_len}
use Rattle.scram_text.specs.Base64Field.{base64}

-- if all symbols of a list pass a test, the one at each index does
symbol_at_index_passes_test : (test : ℕ → Bool) (symbols : List ℕ) (k : ℕ) → k < length symbols → list_all test symbols ≡ true
    → test (slice_index symbols k) ≡ true
symbol_at_index_passes_test test [] k short all = absurd (omega (arith, short))
symbol_at_index_passes_test test (c ∷ symbols) zero short all = (and_parts (test c) (list_all test symbols) all).0
symbol_at_index_passes_test test (c ∷ symbols) (suc k) short all =
    symbol_at_index_passes_test test symbols k (omega (arith, short)) (and_parts (test c) (list_all test symbols) all).1

-- the 64 symbols
abbrev table : List ℕ
table = standard.encode_table

-- if the 64 symbols pass a test, the one at each index does
standard_symbol_passes_test : (test : ℕ → Bool) → list_all test table ≡ true → (k : ℕ) → k < 64 → test (slice_index table k) ≡ true
standard_symbol_passes_test test all k short = symbol_at_index_passes_test test table k short all

-- if the 64 symbols pass a test, so do those of the text of bytes
symbols_pass_test : (test : ℕ → Bool) → list_all test table ≡ true → (bytes : List ℕ) → IsBytes bytes
    → list_all test (encode_symbols table bytes) ≡ true
unfolding encode_symbols
symbols_pass_test test all [] fits = refl
symbols_pass_test test all (a ∷ []) fits =
    rw (
      standard_symbol_passes_test test all (a / 4) (omega (arith, fits 0)),
      standard_symbol_passes_test test all (a % 4 * 16)
          (omega arith),
    ) refl
symbols_pass_test test all (a ∷ b ∷ []) fits =
    rw (
      standard_symbol_passes_test test all (a / 4) (omega (arith, fits 0)),
      standard_symbol_passes_test test all (a % 4 * 16 + b / 16) (omega (arith, fits 1)),
      standard_symbol_passes_test test all (b % 16 * 4) (omega arith),
    ) refl
symbols_pass_test test all (a ∷ b ∷ c ∷ rest) fits =
    rw (
      standard_symbol_passes_test test all (a / 4) (omega (arith, fits 0)),
      standard_symbol_passes_test test all (a % 4 * 16 + b / 16) (omega (arith, fits 1)),
      standard_symbol_passes_test test all (b % 16 * 4 + c / 64) (omega (arith, fits 2)),
      standard_symbol_passes_test test all (c % 64) (omega arith),
    ) (symbols_pass_test test all rest (λ i. fits (suc (suc (suc i)))))

-- if the padding's byte passes a test, so does the padding
padding_passes_test : (test : ℕ → Bool) → test 61 ≡ true → (n : ℕ) → list_all test (replicate n 61) ≡ true
padding_passes_test test pads zero = refl
padding_passes_test test pads (suc n) = rw pads (padding_passes_test test pads n)

-- if the 64 symbols and the padding's byte pass a test, so does the base64 of bytes
pub base64_passes_test : (test : ℕ → Bool) → list_all test standard.encode_table ≡ true → test 61 ≡ true → (bytes : List ℕ) → IsBytes bytes
    → list_all test (base64 bytes) ≡ true
unfolding base64
base64_passes_test test all pads bytes fits =
    rw (
      list_all-append test (encode_symbols table bytes) (replicate (padding_len (length bytes)) 61),
      symbols_pass_test test all bytes fits,
      padding_passes_test test pads (padding_len (length bytes)),
    ) refl
