-- The decimal of a count has no comma.
use Rattle.std.proofs.Common.{ℕ, ◌<◌, ◌^◌, arith}
use Rattle.std.specs.Prelude.{decimal}
use Rattle.std.proofs.lemmas.Fmt.{decimal_is_IsNumeral}
use Rattle.std.specs.Str.{byte}
use Rattle.scram_text.specs.Name.{LacksComma}
use Rattle.scram_text.specs.Parts.{IsCount}
use Rattle.scram_text.proofs.lemmas.WithoutByte.{digits_lack_byte}

-- a count is below 2^64
pub count_is_below_2_64 : (count : ℕ) → IsCount count → count < 2 ^ 64
count_is_below_2_64 count is = omega (arith, is.at_most)

-- the decimal of a count has no comma
pub decimal_lacks_comma : (count : ℕ) → IsCount count → LacksComma (decimal count)
decimal_lacks_comma count is =
    digits_lack_byte (byte ",") (decimal count) (omega arith) (decimal_is_IsNumeral count (count_is_below_2_64 count is)).0.1
