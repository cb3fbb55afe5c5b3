use Rattle.std.proofs.Common.{◌≡◌, ◌++◌, length, IsTrue}
use Rattle.scram_text.specs.Name.{LacksComma, is_escaped, name_spelling}
use Rattle.scram_text.proofs.name.unescaped.Given as goal

-- the name so far is spelled by what was read, and what is left has whole escapes and no comma
abbrev pub invariant-loop-byte : goal.invariant-loop-byte
invariant-loop-byte l = record {
  read : l.fn.spelled ≡ name_spelling l.name.items ++ l.rest;
  escaped : IsTrue (is_escaped l.rest);
  no_comma : LacksComma l.rest;
}

abbrev pub decreases-loop-byte : goal.decreases-loop-byte
decreases-loop-byte l = length l.rest
