use Rattle.std.proofs.Common.{◌≡◌, map, take}
use Rattle.toml.specs.Data.{string}
use Rattle.toml.specs.View.{view}
use Rattle.book_format.specs.Names.{AreNames}
use Rattle.book_format.proofs.write.account.names_value.Given as goal

-- a text for each name that was given
abbrev pub invariant-loop-name : goal.invariant-loop-name
invariant-loop-name l = record {
  texts : map view l.values.items ≡ map string (take l.name-index l.names);
  plain : AreNames (take l.name-index l.names);
}
