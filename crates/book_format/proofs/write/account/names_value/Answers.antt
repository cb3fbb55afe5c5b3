use Rattle.std.proofs.Common.{◌<◌, length, map, sym, ap, ◌∙◌, subst, rules}
use Rattle.std.proofs.lemmas.List.{take_more, map_push, map_more}
use Rattle.toml.specs.Data.{string}
use Rattle.toml.specs.View.{view}
use Rattle.scram_text.specs.Class.{IsPlainName}
use Rattle.book_format.specs.Names.{AreNames}
use Rattle.book_format.proofs.lemmas.WritesItself.{more_names_are_plain}
use Rattle.book_format.proofs.write.account.names_value.Goals as goal

pub loop-name-preserved : goal.loop-name-preserved
loop-name-preserved c =
    let l = c.loop-name in
    let names = c.args.names.now in
    let name = c.name-item.result in
    let below : l.name-index < length names = search rules in
    let seen = c.in_ok-string.ensures ∙ ap string (c.text.ensures.value ∙ c.name-item.is) in
    record {
      texts = ap (map view) c.in_ok-push.ensures.items
          ∙ map_push view l.values.items c.in_ok-string.field-0
          ∙ rw (l.invariant.texts, seen) (sym (map_more string names l.name-index name below));
      plain = subst AreNames (sym (take_more names l.name-index name below))
          (more_names_are_plain _ _ l.invariant.plain (subst IsPlainName c.name-item.is c.text.ensures.fits));
    }
