use Rattle.std.proofs.Common.{List, ℕ, sym, ◌∙◌, subst}
use Rattle.std.specs.Prelude.{IfNone}
use Rattle.std.specs.Option.{SomeIff}
use Rattle.std.specs.declared.option.Option.{Option}
use Rattle.std.specs.declared.option.Option.TheVariants.{None, Some}
use Rattle.scram_text.specs.Class.{IsPlainName}
use Rattle.scram_text.specs.Name.{SpellsName}
use Rattle.scram_text.proofs.lemmas.Names.{one_name_per_spelling}
use Rattle.scram_text.proofs.name.SaslText.plain.Goals as goal

-- if the one name that is spelled is not plain, no plain name is spelled
no_plain_name_spelled : (o : Option (List ℕ)) (found spelled : List ℕ) → SpellsName found spelled → SomeIff o (IsPlainName found) found
    → IfNone o ((name : List ℕ) → IsPlainName name → SpellsName name spelled → ⊥)
no_plain_name_spelled None found spelled spells not_plain = λ name plain also. not_plain
    (subst IsPlainName (one_name_per_spelling name found (sym also ∙ spells)) plain)
no_plain_name_spelled (Some name) found spelled spells plain = tt

pub returns-clause-none : goal.returns-clause-none
returns-clause-none c =
    no_plain_name_spelled c.new.result c.as_slice.result.now c.args.self.now
    (cc (c.in_ok-unescaped.ensures.some, c.as_slice.ensures.value, c.self.view_is)) c.new.ensures
