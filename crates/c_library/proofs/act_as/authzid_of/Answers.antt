use Rattle.std.proofs.Common.{◌≡◌, ℕ, List, sym, ◌∙◌}
use Rattle.std.specs.declared.option.Option.{Option}
use Rattle.std.specs.declared.option.Option.TheVariants.{None, Some}
use Rattle.scram_text.specs.Class.{IsPlainName}
use Rattle.scram_text.specs.Name.{SpellsName}
use Rattle.scram_ends.specs.Opening.{IsAuthzidOf}
use Rattle.std.specs.Prelude.{IfSome, IfNone}
use Rattle.c_library.proofs.lemmas.ActAs.{plain_is_authzid, other_is_no_authzid}
use Rattle.c_library.proofs.act_as.authzid_of.Goals as goal

-- what a saslname was found to spell is the name to act as
found_is_authzid : (part authzid found : Option (List ℕ)) (spelled : List ℕ) → Some spelled ≡ part → IsAuthzidOf authzid part
    → IfSome found (λ name. SpellsName name spelled)
    → IfNone found ((name : List ℕ) → IsPlainName name → SpellsName name spelled → ⊥) → found ≡ authzid
found_is_authzid part authzid (Some name) spelled same is spells none = plain_is_authzid part authzid spelled name same is spells
found_is_authzid part authzid None spelled same is spells none = absurd (other_is_no_authzid part authzid spelled same is none)

pub returns-in-Some : goal.returns-in-Some
returns-in-Some c = λ first name authzid is_first taken.
    let shows = c.in-Ok.ensures.every first is_first in
    found_is_authzid first.authzid authzid c.plain.result c.in-Some.spelled (sym c.in-Some.is ∙ shows.authzid) taken.is_authzid
    c.plain.ensures.some c.plain.ensures.none
