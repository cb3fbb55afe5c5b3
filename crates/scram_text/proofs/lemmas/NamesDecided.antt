-- It is decidable whether a text spells a plain name.
use Rattle.std.proofs.Common.{◌≡◌, inl, inr, ℕ, List, sym, ◌∙◌, ap, subst}
use Rattle.mac_core.proofs.lemmas.Decided.{Decided, decided_equivalent, decided_both, decided_same_text}
use Rattle.scram_text.specs.Limits.{max_name_len}
use Rattle.scram_text.specs.Class.{is_plain, IsPlainName}
use Rattle.scram_text.specs.Name.{SpellsName, name_spelling}
use Rattle.scram_text.specs.Laws.{NameIsDecided}
use Rattle.scram_text.proofs.lemmas.Decided.{decided_run}
use Rattle.scram_text.proofs.lemmas.Names.{unescaped_from, unescaped_from-spelling}

-- it is decidable whether a text spells a plain name, and which
decided_plain_name : (spelled : List ℕ) → Decided ((name : List ℕ) × IsPlainName name × SpellsName name spelled)
decided_plain_name spelled =
    let found = unescaped_from 0 spelled in
    decided_equivalent (IsPlainName found × SpellsName found spelled) ((name : List ℕ) × IsPlainName name × SpellsName name spelled)
    (λ h. (found, h.0, h.1))
    (λ (name, plain, spells).
    let same : found ≡ name = ap (unescaped_from 0) spells ∙ unescaped_from-spelling name in
    (subst IsPlainName (sym same) plain, subst (λ (n : List ℕ). SpellsName n spelled) (sym same) spells))
    (decided_both _ _ (decided_run is_plain max_name_len found) (decided_same_text spelled (name_spelling found)))

-- the law: it is decidable whether a text spells a plain name
pub name_is_decided : NameIsDecided
name_is_decided spelled = elim (decided_plain_name spelled) [
  | inl there ↦ inl there
  | inr none ↦ inr
      (λ name plain spells. none (name, plain, spells))
]
