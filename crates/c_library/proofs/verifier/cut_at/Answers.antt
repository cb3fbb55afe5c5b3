use Rattle.std.proofs.Common.{◌≡◌, ◌+◌, ℕ, List, ◌∷◌, ◌++◌, length, ◌-◌, take, drop, sym, ◌∙◌, ap, arith, subst}
use Rattle.std.proofs.lemmas.List.{take_all, length-drop}
use Rattle.std.specs.Prelude.{MatchOption}
use Rattle.std.specs.declared.option.Option.{Option}
use Rattle.scram_text.specs.Class.{Lacks}
use Rattle.scram_text.proofs.lemmas.CutAtByte.{text_is_cut}
use Rattle.c_library.proofs.verifier.cut_at.Goals as goal

pub returns-in-None-clause-none : goal.returns-in-None-clause-none
returns-in-None-clause-none c =
    let text = c.args.text.now in
    let b = c.args.at in
    subst (λ (r : Option ℕ). MatchOption r (Lacks b text) (λ at. Lacks b (take at text) × (text ≡ take at text ++ b ∷ drop (at + 1) text)))
    (sym c.index_of.ensures ∙ c.in-None.is) (text_is_cut b text)

pub returns-in-Some-clause-some : goal.returns-in-Some-clause-some
returns-in-Some-clause-some c =
    let text = c.args.text.now in
    let b = c.args.at in
    let index = c.in-Some.index in
    let cut = subst (λ (r : Option ℕ). MatchOption r (Lacks b text)
    (λ at. Lacks b (take at text) × (text ≡ take at text ++ b ∷ drop (at + 1) text)))
    (sym c.index_of.ensures ∙ c.in-Some.is) (text_is_cut b text) in
    let rest = take_all (length text - (index + 1)) (drop (index + 1) text) (omega (arith, length-drop (index + 1) text)) in
    (cut.1 ∙ ap (λ (t : List ℕ). take index text ++ b ∷ t) (sym rest), cut.0)
