use Rattle.std.proofs.Common.{◌≡◌, ℕ, ◌≤◌, List, [], ◌∷◌, ◌++◌, length, sym, ◌∙◌, arith, length-append, rules}
use Rattle.scram_text.specs.Name.{byte_spelling, name_spelling}
use Rattle.scram_text.proofs.lemmas.Names.{byte_spelling_is_nonempty, rest_spells_rest}
use Rattle.scram_text.proofs.name.unescaped.Goals as goal

-- a name of at most 255 bytes has no byte after its first 255
full_name_ends : (front more rest later : List ℕ) (byte : ℕ) → 255 ≤ length front → length (front ++ more) ≤ 255
    → rest ≡ name_spelling more → rest ≡ byte_spelling byte ++ later → ⊥
full_name_ends front [] rest later byte full short spelled next = byte_spelling_is_nonempty byte later (sym next ∙ spelled)
full_name_ends front (c ∷ more) rest later byte full short spelled next =
    let all = length-append front (c ∷ more) in omega (arith, full, short, all)

pub returns-then-is_err-clause-none : goal.returns-then-is_err-clause-none
returns-then-is_err-clause-none c = λ name short spells.
    let found = rest_spells_rest c.loop-byte.name.items c.loop-byte.rest.now name (sym c.loop-byte.invariant.read ∙ spells) in
    full_name_ends c.loop-byte.name.items found.0 c.loop-byte.rest.now c.in-Some.more.now c.in-Some.byte
    (search rules) (rw found.1 at short) found.2 c.in-Some.ensures.first
