use Rattle.std.proofs.Common.{◌≡◌, ℕ, List, [], ◌++◌, length, ◌∙◌, ap, arith}
use Rattle.std.specs.Prelude.{codes}
use Rattle.scram_text.specs.Limits.{max_salt_len}
use Rattle.scram_text.specs.Written.{server_first_of}
use Rattle.scram_text.proofs.lemmas.Base64.{field_has_its_length}
use Rattle.c_library.proofs.lemmas.Verifiers.{count_is_short, fields_are_server_first}
use Rattle.c_library.proofs.verifier.salt_and_count.Goals.{then-salt-gt88-via-then-salt-gt88}
use Rattle.c_library.proofs.verifier.salt_and_count.Goals.{then-salt-gt88-via-else-salt-gt88+then-count-gt10}
use Rattle.c_library.proofs.verifier.salt_and_count.Goals as goal

pub returns-then-salt-gt88-clause-every : goal.returns-then-salt-gt88-clause-every
returns-then-salt-gt88-clause-every c = λ bytes number field count is also. elim c.then-salt-gt88.branch [
  | then-salt-gt88-via-then-salt-gt88 w ↦
      absurd (omega (arith, field_has_its_length max_salt_len c.args.salt.now bytes is field, w.if-salt-gt88.true))
  | then-salt-gt88-via-else-salt-gt88+then-count-gt10 w ↦
      absurd (omega (arith, ap length also, count_is_short number count, w.if-count-gt10.true))
]

pub returns-in-Ok-clause-every : goal.returns-in-Ok-clause-every
returns-in-Ok-clause-every c = λ bytes number field count is also.
    let front : c.add.new.text.items ≡ codes "r=xy,s=" = c.add.ensures.value
    ∙ ap (λ (t : List ℕ). t ++ codes "r=xy,s=") c.new-text.ensures in
    let salted = c.add-2.ensures.value ∙ (λ i. front i ++ is i) in
    let joined = c.add-3.ensures.value ∙ ap (λ (t : List ℕ). t ++ codes ",i=") salted in
    let text = c.as_slice.ensures.value ∙ c.add-4.ensures.value ∙ (λ i. joined i ++ also i) in
    let shows = c.in-Ok.ensures.every (server_first_of (codes "xy") bytes number [])
    (fields_are_server_first _ bytes number field count text) in
    (shows.salt, shows.count)

pub returns-in-Err-clause-every : goal.returns-in-Err-clause-every
returns-in-Err-clause-every c = λ bytes number field count is also.
    let front : c.add.new.text.items ≡ codes "r=xy,s=" = c.add.ensures.value
    ∙ ap (λ (t : List ℕ). t ++ codes "r=xy,s=") c.new-text.ensures in
    let salted = c.add-2.ensures.value ∙ (λ i. front i ++ is i) in
    let joined = c.add-3.ensures.value ∙ ap (λ (t : List ℕ). t ++ codes ",i=") salted in
    let text = c.as_slice.ensures.value ∙ c.add-4.ensures.value ∙ (λ i. joined i ++ also i) in
    absurd (c.in-Err.ensures.every (server_first_of (codes "xy") bytes number []) (fields_are_server_first _ bytes number field count text))
