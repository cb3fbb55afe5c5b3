use Rattle.std.proofs.Common.{◌∷◌, ◌++◌, ◌∙◌}
use Rattle.c_library.specs.Verifiers.{outer, inner}
use Rattle.c_library.proofs.lemmas.Verifiers.{fields_regroup, one_field, some_field}
use Rattle.c_library.proofs.verifier.cut.Goals as goal

pub returns-in_err-salt : goal.returns-in_err-salt
returns-in_err-salt c = λ count salt stored server are same.
    let s = c.args.spelling in
    let first = one_field (outer s) c.outer.result c.args.text.now c.in_ok-count.count.now c.in_ok-count.rest.now count
    (salt ++ inner s ∷ (stored ++ outer s ∷ server)) c.outer.ensures c.in_ok-count.ensures.some are.count_ends
    (same ∙ fields_regroup s count salt stored server) in
    absurd (some_field (inner s) c.inner.result c.in_ok-count.rest.now salt (stored ++ outer s ∷ server) c.inner.ensures
    c.in_err-salt.ensures.none first.1)

pub returns-in_err-stored : goal.returns-in_err-stored
returns-in_err-stored c = λ count salt stored server are same.
    let s = c.args.spelling in
    let first = one_field (outer s) c.outer.result c.args.text.now c.in_ok-count.count.now c.in_ok-count.rest.now count
    (salt ++ inner s ∷ (stored ++ outer s ∷ server)) c.outer.ensures c.in_ok-count.ensures.some are.count_ends
    (same ∙ fields_regroup s count salt stored server) in
    let second = one_field (inner s) c.inner.result c.in_ok-count.rest.now c.in_ok-salt.salt.now c.in_ok-salt.rest.now salt
    (stored ++ outer s ∷ server) c.inner.ensures c.in_ok-salt.ensures.some are.salt_ends first.1 in
    absurd (some_field (outer s) c.outer-2.result c.in_ok-salt.rest.now stored server c.outer-2.ensures c.in_err-stored.ensures.none
    second.1)

pub returns : goal.returns
returns c = λ count salt stored server are same.
    let s = c.args.spelling in
    let first = one_field (outer s) c.outer.result c.args.text.now c.in_ok-count.count.now c.in_ok-count.rest.now count
    (salt ++ inner s ∷ (stored ++ outer s ∷ server)) c.outer.ensures c.in_ok-count.ensures.some are.count_ends
    (same ∙ fields_regroup s count salt stored server) in
    let second = one_field (inner s) c.inner.result c.in_ok-count.rest.now c.in_ok-salt.salt.now c.in_ok-salt.rest.now salt
    (stored ++ outer s ∷ server) c.inner.ensures c.in_ok-salt.ensures.some are.salt_ends first.1 in
    let third = one_field (outer s) c.outer-2.result c.in_ok-salt.rest.now c.in_ok-stored.stored.now c.in_ok-stored.server.now stored server
    c.outer-2.ensures c.in_ok-stored.ensures.some are.stored_ends second.1 in
    (first.0, second.0, third.0, third.1)
