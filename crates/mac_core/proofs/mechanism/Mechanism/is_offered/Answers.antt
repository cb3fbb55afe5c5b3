use Rattle.std.proofs.Common.{◌≡◌, eqb, rules, tests, ◌∙◌}
use Rattle.std.specs.List.{slice_split}
use Rattle.std.specs.Str.{byte, bytes_eq}
use Rattle.std.proofs.lemmas.Iterator.Search.{any_from_yields_List}
use Rattle.std.proofs.lemmas.Iterator.Splits.{YieldsList-from_slice_split}
use Rattle.mac_core.specs.Mechanism.{name_of}
use Rattle.mac_core.proofs.lemmas.Among.{found_iff_among}
use Rattle.mac_core.proofs.mechanism.Mechanism.is_offered.Goals as goal

pub returns : goal.returns
returns c =
    let by_call = any_from_yields_List (λ name. bytes_eq name c.as_bytes-wanted.result.now) _ _ c.any.result c.any.ensures.ran
    (YieldsList-from_slice_split _ (λ b. eqb b (byte " ")) c.args.names.now c.split.ensures.rest c.split.ensures.done c.split.ensures.closure
    (λ x b q k. search (rules, tests))) (λ x b q k. search (rules, tests)) in
    let wanted : c.as_bytes-wanted.result.now ≡ name_of c.args.self = c.as_bytes-wanted.ensures.value ∙ c.name.ensures in
    rw (by_call, wanted) (found_iff_among (slice_split (λ b. eqb b (byte " ")) c.args.names.now) (name_of c.args.self))
