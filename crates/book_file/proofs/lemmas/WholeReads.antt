-- When a read of at most so many bytes was a read of the whole file.
use Rattle.std.proofs.Common.{◌≡◌, ℕ, ◌<◌, List, [], ◌++◌, IfSome, length, take, ◌∙◌, subst, arith, length-take, take_all}
use Rattle.std.specs.Prelude.{option_map}
use Rattle.std.specs.declared.option.Option.{Option}
use Rattle.std.specs.declared.option.Option.TheVariants.{None, Some}

-- if fewer bytes than the limit were read, they are all the file's bytes
pub all_were_read : (limit : ℕ) (known : Option (List ℕ)) (before bytes : List ℕ) → before ≡ []
    → IfSome (option_map (take limit) known) (λ taken. bytes ≡ before ++ taken) → length bytes < limit → IfSome known (λ all. bytes ≡ all)
all_were_read limit None before bytes empty is few = tt
all_were_read limit (Some all) before bytes empty is few =
    let taken : bytes ≡ take limit all = subst (λ (b : List ℕ). bytes ≡ b ++ take limit all) empty is in
    let fewer : length (take limit all) < limit = subst (λ (b : List ℕ). length b < limit) taken few in
    taken ∙ take_all limit all (omega (arith, length-take limit all, fewer))
