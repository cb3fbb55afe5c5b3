-- Demands, first one list of them and then more.
use Rattle.std.proofs.Common.{inl, inr, ℕ, List, [], ◌∷◌, ◌++◌}
use Rattle.c_library.specs.Demands.{Demand, AreMet, IsFirstFault}

-- the first fault of a list of demands is that of a longer one
pub fault_stays_first : (demands more : List Demand) (number : ℕ) → IsFirstFault demands number → IsFirstFault (demands ++ more) number
fault_stays_first [] more number fault = absurd fault
fault_stays_first (d ∷ rest) more number (inl fault) = inl fault
fault_stays_first (d ∷ rest) more number (inr (met, fault)) = inr (met, fault_stays_first rest more number fault)

-- demands that are met, and more that are, are met together
pub both_are_met : (demands more : List Demand) → AreMet demands → AreMet more → AreMet (demands ++ more)
both_are_met [] more met also = also
both_are_met (d ∷ rest) more (met, others) also = (met, both_are_met rest more others also)

-- the first fault of demands that come after others, which are met, is that of all of them
pub fault_after_met : (demands more : List Demand) (number : ℕ) → AreMet demands → IsFirstFault more number
    → IsFirstFault (demands ++ more) number
fault_after_met [] more number met fault = fault
fault_after_met (d ∷ rest) more number (met, others) fault = inr (met, fault_after_met rest more number others fault)
