-- What was spent stays spent in each book that a run may leave.
use Rattle.std.proofs.Common.{inl, inr, ℕ, List, [], ◌∷◌, ◌++◌, sym, subst}
use Rattle.account_book.specs.{BookFields}
use Rattle.account_book.specs.Spent.{AreDifferent, IsCounterSpent, AreSpent, spent_by}
use Rattle.log_grammar.proofs.lemmas.ListEnds.{back_keeps_all}
use Rattle.sasl_desk.specs.Desks.{MayLeave}
use Rattle.sasl_desk.proofs.lemmas.runs.Spent.{spent_stays_spent}

-- of spent counters that are all different, those in the last part of the list are so too
rest_is_different : (ps qs : List (List ℕ × ℕ)) → AreDifferent (ps ++ qs) → AreDifferent qs
rest_is_different [] qs all = all
rest_is_different (p ∷ ps) qs all = rest_is_different ps qs all.1

-- of counters that are spent, those in the last part of the list are spent
pub rest_is_spent : (book : BookFields) (ps qs : List (List ℕ × ℕ)) → AreSpent (ps ++ qs) book → AreSpent qs book
rest_is_spent book ps qs spent = record {
  different = rest_is_different ps qs spent.different;
  spent = back_keeps_all (λ (p : List ℕ × ℕ). IsCounterSpent book p.0 p.1) ps qs spent.spent;
}

-- what was spent in a book is spent in each book that a run with it may leave
pub left_book_keeps_spent_counters : (kept left : BookFields) (ps : List (List ℕ × ℕ)) → MayLeave kept left → AreSpent ps kept
    → AreSpent ps left
left_book_keeps_spent_counters kept left ps (inl same) spent = subst (λ (b : BookFields). AreSpent ps b) (sym same) spent
left_book_keeps_spent_counters kept left ps (inr (t, one)) spent =
    rest_is_spent left (spent_by t) ps (spent_stays_spent kept left t ps one spent)
