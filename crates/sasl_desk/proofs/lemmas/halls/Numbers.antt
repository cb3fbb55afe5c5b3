-- The calls and the place of each number, when one call more of one number leads its session to a place.
use Rattle.std.proofs.Common.{◌≡◌, inl, inr, ℕ, List, ◌∷◌, refl, sym, subst}
use Rattle.std.specs.List.{AllByRecursion}
use Rattle.std.proofs.lemmas.Bool.{eq-eqb}
use Rattle.std.proofs.lemmas.Bool.Decides.{eqb_tells}
use Rattle.account_book.specs.{BookFields}
use Rattle.account_book.specs.Store.{StoreFacts}
use Rattle.log_grammar.specs.Places.{Place}
use Rattle.log_grammar.specs.Demands.{Accounts}
use Rattle.log_grammar.specs.Numbered.{Numbered, numbered, of_number}
use Rattle.log_grammar.specs.state_machine.NumberedSteps.{put}
use Rattle.log_grammar.proofs.lemmas.many_sessions.LinesOfNumber.{one_and_others_cover_each, put_sets_own, put_keeps_others}
use Rattle.sasl_desk.specs.Desks.{IsStoredAt}
use Rattle.sasl_desk.specs.Halls.{IsSessionRun, IsOpenSessionAt}
use Rattle.sasl_desk.specs.Runs.{Call, server_nonce_of}
use Rattle.sasl_desk.specs.Sessions.{IsSessionAt}
use Rattle.sasl_desk.specs.declared.hall.open_session.OpenSession.{OpenSession}
use Rattle.sasl_desk.proofs.lemmas.Lists.{each_follows_from_both}

-- the first element of a numbered list is the first of those of its number
pub own_item_comes_first : {X : Type 0} (n : ℕ) (x : X) (xs : List (Numbered X)) → of_number n (numbered n x ∷ xs) ≡ x ∷ of_number n xs
own_item_comes_first n x xs = rw (eq-eqb n n refl) refl

-- the first element of a numbered list is none of those of another number
pub other_item_is_skipped : {X : Type 0} (n m : ℕ) (x : X) (xs : List (Numbered X)) → (n ≡ m → ⊥)
    → of_number m (numbered n x ∷ xs) ≡ of_number m xs
other_item_is_skipped n m x xs other = elim (eqb_tells m n) [
  | inl same ↦ absurd (other (sym same.1))
  | inr differ ↦ rw differ.0 refl
]

-- one call more of this number, which leads its session to this place
module _ (n : ℕ) (call : Call) (calls : List (Numbered Call)) (next : Place) (places : ℕ → Place) where
  -- what holds of the number's calls with this one, and of the place to which it leads, holds of the number
  own_calls_lead_on : (P : List Call → Place → Type 0) → P (call ∷ of_number n calls) next
      → P (of_number n (numbered n call ∷ calls)) (put n next places n)
  own_calls_lead_on P is =
      subst (λ (l : List Call). P l (put n next places n)) (sym (own_item_comes_first n call calls))
      (subst (λ (p : Place). P (call ∷ of_number n calls) p) (sym (put_sets_own n next places)) is)

  -- what held of the calls and the place of another number still holds of them
  other_calls_stay : (P : List Call → Place → Type 0) (m : ℕ) → (n ≡ m → ⊥) → P (of_number m calls) (places m)
      → P (of_number m (numbered n call ∷ calls)) (put n next places m)
  other_calls_stay P m other is =
      subst (λ (l : List Call). P l (put n next places m)) (sym (other_item_is_skipped n m call calls other))
      (subst (λ (p : Place). P (of_number m calls) p) (sym (put_keeps_others n next places m other)) is)

  -- after one call more, the session of each number has a run, if it had one and the call continues its own
  pub each_session_has_run : (accounts : Accounts) → IsSessionRun accounts (call ∷ of_number n calls) next
      → ((m : ℕ) → IsSessionRun accounts (of_number m calls) (places m))
      → (m : ℕ) → IsSessionRun accounts (of_number m (numbered n call ∷ calls)) (put n next places m)
  each_session_has_run accounts own others =
      one_and_others_cover_each (λ (m : ℕ). IsSessionRun accounts (of_number m (numbered n call ∷ calls)) (put n next places m)) n
      (own_calls_lead_on (IsSessionRun accounts) own) (λ m other. other_calls_stay (IsSessionRun accounts) m other (others m))

  -- after one call more, a store that is as it has to be after that session's calls is so after all calls
  pub store_fits_next_call : (IsStored : List ℕ → Type 0) (accounts : Accounts) (book : BookFields) (store : StoreFacts)
      → IsStoredAt IsStored accounts (call ∷ of_number n calls) next book store
      → IsStoredAt IsStored accounts (of_number n (numbered n call ∷ calls)) (put n next places n) book store
  store_fits_next_call IsStored accounts book store = own_calls_lead_on (λ l p. IsStoredAt IsStored accounts l p book store)

  -- after one call more, open sessions of other numbers stand where they stood
  pub other_open_sessions_stay : (accounts : Accounts) (others : List OpenSession)
      → AllByRecursion (IsOpenSessionAt accounts calls places) others
      → AllByRecursion (λ open_session. open_session.number ≡ n → ⊥) others
      → AllByRecursion (IsOpenSessionAt accounts (numbered n call ∷ calls) (put n next places)) others
  other_open_sessions_stay accounts others standing differ =
      each_follows_from_both (IsOpenSessionAt accounts calls places) (λ open_session. open_session.number ≡ n → ⊥)
      (IsOpenSessionAt accounts (numbered n call ∷ calls) (put n next places)) others standing differ
      (λ open_session is apart. other_calls_stay (λ l p. IsSessionAt accounts p open_session.session
      × (open_session.server_nonce ≡ server_nonce_of l))
      open_session.number (λ same. apart (sym same)) is)
