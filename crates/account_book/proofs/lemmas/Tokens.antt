-- A book in which one account has another token: the tokens and what servers keep, name by name.
use Rattle.std.proofs.Common.{◌≡◌, inl, inr, ℕ, Bool, true, false, cond, List, [], ◌∷◌, refl, sym, ◌∙◌, ap, subst, IsSome}
use Rattle.std.specs.Prelude.{option_and_then, option_map, unwrap_or}
use Rattle.std.specs.Option.{option_map_or}
use Rattle.std.specs.Map.{lookup, set_value}
use Rattle.std.specs.Str.{bytes_eq}
use Rattle.std.specs.declared.option.Option.{Option}
use Rattle.std.specs.declared.option.Option.TheVariants.{None, Some}
use Rattle.std.specs.BTreeMap.{is_at}
use Rattle.std.proofs.lemmas.Bool.{cases_Bool}
use Rattle.std.proofs.lemmas.Cmp.{eq_by_cmp_equiv, nat_list_cmp_total}
use Rattle.std.proofs.lemmas.Map.{lookup-set_value}
use Rattle.std.proofs.lemmas.Map.Steps.{set_value_same}
use Rattle.std.proofs.lemmas.Map.Text.{is_eq-slice_cmp}
use Rattle.std.proofs.lemmas.Slice.Eq.{bytes_eq-Decides}
use Rattle.mac_core.specs.declared.mechanism.Mechanism.{Mechanism}
use Rattle.mac_core.specs.declared.mechanism.Mechanism.TheVariants.{ScramSha1, ScramSha256}
use Rattle.otp_core.specs.Attempt.{CodeTexts}
use Rattle.otp_core.specs.Ranges.{IsMoment}
use Rattle.otp_core.specs.TokenAttempt.{IsTokenAttempt}
use Rattle.otp_core.specs.declared.token.reply.Reply.{Reply}
use Rattle.otp_core.specs.declared.token.kinds.TokenFields.{TokenFields}
use Rattle.scram_ends.specs.Entry.{Entry}
use Rattle.book_format.specs.Account.{AccountFields}
use Rattle.book_format.specs.Book.{BookFields}
use Rattle.account_book.specs.AccountAttempt.{account_attempt_of}
use Rattle.account_book.specs.Accounts.{name_cmp, account_at, with_changed, IsChanged}
use Rattle.account_book.specs.View.{mech_keys, keys_entry, decoy_entry, entry_in}
use Rattle.account_book.specs.Tokens.{token_at, with_token, IsBookAttempt}
use Rattle.account_book.specs.Laws.{TokensAreApart, EntriesStay, TokensStay, TokensGoBack}

-- if one account is changed, its name has the changed account, and each other name what it had
account_at-with_changed : (old : BookFields) (name : List ℕ) (change : AccountFields → AccountFields) (account : AccountFields)
    → account_at old name ≡ Some account
    → (other : List ℕ) → account_at (with_changed old name change) other
    ≡ cond (bytes_eq name other) (Some (change account)) (account_at old other)
account_at-with_changed old name change account found other =
    let stepped = lookup-set_value (eq_by_cmp_equiv nat_list_cmp_total) (is_at (name_cmp name))
    (λ x y at. (eq_by_cmp_equiv nat_list_cmp_total).congr name x y at) other (change account) old.accounts
    (subst IsSome (sym found) refl) in
    let whole = subst (λ (o : Option AccountFields).
    account_at (record old {
      accounts = option_map_or
          (λ account. set_value (is_at (name_cmp name)) old.accounts (change account)) o old.accounts;
    }) other
    ≡ cond (is_at (name_cmp name) other) (Some (change account)) (account_at old other)) (sym found) stepped in
    whole ∙ ap (λ (b : Bool). cond b (Some (change account)) (account_at old other)) (is_eq-slice_cmp name other)

-- what a server keeps of an account is the same with another token
token_keeps_entry : (m : Mechanism) (token : TokenFields) (account : AccountFields) (decoy : Entry)
    → unwrap_or (option_map (keys_entry (with_token token account).act_as) (mech_keys m (with_token token account))) decoy
    ≡ unwrap_or (option_map (keys_entry account.act_as) (mech_keys m account)) decoy
token_keeps_entry ScramSha1 token account decoy = refl
token_keeps_entry ScramSha256 token account decoy = refl

-- the entry that a book has for a name, by its account of that name, or else the decoy
abbrev entry_by : Mechanism → Entry → Option AccountFields → Entry
entry_by m decoy o = unwrap_or (option_and_then (λ account. option_map (keys_entry account.act_as) (mech_keys m account)) o) decoy

-- if an optional account has a token, the account is there
pub token_has_account : (o : Option AccountFields) (token : TokenFields) → option_and_then (λ account. account.token) o ≡ Some token
    → (account : AccountFields) × (o ≡ Some account)
token_has_account None token has = absurd (cc has)
token_has_account (Some account) token has = (account, refl)

-- if one account has another token, what a server keeps of each name is as before
pub token_keeps_entries : (old : BookFields) (name : List ℕ) (token : TokenFields) (account : AccountFields)
    → account_at old name ≡ Some account
    → (m : Mechanism) (other : List ℕ) → entry_in (with_changed old name (with_token token)) m other ≡ entry_in old m other
token_keeps_entries old name token account found m other =
    let decoy = decoy_entry old m other in
    let changed = account_at-with_changed old name (with_token token) account found other in
    elim (cases_Bool (bytes_eq name other)) [
      | inl is ↦
          let there : account_at (with_changed old name (with_token token)) other ≡ Some (with_token token account) = rw is at changed in
          let before = subst (λ (n : List ℕ). account_at old n ≡ Some account) ((bytes_eq-Decides name other).0 is) found in
          ap (entry_by m decoy) there ∙ (token_keeps_entry m token account decoy ∙ sym (ap (entry_by m decoy) before))
      | inr apart ↦ let same : account_at (with_changed old name (with_token token)) other
          ≡ account_at old other = rw apart at changed in ap (entry_by m decoy) same
    ]

-- if the token of an account is replaced, its name has the new one
pub name_has_new_token : (old : BookFields) (name : List ℕ) (token : TokenFields) (account : AccountFields)
    → account_at old name ≡ Some account
    → (other : List ℕ) → bytes_eq name other ≡ true → token_at (with_changed old name (with_token token)) other ≡ Some token
name_has_new_token old name token account found other is =
    let changed = account_at-with_changed old name (with_token token) account found other in
    let there : account_at (with_changed old name (with_token token)) other ≡ Some (with_token token account) = rw is at changed in
    ap (option_and_then (λ account. account.token)) there

-- if the token of an account is replaced, each other name has the token that it had
pub others_keep_tokens : (old : BookFields) (name : List ℕ) (token : TokenFields) (account : AccountFields)
    → account_at old name ≡ Some account
    → (other : List ℕ) → bytes_eq name other ≡ false → token_at (with_changed old name (with_token token)) other ≡ token_at old other
others_keep_tokens old name token account found other apart =
    let changed = account_at-with_changed old name (with_token token) account found other in
    let same : account_at (with_changed old name (with_token token)) other ≡ account_at old other = rw apart at changed in
    ap (option_and_then (λ account. account.token)) same

-- the law: if the token of one name is replaced, this name has the new one, and each other name the token that it had
pub tokens_are_apart : TokensAreApart
tokens_are_apart old name token next has other =
    let account = token_has_account (account_at old name) token has in
    elim (cases_Bool (bytes_eq name other)) [
      | inl is ↦ rw is (name_has_new_token old name next account.0 account.1 other is)
      | inr apart ↦ rw apart (others_keep_tokens old name next account.0 account.1 other apart)
    ]

-- the law: what a server keeps of each name is as it was after a token is replaced
pub entries_stay : EntriesStay
entries_stay old name token next has m other =
    let account = token_has_account (account_at old name) token has in token_keeps_entries old name next account.0 account.1 m other

-- if a value is set twice, the second stays
set_value-set_value : {K X : Type 0} (test : K → Bool) (es : List (K × X)) (first second : X)
    → set_value test (set_value test es first) second ≡ set_value test es second
set_value-set_value test [] first second = refl
set_value-set_value test (e ∷ es) first second =
    elim (cases_Bool (test e.0)) [
      | inl is ↦ rw is (rw is refl)
      | inr apart ↦ rw apart (rw apart (ap (λ rest. e ∷ rest) (set_value-set_value test es first second)))
    ]

-- an account that is given the token that it has is the same account
own_token_keeps_account : (account : AccountFields) (token : TokenFields) → account.token ≡ Some token → with_token token account ≡ account
own_token_keeps_account account token has = ap (λ (o : Option TokenFields). record account { token = o }) (sym has)

-- accounts of which one is given the token that it has are the same accounts
own_token_keeps_accounts : (es : List (List ℕ × AccountFields)) (name : List ℕ) (account : AccountFields) (token : TokenFields)
    → lookup (is_at (name_cmp name)) es ≡ Some account → account.token ≡ Some token
    → set_value (is_at (name_cmp name)) es (with_token token account) ≡ es
own_token_keeps_accounts es name account token found has =
    set_value_same (is_at (name_cmp name)) es (with_token token account)
    (found ∙ ap (λ (a : AccountFields). Some a) (sym (own_token_keeps_account account token has)))

-- changing an account that is there is setting the changed one at its name
with_changed_is_set_value : (book : BookFields) (name : List ℕ) (change : AccountFields → AccountFields) (account : AccountFields)
    → account_at book name ≡ Some account
    → with_changed book name change ≡ record book { accounts = set_value (is_at (name_cmp name)) book.accounts (change account) }
with_changed_is_set_value book name change account found =
    ap (λ (o : Option AccountFields). record book {
      accounts = option_map_or
          (λ account. set_value (is_at (name_cmp name)) book.accounts (change account)) o book.accounts;
    })
    found

-- an optional account that is there has the token that was found in it
account_has_token : (o : Option AccountFields) (token : TokenFields) (account : AccountFields)
    → option_and_then (λ account. account.token) o ≡ Some token
    → o ≡ Some account → account.token ≡ Some token
account_has_token None token account has found = absurd (cc has)
account_has_token (Some other) token account has found = cc

-- the law: putting a token where it already is changes nothing
pub tokens_stay : TokensStay
tokens_stay old name token has =
    let owned = token_has_account (account_at old name) token has in
    with_changed_is_set_value old name (with_token token) owned.0 owned.1
    ∙ ap (λ (es : List (List ℕ × AccountFields)). record old { accounts = es })
    (own_token_keeps_accounts old.accounts name owned.0 token owned.1 (account_has_token (account_at old name) token owned.0 has owned.1))

-- the law: if a token is replaced and then put back, the book is as it was
pub tokens_go_back : TokensGoBack
tokens_go_back old name token next has =
    let owned = token_has_account (account_at old name) token has in
    let account = owned.0 in
    let own : account.token ≡ Some token = account_has_token (account_at old name) token account has owned.1 in
    let x = with_token next account in
    let changed = account_at-with_changed old name (with_token next) account owned.1 name in
    let there : account_at (with_changed old name (with_token next)) name ≡ Some x = rw ((bytes_eq-Decides name name).1 refl) at changed in
    with_changed_is_set_value (with_changed old name (with_token next)) name (with_token token) x there
    ∙ ap (λ (b : BookFields). record b { accounts = set_value (is_at (name_cmp name)) b.accounts (with_token token x) })
    (with_changed_is_set_value old name (with_token next) account owned.1)
    ∙ ap (λ (es : List (List ℕ × AccountFields)). record old { accounts = es })
    (set_value-set_value (is_at (name_cmp name)) old.accounts x (with_token token x)
    ∙ own_token_keeps_accounts old.accounts name account token owned.1 own)

module _ (book : BookFields) (name : List ℕ) (account : AccountFields) (found : account_at book name ≡ Some account)
    (es : List (List ℕ × AccountFields)) where
  -- a book in which an account is set to what it is, is as it was
  set_to_itself_keeps_book : es ≡ set_value (is_at (name_cmp name)) book.accounts account → record book { accounts = es } ≡ book
  set_to_itself_keeps_book set =
      ap (λ (es : List (List ℕ × AccountFields)). record book { accounts = es })
      (set ∙ set_value_same (is_at (name_cmp name)) book.accounts account found)

  -- if an account is set to itself with another token, its token is changed, and nothing else
  set_with_token_changes_token : (next : TokenFields)
      → es ≡ set_value (is_at (name_cmp name)) book.accounts (with_token next account)
      → IsChanged book name (with_token next) (record book { accounts = es })
  set_with_token_changes_token next set =
      ap (λ (es : List (List ℕ × AccountFields)). record book { accounts = es }) set
      ∙ sym (with_changed_is_set_value book name (with_token next) account found)

  module _ (old : BookFields) (same : book ≡ old) where
    -- if an account without a token is set to itself, that is an attempt on it, without a reply
    pub attempt_without_token : (moment : ℕ) (sent : CodeTexts) (reply : Option Reply) → IsMoment moment → account.token ≡ None
        → reply ≡ None → es ≡ set_value (is_at (name_cmp name)) book.accounts account
        → IsBookAttempt old (account_attempt_of name moment sent reply) (record book { accounts = es })
    attempt_without_token moment sent reply at none no_reply set =
        subst (λ (b : BookFields). IsBookAttempt b (account_attempt_of name moment sent reply) (record book { accounts = es })) same
        (record { is_moment = at; answered = rw (found, none) (no_reply, set_to_itself_keeps_book set) })

    -- if an account is set to itself with the token that an attempt on its token leaves, that is an attempt on the account
    pub attempt_on_token : (moment : ℕ) (sent : CodeTexts) (token next : TokenFields) (reply : Reply) → IsMoment moment
        → account.token ≡ Some token → IsTokenAttempt token moment sent reply next
        → es ≡ set_value (is_at (name_cmp name)) book.accounts (with_token next account)
        → IsBookAttempt old (account_attempt_of name moment sent (Some reply)) (record book { accounts = es })
    attempt_on_token moment sent token next reply at has judged set =
        subst (λ (b : BookFields). IsBookAttempt b (account_attempt_of name moment sent (Some reply)) (record book { accounts = es })) same
        (record {
          is_moment = at;
          answered = rw (found, has) (reply, refl, record { next = next; judged = judged; kept = set_with_token_changes_token next set });
        })
