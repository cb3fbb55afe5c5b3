-- Each account of a book stays in its ranges, whatever is changed, added or removed.
use Rattle.std.proofs.Common.{◌≡◌, ◌≤◌, cond, length, unwrap_or, ap, sym, subst, Bool, true, false, List, [], ◌∷◌, ℕ, IfSome, OnOk, OnErr, Option}
use Rattle.std.proofs.Common.{Result, Bor, option_copied}
use Rattle.std.specs.declared.option.Option.TheVariants.{None, Some}
use Rattle.std.specs.declared.result.Result.TheVariants.{Ok, Err}
use Rattle.std.specs.declared.cmp.Ordering.{Ordering}
use Rattle.std.specs.declared.cmp.Ordering.TheVariants.{Less, Equal, Greater}
use Rattle.std.specs.BTreeMap.{insert_entry}
use Rattle.std.specs.Option.{ForSome}
use Rattle.std.specs.Map.{lookup, remove_entry, set_value}
use Rattle.std.specs.Ordering.{match_ordering}
use Rattle.otp_core.specs.declared.token.kinds.TokenFields.{TokenFields}
use Rattle.book_format.specs.Account.{AccountFields, IsAccount, max_names}
use Rattle.book_format.specs.Book.{AreAccounts}
use Rattle.account_book.specs.Accounts.{with_act_as}
use Rattle.account_book.specs.Tokens.{with_token}

-- if the accounts of two lists are in their ranges, so are those of the list that a test chooses
either_list_is_in_range : (b : Bool) (es fs : List (List ℕ × AccountFields)) → AreAccounts es → AreAccounts fs → AreAccounts (cond b es fs)
either_list_is_in_range true es fs h k = h
either_list_is_in_range false es fs h k = k

-- if the accounts of three lists are in their ranges, so are those of the list that an ordering chooses
chosen_list_is_in_range : (o : Ordering) (es fs gs : List (List ℕ × AccountFields)) → AreAccounts es → AreAccounts fs → AreAccounts gs
    → AreAccounts (match_ordering o es fs gs)
chosen_list_is_in_range Less es fs gs h k l = h
chosen_list_is_in_range Equal es fs gs h k l = k
chosen_list_is_in_range Greater es fs gs h k l = l

-- if an account and an optional one are in their ranges, so is what a test chooses of the two
either_account_is_in_range : (b : Bool) (account : AccountFields) (o : Option AccountFields) → IsAccount account → IfSome o IsAccount
    → IfSome (cond b (Some account) o) IsAccount
either_account_is_in_range true account o h k = h
either_account_is_in_range false account o h k = k

-- the account that a look-up finds among accounts in their ranges is in its ranges
pub found_account_is_in_range : (test : List ℕ → Bool) (es : List (List ℕ × AccountFields)) → AreAccounts es
    → IfSome (lookup test es) IsAccount
found_account_is_in_range test [] h = tt
found_account_is_in_range test (e ∷ es) h =
    either_account_is_in_range (test e.0) e.1 (lookup test es) h.0 (found_account_is_in_range test es h.1)

-- if an option holds only an account in its ranges, so does a reference that shows the same
pub shown_account_is_in_range : (r : Option (Bor AccountFields)) (o : Option AccountFields) → option_copied r ≡ o → IfSome o IsAccount
    → IfSome r (λ account. IsAccount account.now)
shown_account_is_in_range None o e h = tt
shown_account_is_in_range (Some account) o e h = subst (λ found. IfSome found IsAccount) (sym e) h

-- accounts remain in their ranges after one is removed
pub remove_entry_keeps_ranges : (test : List ℕ → Bool) (es : List (List ℕ × AccountFields)) → AreAccounts es
    → AreAccounts (remove_entry test es)
remove_entry_keeps_ranges test [] h = tt
remove_entry_keeps_ranges test (e ∷ es) h =
    either_list_is_in_range (test e.0) es (e ∷ remove_entry test es) h.1 (h.0, remove_entry_keeps_ranges test es h.1)

-- accounts remain in their ranges if one of them is replaced by one in its ranges
pub set_value_keeps_ranges : (test : List ℕ → Bool) (es : List (List ℕ × AccountFields)) (account : AccountFields)
    → AreAccounts es → IsAccount account → AreAccounts (set_value test es account)
set_value_keeps_ranges test [] account h k = tt
set_value_keeps_ranges test (e ∷ es) account h k =
    either_list_is_in_range (test e.0) ((e.0, account) ∷ es) (e ∷ set_value test es account) (k, h.1)
    (h.0, set_value_keeps_ranges test es account h.1 k)

-- accounts remain in their ranges if one that is found among them is changed so that it remains in its ranges
pub change_keeps_ranges : (test : List ℕ → Bool) (es : List (List ℕ × AccountFields)) (account changed : AccountFields)
    → AreAccounts es → lookup test es ≡ Some account → (IsAccount account → IsAccount changed) → AreAccounts (set_value test es changed)
change_keeps_ranges test es account changed h found keeps =
    set_value_keeps_ranges test es changed h (keeps (subst (λ o. IfSome o IsAccount) found (found_account_is_in_range test es h)))

-- accounts remain in their ranges with one more that is in its ranges
pub insert_entry_keeps_ranges : (cmp : List ℕ → List ℕ → Ordering) (es : List (List ℕ × AccountFields)) (name : List ℕ)
    (account : AccountFields)
    → AreAccounts es → IsAccount account → AreAccounts (insert_entry cmp es name account)
insert_entry_keeps_ranges cmp [] name account h k = (k, tt)
insert_entry_keeps_ranges cmp (e ∷ es) name account h k =
    chosen_list_is_in_range (cmp name e.0) ((name, account) ∷ e ∷ es) ((e.0, account) ∷ es) (e ∷ insert_entry cmp es name account)
    (k, h) (k, h.1) (h.0, insert_entry_keeps_ranges cmp es name account h.1 k)

-- accounts remain in their ranges after an insertion, whether there was memory for it or not
pub insertion_keeps_ranges : {X Y : Type 0} (r : Result X Y) (cmp : List ℕ → List ℕ → Ordering) (es new : List (List ℕ × AccountFields))
    (name : List ℕ) (account : AccountFields) → OnOk r (new ≡ insert_entry cmp es name account) → OnErr r (new ≡ es)
    → AreAccounts es → IsAccount account → AreAccounts new
insertion_keeps_ranges (Ok old) cmp es new name account e f h k =
    subst AreAccounts (sym e) (insert_entry_keeps_ranges cmp es name account h k)
insertion_keeps_ranges (Err fault) cmp es new name account e f h k = subst AreAccounts (sym f) h

-- an account remains in its ranges with another token
pub token_keeps_ranges : (token : TokenFields) (account : AccountFields) → IsAccount account → IsAccount (with_token token account)
token_keeps_ranges token account h = record { sha1 = h.sha1; sha256 = h.sha256; names = h.names }

-- an account remains in its ranges with other names to act as, if there are not too many
pub act_as_keeps_ranges : (names : List (List ℕ)) (account : AccountFields) → length names ≤ max_names → IsAccount account
    → IsAccount (with_act_as names account)
act_as_keeps_ranges names account few h = record { sha1 = h.sha1; sha256 = h.sha256; names = few }

-- what is true of a value is true of what the option of that value holds
pub fact_holds_for_some : {X : Type 0} (P : X → Type 0) (x : X) → P x → ForSome (Some x) P
fact_holds_for_some P x h y e = subst P (ap (λ o. unwrap_or o x) e) h
