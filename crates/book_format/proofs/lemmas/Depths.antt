-- A book's tree is no deeper than the parser goes, and all its dates are valid.
use Rattle.std.proofs.Common.{◌≡◌, ℕ, pos, ◌≤◌, List, [], ◌∷◌, map, true, Less, Equal, Greater, nat_cmp, Option, Some, None, option_map, refl, arith}
use Rattle.std.proofs.lemmas.Bool.{and_parts}
use Rattle.std.specs.Cmp.Lexicographic.{slice_cmp}
use Rattle.std.specs.Ordering.{match_ordering}
use Rattle.toml.specs.Data.{Data, string, integer, table, Members, no_members, member, depth, items_depth, members_depth, has_valid_dates}
use Rattle.toml.specs.Data.{items_have_valid_dates, members_have_valid_dates}
use Rattle.toml.specs.View.{items_of}
use Rattle.mac_core.specs.Mechanism.{digest_len_by}
use Rattle.mac_core.specs.declared.mechanism.Mechanism.TheVariants.{ScramSha1, ScramSha256}
use Rattle.otp_core.specs.declared.token.kinds.TokenFields.{TokenFields}
use Rattle.otp_core.specs.declared.token.kinds.TokenFields.TheVariants.{Hotp, Totp}
use Rattle.otp_core.specs.declared.token.kinds.TotpFields.{TotpFields}
use Rattle.book_format.specs.Account.{AccountFields}
use Rattle.book_format.specs.Book.{BookFields}
use Rattle.book_format.specs.Put.{put_member, put_some, put_all}
use Rattle.book_format.specs.Rows.{table_entries, written_table}
use Rattle.book_format.specs.RowKinds.{table_type}
use Rattle.book_format.specs.Tables.{keys_table, sha1_keys_table, sha256_keys_table, token_type, account_table}
use Rattle.book_format.specs.Tokens.{totp_table, token_tree}
use Rattle.book_format.specs.Written.{accounts_tree, book_tree}
use Rattle.book_format.specs.declared.account.MechKeys.{MechKeys}
use Rattle.book_format.proofs.lemmas.Put.{Entries}

-- a value of at most `most` levels, all of whose dates are valid
abbrev pub IsFlat : ℕ → Data → Type 0
IsFlat most d = (depth d ≤ most) × (has_valid_dates d ≡ true)

-- a table whose values have at most `most` levels, and all of whose dates are valid
abbrev pub AreFlat : ℕ → Members → Type 0
AreFlat most ms = (members_depth ms ≤ most) × (members_have_valid_dates ms ≡ true)

-- an optional value, which has at most `most` levels and only valid dates if it is there
abbrev pub IsFlatSome : ℕ → Option Data → Type 0
IsFlatSome most None = Unit {0}
IsFlatSome most (Some d) = IsFlat most d

-- entries each of whose values, if there is one, has at most `most` levels and only valid dates
abbrev pub AllFlat : ℕ → Entries → Type 0
AllFlat most [] = Unit {0}
AllFlat most (e ∷ es) = IsFlatSome most e.1 × AllFlat most es

-- a flat value before flat members makes flat members
member_is_flat : (most : ℕ) (key : List ℕ) (d : Data) (rest : Members) → IsFlat most d → AreFlat most rest
    → AreFlat most (member key d rest)
member_is_flat most key d rest here others = (omega (arith, here.0, others.0), rw (here.1, others.1) refl)

-- of flat members the first value is flat, and so are the others
member_parts_are_flat : (most : ℕ) (key : List ℕ) (d : Data) (rest : Members) → AreFlat most (member key d rest)
    → IsFlat most d × AreFlat most rest
member_parts_are_flat most key d rest h =
    let (here, others) = and_parts (has_valid_dates d) (members_have_valid_dates rest) h.1 in
    ((omega (arith, h.0), here), (omega (arith, h.0), others))

-- flat members stay flat if a flat value is put at a key
put_member_is_flat : (most : ℕ) (key : List ℕ) (d : Data) (ms : Members) → IsFlat most d → AreFlat most ms
    → AreFlat most (put_member key d ms)
put_member_is_flat most key d no_members is h = member_is_flat most key d no_members is h
put_member_is_flat most key d (member k e rest) is h =
    elim (slice_cmp nat_cmp key k) as (λ o.
    AreFlat most (match_ordering o (member key d (member k e rest)) (member k d rest) (member k e (put_member key d rest)))) [
      | Less ↦ member_is_flat most key d (member k e rest) is h
      | Equal ↦ member_is_flat most k d rest is (member_parts_are_flat most k e rest h).1
      | Greater ↦ member_is_flat most k e (put_member key d rest) (member_parts_are_flat most k e rest h).0
          (put_member_is_flat most key d rest is (member_parts_are_flat most k e rest h).1)
    ]

-- flat members stay flat if an optional value that is flat, or none, is put at a key
put_some_is_flat : (most : ℕ) (key : List ℕ) (o : Option Data) (ms : Members) → IsFlatSome most o → AreFlat most ms
    → AreFlat most (put_some key o ms)
put_some_is_flat most key None ms is h = h
put_some_is_flat most key (Some d) ms is h = put_member_is_flat most key d ms is h

-- flat members stay flat if entries are put whose values are flat
put_all_is_flat : (most : ℕ) (es : Entries) (ms : Members) → AllFlat most es → AreFlat most ms → AreFlat most (put_all es ms)
put_all_is_flat most [] ms all h = h
put_all_is_flat most (e ∷ es) ms all h = put_all_is_flat most es (put_some e.0 e.1 ms) all.1 (put_some_is_flat most e.0 e.1 ms all.0 h)

-- if whatever is written of a value is flat, so is what is written of an optional one
option_is_flat : {T : Type 0} (most : ℕ) (write : T → Data) (o : Option T) → ((v : T) → IsFlat most (write v))
    → IsFlatSome most (option_map write o)
option_is_flat most write None each = tt
option_is_flat most write (Some v) each = each v

-- the table of a mechanism's keys has one level
mech_is_flat : (len : ℕ) (m : MechKeys) → IsFlat 1 (table (written_table (keys_table len) m))
unfolding written_table
mech_is_flat len m = (omega arith, refl)

-- the list of some names has no level below it
names_have_no_depth : (names : List (List ℕ)) → items_depth (items_of (map string names)) ≡ 0
names_have_no_depth [] = refl
names_have_no_depth (name ∷ names) = rw (names_have_no_depth names) refl

-- the list of some names has no date that is invalid
names_have_valid_dates : (names : List (List ℕ)) → items_have_valid_dates (items_of (map string names)) ≡ true
names_have_valid_dates [] = refl
names_have_valid_dates (name ∷ names) = names_have_valid_dates names

-- the members of a TOTP token's table are flat, with no level below them
totp_is_flat : (t : TotpFields) → AreFlat 0 (written_table totp_table t)
unfolding written_table
totp_is_flat t =
    let leaf : (0 ≤ 0) × (true ≡ true) = (omega arith, refl) in
    let last = option_is_flat 0 (λ n. integer (pos n)) t.last (λ n. leaf) in
    put_all_is_flat 0 (table_entries totp_table t) no_members
    (leaf, (leaf, (leaf, (leaf, (leaf, (leaf, (leaf, (leaf, (leaf, (last, (leaf, (leaf, (leaf, tt))))))))))))) leaf

-- the tree of a token is flat, with at most one level
token_is_flat : (t : TokenFields) → IsFlat 1 (token_tree t)
unfolding written_table
token_is_flat (Hotp t) = (omega arith, refl)
token_is_flat (Totp t) =
    let flat = totp_is_flat t in
    (omega (arith, flat.0), flat.1)

-- the tree of an account is flat, with at most two levels
account_is_flat : (a : AccountFields) → IsFlat 2 (table (written_table account_table a))
unfolding written_table
account_is_flat a =
    let flat = put_all_is_flat 1 (table_entries account_table a) no_members (
      option_is_flat 1 (table_type sha1_keys_table).write a.sha1 (mech_is_flat (digest_len_by ScramSha1)),
      (
        option_is_flat 1 (table_type sha256_keys_table).write a.sha256 (mech_is_flat (digest_len_by ScramSha256)),
        (
          (omega (arith, names_have_no_depth a.act_as), names_have_valid_dates a.act_as),
          (option_is_flat 1 token_type.write a.token token_is_flat, tt),
        ),
      ),
    ) (omega arith, refl) in
    (omega (arith, flat.0), flat.1)

-- the members of the tree of some accounts are flat, with at most two levels
accounts_are_flat : (entries : List (List ℕ × AccountFields)) → AreFlat 2 (accounts_tree entries)
unfolding accounts_tree
accounts_are_flat [] = (omega arith, refl)
accounts_are_flat (e ∷ entries) =
    member_is_flat 2 e.0 (table (written_table account_table e.1)) _ (account_is_flat e.1) (accounts_are_flat entries)

-- the tree of a book is at most three levels deep below its top, and all its dates are valid
pub book_is_flat : (b : BookFields) → AreFlat 3 (book_tree b)
unfolding book_tree written_table
book_is_flat b =
    let flat = accounts_are_flat b.accounts in
    (omega (arith, flat.0), rw flat.1 refl)
