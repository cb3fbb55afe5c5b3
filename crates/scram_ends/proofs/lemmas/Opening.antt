-- Two texts open a login of an account in at most one way, and what is refused is not taken up.
use Rattle.std.proofs.Common.{◌≡◌, ℕ, List, sym, ◌∙◌, ap, refl, subst}
use Rattle.std.specs.List.{AllByRecursion}
use Rattle.std.specs.declared.option.Option.{Option}
use Rattle.std.specs.declared.option.Option.TheVariants.{None, Some}
use Rattle.std.proofs.lemmas.Option.{same_Some}
use Rattle.scram_text.specs.FirstUnmet.{IsFirstUnmet}
use Rattle.scram_text.specs.Messages.{ClientFirstParts, ServerFirstParts}
use Rattle.scram_text.proofs.lemmas.FirstUnmet.{met_rows_have_no_first_unmet}
use Rattle.scram_text.proofs.lemmas.Names.{one_name_per_spelling}
use Rattle.scram_text.proofs.lemmas.ClientFirst.{has_one_client_first}
use Rattle.scram_text.proofs.lemmas.ServerFirst.{has_one_server_first}
use Rattle.scram_ends.specs.Entry.{Entry}
use Rattle.scram_ends.specs.Laws.{RefusedIsNotTakenUp, TakenUpMeetsEveryRow}
use Rattle.scram_ends.specs.Opening.{IsNameOf, IsAuthzidOf, IsTakenUp, Opening, IsOpening}
use Rattle.scram_ends.specs.First.{client_first_faults_in_order, AsksOfClientFirst}
use Rattle.scram_ends.specs.declared.first.FirstFault.TheVariants.{Text}

-- a saslname spells at most one plain name
pub one_name_per_saslname : (one other part also : List ℕ) → part ≡ also → IsNameOf one part → IsNameOf other also → one ≡ other
one_name_per_saslname one other part also same is is_also = one_name_per_spelling one other (sym is.spelled ∙ (same ∙ is_also.spelled))

-- the saslname of a name to act as, if there is one, spells at most one plain name
pub one_authzid_per_saslname : (one other part also : Option (List ℕ))
    → part ≡ also → IsAuthzidOf one part → IsAuthzidOf other also → one ≡ other
one_authzid_per_saslname None None part also same is is_also = refl
one_authzid_per_saslname (Some one) (Some other) (Some part) (Some also) same is is_also =
    ap (λ (name : List ℕ). Some name) (one_name_per_saslname one other part also (same_Some part also same) is is_also)
one_authzid_per_saslname None (Some other) None (Some also) same is is_also = cc
one_authzid_per_saslname (Some one) None (Some part) None same is is_also = cc
one_authzid_per_saslname None (Some other) None None same is is_also = absurd is_also
one_authzid_per_saslname None (Some other) (Some part) also same is is_also = absurd is
one_authzid_per_saslname (Some one) (Some other) None also same is is_also = absurd is
one_authzid_per_saslname (Some one) (Some other) (Some part) None same is is_also = absurd is_also
one_authzid_per_saslname (Some one) None None also same is is_also = absurd is
one_authzid_per_saslname (Some one) None (Some part) (Some also) same is is_also = absurd is_also

-- the opening of these parts and names
abbrev opening_from : ClientFirstParts → List ℕ → Option (List ℕ) → ServerFirstParts → Opening
opening_from first name authzid challenge = record { first = first; name = name; authzid = authzid; challenge = challenge }

-- openings of the same parts and names are the same
openings_are_same : (a b : ClientFirstParts) (name other : List ℕ) (authzid also : Option (List ℕ)) (x y : ServerFirstParts)
    → a ≡ b → name ≡ other → authzid ≡ also → x ≡ y → opening_from a name authzid x ≡ opening_from b other also y
openings_are_same a b name other authzid also x y e f g h = cc

-- two texts are at most one opening of an account
pub one_opening : (e : Entry) (client_first server_first : List ℕ) (o other : Opening)
    → IsOpening e client_first server_first o → IsOpening e client_first server_first other → o ≡ other
one_opening e client_first server_first o other is also =
    let first : o.first ≡ other.first = has_one_client_first client_first o.first other.first is.is_first also.is_first in
    openings_are_same o.first other.first o.name other.name o.authzid other.authzid o.challenge other.challenge first
    (one_name_per_saslname o.name other.name o.first.name other.first.name
    (ap (λ (p : ClientFirstParts). p.name) first) is.taken_up.is_name also.taken_up.is_name)
    (one_authzid_per_saslname o.authzid other.authzid o.first.authzid other.first.authzid
    (ap (λ (p : ClientFirstParts). p.authzid) first) is.taken_up.is_authzid also.taken_up.is_authzid)
    (has_one_server_first server_first o.challenge other.challenge is.is_challenge also.is_challenge)

-- parts with which a server takes up a login meet every row
taken_up_meets_rows : (first : ClientFirstParts) (name : List ℕ) (authzid : Option (List ℕ))
    → IsTakenUp first name authzid → AllByRecursion (λ row. AsksOfClientFirst row first) client_first_faults_in_order
taken_up_meets_rows first name authzid taken =
    (taken.not_mandatory, (taken.unbound, ((name, authzid, taken.is_name, taken.is_authzid), tt)))

-- parts that meet every row are taken up, with the names that the last row gives
met_rows_are_taken_up : (first : ClientFirstParts) → AllByRecursion (λ row. AsksOfClientFirst row first) client_first_faults_in_order
    → (name : List ℕ) × (authzid : Option (List ℕ)) × IsTakenUp first name authzid
met_rows_are_taken_up first (not_mandatory, (unbound, ((name, authzid, is_name, is_authzid), rest))) =
    (name, authzid, record { not_mandatory = not_mandatory; unbound = unbound; is_name = is_name; is_authzid = is_authzid })

-- the law: a message is taken up if and only if its parts meet every row
pub taken_up_meets_every_row : TakenUpMeetsEveryRow
taken_up_meets_every_row first = (λ (name, authzid, taken). taken_up_meets_rows first name authzid taken, met_rows_are_taken_up first)

-- the law: what is refused is not taken up
pub refused_is_not_taken_up : RefusedIsNotTakenUp
refused_is_not_taken_up text (Text fault) p name authzid refused is taken = refused.0 p is
refused_is_not_taken_up text fault p name authzid refused is taken =
    met_rows_have_no_first_unmet (λ row. AsksOfClientFirst row p) client_first_faults_in_order fault
    (taken_up_meets_rows p name authzid taken)
    (subst (λ (q : ClientFirstParts). IsFirstUnmet (λ row. AsksOfClientFirst row q) client_first_faults_in_order fault)
    (has_one_client_first text refused.0 p refused.1 is) refused.2)
