-- Main lemma, `tokens_are_apart` (Tokens): if the token of one name is replaced, this name has the new one, and each other name its own.
-- Cited by the law of that name, and by the runs of `sasl_desk`. Read in this order:
-- Ranges: each account stays in its ranges, whatever is changed, added or removed; the functions of `Book` cite it.
-- Maps: what changes in the list of accounts changes in their map.
-- Tokens: what another token of one account changes in the book, name by name.
pub mod Maps
pub mod Ranges
pub mod Tokens
