-- Main lemma, `unsaved_account_ends_enrol` (EnrolFaults): if an account was not added and saved, the fault is one that ends `enrol`.
-- Cited by `enrol` of src/enrol.rt, whose `add_and_save` cites `failed_adding_has_reason` and `failed_saving_has_reason`.
pub mod EnrolFaults
