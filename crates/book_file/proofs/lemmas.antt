-- Main lemma, `all_were_read` (WholeReads): if fewer bytes than the limit were read from a file, they are all its bytes.
-- Cited by `read_all` of src/file.rt.
pub mod WholeReads
