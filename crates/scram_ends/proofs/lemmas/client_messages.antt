-- Main lemma, `client_answers_honestly` (Expectations): a client that composes client-final is honest, and expects the signature of its
-- login.
-- Cited by `ClientOne::composed`. Read in this order:
-- WriteFaults: a message that can be written fails only if memory runs out.
-- Lengths: how long a header and a bare message may be.
-- ClientFirst: the first message of an honest client can be written, and is taken up.
-- Headers: the header and the bare message that a client keeps.
-- ClientFinal: client-final can be written, and is within the limit.
-- Expectations: what a client expects of its server.
pub mod WriteFaults
pub mod Lengths
pub mod ClientFirst
pub mod Headers
pub mod ClientFinal
pub mod Expectations
