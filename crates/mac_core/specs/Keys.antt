-- Hi and the keys of SCRAM (RFC 5802, sections 2.2 and 3). `hash` and `block_len` are those of HMAC.
use Rattle.std.specs.Prelude.{ℕ, zero, suc, List, [], ◌∷◌, ◌++◌, bit_xor, codes}
use Rattle.mac_core.specs.Hmac.{hmac}

-- the XOR of two lists of bytes, byte by byte, up to the end of the shorter one
unfoldable pub xor_bytes : List ℕ → List ℕ → List ℕ
xor_bytes [] ys = []
xor_bytes (x ∷ xs) [] = []
xor_bytes (x ∷ xs) (y ∷ ys) = bit_xor x y ∷ xor_bytes xs ys

-- INT(1), the number 1 in four bytes, most significant first
abbrev pub int_one : List ℕ
int_one = 0 ∷ 0 ∷ 0 ∷ 1 ∷ []

-- Uk of Hi under a MAC: U1 is the MAC of the salt followed by INT(1), and each later one is the MAC of the one before it. U0, which
-- the RFC does not name, is the salt followed by INT(1).
unfoldable pub iterated : (mac : List ℕ → List ℕ) → (salt : List ℕ) → (k : ℕ) → List ℕ
iterated mac salt zero = salt ++ int_one
iterated mac salt (suc k) = mac (iterated mac salt k)

-- U1 XOR U2 XOR ... XOR Un, for n of at least 1
unfoldable pub xor_of_iterated : (mac : List ℕ → List ℕ) → (salt : List ℕ) → (n : ℕ) → List ℕ
xor_of_iterated mac salt zero = []
xor_of_iterated mac salt (suc zero) = iterated mac salt 1
xor_of_iterated mac salt (suc (suc n)) =
    xor_bytes (xor_of_iterated mac salt (suc n)) (iterated mac salt (suc (suc n)))

-- Hi(str, salt, i), which is PBKDF2 (RFC 8018) with HMAC and one block of output
abbrev pub hi : (hash : List ℕ → List ℕ) → (block_len : ℕ) → (str salt : List ℕ) → (i : ℕ) → List ℕ
hi hash block_len str salt i = xor_of_iterated (hmac hash block_len str) salt i

-- SaltedPassword = Hi(Normalize(password), salt, i). The password is already normalized here: `Password` of scram_text holds only
-- passwords that SASLprep leaves unchanged.
abbrev pub salted_password : (hash : List ℕ → List ℕ) → (block_len : ℕ) → (password salt : List ℕ) → (i : ℕ) → List ℕ
salted_password hash block_len password salt i = hi hash block_len password salt i

-- ClientKey = HMAC(SaltedPassword, "Client Key")
abbrev pub client_key : (hash : List ℕ → List ℕ) → (block_len : ℕ) → (salted : List ℕ) → List ℕ
client_key hash block_len salted = hmac hash block_len salted (codes "Client Key")

-- StoredKey = H(ClientKey)
abbrev pub stored_key : (hash : List ℕ → List ℕ) → (client : List ℕ) → List ℕ
stored_key hash client = hash client

-- ServerKey = HMAC(SaltedPassword, "Server Key")
abbrev pub server_key : (hash : List ℕ → List ℕ) → (block_len : ℕ) → (salted : List ℕ) → List ℕ
server_key hash block_len salted = hmac hash block_len salted (codes "Server Key")

-- StoredKey of a password, by way of its SaltedPassword and ClientKey
abbrev pub password_stored_key : (hash : List ℕ → List ℕ) → (block_len : ℕ) → (password salt : List ℕ) → (i : ℕ) → List ℕ
password_stored_key hash block_len password salt i =
    stored_key hash (client_key hash block_len (salted_password hash block_len password salt i))

-- ServerKey of a password, by way of its SaltedPassword
abbrev pub password_server_key : (hash : List ℕ → List ℕ) → (block_len : ℕ) → (password salt : List ℕ) → (i : ℕ) → List ℕ
password_server_key hash block_len password salt i = server_key hash block_len (salted_password hash block_len password salt i)
