-- How long the texts of a login and their parts may be, and how great an iteration count may be. RFC 5802 sets no limits: these are
-- this library's.
use Rattle.std.specs.Prelude.{ℕ}

-- the most bytes of a message
abbrev pub max_message_len : ℕ
max_message_len = 2048

-- the most bytes that one end adds to the nonce
abbrev pub max_nonce_part_len : ℕ
max_nonce_part_len = 256

-- the most bytes of a whole nonce, the client's part and the server's together
abbrev pub max_nonce_len : ℕ
max_nonce_len = 512

-- the most bytes that a channel field holds, decoded: the base64 of more is longer than a message
abbrev pub max_channel_len : ℕ
max_channel_len = 1536

-- the most bytes of a name, unescaped
abbrev pub max_name_len : ℕ
max_name_len = 255

-- the most bytes of a password
abbrev pub max_password_len : ℕ
max_password_len = 1024

-- the most bytes of a salt, decoded
abbrev pub max_salt_len : ℕ
max_salt_len = 64

-- the most bytes of a proof or a signature, decoded
abbrev pub max_tag_len : ℕ
max_tag_len = 64

-- the greatest iteration count
abbrev pub max_iteration_count : ℕ
max_iteration_count = 4294967295
