-- The digests of a journal.
use Rattle.std.specs.Prelude.{ℕ, List}
use Rattle.hex.specs.Hex.{encode_lower}
use Rattle.sha2.specs.Sha256.{sha256}

-- the SHA-256 digest, in hexadecimal digits
unfoldable pub digest_of : List ℕ → List ℕ
digest_of text = encode_lower (sha256 text)
