-- Bytes as sectors of 256.
use Rattle.std.specs.Prelude.{◌/◌, ℕ, List, length}
use Rattle.std.specs.Simd.{first_chunks}

-- the whole sectors of these bytes
abbrev pub sectors_of : List ℕ → List (List ℕ)
sectors_of bytes = first_chunks 256 (length bytes / 256) bytes
