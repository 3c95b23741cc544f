-- The sectors that a mount sees in the bytes of a pack.
use Rattle.std.specs.Prelude.{ℕ, List, take}
use Rattle.s3_store.specs.Contents.{sectors_of}

-- the sectors that a mount sees in these bytes
abbrev pub contents_of : List ℕ → List (List ℕ)
contents_of bytes = take 65535 (sectors_of bytes)
