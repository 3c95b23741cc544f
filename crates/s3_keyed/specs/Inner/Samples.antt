-- Files of the worked examples: records of 10 bytes with a key of 1 byte at their start, and space for 10 records.
use Rattle.std.specs.Prelude.{ℕ, List, [], ◌∷◌, ◌++◌, replicate}
use Rattle.s3_keyed.specs.KeyOrder.{Entry}
use Rattle.s3_keyed.specs.Index.{KeyPlace, Layout}

abbrev pub first_byte : KeyPlace
first_byte = record { length = 1; start = 1 }

abbrev pub ten_records : Layout
ten_records = record { record_length = 10; capacity = 10; key = first_byte }

abbrev pub letter : ℕ → List ℕ
letter key = key ∷ replicate 9 0x40

abbrev pub b_and_a : List (List ℕ)
b_and_a = letter 0xc2 ∷ letter 0xc1 ∷ []

-- a file of B and A with these bytes after its records, which take a sector
abbrev pub two_letters : List ℕ → List ℕ
two_letters index = letter 0xc2 ++ letter 0xc1 ++ replicate 236 0 ++ index

-- a file of B, A, D and C
abbrev pub four_letters : List ℕ → List ℕ
four_letters index = letter 0xc2 ++ letter 0xc1 ++ letter 0xc4 ++ letter 0xc3 ++ replicate 216 0 ++ index

abbrev pub entry : ℕ → ℕ → Entry
entry key number = record { key = key; number = number }
