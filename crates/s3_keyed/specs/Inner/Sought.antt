-- The position of a key among entries in key order.
use Rattle.std.specs.Prelude.{◌≡◌, ◌≤◌, ◌+◌, ◌-◌, ◌^◌, ◌<◌, ℕ, None, Some}
use Rattle.s3_keyed.specs.KeyOrder.{number_of, Entry}
use Rattle.s3_keyed.specs.declared.sector_search.Sought.{Sought}
use Rattle.s3_keyed.specs.declared.sector_search.Sought.TheVariants.{Number, Bytes}
use Rattle.s3_keyed.specs.declared.sector_search.Standing.{Standing}
use Rattle.s3_keyed.specs.declared.sector_search.Standing.TheVariants.{Before, Within, Behind}

-- the key that is sought
abbrev pub sought_key : Sought → ℕ
sought_key (Number number) = number
sought_key (Bytes key) = number_of key.now.bytes

-- the key can be compared with keys of so many bytes
abbrev pub IsSuited : (key_length : ℕ) → Sought → Type 0
IsSuited key_length (Number number) = (4 ≤ key_length) × (key_length ≤ 8)
IsSuited key_length (Bytes key) = number_of key.now.bytes < 256 ^ key_length

-- among the first n entries: all keys are above this one, or all below it, or one is equal, or it is between two of them
abbrev pub StandsAs : (ℕ → Entry) → (n key : ℕ) → Standing → Type 0
StandsAs entry n key Before = key < (entry 0).key
StandsAs entry n key (Within None) = (i : ℕ) × (i + 1 < n) × ((entry i).key < key) × (key < (entry (i + 1)).key)
StandsAs entry n key (Within (Some number)) = (i : ℕ) × (i < n) × (entry i ≡ record { key = key; number = number })
StandsAs entry n key Behind = (entry (n - 1)).key < key
