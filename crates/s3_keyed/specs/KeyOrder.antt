-- Keys as numbers, the order of records by key, and good indexes.
use Rattle.std.specs.Prelude.{ℕ, ◌+◌, ◌-◌, ◌*◌, ◌^◌, ◌==◌, Bool, true, false, ◌&&◌, nat_lt, List, [], ◌∷◌, length, map, slice_get, Option, Some, None, if◌then◌else◌}
use Rattle.std.specs.List.{range_with_len, list_all, list_any}

-- the number with these bytes, the highest first; keys of one length have the order of their numbers
unfoldable pub number_of : List ℕ → ℕ
number_of [] = 0
number_of (byte ∷ bytes) = byte * 256 ^ length bytes + number_of bytes

-- an entry of an index: the key, and the number of its record, from 1
pub record Entry : Type 0 where
  pub key : ℕ
  pub number : ℕ

-- the entry comes after all entries with a lower or equal key
abbrev pub insert_entry : Entry → List Entry → List Entry
insert_entry entry [] = entry ∷ []
insert_entry entry (first ∷ more) = if nat_lt entry.key first.key then entry ∷ (first ∷ more) else first ∷ insert_entry entry more

-- one after another
abbrev pub insert_entries : List Entry → List Entry → List Entry
insert_entries entries [] = entries
insert_entries entries (added ∷ more) = insert_entries (insert_entry added entries) more

-- the entries of records with these keys, in file order; the first record has this number
abbrev pub entries_from : ℕ → List ℕ → List Entry
entries_from number [] = []
entries_from number (key ∷ keys) = record { key = key; number = number } ∷ entries_from (number + 1) keys

-- the entries of these keys' records, in order of the keys
unfoldable pub key_order : List ℕ → List Entry
key_order keys = insert_entries [] (entries_from 1 keys)

-- ---- a good index
-- the next number, if there is one, is higher
abbrev pub is_before : ℕ → List ℕ → Bool
is_before n [] = true
is_before n (next ∷ more) = nat_lt n next

-- each number is less than the next
abbrev pub ascends : List ℕ → Bool
ascends [] = true
ascends (n ∷ more) = is_before n more && ascends more

abbrev pub keys_in : List Entry → List ℕ
keys_in entries = map (λ entry. entry.key) entries

abbrev pub is_that_key : ℕ → Option ℕ → Bool
is_that_key key None = false
is_that_key key (Some other) = key == other

-- The keys ascend and are distinct, the numbers are 1 to the count of the records once each, and each entry has the key of its record.
unfoldable pub is_good_index : List Entry → List ℕ → Bool
is_good_index entries keys =
    (length entries == length keys)
    && ascends (keys_in entries)
    && list_all (λ number. list_any (λ entry. entry.number == number) entries) (range_with_len 1 (length keys))
    && list_all (λ entry. is_that_key entry.key (slice_get keys (entry.number - 1))) entries
