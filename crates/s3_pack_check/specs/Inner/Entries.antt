-- The first wrong entry of an index.
use Rattle.std.specs.Prelude.{ℕ, ◌+◌, ◌-◌, ◌*◌, ◌==◌, Bool, true, false, not, ◌&&◌, ◌||◌, nat_eq, nat_le, nat_lt, List, [], ◌∷◌, drop, length, Option, Some, None, if◌then◌else◌}
use Rattle.std.specs.List.{range_with_len}
use Rattle.std.specs.Cmp.Lexicographic.{pointwise}
use Rattle.byteorder.specs.Endian.{big_number}
use Rattle.s3_store.specs.Bytes.{part}
use Rattle.s3_slots.specs.declared.label.FileLabel.{FileLabel}
use Rattle.s3_keyed.specs.Index.{entry_place, layout_of}
use Rattle.s3_pack_check.specs.declared.entries.EntryFlaw.{EntryFlaw}
use Rattle.s3_pack_check.specs.declared.entries.EntryFlaw.TheVariants.{Key, Order, Record}
use Rattle.s3_pack_check.specs.declared.entries.WrongEntry.{WrongEntry}

-- keys ascend byte by byte
abbrev pub is_below : List ℕ → List ℕ → Bool
is_below key [] = false
is_below [] (first ∷ other) = true
is_below (byte ∷ key) (first ∷ other) = nat_lt byte first || ((byte == first) && is_below key other)

-- the key in an entry of the index, and in a record, both from 0
abbrev pub entry_key : FileLabel → List ℕ → ℕ → List ℕ
entry_key label bytes i = part bytes (entry_place (layout_of label) i) label.key_length

abbrev pub record_key : FileLabel → List ℕ → ℕ → List ℕ
record_key label bytes i = part bytes (i * label.record_length + (label.key_start - 1)) label.key_length

abbrev pub is_first_or_above : FileLabel → List ℕ → ℕ → Bool
is_first_or_above label bytes i = (i == 0) || is_below (entry_key label bytes (i - 1)) (entry_key label bytes i)

-- the number of the record that an entry names; 0, which names none, if the entry isn't in the file
abbrev pub entry_number : FileLabel → List ℕ → ℕ → ℕ
entry_number label bytes i =
    let at : ℕ = entry_place (layout_of label) i + label.key_length in
    if nat_le (at + 4) (length bytes) then big_number 4 (drop at bytes) else 0

-- the file has a record of that number, from 1
abbrev pub has_record : FileLabel → ℕ → Bool
has_record label number = nat_le 1 number && nat_le number label.count

-- an entry has the key of the record of that number
abbrev pub has_key_of : FileLabel → List ℕ → ℕ → ℕ → Bool
has_key_of label bytes number i = pointwise nat_eq (record_key label bytes (number - 1)) (entry_key label bytes i)

-- The flaw of an entry: its key isn't above the key of the entry before it, it names no record of the file, or the record has another key.
abbrev pub flaw_of : FileLabel → List ℕ → ℕ → Option EntryFlaw
flaw_of label bytes i =
    let number : ℕ = entry_number label bytes i in
    if not (is_first_or_above label bytes i) then Some Order
    else (if not (has_record label number) then Some (Record number)
    else (if not (has_key_of label bytes number i) then Some (Key number) else None))

abbrev pub with_place : ℕ → Option EntryFlaw → Option WrongEntry
with_place i None = None
with_place i (Some flaw) = Some (record { place = i; flaw = flaw })

abbrev pub wrong_entry : FileLabel → List ℕ → ℕ → Option WrongEntry
wrong_entry label bytes i = with_place i (flaw_of label bytes i)

abbrev pub first_or : {A : Type 0} → Option A → Option A → Option A
first_or None other = other
first_or (Some x) other = Some x

-- the first value that there is for one of these numbers
abbrev pub first_of : {A : Type 0} → (ℕ → Option A) → List ℕ → Option A
first_of f [] = None
first_of f (n ∷ more) = first_or (f n) (first_of f more)

-- the first entry with a flaw
unfoldable pub first_fault : FileLabel → List ℕ → Option WrongEntry
first_fault label bytes = first_of (wrong_entry label bytes) (range_with_len 0 label.count)
