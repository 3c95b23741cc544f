-- The index of records, made of a map of their keys.
use Rattle.std.proofs.Common.{◌≡◌, ◌≢◌, ℕ, zero, suc, ◌+◌, ◌-◌, ◌*◌, ◌<◌, ◌≤◌, ◌==◌, refl, arith, sym, ◌∙◌, ap, ap₂, Bool, true, false, cond, List, [], ◌∷◌, ◌++◌, length, map, take, drop, replicate, Option, Some, None}
use Rattle.std.specs.Borrow.{Bor}
use Rattle.std.specs.BTreeMap.{BTreeMap, insert_entry}
use Rattle.std.specs.Cmp.Lexicographic.{slice_cmp}
use Rattle.std.specs.Int.{to_be_bytes, w32}
use Rattle.std.specs.List.{fold}
use Rattle.std.specs.Ordering.{match_ordering, nat_cmp}
use Rattle.std.specs.declared.cmp.Ordering.{Ordering}
use Rattle.std.specs.declared.cmp.Ordering.TheVariants.{Less, Equal, Greater}
use Rattle.std.proofs.lemmas.Bool.{eq-eqb, ne_eqb}
use Rattle.std.proofs.lemmas.List.{length-map, take-replicate}
use Rattle.s3_dump.specs.Inner.Entries.{FitsIn, entry_seen, seen}
use Rattle.s3_dump.specs.Inner.Indexes.{entries_to, fits_in, in_sectors, index_of, key_in, records_bytes, with_entry, zeros_before}
use Rattle.s3_dump.specs.declared.index.IndexLine.{IndexLine}

-- ---- entries in a map
chosen : {A B : Type 0} (f : A → B) (o : Ordering) (a b c : A) → f (match_ordering o a b c) ≡ match_ordering o (f a) (f b) (f c)
chosen f Less a b c = refl
chosen f Equal a b c = refl
chosen f Greater a b c = refl

by_key : Bor (List ℕ) → Bor (List ℕ) → Ordering
by_key one other = slice_cmp nat_cmp one.now other.now

inserted : (entries : List (Bor (List ℕ) × ℕ)) (key : Bor (List ℕ)) (number : ℕ)
    → map entry_seen (insert_entry (λ one other. slice_cmp nat_cmp one.now other.now) entries key number) ≡ insert_entry (slice_cmp nat_cmp) (map entry_seen entries) key.now number
inserted [] key number = refl
inserted (entry ∷ entries) key number =
    let order = slice_cmp nat_cmp key.now entry.0.now in
    chosen (map entry_seen) order ((key, number) ∷ entry ∷ entries) ((entry.0, number) ∷ entries) (entry ∷ insert_entry (λ one other. slice_cmp nat_cmp one.now other.now) entries key number)
    ∙ ap (λ l. match_ordering order ((key.now, number) ∷ entry_seen entry ∷ map entry_seen entries) ((entry.0.now, number) ∷ map entry_seen entries) (entry_seen entry ∷ l)) (inserted entries key number)

pub one_more_record : (line : IndexLine) (records : List ℕ) (i : ℕ) (old new : BTreeMap (Bor (List ℕ)) ℕ) (key : Bor (List ℕ)) → seen old ≡ entries_to line records i → key.now ≡ key_in line records i
    → new.entries ≡ insert_entry (λ one other. slice_cmp nat_cmp one.now other.now) old.entries key (i + 1) → seen new ≡ entries_to line records (i + 1)
one_more_record line records i old new key before is one =
    let next : i + 1 ≡ suc i = omega arith in
    ap (map entry_seen) one ∙ inserted old.entries key (i + 1) ∙ ap₂ (λ l k. insert_entry (slice_cmp nat_cmp) l k (i + 1)) before is
    ∙ ap (insert_entry (slice_cmp nat_cmp) (entries_to line records i) (key_in line records i)) next ∙ ap (entries_to line records) (sym next)

-- ---- entries in sectors
pub entry_laid : (old one two new zeros key number : List ℕ) (count : ℕ) → count ≤ 256 → zeros ≡ take count (replicate 256 0) → one ≡ old ++ zeros → two ≡ one ++ key → new ≡ two ++ number → new ≡ old ++ replicate count 0 ++ key ++ number
entry_laid old one two new zeros key number count few is a b c =
    c ∙ ap (λ l. l ++ number) b ∙ ap (λ l. l ++ key ++ number) (a ∙ ap (λ l. old ++ l) (is ∙ take-replicate count 256 0 few))

-- what is laid out, and then the rest of the entries
abbrev pub LaidTo : (bytes : List ℕ) (rest all : BTreeMap (Bor (List ℕ)) ℕ) → Type 0
LaidTo bytes rest all = fold with_entry bytes (seen rest) ≡ fold with_entry [] (seen all)

pub one_more_laid : (old new : List ℕ) (before rest all : BTreeMap (Bor (List ℕ)) ℕ) (entry : Bor (List ℕ) × ℕ) → before.entries ≡ entry ∷ rest.entries → new ≡ with_entry old (entry.0.now, entry.1) → LaidTo old before all → LaidTo new rest all
one_more_laid old new before rest all entry first one to =
    ap (λ b. fold with_entry b (seen rest)) one ∙ ap (λ l. fold with_entry old (map entry_seen l)) (sym first) ∙ to

pub all_laid : (bytes : List ℕ) (rest all : BTreeMap (Bor (List ℕ)) ℕ) → rest.entries ≡ [] → LaidTo bytes rest all → bytes ≡ fold with_entry [] (seen all)
all_laid bytes rest all none to = ap (λ l. fold with_entry bytes (map entry_seen l)) (sym none) ∙ to

pub other_count : (count : ℕ) (entries : BTreeMap (Bor (List ℕ)) ℕ) → length entries.entries ≢ count → None ≡ in_sectors count (seen entries)
other_count count entries other =
    sym (ap (λ b. cond b (Some (fold with_entry [] (seen entries))) None) (ap (λ n. n == count) (length-map entries.entries entry_seen) ∙ ne_eqb (length entries.entries) count other))

pub same_count : (count : ℕ) (entries : BTreeMap (Bor (List ℕ)) ℕ) (bytes : List ℕ) → length entries.entries ≡ count → bytes ≡ fold with_entry [] (seen entries) → Some bytes ≡ in_sectors count (seen entries)
same_count count entries bytes same is =
    ap Some is ∙ sym (ap (λ b. cond b (Some (fold with_entry [] (seen entries))) None) (ap (λ n. n == count) (length-map entries.entries entry_seen ∙ same) ∙ eq-eqb count count refl))

-- ---- the index
pub all_fit : (line : IndexLine) (long : ℕ) → 1 ≤ line.key_start → line.key_start + line.key_length ≤ line.record_length + 1 → line.count * line.record_length ≤ records_bytes line → records_bytes line ≤ long → FitsIn line long
all_fit line long start inside within before = record { start = start; inside = inside; within = within; before = before }

pub no_index : (line : IndexLine) (bytes : List ℕ) → fits_in line (length bytes) ≡ false → None ≡ index_of line bytes
no_index line bytes other = sym (ap (λ b. cond b (in_sectors line.count (entries_to line (drop (length bytes - records_bytes line) bytes) line.count)) None) other)

pub index_is : (line : IndexLine) (bytes records : List ℕ) (index : Option (List ℕ)) (entries : List (List ℕ × ℕ)) → fits_in line (length bytes) ≡ true → records ≡ drop (length bytes - records_bytes line) bytes → entries ≡ entries_to line records line.count
    → index ≡ in_sectors line.count entries → index ≡ index_of line bytes
index_is line bytes records index entries fits are so is =
    is ∙ ap (in_sectors line.count) (so ∙ ap (λ r. entries_to line r line.count) are)
    ∙ sym (ap (λ b. cond b (in_sectors line.count (entries_to line (drop (length bytes - records_bytes line) bytes) line.count)) None) fits)
