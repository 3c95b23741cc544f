-- Records that are read of files that are open.
use Rattle.std.proofs.Common.{◌≡◌, ℕ, ◌+◌, ◌-◌, ◌<◌, refl, arith, sym, ◌∙◌, ap, subst, Bool, true, false, cond, suc, zero, List, [], ◌∷◌, length, take, get_or, nat_lt}
use Rattle.std.specs.Prelude.{Option, Some, None, Result, Ok, Err, slice_get}
use Rattle.std.specs.Option.{option_map}
use Rattle.std.proofs.lemmas.List.{length-map, take_all}
use Rattle.std.proofs.lemmas.Option.{get_or_from_slice_get, slice_get-map}
use Rattle.s3_store.specs.Bytes.{bytes_at}
use Rattle.s3_slots.specs.Labels.{file_bytes, is_indexed, sectors_of}
use Rattle.s3_slots.specs.declared.label.FileLabel.{FileLabel}
use Rattle.s3_files.specs.Records.{records_in}
use Rattle.s3_files.specs.Inner.Records.{got, record_at}
use Rattle.s3_files.specs.declared.sequential.Sequential.{Sequential}
use Rattle.s3_files.proofs.RecordLemmas.{length_records}
use Rattle.s3_keyed.specs.Calls.{keyed_result, nth_by_key, place_in}
use Rattle.s3_keyed.specs.Index.{KeyPlace, keys_of, layout_of}
use Rattle.s3_keyed.specs.Inner.Calls.{index_answer, or_no_key}
use Rattle.s3_keyed.specs.KeyOrder.{Entry, entries_from, insert_entries, insert_entry, is_good_index, key_order}
use Rattle.s3_keyed.specs.Inner.Keyed.{KeyedFile, keys_now, records_now, shown}
use Rattle.s3_keyed.specs.declared.fault.KeyedFault.{KeyedFault}
use Rattle.s3_keyed.specs.declared.fault.KeyedFault.TheVariants.{BadIndex}
use Rattle.s3_keyed.specs.declared.keyed.Keyed.{Keyed}
use Rattle.s3_unload.specs.Inner.Opened.{IsKeyed, IsPlain}
use Rattle.s3_unload.specs.Inner.Ordered.{by_key, by_key_of, in_order, ordered}

-- an index that is refused isn't good
abbrev answer_by : Bool → Result (Unit {0}) KeyedFault
answer_by good = cond good (Ok tt) (Err BadIndex)

refused_by : (good : Bool) → answer_by good ≡ Err BadIndex → good ≡ false
refused_by true h = absurd cc
refused_by false h = refl

pub bad_index : (entries : List Entry) (keys : List ℕ) → index_answer entries keys ≡ Err BadIndex → is_good_index entries keys ≡ false
bad_index entries keys h = refused_by (is_good_index entries keys) h

in_order_is : (label : FileLabel) (contents : List (List ℕ)) → in_order label contents ≡ records_in label.record_length label.count (bytes_at (sectors_of label) contents)
unfolding in_order file_bytes
in_order_is label contents = refl

pub plain_record : (label : FileLabel) (contents : List (List ℕ)) (file : Sequential) (n : ℕ) (bytes : List ℕ) → IsPlain label file
    → slice_get (records_in file.record_length file.count (bytes_at file.sectors contents)) n ≡ Some bytes → slice_get (in_order label contents) n ≡ Some bytes
plain_record label contents file n bytes plain got =
    let same : records_in file.record_length file.count (bytes_at file.sectors contents) ≡ in_order label contents = rw (plain.sectors, plain.record_length, plain.count) (sym (in_order_is label contents)) in
    subst (λ rs. slice_get rs n ≡ Some bytes) same got

-- ---- by key
got_place : (o : Option ℕ) (p : ℕ) → or_no_key o ≡ Ok p → o ≡ Some p
got_place None p h = absurd cc
got_place (Some q) p h = cc

got_record : (i : ℕ) (rs : List (List ℕ)) (bytes : List ℕ) → keyed_result (record_at i rs) ≡ Ok bytes → slice_get rs i ≡ Some bytes
got_record i rs bytes h = elim_got (slice_get rs i) h
  where
    elim_got : (o : Option (List ℕ)) → keyed_result (got o) ≡ Ok bytes → o ≡ Some bytes
    elim_got None h = absurd cc
    elim_got (Some b) h = cc

placed_entry : (o : Option Entry) (p : ℕ) → place_in o ≡ Some p → (e : Entry) × (o ≡ Some e) × (e.number - 1 ≡ p)
placed_entry None p h = absurd cc
placed_entry (Some e) p h = (e, refl, cc)

keys_counted : (label : FileLabel) (contents : List (List ℕ)) → length (keys_of (layout_of label).key (in_order label contents)) ≡ label.count
unfolding keys_of
keys_counted label contents = length-map (in_order label contents) _ ∙ ap length (in_order_is label contents) ∙ length_records label.record_length label.count (bytes_at (sectors_of label) contents)

nth_place : (keys : List ℕ) (n p : ℕ) → nth_by_key keys n ≡ Some p → place_in (slice_get (key_order keys) n) ≡ Some p
unfolding nth_by_key
nth_place keys n p h = h

ordered_record : (place : KeyPlace) (rs : List (List ℕ)) (n p : ℕ) (bytes : List ℕ) → nth_by_key (keys_of place rs) n ≡ Some p → slice_get rs p ≡ Some bytes → slice_get (by_key place rs) n ≡ Some bytes
unfolding by_key
ordered_record place rs n p bytes nth got =
    let at = placed_entry (slice_get (key_order (keys_of place rs)) n) p (nth_place (keys_of place rs) n p nth) in
    slice_get-map (λ (e : Entry). get_or rs (e.number - 1) []) (key_order (keys_of place rs)) n
    ∙ ap (option_map (λ (e : Entry). get_or rs (e.number - 1) [])) at.1
    ∙ ap Some (ap (λ i. get_or rs i []) at.2 ∙ get_or_from_slice_get rs p bytes [] got)

pub keyed_record : (label : FileLabel) (contents : List (List ℕ)) (file : Keyed) (n p : ℕ) (bytes : List ℕ) → IsKeyed label contents file
    → or_no_key (nth_by_key (take (shown file).started (keys_now (shown file) contents)) n) ≡ Ok p → keyed_result (record_at p (records_now (shown file) contents)) ≡ Ok bytes
    → slice_get (by_key_of label contents) n ≡ Some bytes
keyed_record label contents file n p bytes keyed nth got =
    let rs : records_now (shown file) contents ≡ in_order label contents = ap (λ (f : KeyedFile). records_now f contents) keyed.opened ∙ sym (in_order_is label contents) in
    let keys : keys_now (shown file) contents ≡ keys_of (layout_of label).key (in_order label contents) =
    ap (λ (f : KeyedFile). keys_now f contents) keyed.opened ∙ ap (λ r. keys_of (layout_of label).key r) (sym (in_order_is label contents)) in
    let all : take (shown file).started (keys_now (shown file) contents) ≡ keys_of (layout_of label).key (in_order label contents) =
    ap (λ (f : KeyedFile). take f.started (keys_now (shown file) contents)) keyed.opened ∙ ap (take label.count) keys
    ∙ take_all label.count (keys_of (layout_of label).key (in_order label contents)) (omega (arith, keys_counted label contents)) in
    let first : nth_by_key (keys_of (layout_of label).key (in_order label contents)) n ≡ Some p =
    sym (ap (λ ks. nth_by_key ks n) all) ∙ got_place (nth_by_key (take (shown file).started (keys_now (shown file) contents)) n) p nth in
    let there : slice_get (in_order label contents) p ≡ Some bytes = sym (ap (λ r. slice_get r p) rs) ∙ got_record p (records_now (shown file) contents) bytes got in
    ordered_record (layout_of label).key (in_order label contents) n p bytes first there

-- its place in the file
pub keyed_place : (label : FileLabel) (contents : List (List ℕ)) (file : Keyed) (p : ℕ) (bytes : List ℕ) → IsKeyed label contents file → keyed_result (record_at p (records_now (shown file) contents)) ≡ Ok bytes
    → slice_get (in_order label contents) p ≡ Some bytes
keyed_place label contents file p bytes keyed got =
    let rs : records_now (shown file) contents ≡ in_order label contents = ap (λ (f : KeyedFile). records_now f contents) keyed.opened ∙ sym (in_order_is label contents) in
    sym (ap (λ r. slice_get r p) rs) ∙ got_record p (records_now (shown file) contents) bytes got

-- ---- how many there are
length_insert : (e : Entry) (es : List Entry) → length (insert_entry e es) ≡ suc (length es)
length_insert e [] = refl
length_insert e (f ∷ es) = elim (nat_lt e.key f.key) as (λ b. length (cond b (e ∷ f ∷ es) (f ∷ insert_entry e es)) ≡ suc (suc (length es))) [ true ↦ refl | false ↦ ap suc (length_insert e es) ]

length_inserts : (es added : List Entry) → length (insert_entries es added) ≡ length es + length added
length_inserts es [] = omega arith
length_inserts es (a ∷ added) =
    let one = length_insert a es in
    let more = length_inserts (insert_entry a es) added in
    omega arith

length_entries : (number : ℕ) (keys : List ℕ) → length (entries_from number keys) ≡ length keys
length_entries number [] = refl
length_entries number (k ∷ keys) = ap suc (length_entries (number + 1) keys)

length_order : (keys : List ℕ) → length (key_order keys) ≡ length keys
unfolding key_order
length_order keys = let inserted = length_inserts [] (entries_from 1 keys) in let made = length_entries 1 keys in omega arith

by_key_counted : (label : FileLabel) (contents : List (List ℕ)) → length (by_key_of label contents) ≡ label.count
unfolding by_key
by_key_counted label contents =
    length-map (key_order (keys_of (layout_of label).key (in_order label contents))) _ ∙ length_order (keys_of (layout_of label).key (in_order label contents)) ∙ keys_counted label contents

pub in_order_counted : (label : FileLabel) (contents : List (List ℕ)) → length (in_order label contents) ≡ label.count
in_order_counted label contents = ap length (in_order_is label contents) ∙ length_records label.record_length label.count (bytes_at (sectors_of label) contents)

got_within : (rs : List (List ℕ)) (i : ℕ) (bytes : List ℕ) → slice_get rs i ≡ Some bytes → i < length rs
got_within [] i bytes h = absurd cc
got_within (r ∷ rs) zero bytes h = omega arith
got_within (r ∷ rs) (suc i) bytes h = let e = got_within rs i bytes h in omega (arith, e)

-- a place of the file is below its count
pub place_counted : (label : FileLabel) (contents : List (List ℕ)) (place : ℕ) (bytes : List ℕ) → slice_get (in_order label contents) place ≡ Some bytes → place < label.count
place_counted label contents place bytes there =
    let low = got_within (in_order label contents) place bytes there in
    let all = in_order_counted label contents in
    omega (arith, low, all)

pub ordered_counted : (label : FileLabel) (contents : List (List ℕ)) → length (ordered label contents) ≡ label.count
ordered_counted label contents =
    elim (is_indexed label.organization) as (λ b. length (cond b (by_key_of label contents) (in_order label contents)) ≡ label.count) [ true ↦ by_key_counted label contents | false ↦ in_order_counted label contents ]

pub ordered_plain : (label : FileLabel) (contents : List (List ℕ)) → is_indexed label.organization ≡ false → ordered label contents ≡ in_order label contents
ordered_plain label contents h = ap (λ b. cond b (by_key_of label contents) (in_order label contents)) h

pub ordered_keyed : (label : FileLabel) (contents : List (List ℕ)) → is_indexed label.organization ≡ true → ordered label contents ≡ by_key_of label contents
ordered_keyed label contents h = ap (λ b. cond b (by_key_of label contents) (in_order label contents)) h
