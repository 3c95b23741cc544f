-- What is kept of a file when it is made: nothing, or blank records where it is direct.
use Rattle.std.proofs.Common.{◌≡◌, ◌≤◌, ◌+◌, ◌*◌, ◌-◌, ℕ, zero, suc, Bool, true, false, List, [], ◌∷◌, ◌++◌, length, take, drop, replicate, arith, refl, ap, ap₂, sym, ◌∙◌, subst}
use Rattle.std.specs.Prelude.{if◌then◌else◌}
use Rattle.std.specs.List.{Contains}
use Rattle.s3_cards.specs.declared.ebcdic.TheConstants.{BLANK}
use Rattle.s3_store.specs.Bytes.{bytes_at, part}
use Rattle.s3_store.proofs.SectorParts.{sector_bytes-there}
use Rattle.s3_slots.specs.Labels.{file_bytes, is_direct, is_indexed, sectors_of}
use Rattle.s3_slots.specs.Making.{capacity_of, first_count, new_label}
use Rattle.s3_slots.specs.declared.label.FileLabel.{FileLabel}
use Rattle.s3_slots.specs.declared.label.Organization.{Organization}
use Rattle.s3_slots.specs.declared.label.Organization.TheVariants.{Sequential, Indexed, Direct}
use Rattle.s3_slots.specs.declared.making.NewFile.{NewFile}
use Rattle.s3_labels.specs.Inner.Areas.{AreFilled}
use Rattle.s3_files.specs.Inner.Files.{HasRoom}
use Rattle.s3_files.specs.Records.{records_in}
use Rattle.s3_files.proofs.PartLemmas.{parts-more}
use Rattle.s3_keyed.specs.Index.{index_in, keys_of, layout_of}
use Rattle.s3_keyed.specs.KeyOrder.{is_good_index}
use Rattle.s3_job_files.specs.Kept.{Kept, index_is_good, kept_in, kept_on, key_place}
use Rattle.s3_job_files.proofs.Checked.{plain_good}
use Rattle.s3_opening.specs.Opening.{first_kept}

-- ---- one byte again and again
replicate_both : (m n byte : ℕ) → replicate m byte ++ replicate n byte ≡ replicate (m + n) byte
replicate_both zero n byte = ap (λ k. replicate k byte) (let e : n ≡ zero + n = omega arith in e)
replicate_both (suc m) n byte =
    ap (λ bytes. byte ∷ bytes) (replicate_both m n byte) ∙ ap (λ k. replicate k byte) (let e : suc (m + n) ≡ suc m + n = omega arith in e)

drop_replicate : (a k byte : ℕ) → drop a (replicate (a + k) byte) ≡ replicate k byte
drop_replicate zero k byte = ap (λ n. replicate n byte) (let e : zero + k ≡ k = omega arith in e)
drop_replicate (suc a) k byte =
    ap (λ n. drop (suc a) (replicate n byte)) (let e : suc a + k ≡ suc (a + k) = omega arith in e) ∙ drop_replicate a k byte

take_replicate : (w k byte : ℕ) → take w (replicate (w + k) byte) ≡ replicate w byte
take_replicate zero k byte = refl
take_replicate (suc w) k byte =
    ap (λ n. take (suc w) (replicate n byte)) (let e : suc w + k ≡ suc (w + k) = omega arith in e) ∙ ap (λ bytes. byte ∷ bytes) (take_replicate w k byte)

part_replicate : (m a w byte : ℕ) → a + w ≤ m → part (replicate m byte) a w ≡ replicate w byte
part_replicate m a w byte h =
    ap (λ n. part (replicate n byte) a w) (let e : m ≡ a + (w + (m - (a + w))) = omega (arith, h) in e)
    ∙ ap (take w) (drop_replicate a (w + (m - (a + w))) byte) ∙ take_replicate w (m - (a + w)) byte

length_replicate : (n byte : ℕ) → length (replicate n byte) ≡ n
length_replicate zero byte = refl
length_replicate (suc n) byte = let e : length (replicate n byte) ≡ n = length_replicate n byte in omega (arith, e)

replicate_last : (n : ℕ) (x : List ℕ) → replicate n x ++ x ∷ [] ≡ replicate (suc n) x
replicate_last zero x = refl
replicate_last (suc n) x = ap (λ xs. x ∷ xs) (replicate_last n x)

-- ---- sectors of one byte
first_of : (n : ℕ) (sectors : List ℕ) → Contains (n ∷ sectors) n
first_of n sectors = (0, omega arith, refl)

later_of : (n m : ℕ) (sectors : List ℕ) → Contains sectors m → Contains (n ∷ sectors) m
later_of n m sectors has = (suc has.0, omega (arith, has.1), has.2)

filled_bytes : (byte : ℕ) (sectors : List ℕ) (contents : List (List ℕ)) → AreFilled byte sectors contents → bytes_at sectors contents ≡ replicate (256 * length sectors) byte
unfolding bytes_at
filled_bytes byte [] contents filled = refl
filled_bytes byte (n ∷ sectors) contents filled =
    ap₂ (λ first more. first ++ more) (sector_bytes-there contents n (replicate 256 byte) (filled n (first_of n sectors)) (length_replicate 256 byte))
    (filled_bytes byte sectors contents (λ m has. filled m (later_of n m sectors has)))
    ∙ replicate_both 256 (256 * length sectors) byte ∙ ap (λ k. replicate k byte) (let e : 256 + 256 * length sectors ≡ 256 * length (n ∷ sectors) = omega arith in e)

filled_records : (long count m byte : ℕ) → count * long ≤ m → records_in long count (replicate m byte) ≡ replicate count (replicate long byte)
unfolding records_in
filled_records long zero m byte h = refl
filled_records long (suc n) m byte h =
    let within : n * long + long ≤ m = omega (arith, h) in
    ap (λ k. records_in long k (replicate m byte)) (let e : suc n ≡ n + 1 = omega arith in e)
    ∙ parts-more (λ i. i * long) long n (replicate m byte)
    ∙ ap₂ (λ xs x. xs ++ x ∷ []) (filled_records long n m byte (omega (arith, within))) (part_replicate m (n * long) long byte within)
    ∙ replicate_last n (replicate long byte)

-- ---- a new file
kept_from : (kept : Kept) (records : List (List ℕ)) → kept.records ≡ records → kept.has_good_index ≡ true → kept ≡ record { records = records; has_good_index = true }
kept_from kept records is good = ap₂ (λ (r : List (List ℕ)) (g : Bool). let k : Kept = record { records = r; has_good_index = g } in k) is good

-- no record of a file with no records, and an index of none of them
records_none : (label : FileLabel) (contents : List (List ℕ)) → label.count ≡ 0 → (kept_on label contents).records ≡ []
unfolding kept_in records_in
records_none label contents none = ap (λ n. records_in label.record_length n (file_bytes label contents)) none

index_none : (label : FileLabel) (contents : List (List ℕ)) → label.count ≡ 0 → (kept_on label contents).has_good_index ≡ true
unfolding kept_in index_is_good index_in keys_of is_good_index records_in
index_none label contents none =
    ap (λ n. if is_indexed label.organization then is_good_index (index_in (layout_of label) n (file_bytes label contents)) (keys_of (key_place label) (records_in label.record_length n (file_bytes label contents))) else true) none
    ∙ by (is_indexed label.organization)
  where
    by : (b : Bool) → (if b then true else true) ≡ true
    by true = refl
    by false = refl

records_blank : (label : FileLabel) (contents : List (List ℕ)) → HasRoom label → label.count ≡ label.capacity → AreFilled BLANK (sectors_of label) contents
    → (kept_on label contents).records ≡ replicate label.count (replicate label.record_length BLANK)
unfolding kept_in file_bytes sectors_of
records_blank label contents room full filled =
    ap (records_in label.record_length label.count) (filled_bytes BLANK (sectors_of label) contents filled)
    ∙ filled_records label.record_length label.count (256 * length (sectors_of label)) BLANK (subst (λ n. n * label.record_length ≤ 256 * length (sectors_of label)) (sym full) room.fits)

-- what a label says of a file that is new
record IsNew (new : NewFile) (label : FileLabel) : Type 0 where
  pub organization : label.organization ≡ new.organization
  pub record_length : label.record_length ≡ new.record_length
  pub capacity : label.capacity ≡ capacity_of new
  pub count : label.count ≡ first_count new.organization (capacity_of new)

is_new : (new : NewFile) (label : FileLabel) → label ≡ new_label new label.extents → IsNew new label
unfolding new_label
is_new new label is = record {
  organization = ap (λ (l : FileLabel). l.organization) is;
  record_length = ap (λ (l : FileLabel). l.record_length) is;
  capacity = ap (λ (l : FileLabel). l.capacity) is;
  count = ap (λ (l : FileLabel). l.count) is;
}

pub new_kept : (new : NewFile) (label : FileLabel) (contents : List (List ℕ)) → label ≡ new_label new label.extents → HasRoom label
    → (is_direct label.organization ≡ true → AreFilled BLANK (sectors_of label) contents) → kept_on label contents ≡ first_kept new
new_kept new label contents made room blank = by new.organization refl (is_new new label made)
  where
    none : (o : Organization) → new.organization ≡ o → is_direct o ≡ false → first_count o (capacity_of new) ≡ 0 → IsNew new label → kept_on label contents ≡ first_kept new
    none o e direct zero_of is =
        let empty : label.count ≡ 0 = is.count ∙ ap (λ one. first_count one (capacity_of new)) e ∙ zero_of in
        kept_from (kept_on label contents) [] (records_none label contents empty) (index_none label contents empty)
        ∙ sym (ap (λ (b : Bool). if b then (let k : Kept = record { records = replicate (capacity_of new) (replicate new.record_length BLANK); has_good_index = true } in k)
        else (let k : Kept = record { records = []; has_good_index = true } in k)) (ap is_direct e ∙ direct))

    by : (o : Organization) → new.organization ≡ o → IsNew new label → kept_on label contents ≡ first_kept new
    by Sequential e is = none Sequential e refl refl is
    by Indexed e is = none Indexed e refl refl is
    by Direct e is =
        let full : label.count ≡ capacity_of new = is.count ∙ ap (λ one. first_count one (capacity_of new)) e in
        let here : label.organization ≡ Direct = is.organization ∙ e in
        kept_from (kept_on label contents) (replicate (capacity_of new) (replicate new.record_length BLANK))
        (records_blank label contents room (full ∙ sym is.capacity) (blank (ap is_direct here)) ∙ ap₂ (λ n long. replicate n (replicate long BLANK)) full is.record_length)
        (plain_good label contents (ap is_indexed here))
        ∙ sym (ap (λ (b : Bool). if b then (let k : Kept = record { records = replicate (capacity_of new) (replicate new.record_length BLANK); has_good_index = true } in k)
        else (let k : Kept = record { records = []; has_good_index = true } in k)) (ap is_direct e))
