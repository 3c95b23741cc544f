-- A label that a pack has has room for its index.
use Rattle.std.proofs.Common.{◌≡◌, ℕ, ◌+◌, ◌≤◌, true, ◌&&◌, nat_le, sym, subst}
use Rattle.std.proofs.lemmas.Bool.{and_parts, leb-true}
use Rattle.std.specs.List.{sum_by}
use Rattle.s3_slots.specs.Inner.Kept.{IsOfPack}
use Rattle.s3_slots.specs.Labels.{is_indexed}
use Rattle.s3_slots.specs.Slots.{is_key_of, sectors_needed, record_sectors, index_sectors}
use Rattle.s3_slots.specs.declared.label.FileLabel.{FileLabel}
use Rattle.s3_slots.specs.declared.label.Organization.{Organization}
use Rattle.s3_slots.specs.declared.label.Organization.TheVariants.{Sequential, Indexed, Direct}
use Rattle.s3_slots.proofs.Keeping.{formed_parts}
use Rattle.s3_files.proofs.Rooms.{length_sectors}
use Rattle.s3_keyed.specs.Inner.Index.{HasIndex}

pub of_pack_index : (sectors : ℕ) (label : FileLabel) → IsOfPack sectors label → is_indexed label.organization ≡ true → HasIndex label
of_pack_index sectors label is indexed = by label.organization indexed (formed_parts is.region label is.formed).key (formed_parts is.region label is.formed).fits
  where
    by : (o : Organization) → is_indexed o ≡ true → is_key_of o label.record_length label.key_length label.key_start ≡ true
        → nat_le (sectors_needed o label.record_length label.key_length label.capacity) (sum_by (λ extent. extent.sectors) label.extents) ≡ true → HasIndex label
    by Sequential indexed key fits = absurd cc
    by Direct indexed key fits = absurd cc
    by Indexed indexed key fits =
        let long = label.key_length in
        let start = label.key_start in
        let end = and_parts (nat_le 1 long && nat_le long 29 && nat_le 1 start) (nat_le (start + long) (label.record_length + 1)) key in
        let lengths = and_parts (nat_le 1 long && nat_le long 29) (nat_le 1 start) end.0 in
        let both = and_parts (nat_le 1 long) (nat_le long 29) lengths.0 in
        let room = record_sectors label.capacity label.record_length + index_sectors label.capacity long in
        record {
          some_key = leb-true 1 long both.0;
          short_key = leb-true long 29 both.1;
          some_start = leb-true 1 start lengths.1;
          inside = leb-true (start + long) (label.record_length + 1) end.1;
          fits = subst (λ n. room ≤ n) (sym (length_sectors label.extents)) (leb-true room (sum_by (λ extent. extent.sectors) label.extents) fits);
        }
