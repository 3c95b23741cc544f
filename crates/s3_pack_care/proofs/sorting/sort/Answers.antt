use Rattle.std.proofs.Common.{ℕ, ◌*◌, List, length, drop, sym, ap, ◌∙◌, subst}
use Rattle.s3_labels.specs.Contents.{contents_of}
use Rattle.s3_labels.specs.Inner.AreaNumbers.{area_number}
use Rattle.s3_labels.proofs.AreaNumbers.{area_few}
use Rattle.s3_pack_care.specs.Inner.Frames.{ChangesRecords}
use Rattle.s3_pack_care.specs.Inner.Sorted.{IsSorted}
use Rattle.s3_pack_care.proofs.Frames.{IsSaved, records_only, saved_is}
use Rattle.s3_pack_care.proofs.sorting.sort.Goals as goal

changed : (c : goal.After-drop-after-2) → ChangesRecords (area_number c.args.area) c.args.name (contents_of c.args.pack.items) c.in_ok-store.store
changed c = subst (λ (s : List (List ℕ)). ChangesRecords (area_number c.args.area) c.args.name s c.in_ok-store.store) c.from_bytes.ensures c.in_ok-store.ensures.only

is_saved : (c : goal.After-drop-after-2) → IsSaved c.args.pack.items c.in_ok-saved.field-0.items c.in_ok-store.store
is_saved c =
    saved_is c.args.pack.items c.in_ok-saved.field-0.items c.deref-2.result.now c.in_ok-store.store c.saved.ensures.sectors c.in_ok-saved.ensures.bytes
    (c.deref-2.ensures.value ∙ c.in_ok-after.ensures.items ∙ c.bytes_after.ensures ∙ ap (λ (p : List ℕ). drop (256 * length (contents_of p)) p) c.deref.ensures.value) (changed c).long

pub returns-clause-sorted : goal.returns-clause-sorted
returns-clause-sorted c =
    subst (λ (n : List (List ℕ)). IsSorted (area_number c.args.area) c.args.name c.args.fields.now (contents_of c.args.pack.items) n) (sym (is_saved c).seen)
    (subst (λ (s : List (List ℕ)). IsSorted (area_number c.args.area) c.args.name c.args.fields.now s c.in_ok-store.store) c.from_bytes.ensures c.in_ok-store.ensures.sorted)

pub returns-clause-only : goal.returns-clause-only
returns-clause-only c = records_only c.args.pack.items c.in_ok-saved.field-0.items (area_number c.args.area) c.args.name c.in_ok-store.store (area_few c.args.area) (is_saved c) (changed c)
