use Rattle.std.proofs.Common.{ℕ, ◌*◌, List, length, drop, ap, ◌∙◌, subst}
use Rattle.s3_labels.specs.Contents.{contents_of}
use Rattle.s3_labels.specs.Inner.AreaNumbers.{area_number}
use Rattle.s3_labels.proofs.AreaNumbers.{area_few}
use Rattle.s3_pack_care.specs.Inner.Deleted.{IsFreed, MayGo}
use Rattle.s3_pack_care.proofs.Deletes.{deleted_is, deleted_only}
use Rattle.s3_pack_care.proofs.Frames.{IsSaved, saved_is}
use Rattle.s3_pack_care.proofs.deleting.delete.Goals as goal

freed : (c : goal.After-drop-after-2) → IsFreed (area_number c.args.area) c.args.chosen (contents_of c.args.pack.items) c.in_ok-store.store
freed c = subst (λ (s : List (List ℕ)). IsFreed (area_number c.args.area) c.args.chosen s c.in_ok-store.store) c.from_bytes.ensures c.in_ok-store.ensures.freed

is_saved : (c : goal.After-drop-after-2) → IsSaved c.args.pack.items c.in_ok-saved.field-0.items c.in_ok-store.store
is_saved c =
    saved_is c.args.pack.items c.in_ok-saved.field-0.items c.deref-2.result.now c.in_ok-store.store c.saved.ensures.sectors c.in_ok-saved.ensures.bytes (c.deref-2.ensures.value ∙ c.in_ok-after.ensures.items ∙ c.bytes_after.ensures ∙ ap (λ (p : List ℕ). drop (256 * length (contents_of p)) p) c.deref.ensures.value)
    (freed c).long

pub returns-clause-deleted : goal.returns-clause-deleted
returns-clause-deleted c = deleted_is c.args.pack.items c.in_ok-saved.field-0.items c.args.chosen (area_number c.args.area) c.in_ok-store.store (area_few c.args.area) (freed c) (is_saved c)

pub returns-clause-only : goal.returns-clause-only
returns-clause-only c = deleted_only c.args.pack.items c.in_ok-saved.field-0.items c.args.chosen (area_number c.args.area) c.in_ok-store.store (area_few c.args.area) (freed c) (is_saved c)

pub returns-clause-permitted : goal.returns-clause-permitted
returns-clause-permitted c = subst (λ (s : List (List ℕ)). MayGo (area_number c.args.area) c.args.chosen c.args.is_permanent_meant s) c.from_bytes.ensures c.in_ok-store.ensures.permitted
