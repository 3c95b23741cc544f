use Rattle.std.proofs.Common.{ℕ, ◌*◌, List, length, drop, sym, ap, ◌∙◌, subst}
use Rattle.s3_labels.specs.Contents.{contents_of}
use Rattle.s3_labels.specs.Inner.AreaNumbers.{area_number}
use Rattle.s3_labels.proofs.AreaNumbers.{area_few}
use Rattle.s3_pack_care.specs.Inner.Copied.{IsCopy}
use Rattle.s3_pack_care.specs.Inner.Frames.{ChangesFile, IsInLabelled}
use Rattle.s3_pack_care.proofs.Frames.{IsSaved, file_only, saved_is}
use Rattle.s3_pack_care.proofs.copying.copy.Goals as goal

filled : (c : goal.After-drop-after-2) → ChangesFile (area_number c.args.area) c.args.new_name (λ i. ⊥) (contents_of c.args.into.items) c.in_ok-store.store
filled c = subst (λ (s : List (List ℕ)). ChangesFile (area_number c.args.area) c.args.new_name (λ i. ⊥) s c.in_ok-store.store) c.from_bytes.ensures c.in_ok-store.ensures.only

is_saved : (c : goal.After-drop-after-2) → IsSaved c.args.into.items c.in_ok-saved.field-0.items c.in_ok-store.store
is_saved c =
    saved_is c.args.into.items c.in_ok-saved.field-0.items c.deref-2.result.now c.in_ok-store.store c.saved.ensures.sectors c.in_ok-saved.ensures.bytes
    (c.deref-2.ensures.value ∙ c.in_ok-after.ensures.items ∙ c.bytes_after.ensures ∙ ap (λ (p : List ℕ). drop (256 * length (contents_of p)) p) c.deref.ensures.value) (filled c).long

pub returns-clause-copied : goal.returns-clause-copied
returns-clause-copied c =
    subst (λ (n : List (List ℕ)). IsCopy (area_number c.args.from_area) c.args.name (area_number c.args.area) c.args.new_name (contents_of c.args.from.items) (contents_of c.args.into.items) n) (sym (is_saved c).seen)
    (subst (λ (s : List (List ℕ)). IsCopy (area_number c.args.from_area) c.args.name (area_number c.args.area) c.args.new_name (contents_of c.args.from.items) s c.in_ok-store.store) c.from_bytes.ensures c.in_ok-store.ensures.copied)

pub returns-clause-only : goal.returns-clause-only
returns-clause-only c = file_only c.args.into.items c.in_ok-saved.field-0.items (area_number c.args.area) c.args.new_name c.in_ok-store.store (area_few c.args.area) (is_saved c) (λ i. ⊥) (IsInLabelled (area_number c.args.area) c.args.new_name (contents_of c.in_ok-saved.field-0.items)) (filled c) (λ k own. own) (λ i k none within. absurd none)
