use Rattle.std.proofs.Common.{◌≡◌, ℕ, ◌*◌, List, length, drop, ap, ◌∙◌}
use Rattle.s3_labels.specs.Contents.{contents_of}
use Rattle.s3_labels.specs.Inner.AreaNumbers.{area_number}
use Rattle.s3_labels.proofs.AreaNumbers.{area_few}
use Rattle.s3_amend.proofs.PackLemmas.{amended_saved, only_saved}
use Rattle.s3_amend.proofs.amending.amend.Goals as goal

rest_is : (c : goal.After-drop-after-2) → c.deref-2.result.now ≡ drop (256 * length (contents_of c.args.pack.items)) c.args.pack.items
rest_is c = c.deref-2.ensures.value ∙ c.in_ok-after.ensures.items ∙ c.bytes_after.ensures ∙ ap (λ (p : List ℕ). drop (256 * length (contents_of p)) p) c.deref.ensures.value

pub returns-clause-amended : goal.returns-clause-amended
returns-clause-amended c =
    amended_saved (area_number c.args.amendment.now.area) c.args.amendment.now.name c.args.pack.items c.deref-2.result.now c.in_ok-pack.pack.items c.from_bytes.result c.in_ok-amended.amended.store
    (area_few c.args.amendment.now.area) c.from_bytes.ensures (rest_is c) c.saved.ensures.sectors c.in_ok-pack.ensures.bytes c.in_ok-amended.ensures.only c.args.amendment.now c.in_ok-amended.amended.changed c.in_ok-amended.ensures.amended

pub returns-clause-only : goal.returns-clause-only
returns-clause-only c =
    only_saved (area_number c.args.amendment.now.area) c.args.amendment.now.name c.args.pack.items c.deref-2.result.now c.in_ok-pack.pack.items c.from_bytes.result c.in_ok-amended.amended.store
    (area_few c.args.amendment.now.area) c.from_bytes.ensures (rest_is c) c.saved.ensures.sectors c.in_ok-pack.ensures.bytes c.in_ok-amended.ensures.only
