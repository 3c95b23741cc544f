use Rattle.std.proofs.Common.{◌≡◌, ◌∙◌, inl, inr, ℕ, List, length, Ok, ap, subst, sym}
use Rattle.s3_slots.specs.Header.{mounted}
use Rattle.s3_labels.specs.Areas.{area_of}
use Rattle.s3_labels.specs.Contents.{contents_of}
use Rattle.s3_pack_care.proofs.Frames.{IsSaved, file_only, saved_is}
use Rattle.s3_load.specs.Inner.Filling.{records_of}
use Rattle.s3_load.specs.Inner.Loaded.{ChangesLoaded, IsOfLoad, IsReplaced, KeepsLoadedTail}
use Rattle.s3_load.proofs.LoadedPacks.{area_few, file_on}
use Rattle.s3_load.proofs.Shapes.{shape_on}
use Rattle.s3_load.proofs.loading.pack_with.Goals as goal

pub returns-clause-loaded : goal.returns-clause-loaded
returns-clause-loaded c =
    let order = c.args.order.now in
    let store = c.place_rows-placed.new.mounted.pool in
    let is_saved : IsSaved c.args.pack.now c.in_ok-saved.field-0.items store =
    saved_is c.args.pack.now c.in_ok-saved.field-0.items c.bytes_after.result.now store c.saved.ensures.sectors c.in_ok-saved.ensures.bytes c.bytes_after.ensures
    (c.in_ok-placed.ensures.long ∙ ap length c.in_ok-mounted.ensures.same) in
    record {
      header = c.in_ok-mounted.mounted.areas.header;
      mounts = sym (ap mounted c.in_ok-mounted.ensures.same) ∙ c.in_ok-mounted.ensures.mounted.mounts;
      filled = file_on order (records_of c.args.rows.now) c.in_ok-mounted.mounted.areas.header _ _ _ _ c.in_ok-mounted.ensures.same is_saved.seen c.in_ok-placed.ensures.file;
    }

pub returns-clause-only : goal.returns-clause-only
returns-clause-only c =
    let order = c.args.order.now in
    let store = c.place_rows-placed.new.mounted.pool in
    let header = c.in_ok-mounted.mounted.areas.header in
    let pack = c.args.pack.now in
    let bytes = c.in_ok-saved.field-0.items in
    let is_saved : IsSaved pack bytes store =
    saved_is pack bytes c.bytes_after.result.now store c.saved.ensures.sectors c.in_ok-saved.ensures.bytes c.bytes_after.ensures (c.in_ok-placed.ensures.long ∙ ap length c.in_ok-mounted.ensures.same) in
    let changes : ChangesLoaded order header (contents_of pack) store = subst (λ (s : List (List ℕ)). ChangesLoaded order header s store) c.in_ok-mounted.ensures.same c.in_ok-placed.ensures.only in
    let mounts : mounted (contents_of pack) ≡ Ok header = sym (ap mounted c.in_ok-mounted.ensures.same) ∙ c.in_ok-mounted.ensures.mounted.mounts in
    file_only pack bytes (area_of order.level) order.name store (area_few order.level) is_saved (IsReplaced order header (contents_of pack) (area_of order.level)) (IsOfLoad order (contents_of pack) (contents_of bytes)) changes
    (λ k own. inl own) (λ i k gone within. inr (record { header = header; mounts = mounts; slot = i; gone = gone; at = within }))

pub returns-clause-tail : goal.returns-clause-tail
returns-clause-tail c =
    let order = c.args.order.now in
    let store = c.place_rows-placed.new.mounted.pool in
    let pack = c.args.pack.now in
    let bytes = c.in_ok-saved.field-0.items in
    let is_saved : IsSaved pack bytes store =
    saved_is pack bytes c.bytes_after.result.now store c.saved.ensures.sectors c.in_ok-saved.ensures.bytes c.bytes_after.ensures (c.in_ok-placed.ensures.long ∙ ap length c.in_ok-mounted.ensures.same) in
    subst (λ (t : List (List ℕ)). KeepsLoadedTail order (contents_of pack) t) (sym is_saved.seen) (subst (λ (s : List (List ℕ)). KeepsLoadedTail order s store) c.in_ok-mounted.ensures.same c.in_ok-placed.ensures.tail)

pub returns-clause-shaped : goal.returns-clause-shaped
returns-clause-shaped c =
    shape_on c.args.order.now c.in_ok-mounted.mounted.areas c.in_ok-mounted.mounted.pool (contents_of c.args.pack.now) c.in_ok-mounted.ensures.mounted c.in_ok-mounted.ensures.same c.in_ok-shaped.ensures.shaped
