use Rattle.std.proofs.Common.{◌≡◌, sym, ap, ◌∙◌, arith, length}
use Rattle.s3_slots.specs.Header.{mounted}
use Rattle.s3_labels.specs.Contents.{contents_of}
use Rattle.s3_labels.proofs.Regions.{mounted_region}
use Rattle.s3_labels.proofs.Outcomes.{header_refused}
use Rattle.s3_labels.proofs.new_packs.image_from_old.Goals as goal

pub pack_with_masters-requires-clause-low : goal.pack_with_masters-requires-clause-low
pack_with_masters-requires-clause-low c = (mounted_region c.in-Ok.header c.from_bytes-store.result c.in-Ok.ensures.ok).low

pub pack_with_masters-requires-clause-high : goal.pack_with_masters-requires-clause-high
pack_with_masters-requires-clause-high c =
    let high = (mounted_region c.in-Ok.header c.from_bytes-store.result c.in-Ok.ensures.ok).high in
    let same = ap length c.in-Ok.ensures.keeps.contents in
    omega (arith, high, same)

pub returns-clause-err : goal.returns-clause-err
returns-clause-err c =
    let same : c.from_bytes-store.result ≡ contents_of c.args.old.now = c.from_bytes-store.ensures ∙ ap contents_of c.in_ok-from_slice.ensures.items in
    header_refused (contents_of c.args.old.now) c.in-Ok.header c.in-Err.fault c.args.level_one c.args.level_two c.args.quota_one c.args.quota_two
    (sym (ap mounted same) ∙ c.in-Ok.ensures.ok) (sym c.in-Err.is ∙ c.new_header.ensures)
