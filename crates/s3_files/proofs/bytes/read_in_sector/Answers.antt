use Rattle.std.proofs.Common.{◌≡◌, ◌≤◌, ◌+◌, ◌*◌, ◌/◌, ◌%◌, length, slice_get, OnOk, ap, sym, subst, ◌∙◌, arith}
use Rattle.s3_store.specs.Bytes.{part, sector_bytes}
use Rattle.s3_files.proofs.SectorLemmas.{piece-read}
use Rattle.s3_files.proofs.bytes.read_in_sector.Goals as goal

pub returns-clause-ok : goal.returns-clause-ok
returns-clause-ok g c =
    let i = c.args.i in
    let start = c.args.start in
    let count = length c.args.piece.now in
    let n = c.sector_at.result in
    let contents = (g.P.Sectors.state c.args.pool.now).contents in
    let read = c.read_part.new.piece in
    let row : (256 * i + start) / 256 ≡ i = omega (arith, c.requires.inside) in
    let column : (256 * i + start) % 256 ≡ start = omega (arith, c.requires.inside) in
    let fits : (256 * i + start) % 256 + count ≤ 256 = omega (arith, column, c.requires.one) in
    piece-read c.args.sectors.now (256 * i + start) n count contents read c.read_part.result
    (ap (slice_get c.args.sectors.now) row ∙ c.sector_at.ensures.sector) fits
    (subst (λ s. OnOk c.read_part.result (read ≡ part (sector_bytes contents n) s count)) (sym column) c.read_part.ensures.ok)
