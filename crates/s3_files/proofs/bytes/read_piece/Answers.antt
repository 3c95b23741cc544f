use Rattle.std.proofs.Common.{◌≡◌, ◌+◌, ◌*◌, ◌/◌, ◌%◌, length, OnOk, subst, arith}
use Rattle.s3_store.specs.Bytes.{bytes_at, part}
use Rattle.s3_files.proofs.bytes.read_piece.Goals as goal

pub returns-clause-ok : goal.returns-clause-ok
returns-clause-ok g c =
    let at = c.args.at in
    let bytes = bytes_at c.args.sectors.now (g.P.Sectors.state c.args.pool.now).contents in
    let whole : 256 * (at / 256) + at % 256 ≡ at = omega arith in
    subst (λ a. OnOk c.read_in_sector.result (c.read_in_sector.new.piece ≡ part bytes a (length c.args.piece.now))) whole c.read_in_sector.ensures.ok
