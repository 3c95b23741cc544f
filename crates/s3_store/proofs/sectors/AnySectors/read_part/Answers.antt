use Rattle.std.proofs.Common.{sym, ap, ◌∙◌, length}
use Rattle.s3_store.specs.Bytes.{part}
use Rattle.s3_store.proofs.SectorParts.{sector_bytes-there}
use Rattle.s3_store.proofs.sectors.AnySectors.read_part.Goals as goal

pub returns-clause-ok : goal.returns-clause-ok
returns-clause-ok g c =
    let whole = sector_bytes-there (g.S.PackStore.contents c.args.self.now) c.args.n c.read.new.bytes c.in_ok-read.ensures.ok c.read.array_long in
    c.take_part.ensures ∙ ap (λ l. part l c.args.at (length c.args.piece.now)) (sym whole)
