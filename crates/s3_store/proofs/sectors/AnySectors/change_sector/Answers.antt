use Rattle.s3_store.proofs.SectorParts.{piece_set, set_within}
use Rattle.s3_store.proofs.sectors.AnySectors.change_sector.Goals as goal

pub returns-clause-ok : goal.returns-clause-ok
returns-clause-ok g c =
    piece_set _ _ _ c.args.n c.args.at c.read.new.bytes c.put_part.new.bytes c.args.piece.now c.in_ok-read.ensures.contents c.in_ok-write.ensures.ok c.in_ok-read.ensures.ok c.read.array_long c.put_part.ensures

pub returns-clause-within : goal.returns-clause-within
returns-clause-within g c = set_within _ _ _ _ _ c.args.n c.put_part.new.bytes c.in_ok-read.ensures.contents c.in_ok-write.ensures.ok
