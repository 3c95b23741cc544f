use Rattle.std.proofs.Common.{◌≡◌, sym, subst}
use Rattle.std.specs.List.{Contains}
use Rattle.s3_files.proofs.SectorLemmas.{piece-written, piece-outside, got-below, contains-got}
use Rattle.s3_store.proofs.Frames.{within_weaker}
use Rattle.s3_files.proofs.bytes.write_piece.Goals as goal

pub returns-clause-ok : goal.returns-clause-ok
returns-clause-ok g c =
    let old = (g.P.Sectors.state c.args.pool.now).contents in
    let new = (g.P.Sectors.state c.change_sector.new.self).contents in
    let n = c.sector_at.result in
    let below = got-below c.args.sectors.now old _ n c.sector_at.ensures.sector c.requires.stored in
    piece-written c.args.sectors.now c.args.at n c.args.piece.now c.sector_at.ensures.sector c.requires.one old new below _ c.change_sector.ensures.ok

pub returns-clause-outside : goal.returns-clause-outside
returns-clause-outside g c =
    let old = (g.P.Sectors.state c.args.pool.now).contents in
    let new = (g.P.Sectors.state c.change_sector.new.self).contents in
    let n = c.sector_at.result in
    let below = got-below c.args.sectors.now old _ n c.sector_at.ensures.sector c.requires.stored in
    piece-outside c.args.sectors.now c.args.at n c.args.piece.now c.sector_at.ensures.sector c.requires.one old new below _ c.sector_at.ensures.distinct c.change_sector.ensures.ok c.change_sector.ensures.err

pub returns-clause-within : goal.returns-clause-within
returns-clause-within g c =
    let n = c.sector_at.result in
    let inside = contains-got c.args.sectors.now _ n c.sector_at.ensures.sector in
    within_weaker (λ i. i ≡ n) (Contains c.args.sectors.now) _ _ (λ i e. subst (Contains c.args.sectors.now) (sym e) inside) c.change_sector.ensures.within
