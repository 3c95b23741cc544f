use Rattle.std.proofs.Common.{◌+◌, ◌≤◌, length, arith}
use Rattle.std.specs.List.{Contains}
use Rattle.s3_files.proofs.PartLemmas.{same-trans, same-wider-by, part-joined}
use Rattle.s3_store.proofs.Frames.{within_trans}
use Rattle.s3_files.proofs.bytes.write_pieces.Goals as goal

pub returns-in_err-write_piece-clause-outside : goal.returns-in_err-write_piece-clause-outside
returns-in_err-write_piece-clause-outside g c =
    let done = c.loop-done.done in
    let count = c.in_one_sector-count.result in
    let fits : done + count ≤ length c.args.bytes.now = omega (arith, c.in_one_sector-count.ensures.left, c.loop-done-test.true) in
    same-trans c.args.at (length c.args.bytes.now) _ _ _ c.loop-done.invariant.outside (same-wider-by c.args.at done count c.args.bytes.now _ _ fits c.write_piece.ensures.outside)

pub loop-done-preserved : goal.loop-done-preserved
loop-done-preserved g c =
    let done = c.loop-done.done in
    let count = c.in_one_sector-count.result in
    let bytes = c.args.bytes.now in
    let fits : done + count ≤ length bytes = omega (arith, c.in_one_sector-count.ensures.left, c.loop-done-test.true) in
    record {
      fits = fits;
      written = part-joined c.args.at done count bytes _ _ fits c.loop-done.invariant.written c.write_piece.ensures.outside c.in_ok-write_piece.ensures.ok;
      outside = same-trans c.args.at (length bytes) _ _ _ c.loop-done.invariant.outside (same-wider-by c.args.at done count bytes _ _ fits c.write_piece.ensures.outside);
      within = within_trans (Contains c.args.sectors.now) _ _ _ c.loop-done.invariant.within c.write_piece.ensures.within;
      failures = omega (arith, c.in_ok-write_piece.ensures.failures, c.loop-done.invariant.failures);
    }
