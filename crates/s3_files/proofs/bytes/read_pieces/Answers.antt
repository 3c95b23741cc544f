use Rattle.std.proofs.Common.{sym, ap, ◌∙◌, ◌+◌, ◌≡◌, ◌≤◌, ◌++◌, length, arith}
use Rattle.s3_store.proofs.Frames.{keeps_trans}
use Rattle.s3_store.specs.Bytes.{bytes_at, part}
use Rattle.s3_files.proofs.PartLemmas.{part-more, take-over, length-over, length-between, rest-over, read-in-part, on_err}
use Rattle.s3_files.proofs.bytes.read_pieces.Goals as goal

pub loop-done-preserved : goal.loop-done-preserved
loop-done-preserved g c =
    let done = c.loop-done.done in
    let count = c.in_one_sector-count.result in
    let bytes = c.loop-done.bytes in
    let file = bytes_at c.args.sectors.now (g.P.Sectors.state c.args.pool.now).contents in
    let within = c.loop-done.invariant.within in
    let fits : done + count ≤ length bytes = omega (arith, c.in_one_sector-count.ensures.left, c.loop-done-test.true) in
    let many = length-between done count bytes fits in
    let piece : c.read_piece.new.piece ≡ part file (c.args.at + done) count = c.in_ok-read_piece.ensures.ok ∙ ap (λ n. part (bytes_at c.args.sectors.now (g.P.Sectors.state c.loop-done.pool).contents) (c.args.at + done) n) many ∙ ap (λ l. part (bytes_at c.args.sectors.now l) (c.args.at + done) count) c.loop-done.invariant.keeps.contents in
    let long : length c.read_piece.new.piece ≡ count = c.read_piece.auto.piece ∙ many in
    record {
      within = length-over done count bytes c.read_piece.new.piece long fits;
      read = take-over done count bytes c.read_piece.new.piece long fits ∙ ap (λ l. l ++ c.read_piece.new.piece) c.loop-done.invariant.read ∙ ap (λ l. part file c.args.at done ++ l) piece ∙ sym (part-more c.args.at done count file);
      rest = rest-over done count bytes c.read_piece.new.piece c.args.bytes.now long fits c.loop-done.invariant.rest;
      keeps = keeps_trans _ _ _ c.loop-done.invariant.keeps c.read_piece.ensures.keeps;
      failures = omega (arith, c.in_ok-read_piece.ensures.failures, c.loop-done.invariant.failures);
    }

pub returns-in_err-read_piece-clause-partly : goal.returns-in_err-read_piece-clause-partly
returns-in_err-read_piece-clause-partly g c =
    let bytes = c.loop-done.bytes in
    let file = bytes_at c.args.sectors.now (g.P.Sectors.state c.args.pool.now).contents in
    on_err c.from_residual.result (read-in-part c.loop-done.done c.in_one_sector-count.result c.args.at bytes c.read_piece.new.piece c.args.bytes.now file c.in_err-read_piece.ensures.err (omega (arith, c.loop-done.invariant.within, c.loop-done.auto.bytes)) c.loop-done.invariant.read c.loop-done.invariant.rest)
