use Rattle.s3_load.proofs.FixedLemmas.{one_more_read}
use Rattle.s3_load.proofs.fixed.read_pieces.Goals as goal

pub loop-piece-preserved : goal.loop-piece-preserved
loop-piece-preserved c = record {
  before = λ none. c.loop-piece.invariant.before (c.in_ok-add_piece.ensures.before none);
  read = λ none.
      one_more_read c.args.form c.args.record_length c.args.text.now c.loop-piece.rows.items c.add_piece.new.rows.items c.loop-piece.rest.now c.in-Some.piece.now c.in-Some.after.now (c.loop-piece.invariant.read (c.in_ok-add_piece.ensures.before none)) c.in-Some.ensures.piece
      (c.in_ok-add_piece.ensures.adds none) (c.in_ok-add_piece.ensures.fits none);
}
