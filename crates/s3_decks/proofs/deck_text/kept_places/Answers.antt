use Rattle.std.proofs.Common.{◌∙◌, arith, map}
use Rattle.s3_decks.specs.Inner.Decks.{line_seen}
use Rattle.s3_decks.proofs.Keeping.{place_more}
use Rattle.s3_decks.proofs.deck_text.kept_places.Goals as goal

pub loop-place-preserved : goal.loop-place-preserved
loop-place-preserved c =
    let taken = c.take-is_left_out.ensures c.args.left_out.now c.loop-place.invariant.1 in (
      c.in_ok-keep_place.ensures
          ∙ place_more c.args.left_out.now (map line_seen c.loop-place.found.items) c.args.places.now c.loop-place.place _ c.loop-place.invariant.0 (omega (arith, c.loop-place-test.true)) _ taken.0,
      taken.1,
    )
