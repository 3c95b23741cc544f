use Rattle.std.proofs.Common.{◌++◌, [], ◌∷◌, sym, subst}
use Rattle.s3_match.specs.Inner.Reading.{AreLinePlaces}
use Rattle.s3_match.proofs.ToldLemmas.{one_more_line}
use Rattle.s3_match.proofs.reading.add_line_place.Goals as goal

pub returns : goal.returns
returns c = λ lines before.
    subst (AreLinePlaces (lines ++ c.args.line.now ∷ [])) (sym c.in_ok-push.ensures.items)
    (one_more_line lines c.args.places.now.items c.args.line.now c.place_on.result c.place_on.ensures.place c.place_on.ensures.within before)
