use Rattle.std.proofs.Common.{◌∙◌, ◌++◌, [], ◌∷◌, sym, subst}
use Rattle.s3_match.specs.Inner.Reading.{ArePlacesOf}
use Rattle.s3_match.proofs.ToldLemmas.{one_more_place, no_more_places}
use Rattle.s3_match.proofs.reading.add_place.Goals as goal

pub returns-in_ok-push : goal.returns-in_ok-push
returns-in_ok-push c = λ lines before.
    subst (ArePlacesOf (lines ++ c.args.line.now ∷ [])) (sym c.in_ok-push.ensures.items)
    (one_more_place lines c.args.places.now.items c.args.line.now c.in-Some.indicator c.place_of.result (sym c.in-Some.is ∙ c.indicator_on.ensures) c.place_of.ensures.place c.place_of.ensures.within before)

pub returns-in_default : goal.returns-in_default
returns-in_default c = λ lines before. no_more_places lines c.args.places.now.items c.args.line.now (sym c.in_default.is ∙ c.indicator_on.ensures) before
