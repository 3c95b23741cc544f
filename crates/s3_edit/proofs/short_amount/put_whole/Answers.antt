use Rattle.std.proofs.Common.{◌∙◌, refl, sym, ap, subst, ◌<◌, ◌^◌}
use Rattle.s3_edit.specs.Inner.Passes.{whole_at}
use Rattle.s3_edit.specs.Picture.{whole_digits}
use Rattle.s3_edit.proofs.Whole.{last_left}
use Rattle.s3_edit.proofs.ShortLemmas.{below_comma, last_room, no_comma}
use Rattle.s3_edit.proofs.short_amount.put_whole.Goals as goal

pub put_few-requires-clause-fits : goal.put_few-requires-clause-fits
put_few-requires-clause-fits c = last_room c.args.commas c.args.number c.args.end c.requires.fits

pub put_parted-requires-clause-fits : goal.put_parted-requires-clause-fits
put_parted-requires-clause-fits c = subst (λ b. c.args.number < 10 ^ whole_digits b c.args.end) c.if-commas.true c.requires.fits

pub put_many-requires-clause-fits : goal.put_many-requires-clause-fits
put_many-requires-clause-fits c = last_room c.args.commas c.args.number c.args.end c.requires.fits

pub returns-then-number-lt1000-clause-picture : goal.returns-then-number-lt1000-clause-picture
returns-then-number-lt1000-clause-picture c = λ place h.
    c.put_few.ensures.picture place h
    ∙ last_left c.args.commas c.args.number c.args.end place (no_comma c.args.commas c.args.number c.args.end (below_comma c.args.commas c.args.number c.if-number-lt1000.true)) h

pub returns-then-commas-clause-picture : goal.returns-then-commas-clause-picture
returns-then-commas-clause-picture c = λ place h. c.put_parted.ensures.picture place h ∙ ap (λ b. whole_at b c.args.number place) (sym c.if-commas.true)

pub returns-else-commas-clause-picture : goal.returns-else-commas-clause-picture
returns-else-commas-clause-picture c = λ place h.
    c.put_many.ensures.picture place h
    ∙ last_left c.args.commas c.args.number c.args.end place (no_comma c.args.commas c.args.number c.args.end (rw c.if-commas.false refl)) h
