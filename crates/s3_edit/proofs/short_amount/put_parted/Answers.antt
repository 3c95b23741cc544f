use Rattle.std.proofs.Common.{arith, refl, true, ◌≢◌, ◌<◌, ◌-◌, ◌∙◌, slice_set, get_or-set_other}
use Rattle.s3_edit.specs.Inner.Passes.{whole_at}
use Rattle.s3_edit.proofs.Whole.{last_left, side_by_side, three_ahead, three_comma, three_digit}
use Rattle.s3_edit.proofs.ShortLemmas.{below_comma, comma_room, last_room, next_room, no_comma, parted}
use Rattle.s3_edit.proofs.short_amount.put_parted.Goals as goal

pub put_three-rest-requires-clause-begins : goal.put_three-rest-requires-clause-begins
put_three-rest-requires-clause-begins c =
    let room : 4 < c.args.end = comma_room c.args.number c.args.end c.requires.many c.requires.fits in
    omega (arith, room)

pub put_few-requires-clause-fits : goal.put_few-requires-clause-fits
put_few-requires-clause-fits c =
    let room : 4 < c.args.end = comma_room c.args.number c.args.end c.requires.many c.requires.fits in
    rw (c.put_three-rest.ensures.left) (last_room true _ _ (next_room c.args.number c.args.end room c.requires.fits))

pub put_threes-requires-clause-fits : goal.put_threes-requires-clause-fits
put_threes-requires-clause-fits c =
    let room : 4 < c.args.end = comma_room c.args.number c.args.end c.requires.many c.requires.fits in
    rw (c.put_three-rest.ensures.left) (next_room c.args.number c.args.end room c.requires.fits)

pub put_few-requires-clause-blanks : goal.put_few-requires-clause-blanks
put_few-requires-clause-blanks c = λ i h.
    let ne : i ≢ c.args.end - 4 = omega (arith, h) in
    rw get_or-set_other (c.put_three-rest.ensures.before i (omega (arith, h)) ∙ c.requires.blanks i (omega (arith, h)))

pub put_threes-requires-clause-blanks : goal.put_threes-requires-clause-blanks
put_threes-requires-clause-blanks c = λ i h.
    let ne : i ≢ c.args.end - 4 = omega (arith, h) in
    rw get_or-set_other (c.put_three-rest.ensures.before i (omega (arith, h)) ∙ c.requires.blanks i (omega (arith, h)))

pub returns-then-rest-lt1000-clause-picture : goal.returns-then-rest-lt1000-clause-picture
returns-then-rest-lt1000-clause-picture c =
    let room : 4 < c.args.end = comma_room c.args.number c.args.end c.requires.many c.requires.fits in
    let middle = c.put_three-rest.new.text in
    side_by_side (λ k. whole_at true c.args.number k) (λ k. whole_at true c.put_three-rest.result k) c.args.end 4 (slice_set middle (c.args.end - 4) 0x6b) c.put_few.new.text (omega (arith, room))
    (λ k. three_ahead true c.args.number c.put_three-rest.result k refl c.put_three-rest.ensures.left)
    (parted c.args.number c.args.end middle room (omega arith) (λ k h. c.put_three-rest.ensures.digits k h ∙ three_digit c.args.number k c.requires.many h) (three_comma c.args.number c.requires.many))
    (λ k h. c.put_few.ensures.picture k h ∙ last_left true c.put_three-rest.result (c.args.end - 4) k (no_comma true c.put_three-rest.result (c.args.end - 4) (below_comma true c.put_three-rest.result c.if-rest-lt1000.true)) h)
    c.put_few.ensures.rest

pub returns-else-rest-lt1000-clause-picture : goal.returns-else-rest-lt1000-clause-picture
returns-else-rest-lt1000-clause-picture c =
    let room : 4 < c.args.end = comma_room c.args.number c.args.end c.requires.many c.requires.fits in
    let middle = c.put_three-rest.new.text in
    side_by_side (λ k. whole_at true c.args.number k) (λ k. whole_at true c.put_three-rest.result k) c.args.end 4 (slice_set middle (c.args.end - 4) 0x6b) c.put_threes.new.text (omega (arith, room))
    (λ k. three_ahead true c.args.number c.put_three-rest.result k refl c.put_three-rest.ensures.left)
    (parted c.args.number c.args.end middle room (omega arith) (λ k h. c.put_three-rest.ensures.digits k h ∙ three_digit c.args.number k c.requires.many h) (three_comma c.args.number c.requires.many))
    c.put_threes.ensures.picture
    c.put_threes.ensures.rest
