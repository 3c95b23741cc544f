use Rattle.std.proofs.Common.{arith, ◌<◌, ◌∙◌, refl}
use Rattle.s3_edit.proofs.ShortLemmas.{digit_room, few_written, none_written, one_written}
use Rattle.s3_edit.proofs.short_amount.put_few.Goals as goal

pub put_three-requires-clause-begins : goal.put_three-requires-clause-begins
put_three-requires-clause-begins c =
    let room : 2 < c.args.end = digit_room c.args.number 2 c.args.end _ c.requires.fits refl (omega (arith, c.if-number-gt99.true)) in
    omega (arith, room)

pub put_pair-requires-clause-begins : goal.put_pair-requires-clause-begins
put_pair-requires-clause-begins c =
    let room : 1 < c.args.end = digit_room c.args.number 1 c.args.end _ c.requires.fits refl (omega (arith, c.if-number-gt9.true)) in
    omega (arith, room)

pub returns-then-number-gt99-clause-picture : goal.returns-then-number-gt99-clause-picture
returns-then-number-gt99-clause-picture c =
    few_written c.args.number 2 c.args.end c.put_three.new.text (omega (arith, c.if-number-gt99.true)) (omega (arith, c.requires.few)) c.put_three.ensures.digits
    (λ i h. c.put_three.ensures.before i h ∙ c.requires.blanks i (omega (arith, h)))

pub returns-then-number-gt9-clause-picture : goal.returns-then-number-gt9-clause-picture
returns-then-number-gt9-clause-picture c =
    few_written c.args.number 1 c.args.end c.put_pair.new.text (omega (arith, c.if-number-gt9.true)) (omega (arith, c.if-number-gt99.false)) c.put_pair.ensures.digits
    (λ i h. c.put_pair.ensures.before i h ∙ c.requires.blanks i (omega (arith, h)))

pub returns-then-number-gt0-clause-picture : goal.returns-then-number-gt0-clause-picture
returns-then-number-gt0-clause-picture c =
    let room : 0 < c.args.end = digit_room c.args.number 0 c.args.end c.args.number c.requires.fits (omega arith) (omega (arith, c.if-number-gt0.true)) in
    one_written c.args.number c.args.end c.args.text.now (omega (arith, c.if-number-gt0.true)) (omega (arith, c.if-number-gt9.false)) room (omega arith) c.requires.blanks

pub returns-else-number-gt0-clause-picture : goal.returns-else-number-gt0-clause-picture
returns-else-number-gt0-clause-picture c = none_written c.args.number c.args.end c.args.text.now (omega (arith, c.if-number-gt0.false)) c.requires.blanks
