use Rattle.std.proofs.Common.{arith, ◌≡◌, ◌<◌, ◌≤◌, ◌+◌, ◌/◌, ◌^◌, ◌∙◌, sym, ap}
use Rattle.s3_edit.proofs.Places.{split}
use Rattle.s3_edit.proofs.ShortLemmas.{digit_room, first_digit, none_left, pair_room, pair_written}
use Rattle.s3_edit.proofs.short_amount.put_many.Goals as goal

pub put_pair-rest-requires-clause-begins : goal.put_pair-rest-requires-clause-begins
put_pair-rest-requires-clause-begins c =
    let room : c.pairs.place + 2 ≤ c.args.end = pair_room c.args.number c.pairs.place c.args.end c.pairs.rest c.requires.fits c.pairs.invariant.left (omega (arith, c.pairs-test.true)) in
    omega (arith, room)

pub pairs-preserved : goal.pairs-preserved
pairs-preserved c =
    let many : 9 < c.pairs.rest = omega (arith, c.pairs-test.true) in
    let room : c.pairs.place + 2 ≤ c.args.end = pair_room c.args.number c.pairs.place c.args.end c.pairs.rest c.requires.fits c.pairs.invariant.left many in
    record {
      within = room;
      left = c.put_pair-rest.ensures.left ∙ ap (λ r. r / 10 ^ 2) c.pairs.invariant.left ∙ split c.args.number c.pairs.place 2;
      written = pair_written c.args.number c.pairs.place c.pairs.rest c.args.end c.pairs.text c.put_pair-rest.new.text c.pairs.invariant.left many room c.pairs.invariant.written c.put_pair-rest.ensures.digits c.put_pair-rest.ensures.rest;
      before = λ i h. c.put_pair-rest.ensures.before i (omega (arith, h)) ∙ c.pairs.invariant.before i (omega (arith, h));
      kept = λ i h. c.put_pair-rest.ensures.rest i (omega arith) ∙ c.pairs.invariant.kept i h;
    }

pub put_pair-requires-clause-begins : goal.put_pair-requires-clause-begins
put_pair-requires-clause-begins c =
    let room : c.pairs.place + 2 ≤ c.args.end = pair_room c.args.number c.pairs.place c.args.end c.pairs.rest c.requires.fits c.pairs.invariant.left c.if-rest-gt9.true in
    omega (arith, room)

pub returns-then-rest-gt9-clause-picture : goal.returns-then-rest-gt9-clause-picture
returns-then-rest-gt9-clause-picture c =
    let room : c.pairs.place + 2 ≤ c.args.end = pair_room c.args.number c.pairs.place c.args.end c.pairs.rest c.requires.fits c.pairs.invariant.left c.if-rest-gt9.true in
    let last : c.pairs.rest / 10 ^ 2 ≡ 0 = omega (arith, c.pairs-test.false) in
    let none : c.args.number / 10 ^ (c.pairs.place + 2) ≡ 0 = sym (split c.args.number c.pairs.place 2) ∙ ap (λ r. r / 10 ^ 2) (sym c.pairs.invariant.left) ∙ last in
    none_left c.args.number c.args.end (c.pairs.place + 2) c.put_pair.new.text none
    (pair_written c.args.number c.pairs.place c.pairs.rest c.args.end c.pairs.text c.put_pair.new.text c.pairs.invariant.left c.if-rest-gt9.true room c.pairs.invariant.written c.put_pair.ensures.digits c.put_pair.ensures.rest)
    (λ i h. c.put_pair.ensures.before i (omega (arith, h)) ∙ c.pairs.invariant.before i (omega (arith, h)))

pub returns-then-rest-gt0-clause-picture : goal.returns-then-rest-gt0-clause-picture
returns-then-rest-gt0-clause-picture c =
    let room : c.pairs.place < c.args.end = digit_room c.args.number c.pairs.place c.args.end c.pairs.rest c.requires.fits c.pairs.invariant.left c.if-rest-gt0.true in
    first_digit c.args.number c.args.end c.pairs.place c.pairs.rest c.pairs.text room (omega arith) c.pairs.invariant.left c.if-rest-gt0.true (omega (arith, c.if-rest-gt9.false)) c.pairs.invariant.written c.pairs.invariant.before

pub returns-else-rest-gt0-clause-picture : goal.returns-else-rest-gt0-clause-picture
returns-else-rest-gt0-clause-picture c =
    none_left c.args.number c.args.end c.pairs.place c.pairs.text (sym c.pairs.invariant.left ∙ omega (arith, c.if-rest-gt0.false)) c.pairs.invariant.written c.pairs.invariant.before
