use Rattle.std.proofs.Common.{arith, true, false, ◌≡◌, ◌≢◌, ℕ, ◌<◌, ◌≤◌, ◌+◌, ◌-◌, ◌/◌, ◌^◌, ◌∙◌, ◌&&◌, nat_lt, ap, sym, subst, length, get_or, get_or-set_other}
use Rattle.s3_edit.specs.Inner.Passes.{whole_at}
use Rattle.s3_edit.specs.Picture.{whole_digits}
use Rattle.s3_edit.proofs.Places.{is_lt}
use Rattle.s3_edit.proofs.Whole.{first_of, second_of, side_by_side, last_left, three_ahead, three_comma, three_digit, three_written}
use Rattle.s3_edit.proofs.ShortLemmas.{comma_room, last_room, next_room, no_comma}
use Rattle.s3_edit.proofs.short_amount.put_threes.Goals as goal

pub threes-preserved : goal.threes-preserved
threes-preserved c =
    let e = c.args.end - c.threes.place in
    let test : (c.args.commas && nat_lt 999 c.threes.rest) ≡ true = sym c.has_comma.ensures ∙ c.threes-test.true in
    let commas : c.args.commas ≡ true = first_of c.args.commas (nat_lt 999 c.threes.rest) test in
    let many : 999 < c.threes.rest = is_lt 999 c.threes.rest (second_of c.args.commas (nat_lt 999 c.threes.rest) test) in
    let fits : c.threes.rest < 10 ^ whole_digits true e = subst (λ b. c.threes.rest < 10 ^ whole_digits b e) commas c.threes.invariant.fits in
    let room : 4 < e = comma_room c.threes.rest e many fits in
    let next : e - 4 ≡ c.args.end - (c.threes.place + 4) = omega arith in
    let less : c.threes.rest / 10 ^ 3 < 10 ^ whole_digits c.args.commas (c.args.end - (c.threes.place + 4)) =
    subst (λ b. c.threes.rest / 10 ^ 3 < 10 ^ whole_digits b (c.args.end - (c.threes.place + 4))) (sym commas) (subst (λ k. c.threes.rest / 10 ^ 3 < 10 ^ whole_digits true k) next (next_room c.threes.rest e room fits)) in
    let of_three : (k : ℕ) → whole_at true c.threes.rest k ≡ whole_at c.args.commas c.threes.rest k = λ k. ap (λ b. whole_at b c.threes.rest k) (sym commas) in
    let digits : (k : ℕ) → k < 3 → get_or c.put_three-rest.new.text (c.args.end - c.threes.place - 1 - k) 0 ≡ whole_at c.args.commas c.threes.rest k = λ k h. c.put_three-rest.ensures.digits k h ∙ three_digit c.threes.rest k many h ∙ of_three k in
    let long : c.args.end ≤ length c.put_three-rest.new.text = omega arith in
    record {
      within = omega (arith, room);
      fits = subst (λ r. r < 10 ^ whole_digits c.args.commas (c.args.end - (c.threes.place + 4))) (sym c.put_three-rest.ensures.left) less;
      ahead = λ k.
          let at : k + (c.threes.place + 4) ≡ k + 4 + c.threes.place = omega arith in
          ap (λ i. whole_at c.args.commas c.args.number i) at ∙ c.threes.invariant.ahead (k + 4) ∙ three_ahead c.args.commas c.threes.rest c.put_three-rest.result k commas c.put_three-rest.ensures.left;
      written = three_written (λ k. whole_at c.args.commas c.args.number k) (λ k. whole_at c.args.commas c.threes.rest k) c.threes.place c.args.end c.threes.text c.put_three-rest.new.text (omega (arith, room)) long
          c.threes.invariant.ahead c.threes.invariant.written digits (three_comma c.threes.rest many ∙ of_three 3) c.put_three-rest.ensures.rest;
      before = λ i h.
          let ne : i ≢ c.args.end - 4 - c.threes.place = omega (arith, room, h) in
          rw get_or-set_other (c.put_three-rest.ensures.before i (omega (arith, room, h)) ∙ c.threes.invariant.before i (omega (arith, room, h)));
      kept = λ i h.
          let ne : i ≢ c.args.end - 4 - c.threes.place = omega (arith, room) in
          rw get_or-set_other (c.put_three-rest.ensures.rest i (omega arith) ∙ c.threes.invariant.kept i h);
    }

pub put_suppressed-requires-clause-fits : goal.put_suppressed-requires-clause-fits
put_suppressed-requires-clause-fits c = last_room c.args.commas c.threes.rest (c.args.end - c.threes.place) c.threes.invariant.fits

pub returns-clause-picture : goal.returns-clause-picture
returns-clause-picture c =
    let test : (c.args.commas && nat_lt 999 c.threes.rest) ≡ false = sym c.has_comma.ensures ∙ c.threes-test.false in
    side_by_side (λ k. whole_at c.args.commas c.args.number k) (λ k. whole_at c.args.commas c.threes.rest k) c.args.end c.threes.place c.threes.text c.put_suppressed.new.text c.threes.invariant.within c.threes.invariant.ahead c.threes.invariant.written
    (λ k h. c.put_suppressed.ensures.picture k h ∙ last_left c.args.commas c.threes.rest (c.args.end - c.threes.place) k (no_comma c.args.commas c.threes.rest (c.args.end - c.threes.place) test) h) c.put_suppressed.ensures.rest
