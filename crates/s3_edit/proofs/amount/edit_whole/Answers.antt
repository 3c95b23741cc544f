use Rattle.std.proofs.Common.{arith, true, false, ◌≡◌, ◌≢◌, ℕ, ◌<◌, ◌≤◌, ◌+◌, ◌-◌, ◌∙◌, ◌&&◌, nat_lt, ap, sym, length, get_or, get_or-set_other}
use Rattle.s3_edit.specs.Inner.Passes.{whole_at}
use Rattle.s3_edit.proofs.Places.{is_lt}
use Rattle.s3_edit.proofs.Whole.{first_of, second_of, side_by_side, last_left, three_ahead, three_comma, three_digit, three_written}
use Rattle.s3_edit.proofs.amount.edit_whole.Goals as goal

pub threes-preserved : goal.threes-preserved
threes-preserved c =
    let test : (c.args.commas && (nat_lt 999 c.threes.rest && nat_lt 3 (c.args.end - c.threes.place))) ≡ true = sym c.has_comma.ensures ∙ c.threes-test.true in
    let commas : c.args.commas ≡ true = first_of c.args.commas (nat_lt 999 c.threes.rest && nat_lt 3 (c.args.end - c.threes.place)) test in
    let both : (nat_lt 999 c.threes.rest && nat_lt 3 (c.args.end - c.threes.place)) ≡ true = second_of c.args.commas (nat_lt 999 c.threes.rest && nat_lt 3 (c.args.end - c.threes.place)) test in
    let many : 999 < c.threes.rest = is_lt 999 c.threes.rest (first_of (nat_lt 999 c.threes.rest) (nat_lt 3 (c.args.end - c.threes.place)) both) in
    let room : 3 < c.args.end - c.threes.place = is_lt 3 (c.args.end - c.threes.place) (second_of (nat_lt 999 c.threes.rest) (nat_lt 3 (c.args.end - c.threes.place)) both) in
    let of_three : (k : ℕ) → whole_at true c.threes.rest k ≡ whole_at c.args.commas c.threes.rest k = λ k. ap (λ b. whole_at b c.threes.rest k) (sym commas) in
    let digits : (k : ℕ) → k < 3 → get_or c.edit_digits-rest.new.out (c.args.end - c.threes.place - 1 - k) 0 ≡ whole_at c.args.commas c.threes.rest k = λ k h. c.edit_digits-rest.ensures.digits k h ∙ three_digit c.threes.rest k many h ∙ of_three k in
    let long : c.args.end ≤ length c.edit_digits-rest.new.out = omega arith in
    record {
      within = omega (arith, room);
      ahead = λ k.
          let at : k + (c.threes.place + 4) ≡ k + 4 + c.threes.place = omega arith in
          ap (λ i. whole_at c.args.commas c.args.number i) at ∙ c.threes.invariant.ahead (k + 4) ∙ three_ahead c.args.commas c.threes.rest c.edit_digits-rest.result k commas c.edit_digits-rest.ensures.left;
      written = three_written (λ k. whole_at c.args.commas c.args.number k) (λ k. whole_at c.args.commas c.threes.rest k) c.threes.place c.args.end c.threes.out c.edit_digits-rest.new.out (omega (arith, room)) long
          c.threes.invariant.ahead c.threes.invariant.written digits (three_comma c.threes.rest many ∙ of_three 3) c.edit_digits-rest.ensures.rest;
      kept = λ i h.
          let ne : i ≢ c.args.end - 4 - c.threes.place = omega (arith, room) in
          rw get_or-set_other (c.edit_digits-rest.ensures.rest i (omega arith) ∙ c.threes.invariant.kept i h);
    }

pub returns-clause-picture : goal.returns-clause-picture
returns-clause-picture c =
    let test : (c.args.commas && (nat_lt 999 c.threes.rest && nat_lt 3 (c.args.end - c.threes.place))) ≡ false = sym c.has_comma.ensures ∙ c.threes-test.false in
    side_by_side (λ k. whole_at c.args.commas c.args.number k) (λ k. whole_at c.args.commas c.threes.rest k) c.args.end c.threes.place c.threes.out c.edit_suppressed.new.out c.threes.invariant.within c.threes.invariant.ahead c.threes.invariant.written
    (λ k h. c.edit_suppressed.ensures.picture k h ∙ last_left c.args.commas c.threes.rest (c.args.end - c.threes.place) k test h) c.edit_suppressed.ensures.rest
