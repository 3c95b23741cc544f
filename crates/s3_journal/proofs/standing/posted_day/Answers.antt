use Rattle.std.proofs.Common.{ap, sym, ◌∙◌}
use Rattle.std.specs.Prelude.{option_map}
use Rattle.s3_journal.specs.Inner.Posted.{line_of, lines_of, posted_by, posted_in}
use Rattle.s3_journal.proofs.FromPack.{fewer_left, found_before, found_day, found_here, found_none, found_older}
use Rattle.s3_journal.proofs.standing.posted_day.Goals as goal

pub returns-then-has_posted : goal.returns-then-has_posted
returns-then-has_posted c =
    found_here (posted_by c.args.posting) c.loop-day.made.now (lines_of c.loop-day.rest.now) c.from_pack.result.now c.in-Some.day.now c.in-Some.older.now c.from_pack.ensures c.in-Some.ensures.cases.0
    (sym c.has_made.ensures ∙ c.if-has_made.true) (sym c.has_posted.ensures ∙ c.if-has_posted.true)
    ∙ c.loop-day.invariant.1

pub loop-day-smaller-else-has_posted : goal.loop-day-smaller-else-has_posted
loop-day-smaller-else-has_posted c = fewer_left c.loop-day.made.now c.loop-day.rest.now c.from_pack.result.now c.in-Some.day.now c.in-Some.older.now c.from_pack.ensures c.in-Some.ensures.cases.0

pub loop-day-preserved-else-has_posted : goal.loop-day-preserved-else-has_posted
loop-day-preserved-else-has_posted c = (
  c.as_str-made.utf8,
  ap (λ before. posted_in (posted_by c.args.posting) before (lines_of c.in-Some.older.now)) c.as_str-made.ensures.value
      ∙ (found_before (posted_by c.args.posting) c.loop-day.made.now (lines_of c.loop-day.rest.now) c.from_pack.result.now c.in-Some.day.now c.in-Some.older.now c.from_pack.ensures c.in-Some.ensures.cases.0
      (sym c.has_made.ensures ∙ c.if-has_made.true) (sym c.has_posted.ensures ∙ c.if-has_posted.false)
      ∙ c.loop-day.invariant.1),
)

pub loop-day-smaller : goal.loop-day-smaller
loop-day-smaller c = fewer_left c.loop-day.made.now c.loop-day.rest.now c.from_pack.result.now c.in-Some.day.now c.in-Some.older.now c.from_pack.ensures c.in-Some.ensures.cases.0

pub loop-day-preserved : goal.loop-day-preserved
loop-day-preserved c = (
  c.loop-day.invariant.0,
  found_older (posted_by c.args.posting) c.loop-day.made.now (lines_of c.loop-day.rest.now) c.from_pack.result.now c.in-Some.day.now c.in-Some.older.now c.from_pack.ensures c.in-Some.ensures.cases.0
      (sym c.has_made.ensures ∙ c.if-has_made.false)
      ∙ c.loop-day.invariant.1,
)

pub returns : goal.returns
returns c =
    ap (option_map line_of) c.last_posted.ensures
    ∙ found_day (posted_by c.args.posting) c.loop-day.rest.now
    ∙ (found_none (posted_by c.args.posting) c.loop-day.made.now (lines_of c.loop-day.rest.now) c.from_pack.result.now c.from_pack.ensures c.in_default.ensures.cases ∙ c.loop-day.invariant.1)
