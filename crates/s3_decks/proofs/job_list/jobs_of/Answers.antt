use Rattle.std.proofs.Common.{◌-◌, sym, ◌∙◌, arith, length}
use Rattle.s3_ocl.specs.Streams.{jobs_from}
use Rattle.s3_decks.proofs.Reading.{all_listed, all_taken, listed_more, next_within, none_left}
use Rattle.s3_decks.proofs.job_list.jobs_of.Goals as goal
use Rattle.s3_decks.proofs.job_list.jobs_of.Goals.{else-loop-job-test, then-loop-job-test+in_default}

pub loop-job-preserved : goal.loop-job-preserved
loop-job-preserved c =
    rw (c.in_ok-push.ensures.items, c.after-place.ensures)
    (listed_more c.args.deck.now (jobs_from c.args.deck.now 0) c.loop-job.jobs.items c.in_ok-entry.entry (length c.args.deck.now) c.loop-job._job c.loop-job.place c.loop-job.invariant
    (omega (arith, c.loop-job-test.true, c.len-job-end.ensures.value))
    (next_within c.args.deck.now c.loop-job.place c.in-Some.from (sym c.job_at.ensures ∙ c.in-Some.is))
    c.in_ok-entry.ensures)

pub returns : goal.returns
returns c = elim c.loop-job-test.branch [
  | else-loop-job-test w ↦
      all_taken c.args.deck.now (jobs_from c.args.deck.now 0) c.loop-job.jobs.items (length c.args.deck.now) c.loop-job._job c.loop-job.place c.loop-job.invariant (omega (arith, w.loop-job-test, c.len-job-end.ensures.value))
  | then-loop-job-test+in_default w ↦
      all_listed c.args.deck.now (jobs_from c.args.deck.now 0) c.loop-job.jobs.items (length c.args.deck.now - c.loop-job._job) c.loop-job.place c.loop-job.invariant
      (none_left c.args.deck.now c.loop-job.place (sym w.job_at.ensures ∙ w.in_default.is))
]
