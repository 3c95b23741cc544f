use Rattle.std.specs.Option.{option_copied}
use Rattle.s3_journal.specs.Inner.Days.{day_of, did_of}
use Rattle.s3_journal.specs.Inner.Lines.{day_pairs, did_pairs, digest_pairs, tree_of}
use Rattle.s3_journal.proofs.WritingLemmas.{day_written, one}
use Rattle.s3_journal.proofs.writing.Line.record.Goals as goal

pub returns : goal.returns
unfolding tree_of
returns c =
    day_written c.end_object.result _ _ _ _ _ _ (day_pairs (day_of c.args.day.now)) (did_pairs (did_of c.args.day.now.work)) (digest_pairs c.args.previous.now (option_copied c.args.sum))
    (one _ c.in_ok-begin_object.ensures) c.in_ok-day.ensures c.in_ok-work.ensures c.in_ok-digests.ensures (one c.end_object.result c.end_object.ensures)
