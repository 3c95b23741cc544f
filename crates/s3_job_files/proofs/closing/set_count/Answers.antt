use Rattle.s3_labels.specs.Inner.Areas.{slots_at}
use Rattle.s3_job_files.proofs.Labels.{change_leaves, count_refused}
use Rattle.s3_job_files.proofs.closing.set_count.Goals as goal

pub returns-clause-labels : goal.returns-clause-labels
returns-clause-labels g c =
    change_leaves c.set_count.result c.changed.result (count_refused c.args.name c.args.count (slots_at c.args.level c.args.pack.now.areas) c.set_count.result c.requires.there c.set_count.ensures.err) c.changed.ensures
    c.set_count.ensures.ready c.set_count.ensures.alone c.set_count.ensures.within c.set_count.ensures.says c.set_count.ensures.failures
