use Rattle.s3_labels.specs.Inner.Areas.{slots_at}
use Rattle.s3_job_files.proofs.Labels.{change_leaves, drop_refused}
use Rattle.s3_job_files.proofs.closing.drop_label.Goals as goal

pub returns-clause-labels : goal.returns-clause-labels
returns-clause-labels g c =
    change_leaves c.drop_label.result c.changed.result (drop_refused c.args.name (slots_at c.args.level c.args.pack.now.areas) c.drop_label.result c.requires.there c.drop_label.ensures.err) c.changed.ensures
    c.drop_label.ensures.ready c.drop_label.ensures.alone c.drop_label.ensures.within c.drop_label.ensures.says c.drop_label.ensures.failures
