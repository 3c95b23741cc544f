use Rattle.std.proofs.Common.{ap, sym, ◌∙◌}
use Rattle.s3_job_files.specs.declared.records.OpenRecords.TheVariants.{ByKey}
use Rattle.s3_job_files.proofs.OneFile.{by_key_stored, kept_by_key_if, kept_in_order}
use Rattle.s3_job_files.proofs.file.OpenFile.close.Goals as goal

pub close-requires-clause-stored : goal.close-requires-clause-stored
close-requires-clause-stored g c = by_key_stored _ c.args.self.label c.args.self.records _ c.requires.usable (c.in-ByKey.is ∙ ap ByKey (sym c.in-ByKey.file-is))

pub returns-in-InOrder-clause-kept : goal.returns-in-InOrder-clause-kept
returns-in-InOrder-clause-kept g c = kept_in_order _ c.args.self.label c.args.self.records _ c.requires.usable c.in-InOrder.is

pub returns-in-ByKey-clause-kept : goal.returns-in-ByKey-clause-kept
returns-in-ByKey-clause-kept g c =
    kept_by_key_if _ _ c.args.self.label c.args.self.records _ c.close.result c.requires.usable (c.in-ByKey.is ∙ ap ByKey (sym c.in-ByKey.file-is)) c.close.ensures.good c.close.ensures.records
