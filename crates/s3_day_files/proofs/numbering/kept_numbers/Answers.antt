use Rattle.std.proofs.Common.{rules}
use Rattle.s3_day_files.specs.declared.numbering.AtName.TheVariants.{Nothing}
use Rattle.s3_day_files.proofs.NumberLemmas.{packs_step}
use Rattle.s3_day_files.proofs.numbering.kept_numbers.Goals as goal

pub loop-before-preserved : goal.loop-before-preserved
loop-before-preserved c = search (rules, packs_step c.before_gap-listed.result.now c.loop-before.before Nothing c.loop-before-test.true)
