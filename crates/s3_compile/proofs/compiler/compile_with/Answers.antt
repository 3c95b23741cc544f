use Rattle.s3_compile.proofs.Ranging.{ranged_of_read}
use Rattle.s3_compile.proofs.compiler.compile_with.Goals as goal

pub fill_tables-requires : goal.fill_tables-requires
fill_tables-requires c = ranged_of_read c.args.lines.now c.requires.read
