use Rattle.std.proofs.Common.{[]}
use Rattle.s3_lines.specs.declared.sheet.InputLine.TheVariants.{And}
use Rattle.s3_program.proofs.StartLemmas.{begin_behind}
use Rattle.s3_program.proofs.starting.fields_behind.Goals as goal

pub returns-then-place-known : goal.returns-then-place-known
returns-then-place-known c = begin_behind c.args.inputs.now _ _ (And []) c.requires.within c.if-place-known.true (c.requires.known c.if-place-known.true)
