use Rattle.std.proofs.Common.{◌∙◌, ap}
use Rattle.s3_meaning.specs.Selection.{type_of}
use Rattle.s3_program.specs.Inner.Stands.{source_named}
use Rattle.s3_match.proofs.reading.Reading.type_of.Goals as goal

pub returns-clause-found : goal.returns-clause-found
returns-clause-found c = c.type_in.ensures.found ∙ ap (λ name. type_of (source_named c.args.program.now) name c.args.bytes.now) (c.slot.ensures.name c.args.program.now c.requires.sound)
