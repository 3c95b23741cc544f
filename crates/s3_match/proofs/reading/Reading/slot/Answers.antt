use Rattle.std.proofs.Common.{◌∙◌, sym, ap}
use Rattle.s3_meaning.specs.Selection as meaning
use Rattle.s3_match.proofs.ReadingLemmas.{input_there, input_slot, file_named}
use Rattle.s3_match.proofs.reading.Reading.slot.Goals as goal

pub returns-clause-within : goal.returns-clause-within
returns-clause-within c = λ program sound. input_slot program c.args.self.now c.args.place c.index.result.now sound c.requires c.index.ensures

pub returns-clause-file : goal.returns-clause-file
returns-clause-file c = λ program. ap (λ (input : meaning.InputFile). input.file) (input_there program c.args.self.now.files.items c.args.place c.index.result.now c.requires c.index.ensures)

pub returns-clause-name : goal.returns-clause-name
returns-clause-name c = λ program sound.
    file_named program c.index.result.now.file (input_slot program c.args.self.now c.args.place c.index.result.now sound c.requires c.index.ensures)
    ∙ sym (ap (λ (input : meaning.InputFile). input.file.name) (input_there program c.args.self.now.files.items c.args.place c.index.result.now c.requires c.index.ensures))
