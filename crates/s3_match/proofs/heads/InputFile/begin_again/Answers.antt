use Rattle.std.proofs.Common.{refl}
use Rattle.s3_match.specs.declared.heads.InputFile.{InputFile}
use Rattle.s3_match.proofs.ReadingLemmas.{nothing_read}
use Rattle.s3_match.proofs.heads.InputFile.begin_again.Goals as goal

pub returns-clause-input : goal.returns-clause-input
returns-clause-input c = λ program.
    let new : InputFile = record c.vacate.new.self { reads = 0; last_key = c.forget.new.self } in
    nothing_read program c.args.self.now c.vacate.new.self new c.vacate.ensures.unread refl c.vacate.ensures.slot refl c.forget.ensures
