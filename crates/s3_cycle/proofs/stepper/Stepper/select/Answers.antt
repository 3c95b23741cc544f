use Rattle.std.proofs.Common.{subst, ◌≡◌, List}
use Rattle.std.specs.Prelude.{Some, None}
use Rattle.s3_meaning.specs.Selection as meaning
use Rattle.s3_match.specs.declared.heads.InputFile.{InputFile}
use Rattle.s3_match.specs.Inner.Choice.{IsHeadAt, standing_at}
use Rattle.s3_match.specs.Inner.Selecting.{reading_of}
use Rattle.s3_cycle.proofs.ProcessLemmas.{selects, selects_none}
use Rattle.s3_cycle.proofs.stepper.Stepper.select.Goals as goal

pub returns-in-Some : goal.returns-in-Some
returns-in-Some c =
    selects c.args.self.now c.process.new.self c.in-Some.place
    (subst (λ (files : List InputFile). IsHeadAt files c.in-Some.place) c.deref.ensures.value c.in-Some.ensures.head)
    (subst (λ (files : List InputFile). standing_at c.args.self.now.program files (Some c.in-Some.place) ≡ meaning.select (reading_of c.args.self.now.program files c.args.self.now.progress.reading.primary_key)) c.deref.ensures.value c.in-Some.ensures.selected)
    c.process.ensures

pub returns-in-None : goal.returns-in-None
returns-in-None c =
    selects_none c.args.self.now c.set_last.new.self
    (subst (λ (files : List InputFile). standing_at c.args.self.now.program files None ≡ meaning.select (reading_of c.args.self.now.program files c.args.self.now.progress.reading.primary_key)) c.deref.ensures.value c.in-None.ensures.selected)
    c.set_last.ensures
