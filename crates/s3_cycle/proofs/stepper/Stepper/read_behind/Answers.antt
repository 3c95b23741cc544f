use Rattle.std.proofs.Common.{◌≡◌, true, List, sym, ◌∙◌, subst}
use Rattle.s3_match.specs.declared.heads.InputFile.{InputFile}
use Rattle.s3_match.specs.Inner.Choice.{is_keyless_alone}
use Rattle.s3_match.proofs.ChoiceLemmas.{alone_stands}
use Rattle.s3_cycle.proofs.ProcessLemmas.{reads_alone}
use Rattle.s3_cycle.proofs.stepper.Stepper.read_behind.Goals as goal

pub process-requires-clause-head : goal.process-requires-clause-head
process-requires-clause-head c =
    alone_stands c.args.self.now.progress.reading.files.items
    (subst (λ (files : List InputFile). is_keyless_alone files ≡ true) c.deref.ensures.value (sym c.is_keyless_alone.ensures ∙ c.if-is_keyless_alone.true))

pub returns-then-is_keyless_alone : goal.returns-then-is_keyless_alone
returns-then-is_keyless_alone c =
    reads_alone c.args.self.now c.process.new.self c.args.place c.requires.running c.requires.within
    (subst (λ (files : List InputFile). is_keyless_alone files ≡ true) c.deref.ensures.value (sym c.is_keyless_alone.ensures ∙ c.if-is_keyless_alone.true)) c.process.ensures
