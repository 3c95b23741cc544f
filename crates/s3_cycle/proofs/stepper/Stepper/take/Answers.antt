use Rattle.std.proofs.Common.{subst, ◌≡◌, List}
use Rattle.std.specs.Prelude.{Some}
use Rattle.s3_meaning.specs.Selection as meaning
use Rattle.s3_meaning.specs.Selection.{Selected}
use Rattle.s3_match.specs.declared.heads.InputFile.{InputFile}
use Rattle.s3_match.specs.Inner.Selecting.{reading_of, selected_at}
use Rattle.s3_cycle.proofs.TakeLemmas.{takes}
use Rattle.s3_cycle.proofs.stepper.Stepper.take.Goals as goal

pub returns : goal.returns
returns c =
    takes c.args.self.now c.take.new.self c.args.place c.index.result.now c.head.result c.is_matched.result c.requires.running c.requires.head c.index.ensures (c.head.ensures.starts c.args.self.now.program c.requires.running.reading)
    (c.head.ensures.selected c.args.self.now.program c.index.result.now c.index.ensures)
    (subst (λ (files : List InputFile). (selected : Selected) → selected_at c.args.self.now.program files c.args.place ≡ Some selected → c.is_matched.result ≡ meaning.is_matched (reading_of c.args.self.now.program files c.args.self.now.progress.reading.primary_key) selected) c.deref.ensures.value c.is_matched.ensures)
    c.take.ensures.sound c.take.ensures.taken c.take.ensures.unread c.take.ensures.some_unread c.take.ensures.bytes
