-- What a session answers, from what the run gives before its reports are written.
use Rattle.std.proofs.Common.{◌≡◌, ℕ, List, Option, Some, Ok, Result, sym, subst}
use Rattle.std.specs.Io.KnownBytes.{Appends}
use Rattle.s3_bureau.specs.declared.run_fault.RunFault.{RunFault}
use Rattle.s3_bureau.specs.declared.unwritten.Unwritten.{Unwritten}
use Rattle.s3_bureau.specs.Inner.Unwritten.{RunsUnwritten, SavesAs, unwritten_texts}
use Rattle.s3_bureau.specs.Runs.{RunTexts, output_of}
use Rattle.s3_cli.specs.Parts.{Parts, parts_of}
use Rattle.s3_cli.specs.Session.{Answers, IsShort, LeavesParts, WritesParts, WritesRun}

pub answered : (pack input saved : List ℕ) (parts : Parts) (run : Unwritten) (old new : Option (List ℕ)) → IsShort input → parts_of input ≡ Some parts
    → RunsUnwritten pack parts.deck1 parts.deck2 parts.script (Ok run) → Appends old new (output_of (unwritten_texts run)) → SavesAs run saved
    → Answers pack input saved old new
answered pack input saved parts run old new short has given wrote saves = record {
  short = short;
  wrote = subst (λ (p : Option Parts). WritesParts pack p old new) (sym has) (subst (λ (texts : Result RunTexts RunFault). WritesRun texts old new) (sym given.0) wrote);
  leaves = subst (λ (p : Option Parts). LeavesParts pack p saved) (sym has) (given.1 saved saves);
}
