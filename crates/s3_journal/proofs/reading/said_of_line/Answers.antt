use Rattle.std.proofs.Common.{option_and_then, option_map, ap, sym, ◌∙◌}
use Rattle.std.proofs.lemmas.Result.{IfOk-weaker}
use Rattle.json.specs.Find.{as_object}
use Rattle.s3_journal.specs.Inner.Journals.{said_of}
use Rattle.s3_journal.specs.Inner.Lines.{said_in, said_on}
use Rattle.s3_journal.proofs.JournalLemmas.{said_of_document}
use Rattle.s3_journal.proofs.reading.said_of_line.Goals as goal

pub returns-in-Ok : goal.returns-in-Ok
unfolding said_on
returns-in-Ok c =
    IfOk-weaker c.said_of_value.result _ _
    (λ found is. is ∙ sym (ap (λ json. option_and_then said_in (option_and_then as_object json)) c.in-Ok.ensures.ok))
    c.said_of_value.ensures

pub returns-in-Err : goal.returns-in-Err
returns-in-Err c =
    IfOk-weaker c.nothing_said.result _ _
    (λ found is. ap (option_map said_of) is.0 ∙ sym (said_of_document c.args.line.now c.parse.result c.in-Err.fault c.in-Err.is c.parse.ensures.invalid c.parse.ensures.never_too_long c.parse.ensures.never_duplicate is.1))
    c.nothing_said.ensures
