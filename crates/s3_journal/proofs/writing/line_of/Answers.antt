use Rattle.std.proofs.Common.{Some, None, ap, ◌∙◌, rules}
use Rattle.s3_journal.specs.Inner.Days.{day_of}
use Rattle.s3_journal.specs.Inner.Digests.{digest_of}
use Rattle.s3_journal.specs.Inner.Lines.{text_with}
use Rattle.s3_journal.proofs.WritingLemmas.{line_ended}
use Rattle.s3_journal.proofs.writing.line_of.Goals as goal

pub returns : goal.returns
returns c =
    let day = day_of c.args.day.now in
    let before = digest_of c.args.before.now in
    let previous = c.in_ok-previous.ensures ∙ ap digest_of c.as_bytes.ensures.value in
    let said = c.in_ok-said.ensures ∙ ap (λ p. text_with day p None) (c.as_str.ensures.value ∙ previous) in
    let sum = c.in_ok-sum.ensures ∙ ap digest_of (c.as_bytes-2.ensures.value ∙ said) in
    line_ended day before _ _
    (c.in_ok-line.ensures
    ∙ (ap (λ p. text_with day p (Some c.as_str-3.result.now)) (c.as_str-2.ensures.value ∙ previous) ∙ ap (λ own. text_with day before (Some own)) (c.as_str-3.ensures.value ∙ sum)))
    (search rules)
