-- A line that has a card.
use Rattle.std.proofs.Common.{ap, ◌∙◌, arith}
use Rattle.s3_punch.specs.Inner.Cards.{card_by, form_of}
use Rattle.s3_punch.specs.Inner.Parts.{is_data, is_source}
use Rattle.s3_punch.proofs.StepLemmas.{line_with_card}
use Rattle.s3_punch.proofs.deck.Punched.add_line.Goals as goal

pub returns : goal.returns
returns c =
    let old = c.args.self.now in
    let characters = c.in_ok-characters.characters.items in
    line_with_card c.args.begun.now c.args.line c.args.bytes.now characters c.in_ok-card.card.bytes.items c.in-Some.form old c.note_changes-2.new.self c.add_written.new.self c.in_ok-characters.ensures
    (c.in-Some.ensures ∙ ap (λ b. form_of b c.deref.result.now) c.is_data.ensures ∙ ap (form_of (is_data old.part)) c.deref.ensures.value)
    (c.in_ok-card.ensures ∙ ap (λ s. card_by c.args.begun.now.blanks_remarks s c.deref-2.result.now c.in-Some.form) c.is_source-is_source.ensures ∙ ap (λ cs. card_by c.args.begun.now.blanks_remarks (is_source old.part) cs c.in-Some.form) c.deref-2.ensures.value)
    c.in_ok-note_changes.ensures
    (grind (arith, c.in_ok-add_written.ensures.text, c.deref-5.ensures.value))
    c.in_ok-add_written.ensures.origins
    (grind (arith, c.in_ok-add_written.ensures.faults, c.deref-4.ensures.value, c.deref-5.ensures.value))
    (grind (arith, c.in_ok-add_written.ensures.part, c.deref-5.ensures.value))
