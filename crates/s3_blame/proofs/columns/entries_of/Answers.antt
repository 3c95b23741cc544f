use Rattle.std.proofs.Common.{◌≡◌, ◌∙◌, ℕ, true, List, [], ap, slice_range, subst}
use Rattle.std.specs.Prelude.{IsTrue}
use Rattle.std.specs.List.{All, list_all}
use Rattle.std.proofs.lemmas.Result.{IfOk-weaker}
use Rattle.s3_lines.specs.declared.sheet.Line.{Line}
use Rattle.s3_lines.specs.Inner.Ascending.{cards_ascend}
use Rattle.s3_lines.specs.Inner.Ranges.{are_read}
use Rattle.s3_sheets.specs.Lines.{lines_of}
use Rattle.s3_sheets.specs.Sheets.{sheet_diagnostics}
use Rattle.s3_diagnose.specs.Inner.Order.{AreInOrder}
use Rattle.s3_blame.specs.Inner.Names.{names_of}
use Rattle.s3_blame.specs.Inner.OwnMarks.{HasAllMarks, is_mark_among}
use Rattle.s3_blame.specs.Inner.Tested.{AreTested}
use Rattle.s3_blame.proofs.TestedLemmas.{marks_are_tested}
use Rattle.s3_blame.proofs.columns.entries_of.Goals as goal

pub returns-in-Ok-clause-of_lines : goal.returns-in-Ok-clause-of_lines
returns-in-Ok-clause-of_lines c =
    let cards = slice_range c.args.deck.now c.args.from c.args.to in
    let lines = c.deref.result.now in
    let read : IsTrue (are_read lines) = ap are_read c.deref.ensures.value ∙ c.in-Ok.ensures.2 in
    IfOk-weaker c.later_entries.result (λ found. IsTrue (are_read lines) → list_all (is_mark_among (names_of lines) lines) found.items ≡ true)
    (λ found. sheet_diagnostics c.args.from cards ≡ [] → AreTested c.args.from cards found.items)
    (λ found only none. marks_are_tested (names_of lines) c.args.from cards lines found.items (c.deref.ensures.value ∙ c.in-Ok.ensures.1) (only read))
    c.later_entries.ensures.only

pub returns-in-Ok-clause-only : goal.returns-in-Ok-clause-only
returns-in-Ok-clause-only c =
    let from = c.args.from in
    let cards = slice_range c.args.deck.now from c.args.to in
    let lines = c.deref.result.now in
    let same : lines ≡ lines_of from cards = c.deref.ensures.value ∙ c.in-Ok.ensures.1 in
    let read : IsTrue (are_read lines) = ap are_read c.deref.ensures.value ∙ c.in-Ok.ensures.2 in
    IfOk-weaker c.later_entries.result (λ found. IsTrue (are_read lines) → list_all (is_mark_among (names_of lines) lines) found.items ≡ true)
    (λ found. sheet_diagnostics from cards ≡ [] → list_all (is_mark_among (names_of (lines_of from cards)) (lines_of from cards)) found.items ≡ true)
    (λ found only none. subst (λ (all : List Line). list_all (is_mark_among (names_of all) all) found.items ≡ true) same (only read))
    c.later_entries.ensures.only

pub returns-in-Ok-clause-marked : goal.returns-in-Ok-clause-marked
returns-in-Ok-clause-marked c =
    let from = c.args.from in
    let told = c.args.told.now in
    let cards = slice_range c.args.deck.now from c.args.to in
    let lines = c.deref.result.now in
    let same : lines ≡ lines_of from cards = c.deref.ensures.value ∙ c.in-Ok.ensures.1 in
    let ascend : cards_ascend from lines ≡ true = ap (cards_ascend from) c.deref.ensures.value ∙ c.in-Ok.ensures.3 in
    let read : IsTrue (are_read lines) = ap are_read c.deref.ensures.value ∙ c.in-Ok.ensures.2 in
    IfOk-weaker c.later_entries.result (λ found. IsTrue (are_read lines) → AreInOrder told → (first : ℕ) → cards_ascend first lines ≡ true → All (HasAllMarks (names_of lines) told found.items) lines)
    (λ found. sheet_diagnostics from cards ≡ [] → AreInOrder told → All (HasAllMarks (names_of (lines_of from cards)) told found.items) (lines_of from cards))
    (λ found marked none order. subst (λ (all : List Line). All (HasAllMarks (names_of all) told found.items) all) same (marked read order from ascend))
    c.later_entries.ensures.marked
