use Rattle.std.proofs.Common.{◌≡◌, ◌∙◌, ap, cond, length, map, sym}
use Rattle.s3_cells.specs.Inner.Marks.{capital, cased, unguarded}
use Rattle.s3_cells.proofs.Cells.{got_text, on_ok}
use Rattle.s3_cells.proofs.forms.take_text.Goals as goal

pub returns-in_ok-capitals-clause-ok : goal.returns-in_ok-capitals-clause-ok
returns-in_ok-capitals-clause-ok c =
    let text : c.deref.result.now ≡ cased c.args.cells (unguarded c.args.cells c.args.cell.now) =
    c.deref.ensures.value ∙ c.in_ok-capitals.ensures ∙ ap (map capital) c.unguarded-text.ensures
    ∙ sym (ap (λ b. cond b (map capital (unguarded c.args.cells c.args.cell.now)) (unguarded c.args.cells c.args.cell.now)) c.if-cells.true) in
    on_ok c.take_characters.result _ _ c.take_characters.ensures.ok (got_text c.args.cells (length c.args.bytes.now) c.args.cell.now c.deref.result.now c.take_characters.new.bytes text)

pub returns-else-cells-clause-ok : goal.returns-else-cells-clause-ok
returns-else-cells-clause-ok c =
    let text : c.unguarded-text.result.now ≡ cased c.args.cells (unguarded c.args.cells c.args.cell.now) =
    c.unguarded-text.ensures
    ∙ sym (ap (λ b. cond b (map capital (unguarded c.args.cells c.args.cell.now)) (unguarded c.args.cells c.args.cell.now)) c.if-cells.false) in
    on_ok c.take_characters-else-cells.result _ _ c.take_characters-else-cells.ensures.ok (got_text c.args.cells (length c.args.bytes.now) c.args.cell.now c.unguarded-text.result.now c.take_characters-else-cells.new.bytes text)
