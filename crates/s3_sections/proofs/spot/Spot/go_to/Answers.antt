use Rattle.std.proofs.Common.{◌≡◌, ◌+◌, sym, ◌∙◌, subst, arith, rules, suc}
use Rattle.s3_lines.specs.declared.sheet.Operation.TheVariants as op
use Rattle.s3_operations.specs.Inner.Fits.{named_line}
use Rattle.s3_meaning.specs.Calculations.{name_in}
use Rattle.s3_sections.specs.Inner.Jumps.{GoesBelow, GoesAbove}
use Rattle.s3_sections.proofs.SheetLemmas.{some_same}
use Rattle.s3_sections.proofs.LabelLemmas.{line_of, target_tag}
use Rattle.s3_sections.proofs.JumpLemmas.{tag_known, tag_within, target, goes_below, goes_above}
use Rattle.s3_sections.proofs.spot.Spot.go_to.Goals as goal

pub overflow_add-target : goal.overflow_add-target
overflow_add-target c =
    let t = target_tag c.args.program.now c.args.line.now (line_of c.args.program.now c.args.place c.args.line.now op.GoTo c.requires.line) in
    let e = some_same c.args.tag t.entry.1.place (sym c.requires.tag ∙ tag_known c.args.program.now c.args.line.now.factor2 t) in
    let w = tag_within c.args.program.now c.args.line.now.factor2 t in
    search (rules, e, w)

pub returns-then-place-tag : goal.returns-then-place-tag
returns-then-place-tag c =
    let t = target_tag c.args.program.now c.args.line.now (line_of c.args.program.now c.args.place c.args.line.now op.GoTo c.requires.line) in
    let e : c.args.tag ≡ t.entry.1.place = some_same c.args.tag t.entry.1.place (sym c.requires.tag ∙ tag_known c.args.program.now c.args.line.now.factor2 t) in
    let behind : suc t.entry.1.place ≡ c.args.tag + 1 = omega (arith, e) in
    let below = c.if-place-tag.true in
    subst (λ n. GoesBelow c.args.program.now c.args.self c.args.place (name_in (named_line c.args.program.now c.args.line.now).factor2) (target c.args.self n)) behind
    (goes_below c.args.program.now c.args.self c.args.place c.args.line.now c.requires.spot c.requires.line c.requires.inside t (omega (arith, e, below)))

pub returns-else-place-tag : goal.returns-else-place-tag
returns-else-place-tag c =
    let t = target_tag c.args.program.now c.args.line.now (line_of c.args.program.now c.args.place c.args.line.now op.GoTo c.requires.line) in
    let e : c.args.tag ≡ t.entry.1.place = some_same c.args.tag t.entry.1.place (sym c.requires.tag ∙ tag_known c.args.program.now c.args.line.now.factor2 t) in
    let behind : suc t.entry.1.place ≡ c.args.tag + 1 = omega (arith, e) in
    let above = c.if-place-tag.false in
    subst (λ n. GoesAbove c.args.program.now c.args.self c.args.place (name_in (named_line c.args.program.now c.args.line.now).factor2) (target c.args.self n)) behind
    (goes_above c.args.program.now c.args.self c.args.place c.args.line.now c.requires.spot c.requires.line c.requires.inside t (omega (arith, e, above)))
