use Rattle.std.proofs.Common.{◌≡◌, ◌∙◌, ◌∷◌, arith, drop}
use Rattle.std.specs.Str.Lines.{lines}
use Rattle.s3_decks.proofs.Keeping.{line_more}
use Rattle.s3_decks.proofs.deck_text.kept_text.Goals as goal

pub loop-line-preserved : goal.loop-line-preserved
loop-line-preserved c =
    let left : drop c.loop-line.place (lines c.args.text.now) ≡ c.in-Some.line.now ∷ lines c.in-Some.after.now = grind (arith, c.loop-line.invariant.1, c.in-Some.ensures.line, c.in-Some.line-is, c.in-Some.after-is) in
    let taken = c.take-is_left_out.ensures c.args.left_out.now c.loop-line.invariant.3 in
    let more = line_more c.args.left_out.now c.loop-line.found.items (lines c.args.text.now) c.loop-line.place c.in-Some.line.now (lines c.in-Some.after.now) _ c.loop-line.invariant.0 left taken.0 in (
      c.in_ok-keep_line.ensures ∙ more.0,
      more.1,
      grind (arith, c.loop-line.invariant.2, c.in-Some.ensures.shorter, c.in-Some.after-is),
      taken.1,
    )
