-- One more line is punched.
use Rattle.std.proofs.Common.{◌≡◌, ◌∷◌, arith}
use Rattle.std.specs.Str.Lines.{lines}
use Rattle.s3_punch.proofs.StepLemmas.{one_line_at}
use Rattle.s3_punch.proofs.deck.punch_lines.Goals as goal

pub loop-bytes-preserved : goal.loop-bytes-preserved
loop-bytes-preserved c =
    let first : lines c.loop-bytes.rest.now ≡ c.in-Some.bytes.now ∷ lines c.in-Some.after.now = c.in-Some.ensures.line in (
      one_line_at c.args.begun.now c.args.text.now c.loop-bytes.line c.loop-bytes.punched c.add_line.new.self c.in-Some.bytes.now (lines c.loop-bytes.rest.now) (lines c.in-Some.after.now) c.loop-bytes.invariant.0 first c.in_ok-add_line.ensures,
      omega (arith, c.loop-bytes.invariant.1, c.in-Some.ensures.shorter),
    )
