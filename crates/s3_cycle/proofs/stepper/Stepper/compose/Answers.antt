use Rattle.std.proofs.Common.{arith, refl}
use Rattle.s3_cycle.proofs.PrintLemmas.{composes_line, composing_within, line_fitting}
use Rattle.s3_cycle.proofs.stepper.Stepper.compose.Goals as goal

pub index-line-requires : goal.index-line-requires
index-line-requires c = omega (arith, composing_within c.args.self.now c.args.number c.requires.running c.requires.line, c.args.self.now.outputs.lines.ok.0)

pub compose-requires : goal.compose-requires
compose-requires c = line_fitting c.args.self.now c.args.number c.index-line.result.now c.requires.running c.requires.line c.index-line.ensures

pub returns : goal.returns
returns c =
    composes_line c.args.self.now _ c.args.number c.index-line.result.now c.compose.new.values c.compose.new.composition c.requires.running c.requires.line c.index-line.ensures
    refl refl c.compose.ensures
