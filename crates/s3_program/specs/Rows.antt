-- The table of operations: the factors, result, half adjust and resulting indicators of each.
use Rattle.std.specs.Prelude.{Bool, true, false}
use Rattle.s3_lines.specs.declared.sheet.Operation.{Operation}
use Rattle.s3_lines.specs.declared.sheet.Operation.TheVariants as op
use Rattle.s3_program.specs.declared.row.Operand.{Operand}
use Rattle.s3_program.specs.declared.row.Operand.TheVariants as operand
use Rattle.s3_program.specs.declared.row.Target.{Target}
use Rattle.s3_program.specs.declared.row.Target.TheVariants as target
use Rattle.s3_program.specs.declared.row.Marking.{Marking}
use Rattle.s3_program.specs.declared.row.Marking.TheVariants as marking
use Rattle.s3_program.specs.declared.row.Pairing.{Pairing}
use Rattle.s3_program.specs.declared.row.Pairing.TheVariants as pairing
use Rattle.s3_program.specs.declared.row.Row.{Row}

abbrev pub row : Operand → Operand → Target → Bool → Marking → Pairing → Row
row factor1 factor2 result half_adjust indicators pairing =
    record { factor1 = factor1; factor2 = factor2; result = result; half_adjust = half_adjust; indicators = indicators; pairing = pairing }

-- factor 1, factor 2, result, whether H is allowed, resulting indicators, and how the factors relate
abbrev pub row_of : Operation → Row
row_of op.Add = row operand.Number operand.Number target.Number true marking.Optional pairing.Free
row_of op.Subtract = row operand.Number operand.Number target.Number true marking.Optional pairing.Free
row_of op.Multiply = row operand.Number operand.Number target.Number true marking.Optional pairing.Free
row_of op.Divide = row operand.Number operand.Number target.Number true marking.Optional pairing.Free
row_of op.ZeroAdd = row operand.Nothing operand.Number target.Number true marking.Optional pairing.Free
row_of op.ZeroSubtract = row operand.Nothing operand.Number target.Number true marking.Optional pairing.Free
row_of op.MoveRemainder = row operand.Nothing operand.Nothing target.Number false marking.Optional pairing.Free
row_of op.Compare = row operand.Value operand.Value target.Nothing false marking.Needed pairing.Alike
row_of op.Move = row operand.Nothing operand.Value target.Any false marking.Never pairing.Free
row_of op.MoveLeft = row operand.Nothing operand.Text target.Text false marking.Never pairing.Free
row_of op.SetOn = row operand.Nothing operand.Nothing target.Nothing false marking.Needed pairing.Free
row_of op.SetOff = row operand.Nothing operand.Nothing target.Nothing false marking.Needed pairing.Free
row_of op.GoTo = row operand.Nothing operand.Tag target.Nothing false marking.Never pairing.Free
row_of op.Tag = row operand.Tag operand.Nothing target.Nothing false marking.Never pairing.Free
row_of op.ExecuteSubroutine = row operand.Nothing operand.Subroutine target.Nothing false marking.Never pairing.Free
row_of op.BeginSubroutine = row operand.Subroutine operand.Nothing target.Nothing false marking.Never pairing.Free
row_of op.EndSubroutine = row operand.Nothing operand.Nothing target.Nothing false marking.Never pairing.Free
row_of op.Except = row operand.Nothing operand.Nothing target.Nothing false marking.Never pairing.Free
row_of op.Chain = row operand.Value operand.ChainedFile target.Nothing false marking.First pairing.KeyOfFile
row_of op.Unknown = row operand.Nothing operand.Nothing target.Nothing false marking.Never pairing.Free
