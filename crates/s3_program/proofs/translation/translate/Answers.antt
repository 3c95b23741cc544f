use Rattle.s3_program.proofs.Translated.{made, stands, valid}
use Rattle.s3_program.proofs.StartLemmas.{starts_over}
use Rattle.s3_program.proofs.translation.translate.Goals as goal

pub invariant_of-result : goal.invariant_of-result
invariant_of-result c = record {
  starting = starts_over _ _ _ _ _ _ _ _ _ c.in_ok-starts.ensures c.deref.ensures.value c.deref-2.ensures.value c.deref-3.ensures.value c.deref-4.ensures.value;
  valid = valid c.args.known.now c.args.lines.now _ c.requires.accepted
      (made c.args.known.now c.args.lines.now _ c.in_ok-files.ensures c.in_ok-defined.ensures c.in_ok-defined-2.ensures c.in_ok-defined-3.ensures c.in_ok-inputs.ensures c.in_ok-calculations.ensures c.in_ok-outputs.ensures);
}

pub returns : goal.returns
returns c = record {
  meaning = stands c.args.known.now c.args.lines.now _ c.requires.accepted
      (made c.args.known.now c.args.lines.now _ c.in_ok-files.ensures c.in_ok-defined.ensures c.in_ok-defined-2.ensures c.in_ok-defined-3.ensures c.in_ok-inputs.ensures c.in_ok-calculations.ensures c.in_ok-outputs.ensures);
  name = c.program_name.ensures;
}
