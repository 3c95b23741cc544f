use Rattle.std.proofs.Common.{◌≡◌, ◌<◌, ◌++◌, drop}
use Rattle.s3_program.specs.Inner.Starts.{type_starts_from, fields_begin}
use Rattle.s3_program.proofs.starting.type_starts.Given as goal

abbrev pub invariant-loop-place : goal.invariant-loop-place
invariant-loop-place l = record {
  starts : l.starts.items ++ type_starts_from l.file l.place (drop l.place l.inputs) ≡ type_starts_from l.files 0 l.inputs;
  known : l.place < l.fields → l.fields ≡ fields_begin l.place (drop l.place l.inputs);
}
