use Rattle.std.proofs.Common.{◌≡◌, length, sym, ◌∙◌, arith}
use Rattle.std.proofs.lemmas.Bool.Decides.{nat_tests}
use Rattle.std.proofs.lemmas.List.{nil_from_length}
use Rattle.s3_compile.proofs.Accepting.{accepted_of_none, without_memory}
use Rattle.s3_compile.proofs.Ranging.{ranged_of_read}
use Rattle.s3_compile.proofs.compiler.compile_known.Goals as goal

pub compile_diagnostics-requires-clause-ranged : goal.compile_diagnostics-requires-clause-ranged
compile_diagnostics-requires-clause-ranged c = ranged_of_read c.args.lines.now c.requires.read

pub returns-in_err-found : goal.returns-in_err-found
returns-in_err-found c = without_memory c.args.lines.now c.args.run_card c.from_residual.result c.from_residual.ensures.1

pub translate-requires : goal.translate-requires
translate-requires c =
    let empty : length c.in_ok-found.found.items ≡ 0 = grind (arith, nat_tests, c.if-is_empty.ensures) in
    let none = sym c.in_ok-found.ensures ∙ nil_from_length c.in_ok-found.found.items empty in
    record { accepted = accepted_of_none c.args.run_card c.args.known.now.definitions c.args.lines.now c.requires.defines c.requires.read none }
