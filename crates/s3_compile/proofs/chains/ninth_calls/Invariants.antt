use Rattle.std.proofs.Common.{◌≡◌, filter}
use Rattle.s3_program.specs.Jumps.{ends_chain}
use Rattle.s3_compile.proofs.chains.ninth_calls.Given as goal

abbrev pub invariant-loop-before : goal.invariant-loop-before
invariant-loop-before l = l.later.items ≡ filter (λ call. ends_chain l.calls l._before call.caller) l.calls
