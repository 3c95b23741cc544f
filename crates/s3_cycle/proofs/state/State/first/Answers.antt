use Rattle.std.proofs.Common.{refl, ◌∙◌, ◌≡◌, ap, replicate, length, arith}
use Rattle.std.specs.Prelude.{None}
use Rattle.s3_cycle.proofs.FirstLemmas.{begins_state}
use Rattle.s3_cycle.proofs.state.State.first.Goals as goal

pub returns : goal.returns
returns c =
    let files : c.len.result ≡ length c.args.program.now.files.items = grind (arith, c.len.ensures) in
    begins_state c.args.program.now c.args.switches c.args.date _ c.in_ok-values.ensures (c.in_ok-current.ensures ∙ ap (λ n. replicate n None) files) c.in_ok-none.ensures refl refl refl
