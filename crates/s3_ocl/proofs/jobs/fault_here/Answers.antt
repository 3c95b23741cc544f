use Rattle.std.proofs.Common.{◌+◌, ℕ, sym, ◌∙◌, ap}
use Rattle.s3_ocl.specs.Statements.{Statement}
use Rattle.s3_ocl.specs.Inner.Steps.{last_fault}
use Rattle.s3_ocl.proofs.JobLemmas.{mark_within}
use Rattle.s3_ocl.proofs.jobs.fault_here.Goals as goal

pub returns-clause-within : goal.returns-clause-within
returns-clause-within c =
    let kept = c.requires.kept in
    mark_within c.args.cards.now kept.0 c.args.statement.now c.args.place c.in_ok-mark.mark _ _ c.requires.read c.requires.within
    (sym (c.statement_fault.ensures kept.0 kept.1 kept.2) ∙ c.in_ok-mark.was)
    (c.last_fault.ensures ∙ ap (λ (n : ℕ). last_fault c.args.cards.now c.args.statement.now.verb (c.args.place + n)) (ap (λ (s : Statement). s.cards) c.statement.view_is))
    c.earlier.ensures
