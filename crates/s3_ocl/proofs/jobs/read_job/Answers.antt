use Rattle.std.proofs.Common.{◌≡◌, ◌+◌, ℕ, true, false, sym, ◌∙◌, ap, subst}
use Rattle.s3_ocl.specs.declared.parameters.Verb.TheVariants.{Run}
use Rattle.s3_ocl.specs.Statements.{Statement, is_verb}
use Rattle.s3_ocl.specs.Jobs.{job_with}
use Rattle.s3_ocl.proofs.JobLemmas.{JobSoFar, is_read, job_faulty, job_run, one_more_statement, job_stopped, stop_within}
use Rattle.s3_ocl.proofs.jobs.read_job.Goals as goal

pub returns-in-Some-clause-value : goal.returns-in-Some-clause-value
returns-in-Some-clause-value c =
    let read = is_read c.args.cards.now c.loop-pieces.place c.in_ok-statement.statement (sym c.has_statement.ensures ∙ c.loop-pieces-test.true) c.in_ok-statement.ensures.value in
    job_faulty c.args.cards.now c.args.start c.loop-pieces.place c.loop-pieces.contents c.in_ok-statement.statement c.in-Some.mark c.faulty.result c.loop-pieces.invariant read
    c.in_ok-statement.ensures.within.1
    (sym (c.in-Some.ensures.value c.loop-pieces.invariant.passed c.loop-pieces.invariant.kept c.loop-pieces.invariant.no_run)) c.faulty.ensures.value

pub returns-then-does-clause-value : goal.returns-then-does-clause-value
returns-then-does-clause-value c =
    let read = is_read c.args.cards.now c.loop-pieces.place c.in_ok-statement.statement (sym c.has_statement.ensures ∙ c.loop-pieces-test.true) c.in_ok-statement.ensures.value in
    let cards : c.statement.inside.cards ≡ c.in_ok-statement.statement.cards = ap (λ (s : Statement). s.cards) c.statement.view_is in
    let run : is_verb Run c.in_ok-statement.statement.verb ≡ true = sym c.does.ensures ∙ c.if-does.true in
    job_run c.args.cards.now c.args.start c.loop-pieces.place c.loop-pieces.contents c.add.new.self c.in_ok-statement.statement _ _ c.loop-pieces.invariant read
    (sym (c.in_default.ensures.value c.loop-pieces.invariant.passed c.loop-pieces.invariant.kept c.loop-pieces.invariant.no_run)) c.in_ok-add.ensures run
    (λ heading kept. c.job_with.ensures.value heading kept ∙ ap (λ (n : ℕ). job_with c.args.cards.now heading (c.loop-pieces.place + n)) cards)

pub loop-pieces-preserved : goal.loop-pieces-preserved
loop-pieces-preserved c =
    let read = is_read c.args.cards.now c.loop-pieces.place c.in_ok-statement.statement (sym c.has_statement.ensures ∙ c.loop-pieces-test.true) c.in_ok-statement.ensures.value in
    let cards : c.statement.inside.cards ≡ c.in_ok-statement.statement.cards = ap (λ (s : Statement). s.cards) c.statement.view_is in
    let other : is_verb Run c.in_ok-statement.statement.verb ≡ false = sym c.does.ensures ∙ c.if-does.false in
    subst (λ (n : ℕ). JobSoFar c.args.cards.now c.args.start (c.loop-pieces.place + n) c.add.new.self) (sym cards)
    (one_more_statement c.args.cards.now c.args.start c.loop-pieces.place c.loop-pieces.contents c.add.new.self c.in_ok-statement.statement _ c.loop-pieces.invariant read
    c.in_ok-statement.ensures.within.1
    (sym (c.in_default.ensures.value c.loop-pieces.invariant.passed c.loop-pieces.invariant.kept c.loop-pieces.invariant.no_run)) c.in_ok-add.ensures other)

pub faulty-requires-2-clause-within : goal.faulty-requires-2-clause-within
faulty-requires-2-clause-within c = stop_within c.args.cards.now c.loop-pieces.place c.stop_fault.result c.stop_fault.ensures.value

pub returns-clause-value : goal.returns-clause-value
returns-clause-value c =
    job_stopped c.args.cards.now c.args.start c.loop-pieces.place c.loop-pieces.contents c.stop_fault.result _ c.loop-pieces.invariant
    (sym c.has_statement.ensures ∙ c.loop-pieces-test.false) c.stop_fault.ensures.value c.faulty-2.ensures.value
