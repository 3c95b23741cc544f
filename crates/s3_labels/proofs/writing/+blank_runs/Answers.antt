use Rattle.std.proofs.Common.{rules, ◌≡◌, ◌∷◌}
use Rattle.s3_labels.proofs.Blanks.{ok_map, all_filled, all_within, some_within}
use Rattle.s3_labels.proofs.writing.+blank_runs.Goals as goal

pub returns-in_err-blank_runs-in-Some-clause-within : goal.returns-in_err-blank_runs-in-Some-clause-within
returns-in_err-blank_runs-in-Some-clause-within g t c =
    let e : c.args.runs.now ≡ c.in-Some.first.now ∷ c.in-Some.rest.now = search rules in
    some_within _ _ _ _ _ e c.in_err-blank_runs-in-Some.ensures.within

pub returns-in_ok-blank_runs-in-Some-clause-blank : goal.returns-in_ok-blank_runs-in-Some-clause-blank
returns-in_ok-blank_runs-in-Some-clause-blank g t c =
    let e : c.args.runs.now ≡ c.in-Some.first.now ∷ c.in-Some.rest.now = search rules in
    ok_map _ _ c.blank_run.result (λ here. all_filled _ _ _ _ _ _ e c.in_ok-blank_runs-in-Some.ensures.blank c.blank_run.ensures.within here) c.blank_run.ensures.blank

pub returns-in_ok-blank_runs-in-Some-clause-within : goal.returns-in_ok-blank_runs-in-Some-clause-within
returns-in_ok-blank_runs-in-Some-clause-within g t c =
    let e : c.args.runs.now ≡ c.in-Some.first.now ∷ c.in-Some.rest.now = search rules in
    all_within _ _ _ _ _ _ e c.in_ok-blank_runs-in-Some.ensures.within c.blank_run.ensures.within
