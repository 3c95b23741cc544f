use Rattle.std.proofs.Common.{ap, ◌∙◌, sym, subst, List, ℕ}
use Rattle.s3_meaning.specs.Output.{filled}
use Rattle.s3_cycle.specs.declared.stepper.Stepper.{Stepper}
use Rattle.s3_cycle.specs.Inner.Requests.{FitsFile, IsLine}
use Rattle.s3_cycle.specs.Inner.Following.{asked, files, put}
use Rattle.s3_cycle.proofs.FollowLemmas.{file_filled, line_filled}
use Rattle.s3_cycle.proofs.cycle.Cycle.record.Goals as goal

pub returns-clause-value : goal.returns-clause-value
unfolding put
returns-clause-value c = c.codes.ensures ∙ ap (λ (k : Stepper). filled k.composition) (c.deref.ensures ∙ c.self.view_is)

pub returns-clause-line : goal.returns-clause-line
unfolding asked
returns-clause-line c =
    let inside : Stepper = c.self.inside.stepper.value in
    let P : Stepper → Type 0 = λ k. IsLine k.request c.codes.result.now in
    let Q : List ℕ → Type 0 = λ text. IsLine inside.request text in
    let is_text = c.codes.ensures ∙ ap (λ (k : Stepper). filled k.composition) c.deref.ensures in
    subst P c.self.view_is (subst Q (sym is_text) (line_filled inside.request inside.composition c.self.invariant.line))

pub returns-clause-file : goal.returns-clause-file
unfolding asked files
returns-clause-file c =
    let inside : Stepper = c.self.inside.stepper.value in
    let P : Stepper → Type 0 = λ k. FitsFile k.program.files.items k.request c.codes.result.now in
    let Q : List ℕ → Type 0 = λ text. FitsFile inside.program.files.items inside.request text in
    let is_text = c.codes.ensures ∙ ap (λ (k : Stepper). filled k.composition) c.deref.ensures in
    subst P c.self.view_is (subst Q (sym is_text) (file_filled inside.program.files.items inside.request inside.composition c.self.invariant.fits))
