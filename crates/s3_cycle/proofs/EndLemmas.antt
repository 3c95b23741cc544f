-- The end of a job.
use Rattle.std.proofs.Common.{◌≡◌, Bool, List, [], ◌∷◌, refl}
use Rattle.std.proofs.Math.Path.{fun_ext}
use Rattle.s3_meaning.specs.Environment.{Environment}
use Rattle.s3_meaning.specs.Requests as Meant
use Rattle.s3_meaning.specs.Requests.{Answer}
use Rattle.s3_meaning.specs.Runs.{ask, ended}
use Rattle.s3_cycle.specs.declared.progress.Point.TheVariants as at
use Rattle.s3_cycle.specs.declared.request.Request.TheVariants as asks
use Rattle.s3_cycle.specs.declared.stepper.Stepper.{Stepper}
use Rattle.s3_cycle.specs.Inner.Requests.{request_of}
use Rattle.s3_cycle.specs.Inner.Going.{here, IsRunning, GoesOn}
use Rattle.s3_cycle.proofs.GoingLemmas.{goes_wait}

-- a job that has ended makes no further request
pub ended_asks : (at_once : Bool) (e : Environment) → ended at_once e ≡ ask (Meant.End at_once) (λ answer. ended at_once e)
unfolding ended ask
ended_asks at_once e = fun_ext by
  where
    by : (answers : List Answer) → ended at_once e answers ≡ ask (Meant.End at_once) (λ answer. ended at_once e) answers
    by [] = refl
    by (answer ∷ answers) = refl

pub ends : (old new : Stepper) (at_once : Bool) → new ≡ record old { request = asks.End at_once; point = at.End at_once } → IsRunning old → GoesOn old new (here old (λ source program progress. ended at_once))
unfolding request_of
ends old new at_once same running = goes_wait old new (asks.End at_once) (at.End at_once) _ same running refl tt tt (ended_asks at_once _)
