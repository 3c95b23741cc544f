-- While a job runs, a halt waits exactly when the job asks for a reply.
use Rattle.std.specs.Prelude.{◌≡◌, Option, Some, None}
use Rattle.s3_meaning.specs.Requests.{Request, Ask}
use Rattle.s3_operator.specs.declared.halt_code.HaltCode.{HaltCode}
use Rattle.s3_operator.specs.Halts.{waiting}
use Rattle.s3_solo.specs.World.{World, JobAtWork}
use Rattle.s3_solo.specs.Serving.{pending}

-- the halt of a request for a reply
abbrev pub halt_asked : Request → Option HaltCode
halt_asked (Ask code) = Some code
halt_asked _ = None

-- the waiting halt is the one that the job asks for; none waits if the job asks for none
abbrev pub IsAsked : World → Type 0
IsAsked w = (job : JobAtWork) → w.job ≡ Some job → waiting w.halts ≡ halt_asked (pending job w)
