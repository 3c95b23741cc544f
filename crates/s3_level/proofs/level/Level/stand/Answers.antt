use Rattle.std.proofs.Common.{subst, ℕ, List, Ok}
use Rattle.s3_level.specs.declared.next.Next.{Next}
use Rattle.s3_level.specs.Inner.Holds.{Becomes, HoldsParts, with_seen}
use Rattle.s3_level.specs.Inner.Turning.{Comes}
use Rattle.s3_solo.specs.Serving.{halting}
use Rattle.s3_job_files.specs.Inner.Holds.{seen}
use Rattle.s3_level.proofs.Running.{halt_shown, job_goes_on, job_over_then}
use Rattle.s3_level.proofs.Leaving.{leaves_kept, leaves_memory, leaves_same}
use Rattle.s3_level.proofs.level.Level.stand.Goals as goal

pub returns-in_ok-show-in-Halts-clause-world : goal.returns-in_ok-show-in-Halts-clause-world
returns-in_ok-show-in-Halts-clause-world g c = λ s.
    halt_shown (with_seen (seen c.args.pack.now.areas (g.P.Sectors.state c.args.pack.now.pool).contents) s) {T = Unit {0}} {E = Unit {0}} (Ok (tt {0})) c.in-Halts.number c.in-Halts.code c.args.self.now (HoldsParts c.show.new.self (with_seen (seen c.args.pack.now.areas (g.P.Sectors.state c.args.pack.now.pool).contents) s))
    (λ w job is held. subst (λ (n : Next). Comes n job w) c.in-Halts.is (c.next.ensures (with_seen (seen c.args.pack.now.areas (g.P.Sectors.state c.args.pack.now.pool).contents) s) w job is held))
    (subst (λ (details : List (ℕ × ℕ)). Becomes (halting c.in-Halts.number c.in-Halts.code details) (HoldsParts c.args.self.now (with_seen (seen c.args.pack.now.areas (g.P.Sectors.state c.args.pack.now.pool).contents) s)) (HoldsParts c.show.new.self (with_seen (seen c.args.pack.now.areas (g.P.Sectors.state c.args.pack.now.pool).contents) s))) c.new.ensures.items (c.in_ok-show-in-Halts.ensures.world (with_seen (seen c.args.pack.now.areas (g.P.Sectors.state c.args.pack.now.pool).contents) s)))

pub returns-in-IsOver-clause-world : goal.returns-in-IsOver-clause-world
returns-in-IsOver-clause-world g c = λ s.
    job_over_then (with_seen (seen c.args.pack.now.areas (g.P.Sectors.state c.args.pack.now.pool).contents) s) c.end_job.result c.args.self.now (HoldsParts c.end_job.new.self (with_seen (seen c.end_job.new.pack.areas (g.P.Sectors.state c.end_job.new.pack.pool).contents) s))
    (λ w job is held. subst (λ (n : Next). Comes n job w) c.in-IsOver.is (c.next.ensures (with_seen (seen c.args.pack.now.areas (g.P.Sectors.state c.args.pack.now.pool).contents) s) w job is held)) (c.end_job.ensures.world s)

pub returns-in-GoesOn-clause-world : goal.returns-in-GoesOn-clause-world
returns-in-GoesOn-clause-world g c = λ s.
    job_goes_on (with_seen (seen c.args.pack.now.areas (g.P.Sectors.state c.args.pack.now.pool).contents) s) c.args.self.now (λ w job is held. subst (λ (n : Next). Comes n job w) c.in-GoesOn.is (c.next.ensures (with_seen (seen c.args.pack.now.areas (g.P.Sectors.state c.args.pack.now.pool).contents) s) w job is held))

pub returns-in_ok-show-in-Halts-clause-leaves : goal.returns-in_ok-show-in-Halts-clause-leaves
returns-in_ok-show-in-Halts-clause-leaves g c = leaves_kept _ c.requires.ready c.show.ensures.keeps

pub returns-in_err-show-in-Halts-clause-leaves : goal.returns-in_err-show-in-Halts-clause-leaves
returns-in_err-show-in-Halts-clause-leaves g c = leaves_memory c.from_residual.result c.from_residual.ensures.1 c.requires.ready.files.pack c.show.ensures.keeps.stays

pub returns-in-GoesOn-clause-leaves : goal.returns-in-GoesOn-clause-leaves
returns-in-GoesOn-clause-leaves g c = leaves_same _ c.requires.ready
