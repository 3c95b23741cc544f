use Rattle.std.proofs.Common.{ℕ, List, Ok, ap, subst, sym, ◌∙◌}
use Rattle.std.specs.Prelude.{OnOk}
use Rattle.s3_level.specs.declared.level.Level.{Level}
use Rattle.s3_level.specs.Inner.Calls.{IsJobOf, KeepsJob}
use Rattle.s3_level.specs.Inner.Library.{IsOfLibrary}
use Rattle.s3_level.specs.Inner.Turning.{Starts}
use Rattle.s3_level.proofs.Starting.{set_then_performed}
use Rattle.s3_ocl.specs.Streams.{jobs_from}
use Rattle.s3_level.specs.Inner.Holds.{HoldsParts, with_seen}
use Rattle.s3_job_files.specs.Inner.Holds.{seen}
use Rattle.s3_level.proofs.Leaving.{keeps_then, leaves_behind, ready_kept}
use Rattle.s3_level.proofs.level.Level.start.Goals as goal

pub returns-clause-world : goal.returns-clause-world
returns-clause-world g c = λ s.
    subst (λ (after : ℕ). OnOk c.perform.result (Starts (Ok c.args.job.now) (jobs_from c.args.self.now.deck after) (HoldsParts c.args.self.now (with_seen (seen c.args.pack.now.areas (g.P.Sectors.state c.args.pack.now.pool).contents) s)) (HoldsParts c.perform.new.self (with_seen (seen c.perform.new.pack.areas (g.P.Sectors.state c.perform.new.pack.pool).contents) s)))) c.after.ensures.value
    (set_then_performed (with_seen (seen c.args.pack.now.areas (g.P.Sectors.state c.args.pack.now.pool).contents) s) c.perform.result c.args.self.now c.take_job-number.new.self c.set.new.self (HoldsParts c.perform.new.self (with_seen (seen c.perform.new.pack.areas (g.P.Sectors.state c.perform.new.pack.pool).contents) s)) c.args.job.now (jobs_from c.args.self.now.deck c.after.result)
    c.take_job-number.result c.take_job-number.ensures.number (c.take_job-number.ensures.world (with_seen (seen c.args.pack.now.areas (g.P.Sectors.state c.args.pack.now.pool).contents) s)) c.set.ensures.value (c.perform.ensures.world s))

pub returns-clause-leaves : goal.returns-clause-leaves
returns-clause-leaves g c = leaves_behind c.take_job-number.ensures.keeps.stays (leaves_behind c.set.ensures.stays c.perform.ensures.leaves)

pub perform-requires : goal.perform-requires
perform-requires g c =
    let keeps : KeepsJob c.args.self.now c.set.new.self = keeps_then c.take_job-number.ensures.keeps (record { stays = c.set.ensures.stays; job = ap (λ (level : Level). level.job) c.set.ensures.value; of_library = subst (λ (level : Level). IsOfLibrary level.library level.job) (sym c.set.ensures.value) }) in
    record {
      sound = subst (λ (deck : List (List ℕ)). IsJobOf deck c.args.job.now) (sym keeps.stays.deck) c.requires.sound;
      free = record { ready = ready_kept keeps c.requires.free.ready; rests = keeps.job ∙ c.requires.free.rests };
    }
