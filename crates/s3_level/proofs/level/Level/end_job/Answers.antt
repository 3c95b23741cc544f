use Rattle.std.proofs.Common.{◌≡◌, refl, sym, ◌∙◌, ap, subst, Option}
use Rattle.s3_level.specs.declared.job.OpenJob.{OpenJob}
use Rattle.s3_level.specs.Inner.Library.{IsOfLibrary}
use Rattle.s3_job_files.specs.Inner.Holds.{seen}
use Rattle.s3_level.proofs.Ending.{job_closed}
use Rattle.s3_level.proofs.Leaving.{leaves_closed, leaves_kept}
use Rattle.s3_level.proofs.level.Level.end_job.Goals as goal

pub close-requires-clause-of_library : goal.close-requires-clause-of_library
close-requires-clause-of_library g c = subst (λ (o : Option OpenJob). IsOfLibrary c.args.self.now.library o) (sym c.take.ensures.value ∙ c.in-Some.is) c.requires.ready.of_library

pub returns-in-Some-clause-world : goal.returns-in-Some-clause-world
returns-in-Some-clause-world g c = λ s.
    job_closed s c.close.result c.args.self.now _ c.in-Some.job c.close.new.library (seen c.args.pack.now.areas (g.P.Sectors.state c.args.pack.now.pool).contents) (seen c.close.new.pack.areas (g.P.Sectors.state c.close.new.pack.pool).contents)
    (sym c.take.ensures.value ∙ c.in-Some.is) c.requires.ready c.close.ensures.library (ap (λ (o : Option OpenJob). record c.args.self.now { job = o; library = c.close.new.library }) c.take.ensures.after) c.close.ensures.closes

pub returns-in-Some-clause-leaves : goal.returns-in-Some-clause-leaves
returns-in-Some-clause-leaves g c =
    leaves_closed c.close.result (sym c.take.ensures.value ∙ c.in-Some.is) c.requires.ready (ap (λ (o : Option OpenJob). record c.args.self.now { job = o; library = c.close.new.library }) c.take.ensures.after) c.close.ensures.ready c.close.ensures.pack

pub returns-in-None-clause-leaves : goal.returns-in-None-clause-leaves
returns-in-None-clause-leaves g c =
    let none : c.take.new.self ≡ c.args.self.now.job = c.take.ensures.after ∙ sym (sym c.take.ensures.value ∙ c.in-None.is) in
    leaves_kept _ c.requires.ready (record { stays = record { id = refl; deck = refl; drained = refl }; job = none; of_library = subst (λ (o : Option OpenJob). IsOfLibrary c.args.self.now.library o) (sym none) })
