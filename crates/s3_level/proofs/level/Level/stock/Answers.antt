use Rattle.std.proofs.Common.{refl, sym, subst, Option}
use Rattle.s3_cards.specs.Names.{same_name}
use Rattle.s3_program.specs.declared.program.Program.{Program}
use Rattle.s3_program.specs.Inner.Stands.{Stands}
use Rattle.s3_level.specs.declared.job.OpenJob.{OpenJob}
use Rattle.s3_level.specs.Inner.Library.{IsOfLibrary}
use Rattle.s3_level.proofs.Compiling.{found_in_library, still_at_work}
use Rattle.s3_level.proofs.level.Level.stock.Goals as goal

pub returns-clause-world : goal.returns-clause-world
returns-clause-world c = λ s source stands w held. record {
  cards = held.cards;
  jobs = held.jobs;
  number = held.number;
  library = λ name.
      found_in_library _ source _ _ (w.library name) (same_name c.args.program.name name) (c.in_ok-insert.ensures.updates.0 name) (subst (λ (program : Program). Stands program source) (sym c.new.ensures) stands) (held.library name);
  switches = held.switches;
  date = held.date;
  pack = held.pack;
  job = still_at_work _ _ c.args.program.name source w _ held.job;
  lines = held.lines;
  halts = held.halts;
}

pub returns-clause-keeps : goal.returns-clause-keeps
returns-clause-keeps c = record {
  stays = record { id = refl; deck = refl; drained = refl };
  job = refl;
  of_library = λ of. subst (λ (o : Option OpenJob). IsOfLibrary c.insert.new.self o) (sym c.requires) tt;
}
