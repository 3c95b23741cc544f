use Rattle.std.proofs.Common.{List, ap, sym, slice_range, ◌∙◌}
use Rattle.s3_lines.specs.declared.sheet.FileLine.{FileLine}
use Rattle.s3_solo.specs.Serving.{data_of}
use Rattle.s3_level.proofs.Starting.{at_beginning, ready_at_beginning}
use Rattle.s3_level.specs.Inner.Holds.{HoldsParts, places_of, with_seen}
use Rattle.s3_job_files.specs.Inner.Holds.{seen}
use Rattle.indexmap.specs.IndexMap.{get}
use Rattle.s3_cards.specs.Names.{same_name}
use Rattle.s3_level.proofs.Leaving.{leaves_behind, leaves_memory, stays_with, still}
use Rattle.s3_level.proofs.level.Level.run_over.Goals as goal

pub stand-requires : goal.stand-requires
stand-requires g c = record {
  ready = ready_at_beginning _ (seen c.args.pack.now.areas (g.P.Sectors.state c.args.pack.now.pool).contents) c.args.self.now c.open.new.self
      c.open.ensures (λ program there. c.requires.of_library program (ap (get same_name c.args.self.now.library) (sym c.program.ensures) ∙ there)) c.requires.ready c.requires.level c.requires.lines
      (c.in_ok-places.ensures ∙ ap (λ (lines : List FileLine). places_of lines c.args.job_files.files.items) c.file_lines.ensures);
}

pub returns-clause-world : goal.returns-clause-world
returns-clause-world g c = λ s before.
    at_beginning s c.stand.result _ (data_of c.args.self.now.deck c.args.job.now) before (seen c.args.pack.now.areas (g.P.Sectors.state c.args.pack.now.pool).contents) c.args.self.now c.open.new.self
    (HoldsParts c.stand.new.self (with_seen (seen c.stand.new.pack.areas (g.P.Sectors.state c.stand.new.pack.pool).contents) s))
    (λ i. slice_range c.args.self.now.deck (c.data_from.ensures i) (c.data_to.ensures.value i)) c.requires.begins c.open.ensures (c.stand.ensures.world s)

pub returns-in_err-places-clause-leaves : goal.returns-in_err-places-clause-leaves
returns-in_err-places-clause-leaves g c = leaves_memory c.from_residual.result c.from_residual.ensures.1 c.requires.ready.pack (still c.args.self.now)

pub returns-in_err-room-clause-leaves : goal.returns-in_err-room-clause-leaves
returns-in_err-room-clause-leaves g c = leaves_memory c.from_residual-in_err-room.result c.from_residual-in_err-room.ensures.1 c.requires.ready.pack (still c.args.self.now)

pub returns-clause-leaves : goal.returns-clause-leaves
returns-clause-leaves g c = leaves_behind (stays_with c.open.ensures) c.stand.ensures.leaves
