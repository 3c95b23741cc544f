use Rattle.std.proofs.Common.{◌≡◌, Global, Vec, map, rules}
use Rattle.std.specs.Prelude.{Err}
use Rattle.s3_opening.specs.declared.starts.Start.{Start}
use Rattle.s3_opening.specs.Inner.Starts.{settings_of, step_in}
use Rattle.s3_opening.proofs.OfLines.{of_lines}
use Rattle.s3_opening.proofs.Readings.{leaves_then}
use Rattle.s3_opening.proofs.Started.{can_after, halts_result}
use Rattle.s3_opening.proofs.starting.open_files.Goals as goal

pub start_all-requires : goal.start_all-requires
start_all-requires g c = record {
  can = can_after c.args.level c.args.pack.now.areas c.test_files.new.pack.areas _ _ c.in_ok-files.files.items c.in_ok-starts.starts.items
      c.in_ok-starts.ensures.reads c.in_ok-files.ensures.items c.in_ok-starts.ensures.can;
}

pub returns-in_err-starts-clause-starts : goal.returns-in_err-starts-clause-starts
returns-in_err-starts-clause-starts g c =
    let same : c.from_residual.result ≡ Err c.in_err-starts.field-0.0 = search rules in
    halts_result c.args.level _ _ (settings_of c.args.settings.now) c.args.lines.now (λ (starts : Vec Start Global). map step_in starts.items) c.in_err-starts.field-0.0 c.from_residual.result same c.in_err-starts.ensures.comes

pub returns-clause-of_lines : goal.returns-clause-of_lines
returns-clause-of_lines g c =
    of_lines c.args.level _ c.args.settings.now.statements.now c.args.settings.now.switches c.args.lines.now c.in_ok-starts.starts.items c.in_ok-files.files.items c.start_all.new.files.items
    c.in_ok-files.ensures.items c.in_ok-starts.ensures.of_lines c.in_ok-start_all.ensures.starts.adds c.in_ok-start_all.ensures.starts.ready

pub returns-clause-pack : goal.returns-clause-pack
returns-clause-pack g c = (leaves_then c.requires.ready c.in_ok-starts.ensures.reads c.in_ok-start_all.ensures.leaves).others.pack

pub returns-clause-others : goal.returns-clause-others
returns-clause-others g c = (leaves_then c.requires.ready c.in_ok-starts.ensures.reads c.in_ok-start_all.ensures.leaves).others.areas

pub returns-clause-spares : goal.returns-clause-spares
returns-clause-spares g c = (leaves_then c.requires.ready c.in_ok-starts.ensures.reads c.in_ok-start_all.ensures.leaves).others.sectors

pub returns-clause-says : goal.returns-clause-says
returns-clause-says g c = (leaves_then c.requires.ready c.in_ok-starts.ensures.reads c.in_ok-start_all.ensures.leaves).says

pub returns-clause-failures : goal.returns-clause-failures
returns-clause-failures g c = (leaves_then c.requires.ready c.in_ok-starts.ensures.reads c.in_ok-start_all.ensures.leaves).failures
