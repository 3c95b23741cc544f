use Rattle.std.proofs.Common.{rules, refl, sym, ◌∙◌, ap, Ok, Some}
use Rattle.std.specs.Option.{option_copied}
use Rattle.s3_store.specs.declared.sector_fault.SectorFault.{SectorFault}
use Rattle.s3_solo.specs.declared.action.Did.TheVariants.{Idle}
use Rattle.s3_job_files.specs.Inner.Holds.{seen}
use Rattle.s3_level.proofs.Beside.{turns_moved}
use Rattle.s3_level.proofs.Jumping.{jumps_taken_as_turns}
use Rattle.s3_level.proofs.Turns.{asking_turn, begun_turn, card_turn, end_turn, file_turn, halted_turn, once_turns, print_turn}
use Rattle.s3_level.specs.Inner.Holds.{HoldsParts, around, shown, with_seen}
use Rattle.s3_level.proofs.Leaving.{all_once, all_files, all_same}
use Rattle.s3_level.proofs.level.Level.step.Goals as goal

pub serve_file-requires-clause-asks : goal.serve_file-requires-clause-asks
serve_file-requires-clause-asks g c = record { file = c.in-File.file; call = c.in-File.call; is = sym c.pending.ensures.request ∙ ap option_copied c.in-Some.is ∙ ap (λ r. Some r) c.in-File.is }

pub returns-in-Card-clause-world : goal.returns-in-Card-clause-world
returns-in-Card-clause-world g c =
    turns_moved c.once-in-Card.result c.args.self.now c.read_card.new.self c.args.pack.now.areas c.read_card.new.pack.areas (g.P.Sectors.state c.args.pack.now.pool) (g.P.Sectors.state c.read_card.new.pack.pool) c.args.spool.now c.requires.ready.files.pack c.requires.blocks c.read_card.ensures.leaves.pack.others
    (once_turns c.read_card.result c.once-in-Card.result _ _ c.once-in-Card.ensures (card_turn _ c.args.self.now (HoldsParts c.read_card.new.self (with_seen (seen c.read_card.new.pack.areas (g.P.Sectors.state c.read_card.new.pack.pool).contents) (shown c.args.self.now.id (around c.args.pack.now.areas (g.P.Sectors.state c.args.pack.now.pool) c.args.spool.now)))) c.read_card.result (sym c.is_waiting.ensures ∙ c.if-is_waiting.false) (sym c.pending.ensures.request ∙ ap option_copied c.in-Some.is ∙ ap (λ r. Some r) c.in-Card.is) (c.read_card.ensures.served (shown c.args.self.now.id (around c.args.pack.now.areas (g.P.Sectors.state c.args.pack.now.pool) c.args.spool.now)))))

pub returns-in-Jump-clause-world : goal.returns-in-Jump-clause-world
returns-in-Jump-clause-world g c =
    turns_moved c.pass_jumps.result c.args.self.now c.pass_jumps.new.self c.args.pack.now.areas c.pass_jumps.new.pack.areas (g.P.Sectors.state c.args.pack.now.pool) (g.P.Sectors.state c.pass_jumps.new.pack.pool) c.args.spool.now c.requires.ready.files.pack c.requires.blocks c.pass_jumps.ensures.leaves.pack.others
    (jumps_taken_as_turns (shown c.args.self.now.id (around c.args.pack.now.areas (g.P.Sectors.state c.args.pack.now.pool) c.args.spool.now)) c.args.self.now (HoldsParts c.pass_jumps.new.self (with_seen (seen c.pass_jumps.new.pack.areas (g.P.Sectors.state c.pass_jumps.new.pack.pool).contents) (shown c.args.self.now.id (around c.args.pack.now.areas (g.P.Sectors.state c.args.pack.now.pool) c.args.spool.now)))) _ c.pass_jumps.result (sym c.is_waiting.ensures ∙ c.if-is_waiting.false) (sym c.pending.ensures.request ∙ ap option_copied c.in-Some.is ∙ ap (λ r. Some r) c.in-Jump.is) c.pass_jumps.ensures.times c.pass_jumps.ensures.acted (c.pass_jumps.ensures.world (shown c.args.self.now.id (around c.args.pack.now.areas (g.P.Sectors.state c.args.pack.now.pool) c.args.spool.now))))

pub returns-in-End-clause-world : goal.returns-in-End-clause-world
returns-in-End-clause-world g c =
    turns_moved c.once-in-End.result c.args.self.now c.end.new.self c.args.pack.now.areas c.end.new.pack.areas (g.P.Sectors.state c.args.pack.now.pool) (g.P.Sectors.state c.end.new.pack.pool) c.args.spool.now c.requires.ready.files.pack c.requires.blocks c.end.ensures.leaves.pack.others
    (once_turns c.end.result c.once-in-End.result _ _ c.once-in-End.ensures (end_turn _ c.args.self.now (HoldsParts c.end.new.self (with_seen (seen c.end.new.pack.areas (g.P.Sectors.state c.end.new.pack.pool).contents) (shown c.args.self.now.id (around c.args.pack.now.areas (g.P.Sectors.state c.args.pack.now.pool) c.args.spool.now)))) c.end.result c.in-End.at_once (sym c.is_waiting.ensures ∙ c.if-is_waiting.false) (sym c.pending.ensures.request ∙ ap option_copied c.in-Some.is ∙ ap (λ r. Some r) c.in-End.is) c.end.ensures.acted (c.end.ensures.world (shown c.args.self.now.id (around c.args.pack.now.areas (g.P.Sectors.state c.args.pack.now.pool) c.args.spool.now)))))

pub returns-in-File-clause-world : goal.returns-in-File-clause-world
returns-in-File-clause-world g c =
    turns_moved c.once-in-File.result c.args.self.now c.serve_file.new.self c.args.pack.now.areas c.serve_file.new.pack.areas (g.P.Sectors.state c.args.pack.now.pool) (g.P.Sectors.state c.serve_file.new.pack.pool) c.args.spool.now c.requires.ready.files.pack c.requires.blocks c.serve_file.ensures.leaves.pack.others
    (once_turns c.serve_file.result c.once-in-File.result _ _ c.once-in-File.ensures (file_turn _ c.args.self.now (HoldsParts c.serve_file.new.self (with_seen (seen c.serve_file.new.pack.areas (g.P.Sectors.state c.serve_file.new.pack.pool).contents) (shown c.args.self.now.id (around c.args.pack.now.areas (g.P.Sectors.state c.args.pack.now.pool) c.args.spool.now)))) c.serve_file.result (sym c.is_waiting.ensures ∙ c.if-is_waiting.false) (record { file = c.in-File.file; call = c.in-File.call; is = sym c.pending.ensures.request ∙ ap option_copied c.in-Some.is ∙ ap (λ r. Some r) c.in-File.is }) (c.serve_file.ensures.served (shown c.args.self.now.id (around c.args.pack.now.areas (g.P.Sectors.state c.args.pack.now.pool) c.args.spool.now)))))

pub returns-in-Print-clause-world : goal.returns-in-Print-clause-world
returns-in-Print-clause-world g c = once_turns c.print.result c.once-in-Print.result _ _ c.once-in-Print.ensures (print_turn _ c.args.self.now _ c.print.result _ _ (search rules) (search rules) c.print.ensures.served)

pub returns-in-Ask-clause-world : goal.returns-in-Ask-clause-world
returns-in-Ask-clause-world g c =
    once_turns (Ok Idle) c.once-in-Ask.result _ _ c.once-in-Ask.ensures (asking_turn _ {E = SectorFault} c.args.self.now (Ok Idle) _ (sym c.is_waiting.ensures ∙ c.if-is_waiting.false) (sym c.pending.ensures.request ∙ ap option_copied c.in-Some.is ∙ ap (λ r. Some r) c.in-Ask.is) refl)

pub returns-then-is_waiting-clause-world : goal.returns-then-is_waiting-clause-world
returns-then-is_waiting-clause-world g c = once_turns (Ok Idle) c.once.result _ _ c.once.ensures (halted_turn _ {E = SectorFault} c.args.self.now (Ok Idle) (sym c.is_waiting.ensures ∙ c.if-is_waiting.true) refl)

pub returns-in_default-clause-world : goal.returns-in_default-clause-world
returns-in_default-clause-world g c =
    turns_moved c.once-in_default.result c.args.self.now c.begin.new.self c.args.pack.now.areas c.begin.new.pack.areas (g.P.Sectors.state c.args.pack.now.pool) (g.P.Sectors.state c.begin.new.pack.pool) c.args.spool.now c.requires.ready.files.pack c.requires.blocks c.begin.ensures.leaves.pack.others
    (once_turns c.begin.result c.once-in_default.result _ _ c.once-in_default.ensures (begun_turn (shown c.args.self.now.id (around c.args.pack.now.areas (g.P.Sectors.state c.args.pack.now.pool) c.args.spool.now)) c.args.self.now (HoldsParts c.begin.new.self (with_seen (seen c.begin.new.pack.areas (g.P.Sectors.state c.begin.new.pack.pool).contents) (shown c.args.self.now.id (around c.args.pack.now.areas (g.P.Sectors.state c.args.pack.now.pool) c.args.spool.now)))) c.begin.result (sym c.is_waiting.ensures ∙ c.if-is_waiting.false) (sym c.pending.ensures.request ∙ ap option_copied c.in_default.is) (c.begin.ensures.world (shown c.args.self.now.id (around c.args.pack.now.areas (g.P.Sectors.state c.args.pack.now.pool) c.args.spool.now)))))

pub returns-in-Card-clause-leaves : goal.returns-in-Card-clause-leaves
returns-in-Card-clause-leaves g c = all_once c.read_card.result c.once-in-Card.result c.once-in-Card.ensures (all_files c.args.spool.now c.requires.ready.files.pack c.requires.blocks c.read_card.ensures.leaves)

pub returns-in-End-clause-leaves : goal.returns-in-End-clause-leaves
returns-in-End-clause-leaves g c = all_once c.end.result c.once-in-End.result c.once-in-End.ensures (all_files c.args.spool.now c.requires.ready.files.pack c.requires.blocks c.end.ensures.leaves)

pub returns-in-File-clause-leaves : goal.returns-in-File-clause-leaves
returns-in-File-clause-leaves g c = all_once c.serve_file.result c.once-in-File.result c.once-in-File.ensures (all_files c.args.spool.now c.requires.ready.files.pack c.requires.blocks c.serve_file.ensures.leaves)

pub returns-in_default-clause-leaves : goal.returns-in_default-clause-leaves
returns-in_default-clause-leaves g c = all_once c.begin.result c.once-in_default.result c.once-in_default.ensures (all_files c.args.spool.now c.requires.ready.files.pack c.requires.blocks c.begin.ensures.leaves)

pub returns-in-Jump-clause-leaves : goal.returns-in-Jump-clause-leaves
returns-in-Jump-clause-leaves g c = all_files c.args.spool.now c.requires.ready.files.pack c.requires.blocks c.pass_jumps.ensures.leaves

pub returns-in-Print-clause-leaves : goal.returns-in-Print-clause-leaves
returns-in-Print-clause-leaves g c = all_once c.print.result c.once-in-Print.result c.once-in-Print.ensures c.print.ensures.leaves

pub returns-in-Ask-clause-leaves : goal.returns-in-Ask-clause-leaves
returns-in-Ask-clause-leaves g c = all_once (Ok Idle) c.once-in-Ask.result c.once-in-Ask.ensures (all_same Idle c.requires.ready c.requires.blocks)

pub returns-then-is_waiting-clause-leaves : goal.returns-then-is_waiting-clause-leaves
returns-then-is_waiting-clause-leaves g c = all_once (Ok Idle) c.once.result c.once.ensures (all_same Idle c.requires.ready c.requires.blocks)
