use Rattle.std.proofs.Common.{◌≡◌, List, ℕ, Ok, Err, refl, ap, sym, subst, ◌∙◌, rules}
use Rattle.std.specs.Option.{option_copied}
use Rattle.indexmap.specs.IndexMap.{get}
use Rattle.std.proofs.lemmas.Option.{none-some}
use Rattle.s3_cards.specs.declared.name.Name.{Name}
use Rattle.s3_lines.specs.declared.sheet.FileLine.{FileLine}
use Rattle.s3_meaning.specs.Cycle.{Req}
use Rattle.s3_cards.specs.Names.{same_name}
use Rattle.s3_operator.specs.declared.halt_code.HaltCode.TheVariants.{NoProgram}
use Rattle.s3_solo.specs.Serving.{data_of, halting, run}
use Rattle.s3_opening.specs.Opening.{opened}
use Rattle.s3_opening.specs.Inner.OpenFiles.{AreOfLines, HoldsStarted, StartsAs}
use Rattle.s3_opening.specs.declared.fault.OpeningFault.{OpeningFault}
use Rattle.s3_store.specs.Inner.State.{KeepsContents}
use Rattle.s3_level.proofs.Library.{stands_back}
use Rattle.s3_level.proofs.Starting.{files_for, files_opened, files_refused, halts_so, no_program}
use Rattle.s3_level.specs.Inner.Holds.{Becomes, HoldsParts, IsReady, with_seen}
use Rattle.s3_job_files.specs.Inner.Holds.{Seen, seen}
use Rattle.s3_job_files.proofs.Packs.{pack_then}
use Rattle.s3_level.proofs.Leaving.{if_halted, leaves_kept, leaves_memory, leaves_spent, pack_halted, pack_opened, ready_kept, still}
use Rattle.s3_level.proofs.level.Level.run.Goals as goal

pub returns-in_default-clause-world : goal.returns-in_default-clause-world
returns-in_default-clause-world g c = λ s.
    no_program (with_seen (seen c.args.pack.now.areas (g.P.Sectors.state c.args.pack.now.pool).contents) s) {T = Unit {0}} {E = Unit {0}} (Ok (tt {0})) c.args.number c.args.job.now (data_of c.args.self.now.deck c.args.job.now) c.args.self.now (HoldsParts c.show.new.self (with_seen (seen c.args.pack.now.areas (g.P.Sectors.state c.args.pack.now.pool).contents) s))
    (ap (λ (n : Name). get same_name c.args.self.now.library n) (sym c.program-name.ensures) ∙ (sym c.get.ensures.value ∙ ap option_copied c.in_default.is))
    (subst (λ (details : List (ℕ × ℕ)). Becomes (halting c.args.number NoProgram details) (HoldsParts c.args.self.now (with_seen (seen c.args.pack.now.areas (g.P.Sectors.state c.args.pack.now.pool).contents) s)) (HoldsParts c.show.new.self (with_seen (seen c.args.pack.now.areas (g.P.Sectors.state c.args.pack.now.pool).contents) s))) c.new.ensures.items (c.in_ok-show.ensures.world (with_seen (seen c.args.pack.now.areas (g.P.Sectors.state c.args.pack.now.pool).contents) s)))

pub begin-requires-clause-there : goal.begin-requires-clause-there
begin-requires-clause-there g c = λ none. none-some c.in-Some.stocked.now (sym none ∙ (sym c.get.ensures.value ∙ ap option_copied c.in-Some.is))

pub run_over-requires-clause-lines : goal.run_over-requires-clause-lines
run_over-requires-clause-lines g c =
    subst (λ (lines : List FileLine). AreOfLines c.args.self.now.switches lines c.in-Ok.files.files.items) (c.file_lines.ensures ∙ sym (files_for c.in-Some.stocked.now c.in_ok-cycle-in-Ok.cycle (λ source stands. ((c.in_ok-cycle-in-Ok.ensures.cycle c.in-Some.stocked.now (sym c.get.ensures.value ∙ ap option_copied c.in-Some.is)) source stands).0))) c.in-Ok.ensures.of_lines

pub run_over-requires-clause-begins : goal.run_over-requires-clause-begins
run_over-requires-clause-begins g c = λ source stands answers.
    let back = stands_back c.in-Some.stocked.now c.in_ok-cycle-in-Ok.cycle (λ meant is. ((c.in_ok-cycle-in-Ok.ensures.cycle c.in-Some.stocked.now (sym c.get.ensures.value ∙ ap option_copied c.in-Some.is)) meant is).0) source stands in
    ((c.in_ok-cycle-in-Ok.ensures.cycle c.in-Some.stocked.now (sym c.get.ensures.value ∙ ap option_copied c.in-Some.is)) source back).1 answers ∙ ap (λ date. Req source c.args.self.now.switches date answers) c.digits-date.ensures.value

pub run_over-requires-clause-of_library : goal.run_over-requires-clause-of_library
run_over-requires-clause-of_library g c = λ program there source stands.
    (c.in_ok-cycle-in-Ok.ensures.cycle program (ap (get same_name c.args.self.now.library) c.program-name.ensures ∙ (sym (c.begin.ensures.same c.args.job.now.program) ∙ there)) source stands).0

pub returns-in_ok-cycle-in-Ok-clause-world : goal.returns-in_ok-cycle-in-Ok-clause-world
returns-in_ok-cycle-in-Ok-clause-world g c = λ s.
    files_opened s c.run_over.result c.in-Ok.files c.args.number c.args.job.now (data_of c.args.self.now.deck c.args.job.now) c.digits-date.result c.in-Some.stocked.now c.in_ok-cycle-in-Ok.cycle (seen c.args.pack.now.areas (g.P.Sectors.state c.args.pack.now.pool).contents) (seen c.open_files.new.pack.areas (g.P.Sectors.state c.open_files.new.pack.pool).contents)
    c.args.self.now c.begin.new.library (HoldsParts c.run_over.new.self (with_seen (seen c.run_over.new.pack.areas (g.P.Sectors.state c.run_over.new.pack.pool).contents) s))
    (ap (λ (n : Name). get same_name c.args.self.now.library n) (sym c.program-name.ensures) ∙ (sym c.get.ensures.value ∙ ap option_copied c.in-Some.is)) (λ source stands. ((c.in_ok-cycle-in-Ok.ensures.cycle c.in-Some.stocked.now (sym c.get.ensures.value ∙ ap option_copied c.in-Some.is)) source stands).0) c.begin.ensures.same c.digits-date.ensures.value c.requires.free.rests
    (λ files held. subst (HoldsStarted c.args.self.now.id c.in-Ok.files.files.items (seen c.open_files.new.pack.areas (g.P.Sectors.state c.open_files.new.pack.pool).contents))
    (λ i. opened (record { statements = c.files.ensures i; switches = c.args.self.now.switches; date = c.digits-date.result }) (c.file_lines.ensures i) files) (c.in-Ok.ensures.starts files held))
    (c.run_over.ensures.world s (seen c.args.pack.now.areas (g.P.Sectors.state c.args.pack.now.pool).contents))

pub returns-in_ok-show-in-Err-Halted-clause-world : goal.returns-in_ok-show-in-Err-Halted-clause-world
returns-in_ok-show-in-Err-Halted-clause-world g c = λ s.
    let same : c.open_files.new.pack.areas ≡ c.args.pack.now.areas = if_halted c.in-Err-Halted.field-0-is c.in-Err-Halted.ensures.same in
    let keeps : KeepsContents (g.P.Sectors.state c.args.pack.now.pool) (g.P.Sectors.state c.open_files.new.pack.pool) = if_halted c.in-Err-Halted.field-0-is c.in-Err-Halted.ensures.keeps in
    let seen_same : (seen c.args.pack.now.areas (g.P.Sectors.state c.args.pack.now.pool).contents) ≡ seen c.open_files.new.pack.areas (g.P.Sectors.state c.open_files.new.pack.pool).contents = λ i. seen (sym same i) (sym keeps.contents i) in
    subst (λ (k : Seen). Becomes (λ w. run c.args.number c.args.job.now.files (data_of c.args.self.now.deck c.args.job.now) (w.library c.args.job.now.program) w) (HoldsParts c.args.self.now (with_seen (seen c.args.pack.now.areas (g.P.Sectors.state c.args.pack.now.pool).contents) s)) (HoldsParts c.show-in-Err-Halted.new.self (with_seen k s))) seen_same
    (files_refused s {T = Unit {0}} {E = Unit {0}} (Ok (tt {0})) c.in-Err-Halted.code c.args.number c.args.job.now (data_of c.args.self.now.deck c.args.job.now) c.digits-date.result c.in-Some.stocked.now (seen c.args.pack.now.areas (g.P.Sectors.state c.args.pack.now.pool).contents)
    c.args.self.now (HoldsParts c.show-in-Err-Halted.new.self (with_seen (seen c.args.pack.now.areas (g.P.Sectors.state c.args.pack.now.pool).contents) s))
    (ap (λ (n : Name). get same_name c.args.self.now.library n) (sym c.program-name.ensures) ∙ (sym c.get.ensures.value ∙ ap option_copied c.in-Some.is)) c.digits-date.ensures.value c.requires.free.rests
    (λ files held. (λ i. opened (record { statements = sym c.files.ensures i; switches = c.args.self.now.switches; date = c.digits-date.result }) (sym c.file_lines.ensures i) files)
    ∙ subst (λ (f : OpeningFault). StartsAs c.args.self.now.id (seen c.open_files.new.pack.areas (g.P.Sectors.state c.open_files.new.pack.pool).contents) (opened (record { statements = c.files.result.now; switches = c.args.self.now.switches; date = c.digits-date.result }) c.file_lines.result.now files) (Err f)) c.in-Err-Halted.field-0-is (c.in-Err-Halted.ensures.starts files held))
    (halts_so c.args.number c.in-Err-Halted.code _ _ (HoldsParts c.args.self.now (with_seen (seen c.args.pack.now.areas (g.P.Sectors.state c.args.pack.now.pool).contents) s)) (HoldsParts c.show-in-Err-Halted.new.self (with_seen (seen c.args.pack.now.areas (g.P.Sectors.state c.args.pack.now.pool).contents) s)) c.new-in-Err-Halted.ensures.items c.in-Err-Halted.code-is
    (c.in_ok-show-in-Err-Halted.ensures.world (with_seen (seen c.args.pack.now.areas (g.P.Sectors.state c.args.pack.now.pool).contents) s))))

pub returns-in_default-clause-leaves : goal.returns-in_default-clause-leaves
returns-in_default-clause-leaves g c = leaves_kept _ c.requires.free.ready c.show.ensures.keeps

pub returns-in_err-show-clause-leaves : goal.returns-in_err-show-clause-leaves
returns-in_err-show-clause-leaves g c = leaves_memory c.from_residual.result c.from_residual.ensures.1 c.requires.free.ready.files.pack c.show.ensures.keeps.stays

pub returns-in_ok-cycle-in-Ok-clause-leaves : goal.returns-in_ok-cycle-in-Ok-clause-leaves
returns-in_ok-cycle-in-Ok-clause-leaves g c = record {
  stays = record { id = c.run_over.ensures.leaves.stays.id; deck = c.run_over.ensures.leaves.stays.deck; drained = c.run_over.ensures.leaves.stays.drained };
  ready = c.run_over.ensures.leaves.ready;
  pack = pack_then (pack_opened c.in-Ok.files c.open_files.ensures.pack c.open_files.ensures.others c.open_files.ensures.spares c.in-Ok.ensures.says c.in-Ok.ensures.failures) c.run_over.ensures.leaves.pack;
}

pub returns-in_err-cycle-in-Ok-clause-leaves : goal.returns-in_err-cycle-in-Ok-clause-leaves
returns-in_err-cycle-in-Ok-clause-leaves g c =
    leaves_spent c.from_residual-in_err-cycle-in-Ok.result c.from_residual-in_err-cycle-in-Ok.ensures.1 (record { id = refl; deck = refl; drained = refl }) (pack_opened c.in-Ok.files c.open_files.ensures.pack c.open_files.ensures.others c.open_files.ensures.spares c.in-Ok.ensures.says c.in-Ok.ensures.failures)

pub returns-in_ok-show-in-Err-Halted-clause-leaves : goal.returns-in_ok-show-in-Err-Halted-clause-leaves
returns-in_ok-show-in-Err-Halted-clause-leaves g c =
    let same : c.open_files.new.pack.areas ≡ c.args.pack.now.areas = if_halted c.in-Err-Halted.field-0-is c.in-Err-Halted.ensures.same in
    let keeps : KeepsContents (g.P.Sectors.state c.args.pack.now.pool) (g.P.Sectors.state c.open_files.new.pack.pool) = if_halted c.in-Err-Halted.field-0-is c.in-Err-Halted.ensures.keeps in
    let seen_same : (seen c.args.pack.now.areas (g.P.Sectors.state c.args.pack.now.pool).contents) ≡ seen c.open_files.new.pack.areas (g.P.Sectors.state c.open_files.new.pack.pool).contents = λ i. seen (sym same i) (sym keeps.contents i) in
    record {
      stays = c.show-in-Err-Halted.ensures.keeps.stays;
      ready = ready_kept c.show-in-Err-Halted.ensures.keeps (subst (IsReady c.args.self.now) seen_same c.requires.free.ready);
      pack = (pack_halted c.in-Err-Halted.field-0-is c.requires.free.ready.files.pack c.in-Err-Halted.ensures.same c.in-Err-Halted.ensures.keeps c.in-Err-Halted.ensures.failures);
    }

pub returns-in_err-show-in-Err-Halted-clause-leaves : goal.returns-in_err-show-in-Err-Halted-clause-leaves
returns-in_err-show-in-Err-Halted-clause-leaves g c =
    leaves_spent c.from_residual-in_err-show-in-Err-Halted.result c.from_residual-in_err-show-in-Err-Halted.ensures.1 c.show-in-Err-Halted.ensures.keeps.stays
    (pack_halted c.in-Err-Halted.field-0-is c.requires.free.ready.files.pack c.in-Err-Halted.ensures.same c.in-Err-Halted.ensures.keeps c.in-Err-Halted.ensures.failures)

pub returns-in-Err-Sectors-clause-leaves : goal.returns-in-Err-Sectors-clause-leaves
returns-in-Err-Sectors-clause-leaves g c = record {
  stays = still c.args.self.now;
  ready = tt;
  pack = record {
    others = record { pack = c.open_files.ensures.pack; areas = c.open_files.ensures.others; sectors = c.open_files.ensures.spares };
    says = tt;
    failures = search rules;
  };
}
