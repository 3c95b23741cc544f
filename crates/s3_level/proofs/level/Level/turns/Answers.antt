use Rattle.std.proofs.Common.{ℕ, Ok, ◌-◌, ◌≡◌, ap, not, subst, sym, ◌∙◌, arith}
use Rattle.s3_store.specs.declared.sector_fault.SectorFault.{SectorFault}
use Rattle.s3_solo.specs.declared.action.Action.TheVariants.{Turn}
use Rattle.s3_solo.specs.declared.action.Did.TheVariants.{Acted}
use Rattle.s3_level.specs.declared.taken.Taken.{Taken}
use Rattle.s3_level.specs.Inner.Holds.{Around, Holds, HoldsParts, Repeats, StopsAtEnd, around, shown}
use Rattle.s3_level.proofs.Repeating.{ends_idle, ends_stopped, ends_up_to, first_acts, is_first, none_yet, on_err, spares_after, then_turned}
use Rattle.s3_level.proofs.Turns.{stops_wholly, turns_wholly}
use Rattle.s3_level.proofs.level.Level.turns.Goals as goal

pub loop-most-init : goal.loop-most-init
loop-most-init g c =
    (none_yet (c.get-all.result - c.get-all.result) c.args.self.now (around c.args.pack.now.areas (g.P.Sectors.state c.args.pack.now.pool) c.args.spool.now) (omega arith) c.requires.ready c.requires.blocks, omega arith, λ some. absurd (omega (arith, some)))

pub returns-in_err-taken-clause-acts : goal.returns-in_err-taken-clause-acts
returns-in_err-taken-clause-acts g c =
    on_err c.from_residual.result _
    (first_acts (c.get-all.result - c.loop-most.left) c.args.self.now c.loop-most.self (around c.args.pack.now.areas (g.P.Sectors.state c.args.pack.now.pool) c.args.spool.now) (around c.loop-most.pack.areas (g.P.Sectors.state c.loop-most.pack.pool) c.loop-most.spool)
    c.loop-most.invariant.0 (λ w held. c.in_err-taken.ensures.world w held.parts))

pub returns-in_err-taken-clause-spares : goal.returns-in_err-taken-clause-spares
returns-in_err-taken-clause-spares g c =
    spares_after c.args.self.now c.loop-most.self (around c.args.pack.now.areas (g.P.Sectors.state c.args.pack.now.pool) c.args.spool.now) (around c.loop-most.pack.areas (g.P.Sectors.state c.loop-most.pack.pool) c.loop-most.spool)
    (around c.step.new.pack.areas (g.P.Sectors.state c.step.new.pack.pool) c.step.new.spool) c.loop-most.invariant.0.stays c.loop-most.invariant.0.spares c.step.ensures.leaves.spares

pub returns-in_default-did-clause-steps : goal.returns-in_default-did-clause-steps
returns-in_default-did-clause-steps g c =
    ends_idle (c.get-all.result - c.loop-most.left) c.in_ok-taken.taken c.behind.result c.args.self.now c.loop-most.self c.step.new.self (around c.args.pack.now.areas (g.P.Sectors.state c.args.pack.now.pool) c.args.spool.now)
    (around c.loop-most.pack.areas (g.P.Sectors.state c.loop-most.pack.pool) c.loop-most.spool) (around c.step.new.pack.areas (g.P.Sectors.state c.step.new.pack.pool) c.step.new.spool) c.behind.ensures.none c.behind.ensures.some c.loop-most.invariant.0
    c.in_ok-taken.ensures.times.some c.in_default-did.not-Acted
    (turns_wholly {E = SectorFault} (Ok c.in_ok-taken.taken) c.loop-most.self c.step.new.self (around c.loop-most.pack.areas (g.P.Sectors.state c.loop-most.pack.pool) c.loop-most.spool) (around c.step.new.pack.areas (g.P.Sectors.state c.step.new.pack.pool) c.step.new.spool) c.step.ensures.leaves.stays.id c.in_ok-taken.ensures.world)

pub returns-in_default-did-clause-times : goal.returns-in_default-did-clause-times
returns-in_default-did-clause-times g c =
    let few = c.in_ok-taken.ensures.times.few in
    let within = c.loop-most.invariant.1 in
    let all = c.get-all.ensures in
    ends_up_to (c.get-all.result - c.loop-most.left) _ c.in_ok-taken.taken c.behind.result (omega (arith, all)) c.behind.ensures.none c.behind.ensures.some
    (record { some = c.in_ok-taken.ensures.times.some; few = omega (arith, few, within, all) })

pub returns-in_default-did-clause-quiet : goal.returns-in_default-did-clause-quiet
returns-in_default-did-clause-quiet g c = λ idles.
    let same = c.loop-most.invariant.0.first (is_first (c.get-all.result - c.loop-most.left) c.behind.result c.behind.ensures.some idles) in
    let still = c.in_ok-taken.ensures.quiet c.in_default-did.not-Acted in
    (still.0 ∙ ap (λ (a : Around). a.areas) same, still.1 ∙ ap (λ (a : Around). a.state) same)

pub returns-in_default-did-clause-queues : goal.returns-in_default-did-clause-queues
returns-in_default-did-clause-queues g c = λ idles.
    c.in_ok-taken.ensures.queues c.in_default-did.not-Acted ∙ ap (λ (a : Around). a.blocks) (c.loop-most.invariant.0.first (is_first (c.get-all.result - c.loop-most.left) c.behind.result c.behind.ensures.some idles))

pub loop-most-preserved : goal.loop-most-preserved
loop-most-preserved g c =
    let few = c.in_ok-taken.ensures.times.few in
    let within = c.loop-most.invariant.1 in (
      then_turned (c.get-all.result - c.loop-most.left) (c.get-all.result - (c.loop-most.left - c.in_ok-taken.taken.times)) c.in_ok-taken.taken c.args.self.now c.loop-most.self c.step.new.self
          (around c.args.pack.now.areas (g.P.Sectors.state c.args.pack.now.pool) c.args.spool.now) (around c.loop-most.pack.areas (g.P.Sectors.state c.loop-most.pack.pool) c.loop-most.spool)
          (around c.step.new.pack.areas (g.P.Sectors.state c.step.new.pack.pool) c.step.new.spool) (omega (arith, few, within)) c.loop-most.invariant.0 c.in-Acted.is c.in_ok-taken.ensures.times.some
          (turns_wholly {E = SectorFault} (Ok c.in_ok-taken.taken) c.loop-most.self c.step.new.self (around c.loop-most.pack.areas (g.P.Sectors.state c.loop-most.pack.pool) c.loop-most.spool) (around c.step.new.pack.areas (g.P.Sectors.state c.step.new.pack.pool) c.step.new.spool) c.step.ensures.leaves.stays.id c.in_ok-taken.ensures.world)
          c.loop-most.invariant.2 (stops_wholly c.in_ok-taken.taken c.loop-most.self (around c.loop-most.pack.areas (g.P.Sectors.state c.loop-most.pack.pool) c.loop-most.spool) (HoldsParts c.step.new.self (shown c.loop-most.self.id (around c.step.new.pack.areas (g.P.Sectors.state c.step.new.pack.pool) c.step.new.spool))) c.in_ok-taken.ensures.world)
          c.in_ok-taken.ensures.leaves.ready c.step.ensures.leaves.spares c.in_ok-taken.ensures.leaves.failures c.in_ok-taken.ensures.leaves.says c.step.ensures.leaves.stays,
      omega (arith, few, within),
      λ some. c.is_none.ensures ∙ ap not c.if-is_none.false,
    )

-- the turn in which the job has ended is the last one
pub returns-then-is_none-clause-steps : goal.returns-then-is_none-clause-steps
returns-then-is_none-clause-steps g c =
    let few = c.in_ok-taken.ensures.times.few in
    let within = c.loop-most.invariant.1 in
    subst (λ (t : Taken). Repeats Turn t.times t.did (Holds c.args.self.now (around c.args.pack.now.areas (g.P.Sectors.state c.args.pack.now.pool) c.args.spool.now)) (Holds c.step.new.self (around c.step.new.pack.areas (g.P.Sectors.state c.step.new.pack.pool) c.step.new.spool))) (sym c.acted.ensures)
    (then_turned (c.get-all.result - c.loop-most.left) (c.get-all.result - (c.loop-most.left - c.in_ok-taken.taken.times)) c.in_ok-taken.taken c.args.self.now c.loop-most.self c.step.new.self
    (around c.args.pack.now.areas (g.P.Sectors.state c.args.pack.now.pool) c.args.spool.now) (around c.loop-most.pack.areas (g.P.Sectors.state c.loop-most.pack.pool) c.loop-most.spool)
    (around c.step.new.pack.areas (g.P.Sectors.state c.step.new.pack.pool) c.step.new.spool) (omega (arith, few, within)) c.loop-most.invariant.0 c.in-Acted.is c.in_ok-taken.ensures.times.some
    (turns_wholly {E = SectorFault} (Ok c.in_ok-taken.taken) c.loop-most.self c.step.new.self (around c.loop-most.pack.areas (g.P.Sectors.state c.loop-most.pack.pool) c.loop-most.spool) (around c.step.new.pack.areas (g.P.Sectors.state c.step.new.pack.pool) c.step.new.spool) c.step.ensures.leaves.stays.id c.in_ok-taken.ensures.world)
    c.loop-most.invariant.2 (stops_wholly c.in_ok-taken.taken c.loop-most.self (around c.loop-most.pack.areas (g.P.Sectors.state c.loop-most.pack.pool) c.loop-most.spool) (HoldsParts c.step.new.self (shown c.loop-most.self.id (around c.step.new.pack.areas (g.P.Sectors.state c.step.new.pack.pool) c.step.new.spool))) c.in_ok-taken.ensures.world)
    c.in_ok-taken.ensures.leaves.ready c.step.ensures.leaves.spares c.in_ok-taken.ensures.leaves.failures c.in_ok-taken.ensures.leaves.says c.step.ensures.leaves.stays).worlds

pub returns-then-is_none-clause-stops : goal.returns-then-is_none-clause-stops
returns-then-is_none-clause-stops g c =
    let few = c.in_ok-taken.ensures.times.few in
    let within = c.loop-most.invariant.1 in
    subst (λ (t : Taken). StopsAtEnd Turn t.times (Holds c.args.self.now (around c.args.pack.now.areas (g.P.Sectors.state c.args.pack.now.pool) c.args.spool.now))) (sym c.acted.ensures)
    (then_turned (c.get-all.result - c.loop-most.left) (c.get-all.result - (c.loop-most.left - c.in_ok-taken.taken.times)) c.in_ok-taken.taken c.args.self.now c.loop-most.self c.step.new.self
    (around c.args.pack.now.areas (g.P.Sectors.state c.args.pack.now.pool) c.args.spool.now) (around c.loop-most.pack.areas (g.P.Sectors.state c.loop-most.pack.pool) c.loop-most.spool)
    (around c.step.new.pack.areas (g.P.Sectors.state c.step.new.pack.pool) c.step.new.spool) (omega (arith, few, within)) c.loop-most.invariant.0 c.in-Acted.is c.in_ok-taken.ensures.times.some
    (turns_wholly {E = SectorFault} (Ok c.in_ok-taken.taken) c.loop-most.self c.step.new.self (around c.loop-most.pack.areas (g.P.Sectors.state c.loop-most.pack.pool) c.loop-most.spool) (around c.step.new.pack.areas (g.P.Sectors.state c.step.new.pack.pool) c.step.new.spool) c.step.ensures.leaves.stays.id c.in_ok-taken.ensures.world)
    c.loop-most.invariant.2 (stops_wholly c.in_ok-taken.taken c.loop-most.self (around c.loop-most.pack.areas (g.P.Sectors.state c.loop-most.pack.pool) c.loop-most.spool) (HoldsParts c.step.new.self (shown c.loop-most.self.id (around c.step.new.pack.areas (g.P.Sectors.state c.step.new.pack.pool) c.step.new.spool))) c.in_ok-taken.ensures.world)
    c.in_ok-taken.ensures.leaves.ready c.step.ensures.leaves.spares c.in_ok-taken.ensures.leaves.failures c.in_ok-taken.ensures.leaves.says c.step.ensures.leaves.stays).stops

pub returns-then-is_none-clause-spares : goal.returns-then-is_none-clause-spares
returns-then-is_none-clause-spares g c =
    spares_after c.args.self.now c.loop-most.self (around c.args.pack.now.areas (g.P.Sectors.state c.args.pack.now.pool) c.args.spool.now) (around c.loop-most.pack.areas (g.P.Sectors.state c.loop-most.pack.pool) c.loop-most.spool)
    (around c.step.new.pack.areas (g.P.Sectors.state c.step.new.pack.pool) c.step.new.spool) c.loop-most.invariant.0.stays c.loop-most.invariant.0.spares c.step.ensures.leaves.spares

pub returns-clause-steps : goal.returns-clause-steps
returns-clause-steps g c =
    let all : c.get-all.result - c.loop-most.left ≡ c.get-all.result = omega (arith, c.in_default.ensures) in
    subst (λ (t : Taken). Repeats Turn t.times t.did (Holds c.args.self.now (around c.args.pack.now.areas (g.P.Sectors.state c.args.pack.now.pool) c.args.spool.now)) (Holds c.loop-most.self (around c.loop-most.pack.areas (g.P.Sectors.state c.loop-most.pack.pool) c.loop-most.spool))) (sym c.acted-2.ensures)
    (subst (λ (n : ℕ). Repeats Turn n Acted (Holds c.args.self.now (around c.args.pack.now.areas (g.P.Sectors.state c.args.pack.now.pool) c.args.spool.now)) (Holds c.loop-most.self (around c.loop-most.pack.areas (g.P.Sectors.state c.loop-most.pack.pool) c.loop-most.spool))) all c.loop-most.invariant.0.worlds)

pub returns-clause-stops : goal.returns-clause-stops
returns-clause-stops g c =
    let all : c.get-all.result - c.loop-most.left ≡ c.get-all.result = omega (arith, c.in_default.ensures) in
    subst (λ (t : Taken). StopsAtEnd Turn t.times (Holds c.args.self.now (around c.args.pack.now.areas (g.P.Sectors.state c.args.pack.now.pool) c.args.spool.now))) (sym c.acted-2.ensures)
    (subst (λ (n : ℕ). StopsAtEnd Turn n (Holds c.args.self.now (around c.args.pack.now.areas (g.P.Sectors.state c.args.pack.now.pool) c.args.spool.now))) all c.loop-most.invariant.0.stops)

pub returns-in_default-did-clause-stops : goal.returns-in_default-did-clause-stops
returns-in_default-did-clause-stops g c =
    ends_stopped (c.get-all.result - c.loop-most.left) c.in_ok-taken.taken c.behind.result c.args.self.now c.loop-most.self (around c.args.pack.now.areas (g.P.Sectors.state c.args.pack.now.pool) c.args.spool.now) (around c.loop-most.pack.areas (g.P.Sectors.state c.loop-most.pack.pool) c.loop-most.spool)
    c.behind.ensures.none c.behind.ensures.some c.loop-most.invariant.0.worlds c.loop-most.invariant.0.stops
    (stops_wholly c.in_ok-taken.taken c.loop-most.self (around c.loop-most.pack.areas (g.P.Sectors.state c.loop-most.pack.pool) c.loop-most.spool) (HoldsParts c.step.new.self (shown c.loop-most.self.id (around c.step.new.pack.areas (g.P.Sectors.state c.step.new.pack.pool) c.step.new.spool))) c.in_ok-taken.ensures.world)
