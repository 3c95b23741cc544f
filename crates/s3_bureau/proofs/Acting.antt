-- What the calls of a level come to, with what is beside it.
use Rattle.std.proofs.Common.{◌≡◌, ℕ, ◌≤◌, ◌+◌, Result, Ok, Err, refl, arith}
use Rattle.std.specs.Prelude.{IfOk, OnOk, OnErr, ◌≢◌}
use Rattle.s3_store.specs.Inner.Failures.{failed_transfers}
use Rattle.s3_store.specs.Inner.State.{PoolState}
use Rattle.s3_store.specs.declared.sector_fault.SectorFault.{SectorFault}
use Rattle.s3_store.specs.Inner.State.{KeepsContents}
use Rattle.s3_labels.specs.Inner.Areas.{Areas, IsReady as IsPackReady}
use Rattle.s3_labels.specs.Inner.Labelled.{KeepsSaid}
use Rattle.s3_spool.specs.Inner.Queues.{Blocks}
use Rattle.s3_job_files.specs.Inner.Holds.{seen}
use Rattle.s3_job_files.specs.Inner.Packs.{KeepsOthers}
use Rattle.s3_job_files.proofs.Said.{said_same}
use Rattle.s3_solo.specs.declared.action.Action.TheVariants.{Turn, Reply, Drain}
use Rattle.s3_solo.specs.declared.action.Did.{Did}
use Rattle.s3_solo.specs.World.{World}
use Rattle.s3_solo.specs.Solo.{step_of}
use Rattle.s3_level.specs.declared.level.Level.{Level}
use Rattle.s3_level.specs.declared.taken.Taken.{Taken}
use Rattle.s3_level.specs.Inner.Holds.{AreAll, Around, Holds, IsQuiet, IsReady, IsUntouched, IsUpTo, Repeats, Spares, Stays, Steps, StopsAtEnd, around, once}
use Rattle.s3_level.proofs.Beside.{spares_files}
use Rattle.s3_level.proofs.Turns.{steps_once, stops_once}
use Rattle.s3_bureau.specs.Inner.Calls.{Acts}
use Rattle.s3_bureau.proofs.Memory.{reply_acts, drain_acts}
use Rattle.s3_solo.specs.declared.action.Did.TheVariants.{Acted, Refused}

-- an untouched pack with the same queues
beside_same : (before after : Around) → IsUntouched before.areas after.areas before.state after.state → after.blocks ≡ before.blocks → after ≡ before
beside_same before after untouched queues = λ i. record { areas = untouched.0 i; state = untouched.1 i; blocks = queues i }

-- so many turns
pub turned : (most : ℕ) (result : Result Taken SectorFault) (old new : Level) (before after : Around)
    → IfOk result (λ taken. IsUpTo most taken)
    → IfOk result (λ taken. Repeats Turn taken.times taken.did (Holds old before) (Holds new after))
    → IfOk result (λ taken. StopsAtEnd Turn taken.times (Holds old before))
    → OnErr result ((w : World) → Holds old before w → (step_of w Turn).did ≡ Acted)
    → OnOk result (IsReady new (seen after.areas after.state.contents))
    → Spares old.id before after
    → after.state.failures ≡ before.state.failures + failed_transfers result
    → Stays old new
    → OnOk result (KeepsSaid old.id before.areas before.state.contents after.areas after.state.contents)
    → IfOk result (λ taken. IsQuiet taken.did before.areas after.areas before.state after.state)
    → IfOk result (λ taken. taken.did ≢ Acted → after.blocks ≡ before.blocks)
    → Acts Turn most result old new before after
turned most (Ok taken) old new before after times steps stops acts ready spares failures stays says quiet queues =
    record { id = stays.id; spares = spares; says = says; quiet = λ idles. beside_same before after (quiet idles) (queues idles); times = times; failures = failures; comes = (ready, steps, stops) }
turned most (Err fault) old new before after times steps stops acts ready spares failures stays says quiet queues =
    record { id = stays.id; spares = spares; says = says; quiet = tt; times = tt; failures = failures; comes = (stays.drained, acts) }

pub replied : (most digit : ℕ) (result : Result Did SectorFault) (old new : Level) (areas new_areas : Areas) (s t : PoolState) (blocks : Blocks)
    → 1 ≤ most
    → IsPackReady areas s.contents
    → AreAll blocks
    → ((blocks : Blocks) → AreAll blocks → IfOk result (λ did. Steps (Reply digit) did (Holds old (around areas s blocks)) (Holds new (around new_areas t blocks))))
    → ((blocks : Blocks) (w : World) (number : ℕ) → Holds old (around areas s blocks) w → (step_of w (Reply digit)).did ≡ Refused number → result ≡ Ok (Refused number))
    → OnOk result (IsReady new (seen new_areas t.contents))
    → KeepsOthers old.id areas new_areas s t
    → t.failures ≡ s.failures + failed_transfers result
    → Stays old new
    → OnOk result (KeepsSaid old.id areas s.contents new_areas t.contents)
    → IfOk result (λ did. IsQuiet did areas new_areas s t)
    → Acts (Reply digit) most (once result) old new (around areas s blocks) (around new_areas t blocks)
replied most digit (Ok did) old new areas new_areas s t blocks some pack are steps refused ready others failures stays says quiet =
    record { id = stays.id; spares = spares_files old.id areas new_areas blocks s t pack are others; says = says; quiet = λ refuses. beside_same (around areas s blocks) (around new_areas t blocks) (quiet refuses) refl; failures = failures; times = record { some = omega arith; few = some }; comes = (ready, steps_once (Reply digit) did (Holds old (around areas s blocks)) (Holds new (around new_areas t blocks)) (steps blocks are), stops_once (Reply digit) (Holds old (around areas s blocks))) }
replied most digit (Err fault) old new areas new_areas s t blocks some pack are steps refused ready others failures stays says quiet =
    record { id = stays.id; spares = spares_files old.id areas new_areas blocks s t pack are others; says = says; quiet = tt; times = tt; failures = failures; comes = (stays.drained, λ w held. reply_acts digit w (never w held)) }
  where
    never : (w : World) → Holds old (around areas s blocks) w → (number : ℕ) → (step_of w (Reply digit)).did ≡ Refused number → ⊥
    never w held number is = let same : Err fault ≡ Ok (Refused number) = refused blocks w number held is in cc

pub drained : (most : ℕ) (result : Result Did SectorFault) (old new : Level) (before after : Around)
    → 1 ≤ most
    → IfOk result (λ did. Steps Drain did (Holds old before) (Holds new after))
    → ((w : World) (number : ℕ) → Holds old before w → (step_of w Drain).did ≡ Refused number → result ≡ Ok (Refused number))
    → OnErr result (new.lines.items ≡ old.lines.items)
    → OnOk result (IsReady new (seen after.areas after.state.contents))
    → Spares old.id before after
    → after.state.failures ≡ before.state.failures + failed_transfers result
    → new.id ≡ old.id
    → after.areas ≡ before.areas
    → KeepsContents before.state after.state
    → IfOk result (λ did. IsQuiet did before.areas after.areas before.state after.state)
    → IfOk result (λ did. did ≢ Acted → after.blocks ≡ before.blocks)
    → Acts Drain most (once result) old new before after
drained most (Ok did) old new before after some steps refused lines ready spares failures id same keeps quiet queues =
    record { id = id; spares = spares; says = said_same old.id before.areas after.areas before.state after.state keeps same; quiet = λ refuses. beside_same before after (quiet refuses) (queues refuses); failures = failures; times = record { some = omega arith; few = some }; comes = (ready, steps_once Drain did (Holds old before) (Holds new after) steps, stops_once Drain (Holds old before)) }
drained most (Err fault) old new before after some steps refused lines ready spares failures id same keeps quiet queues =
    record { id = id; spares = spares; says = tt; quiet = tt; times = tt; failures = failures; comes = (lines, λ w held. drain_acts w (never w held)) }
  where
    never : (w : World) → Holds old before w → (number : ℕ) → (step_of w Drain).did ≡ Refused number → ⊥
    never w held number is = let same : Err fault ≡ Ok (Refused number) = refused w number held is in cc
