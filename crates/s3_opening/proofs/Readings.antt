-- What calls that change nothing on the pack leave unchanged: after an answer or a refusal, and one after another.
use Rattle.std.proofs.Common.{◌≡◌, ◌+◌, ℕ, Result, Ok, Err, IsErrAnd, arith, refl, ap, ◌∙◌}
use Rattle.s3_cards.specs.declared.levels.LevelId.{LevelId}
use Rattle.s3_operator.specs.declared.halt_code.HaltCode.{HaltCode}
use Rattle.s3_store.specs.Inner.Failures.{failed_transfers}
use Rattle.s3_store.specs.Inner.State.{PoolState, KeepsContents}
use Rattle.s3_store.specs.declared.sector_fault.SectorFault.{SectorFault}
use Rattle.s3_store.specs.declared.sector_fault.SectorFault.TheVariants.{Device, NoMemory}
use Rattle.s3_store.proofs.Frames.{keeps_refl, keeps_trans}
use Rattle.s3_labels.specs.Inner.Areas.{Areas, IsReady as IsPackReady}
use Rattle.s3_job_files.specs.Inner.Packs.{LeavesPack}
use Rattle.s3_job_files.proofs.Packs.{pack_read, pack_then}
use Rattle.s3_opening.specs.declared.fault.OpeningFault.{OpeningFault}
use Rattle.s3_opening.specs.declared.fault.OpeningFault.TheVariants.{Halted, Sectors}
use Rattle.s3_opening.specs.Inner.Starts.{ReadsPack, failed_opening}

-- ---- nothing was read
pub reads_none : {T : Type 0} {areas : Areas} {s : PoolState} (answer : T) → ReadsPack (Ok answer) areas areas s s
reads_none {s = s} answer = record { areas = refl; keeps = keeps_refl s; failures = omega arith }

pub reads_halted : {T : Type 0} {areas : Areas} {s : PoolState} (code : HaltCode) → ReadsPack {T = T} (Err (Halted code)) areas areas s s
reads_halted {s = s} code = record { areas = refl; keeps = keeps_refl s; failures = omega arith }

-- ---- past an answer or a refusal
-- past an answer another one is given
pub reads_ok : {T U : Type 0} {first : T} {old new : Areas} {s t : PoolState} (answer : U) → ReadsPack (Ok first) old new s t → ReadsPack (Ok answer) old new s t
reads_ok answer reads = record { areas = reads.areas; keeps = reads.keeps; failures = reads.failures }

-- memory ran out afterwards
pub reads_spent : {T U : Type 0} {first : T} {old new : Areas} {s t : PoolState} (result : Result U OpeningFault) → IsErrAnd result (λ f. f ≡ Sectors NoMemory) → ReadsPack (Ok first) old new s t → ReadsPack result old new s t
reads_spent (Ok answer) is reads = absurd is
reads_spent (Err f) is reads = rw is (record { areas = reads.areas; keeps = reads.keeps; failures = reads.failures })

-- a refusal is passed on
pub transfers_same : (T U : Type 0) (fault : SectorFault) → failed_transfers {T = T} (Err fault) ≡ failed_transfers {T = U} (Err fault)
transfers_same T U Device = refl
transfers_same T U NoMemory = refl

refused_same : (T U : Type 0) (fault : OpeningFault) → failed_opening {T = T} (Err fault) ≡ failed_opening {T = U} (Err fault)
refused_same T U (Halted code) = refl
refused_same T U (Sectors fault) = transfers_same T U fault

pub reads_err : {T U : Type 0} {fault : OpeningFault} {old new : Areas} {s t : PoolState} → ReadsPack {T = T} (Err fault) old new s t → ReadsPack {T = U} (Err fault) old new s t
reads_err {T = T} {U = U} {fault = fault} {s = s} reads = record {
  areas = reads.areas;
  keeps = reads.keeps;
  failures = reads.failures ∙ ap (λ (n : ℕ). s.failures + n) (refused_same T U fault);
}

-- the sectors failed
pub reads_failed : (T : Type 0) {U : Type 0} {areas : Areas} {s t : PoolState} (fault : SectorFault) (result : Result U OpeningFault) → IsErrAnd result (λ f. f ≡ Sectors fault) → KeepsContents s t
    → t.failures ≡ s.failures + failed_transfers {T = T} (Err fault) → ReadsPack result areas areas s t
reads_failed T fault (Ok answer) is keeps failures = absurd is
reads_failed T {U = U} {s = s} fault (Err f) is keeps failures =
    rw is (record { areas = refl; keeps = keeps; failures = failures ∙ ap (λ (n : ℕ). s.failures + n) (transfers_same T U fault) })

-- ---- one call behind another
pub reads_then : {T U : Type 0} {first : T} {old middle new : Areas} {s t u : PoolState} {result : Result U OpeningFault} → ReadsPack (Ok first) old middle s t → ReadsPack result middle new t u → ReadsPack result old new s u
reads_then {s = s} {t = t} {u = u} {result = result} before behind = record {
  areas = behind.areas ∙ before.areas;
  keeps = keeps_trans s t u before.keeps behind.keeps;
  failures = behind.failures ∙ ap (λ (n : ℕ). n + failed_opening result) (let same : t.failures ≡ s.failures = omega (arith, before.failures) in same);
}

-- a call afterwards may change the pack for a level
pub leaves_then : {T U : Type 0} {level : LevelId} {first : T} {old middle new : Areas} {s t u : PoolState} {result : Result U SectorFault} → IsPackReady old s.contents → ReadsPack (Ok first) old middle s t
    → LeavesPack level result middle new t u → LeavesPack level result old new s u
leaves_then {level = level} {first = first} {old = old} {middle = middle} {s = s} {t = t} ready before behind =
    let none : LeavesPack level (Ok first) old middle s t = pack_read ready before.areas (record { keeps = before.keeps; failures = before.failures }) in
    pack_then none behind
