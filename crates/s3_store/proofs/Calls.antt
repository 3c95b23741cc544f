-- What calls on sectors leave unchanged: after an answer, and one after another.
use Rattle.std.proofs.Common.{◌≡◌, ◌+◌, ℕ, List, refl, sym, ap, ◌∙◌, Result, Ok, Err, IsErrAnd, arith}
use Rattle.std.specs.List.{Contains}
use Rattle.s3_store.specs.Inner.Failures.{failed_transfers}
use Rattle.s3_store.specs.Inner.State.{PoolState}
use Rattle.s3_store.specs.declared.sector_fault.SectorFault.{SectorFault}
use Rattle.s3_store.specs.declared.sector_fault.SectorFault.TheVariants.{Device, NoMemory}
use Rattle.s3_store.specs.Inner.Calls.{Changes, Reads}
use Rattle.s3_store.proofs.Frames.{keeps_trans, keeps_within, within_from_keeps, within_refl, within_trans}

-- no call at all
pub changes_none : {T : Type 0} (sectors : List ℕ) (answer : T) (s : PoolState) → Changes sectors (Ok answer) s s
changes_none sectors answer s = record { within = within_refl (Contains sectors) s; failures = omega arith }

-- past an answer another one is given
pub reads_ok : {T U : Type 0} {first : T} {s t : PoolState} (answer : U) → Reads (Ok first) s t → Reads (Ok answer) s t
reads_ok answer reads = record { keeps = reads.keeps; failures = reads.failures }

-- a refusal is passed on
failures_on : (T U : Type 0) (result : Result U SectorFault) (fault : SectorFault) → IsErrAnd result (λ f. f ≡ fault) → failed_transfers {T = T} (Err fault) ≡ failed_transfers result
failures_on T U (Ok _) fault gives = absurd gives
failures_on T U (Err Device) Device gives = refl
failures_on T U (Err NoMemory) NoMemory gives = refl
failures_on T U (Err Device) NoMemory gives = absurd cc
failures_on T U (Err NoMemory) Device gives = absurd cc

pub reads_err : {T U : Type 0} {s t : PoolState} (result : Result U SectorFault) (fault : SectorFault) → IsErrAnd result (λ f. f ≡ fault) → Reads {T = T} (Err fault) s t → Reads result s t
reads_err {T = T} {U = U} {s = s} result fault gives reads = record {
  keeps = reads.keeps;
  failures = reads.failures ∙ ap (λ (n : ℕ). s.failures + n) (failures_on T U result fault gives);
}

pub changes_err : {T U : Type 0} {sectors : List ℕ} {s t : PoolState} (result : Result U SectorFault) (fault : SectorFault) → IsErrAnd result (λ f. f ≡ fault) → Changes {T = T} sectors (Err fault) s t → Changes sectors result s t
changes_err {T = T} {U = U} {s = s} result fault gives changes = record {
  within = changes.within;
  failures = changes.failures ∙ ap (λ (n : ℕ). s.failures + n) (failures_on T U result fault gives);
}

-- memory runs out past an answer, and no transfer has failed
no_failures : (T U : Type 0) (result : Result U SectorFault) (fault : SectorFault) (first : T) → IsErrAnd result (λ f. f ≡ fault) → fault ≡ NoMemory → failed_transfers {T = T} (Ok first) ≡ failed_transfers result
no_failures T U result fault first gives is = ap (λ f. failed_transfers {T = T} (Err f)) (sym is) ∙ failures_on T U result fault gives

pub reads_no_memory : {T U : Type 0} {first : T} {s t : PoolState} (result : Result U SectorFault) (fault : SectorFault) → IsErrAnd result (λ f. f ≡ fault) → fault ≡ NoMemory → Reads (Ok first) s t → Reads result s t
reads_no_memory {T = T} {U = U} {first = first} {s = s} result fault gives is reads = record {
  keeps = reads.keeps;
  failures = reads.failures ∙ ap (λ (n : ℕ). s.failures + n) (no_failures T U result fault first gives is);
}

pub changes_no_memory : {T U : Type 0} {first : T} {sectors : List ℕ} {s t : PoolState} (result : Result U SectorFault) (fault : SectorFault) → IsErrAnd result (λ f. f ≡ fault) → fault ≡ NoMemory → Changes sectors (Ok first) s t → Changes sectors result s t
changes_no_memory {T = T} {U = U} {first = first} {s = s} result fault gives is changes = record {
  within = changes.within;
  failures = changes.failures ∙ ap (λ (n : ℕ). s.failures + n) (no_failures T U result fault first gives is);
}

-- what changes none changes none but these
pub changes_from : {T : Type 0} {sectors : List ℕ} {result : Result T SectorFault} {s t : PoolState} → Reads result s t → Changes sectors result s t
changes_from {sectors = sectors} {s = s} {t = t} reads = record { within = within_from_keeps (Contains sectors) s t reads.keeps; failures = reads.failures }

-- one call behind another
failures_then : {T U : Type 0} (first : T) (result : Result U SectorFault) (s t u : PoolState) → t.failures ≡ s.failures + failed_transfers {T = T} (Ok first) → u.failures ≡ t.failures + failed_transfers result → u.failures ≡ s.failures + failed_transfers result
failures_then first result s t u none then = then ∙ ap (λ (n : ℕ). n + failed_transfers result) (let same : t.failures ≡ s.failures = omega (arith, none) in same)

pub reads_then : {T U : Type 0} {first : T} {result : Result U SectorFault} {s t u : PoolState} → Reads (Ok first) s t → Reads result t u → Reads result s u
reads_then {first = first} {result = result} {s = s} {t = t} {u = u} before behind = record {
  keeps = keeps_trans s t u before.keeps behind.keeps;
  failures = failures_then first result s t u before.failures behind.failures;
}

pub changes_behind : {T U : Type 0} {first : T} {sectors : List ℕ} {result : Result U SectorFault} {s t u : PoolState} → Reads (Ok first) s t → Changes sectors result t u → Changes sectors result s u
changes_behind {first = first} {sectors = sectors} {result = result} {s = s} {t = t} {u = u} before behind = record {
  within = keeps_within (Contains sectors) s t u before.keeps behind.within;
  failures = failures_then first result s t u before.failures behind.failures;
}

pub changes_then : {T U : Type 0} {first : T} {sectors : List ℕ} {result : Result U SectorFault} {s t u : PoolState} → Changes sectors (Ok first) s t → Changes sectors result t u → Changes sectors result s u
changes_then {first = first} {sectors = sectors} {result = result} {s = s} {t = t} {u = u} before behind = record {
  within = within_trans (Contains sectors) s t u before.within behind.within;
  failures = failures_then first result s t u before.failures behind.failures;
}
