-- What a call on a file with keys leaves where it is refused.
use Rattle.std.proofs.Common.{◌≡◌, Bool, true, false, refl, ap, ap₂, subst, sym, ◌∙◌}
use Rattle.std.specs.Prelude.{List, ℕ, Result, Ok, Err, if◌then◌else◌}
use Rattle.s3_store.specs.Inner.State.{PoolState}
use Rattle.s3_keyed.specs.declared.fault.KeyedFault.{KeyedFault}
use Rattle.s3_keyed.specs.declared.fault.KeyedFault.TheVariants.{NoKey, Duplicate, Full, KeyChanged, BadIndex, NotAscending, Pool}
use Rattle.s3_keyed.specs.Inner.Keyed.{KeyedFile, HasKeyOrder, IsUntouched, records_now}
use Rattle.s3_keyed.specs.KeyOrder.{Entry, is_good_index}
use Rattle.s3_keyed.specs.Inner.Calls.{Answers, IsOfSectors, OnRefusal, Refuses, index_answer}
use Rattle.s3_operator.specs.declared.halt_code.HaltCode.{HaltCode}
use Rattle.s3_job_files.specs.declared.records.Put.TheVariants.{Refused as PutRefused}
use Rattle.s3_job_files.specs.Inner.Refusals.{pool_refusal}
use Rattle.s3_job_files.specs.Records.{by_key, halt_for_key}
use Rattle.s3_job_files.specs.Inner.Calls.{Puts}

plainly : (T P : Type 0) (fault : KeyedFault) → pool_refusal fault ≡ Ok tt → OnRefusal {T = T} (Err fault) P → P
plainly T P NoKey plain p = p
plainly T P Duplicate plain p = p
plainly T P Full plain p = p
plainly T P KeyChanged plain p = p
plainly T P BadIndex plain p = p
plainly T P NotAscending plain p = p
plainly T P (Pool fault) plain p = absurd cc

pub order_left : (old new : KeyedFile) (s t : PoolState) (fault : KeyedFault) → pool_refusal fault ≡ Ok tt → OnRefusal {T = Unit {0}} (Err fault) (IsUntouched old new s t)
    → HasKeyOrder old s.contents → HasKeyOrder new t.contents
order_left old new s t fault plain left order =
    let untouched : IsUntouched old new s t = plainly (Unit {0}) (IsUntouched old new s t) fault plain left in
    subst (λ (f : KeyedFile). HasKeyOrder f t.contents) (sym untouched.file)
    (subst (λ (c : List (List ℕ)). HasKeyOrder old c) (sym untouched.sectors.contents) order)

refused : (T : Type 0) (meant : Result T KeyedFault) (fault : KeyedFault) → pool_refusal fault ≡ Ok tt → Refuses meant fault → meant ≡ Err fault
refused T meant NoKey plain r = r
refused T meant Duplicate plain r = r
refused T meant Full plain r = r
refused T meant KeyChanged plain r = r
refused T meant BadIndex plain r = r
refused T meant NotAscending plain r = r
refused T meant (Pool fault) plain r = absurd cc

-- it is refused as is meant, and the records are as they were
pub refusal_puts : (meant : Result (List (List ℕ)) KeyedFault) (fault : KeyedFault) (code : HaltCode) (old new : KeyedFile) (s t : PoolState) → pool_refusal fault ≡ Ok tt → code ≡ halt_for_key fault
    → Refuses meant fault → OnRefusal {T = Unit {0}} (Err fault) (IsUntouched old new s t)
    → Puts (by_key meant) (PutRefused code) (records_now old s.contents) (records_now new t.contents)
refusal_puts meant fault code old new s t plain halts refuses left =
    let untouched : IsUntouched old new s t = plainly (Unit {0}) (IsUntouched old new s t) fault plain left in
    let to_halt : HaltCode → Result (List (List ℕ)) HaltCode = λ c. Err c in (
      ap by_key (refused (List (List ℕ)) meant fault plain refuses) ∙ ap to_halt (sym halts),
      ap₂ (λ (f : KeyedFile) (c : List (List ℕ)). records_now f c) untouched.file untouched.sectors.contents,
    )

-- a refusal of the sectors is passed on
pub not_of_sectors : (fault : KeyedFault) → IsOfSectors fault → pool_refusal fault ≡ Ok tt → ⊥
not_of_sectors NoKey of plain = of
not_of_sectors Duplicate of plain = of
not_of_sectors Full of plain = of
not_of_sectors KeyChanged of plain = of
not_of_sectors BadIndex of plain = of
not_of_sectors NotAscending of plain = of
not_of_sectors (Pool fault) of plain = cc

-- ---- an index that is checked
pub is_good : (entries : List Entry) (keys : List ℕ) → index_answer entries keys ≡ Ok tt → is_good_index entries keys ≡ true
is_good entries keys ok = by (is_good_index entries keys) ok
  where
    by : (b : Bool) → (let answer : Result (Unit {0}) KeyedFault = if b then Ok tt else Err BadIndex in answer) ≡ Ok tt → b ≡ true
    by true e = refl
    by false e = absurd cc

pub is_not_good : (entries : List Entry) (keys : List ℕ) (fault : KeyedFault) → pool_refusal fault ≡ Ok tt → Answers (index_answer entries keys) (Err fault) → is_good_index entries keys ≡ false
is_not_good entries keys fault plain refused = by (is_good_index entries keys) (refuses fault plain refused)
  where
    refuses : (f : KeyedFault) → pool_refusal f ≡ Ok tt → Answers (index_answer entries keys) (Err f) → index_answer entries keys ≡ Err f
    refuses NoKey p r = r
    refuses Duplicate p r = r
    refuses Full p r = r
    refuses KeyChanged p r = r
    refuses BadIndex p r = r
    refuses NotAscending p r = r
    refuses (Pool pool) p r = absurd cc

    by : (b : Bool) → (let answer : Result (Unit {0}) KeyedFault = if b then Ok tt else Err BadIndex in answer) ≡ Err fault → b ≡ false
    by true e = absurd cc
    by false e = refl
