-- The calls of a file with keys, as calls of a list of records.
use Rattle.std.proofs.Common.{◌≡◌, ◌≢◌, ℕ, zero, suc, ◌<◌, ◌≤◌, Bool, true, false, ◌==◌, if◌then◌else◌, List, [], ◌∷◌, length, map, slice_get, slice_set, Some, None, Ok, Err, refl, sym, ap, subst, ◌∙◌, arith}
use Rattle.std.proofs.lemmas.Bool.{eqb-true, eq-eqb}
use Rattle.std.proofs.lemmas.Option.{slice_get_within}
use Rattle.s3_files.specs.Records.{records_in, with_record}
use Rattle.s3_files.specs.declared.fault.FileFault.TheVariants.{NoRecord}
use Rattle.s3_files.proofs.RecordLemmas.{length_records}
use Rattle.s3_keyed.specs.KeyOrder.{Entry}
use Rattle.s3_keyed.specs.Index.{KeyPlace, key_of, keys_of}
use Rattle.s3_keyed.specs.Calls.{with_updated, updated_from, keyed_result}
use Rattle.s3_keyed.specs.declared.fault.KeyedFault.TheVariants.{NoKey, KeyChanged}
use Rattle.s3_store.specs.Inner.State.{PoolState, KeepsContents}
use Rattle.s3_keyed.specs.Inner.Keyed.{KeyedFile, IsOrdered, HasKeyOrder}
use Rattle.s3_keyed.proofs.Order.{below}

got_none : {X : Type 0} (xs : List X) (i : ℕ) → length xs ≤ i → slice_get xs i ≡ None
got_none [] i h = refl
got_none (x ∷ xs) zero h = absurd (omega arith)
got_none (x ∷ xs) (suc i) h = got_none xs i (omega arith)

pub no_record : (long count i : ℕ) (bytes : List ℕ) → count ≤ i → slice_get (records_in long count bytes) i ≡ None
no_record long count i bytes h = got_none (records_in long count bytes) i (omega (arith, length_records long count bytes))

-- a record that is there has a place below the count
pub place_there : (long count i : ℕ) (bytes old : List ℕ) → slice_get (records_in long count bytes) i ≡ Some old → i < count
place_there long count i bytes old there = subst (λ n. i < n) (length_records long count bytes) (slice_get_within (records_in long count bytes) i old there)

not_equal : (a b : ℕ) → (a == b) ≡ false → (b == a) ≡ false
not_equal a b h = (elim (b == a) as (λ x. (b == a) ≡ x → x ≡ false) [
  | true ↦ λ t. let same = eqb-true b a t in let back = eq-eqb a b (sym same) in absurd cc
  | false ↦ λ t. refl
]) refl

-- ---- a record is changed

pub update_none : (place : KeyPlace) (i : ℕ) (bytes : List ℕ) (records : List (List ℕ)) → slice_get records i ≡ None → with_updated place i bytes records ≡ Err NoKey
unfolding with_updated
update_none place i bytes records none = ap (updated_from place i bytes records) none

pub update_changed : (place : KeyPlace) (i : ℕ) (bytes old : List ℕ) (records : List (List ℕ)) (a b : ℕ) (r : Bool) → slice_get records i ≡ Some old → a ≡ key_of place old → b ≡ key_of place bytes → r ≡ (a == b) → r ≡ false → with_updated place i bytes records ≡ Err KeyChanged
unfolding with_updated
update_changed place i bytes old records a b r there a_is b_is r_is differs =
    let apart : (key_of place bytes == key_of place old) ≡ false = subst (λ x. (x == key_of place old) ≡ false) b_is (subst (λ x. (b == x) ≡ false) a_is (not_equal a b (sym r_is ∙ differs))) in
    ap (updated_from place i bytes records) there ∙ ap (λ (t : Bool). if t then keyed_result (with_record i bytes records) else Err KeyChanged) apart

pub same_key : (place : KeyPlace) (bytes old : List ℕ) (a b : ℕ) (r : Bool) → a ≡ key_of place old → b ≡ key_of place bytes → r ≡ (a == b) → r ≡ true → key_of place bytes ≡ key_of place old
same_key place bytes old a b r a_is b_is r_is same = sym b_is ∙ sym (eqb-true a b (sym r_is ∙ same)) ∙ a_is

pub update_made : (place : KeyPlace) (i : ℕ) (bytes old : List ℕ) (records : List (List ℕ)) → slice_get records i ≡ Some old → key_of place bytes ≡ key_of place old → i < length records → with_updated place i bytes records ≡ Ok (slice_set records i bytes)
unfolding with_updated
update_made place i bytes old records there same within =
    let t = eq-eqb (key_of place bytes) (key_of place old) same in
    let w = below i (length records) within in
    ap (updated_from place i bytes records) there
    ∙ ap (λ (x : Bool). if x then keyed_result (with_record i bytes records) else Err KeyChanged) t
    ∙ ap (λ (x : Bool). keyed_result (if x then Ok (slice_set records i bytes) else Err NoRecord)) w

pub keys_updated : (place : KeyPlace) (i : ℕ) (bytes old : List ℕ) (records : List (List ℕ)) → slice_get records i ≡ Some old → key_of place bytes ≡ key_of place old → keys_of place (slice_set records i bytes) ≡ keys_of place records
unfolding keys_of
keys_updated place i bytes old [] there same = refl
keys_updated place zero bytes old (r ∷ records) there same = let is : r ≡ old = cc in ap (λ k. k ∷ map (key_of place) records) (same ∙ ap (key_of place) (sym is))
keys_updated place (suc i) bytes old (r ∷ records) there same = ap (λ l. key_of place r ∷ l) (keys_updated place i bytes old records there same)

-- ---- what is ordered stays so

pub ordered_same : (start stop limit : ℕ) (first first' index index' added : List Entry) (keys keys' : List ℕ) → IsOrdered start stop limit first index added keys → first' ≡ first → index' ≡ index → keys' ≡ keys → IsOrdered start stop limit first' index' added keys'
ordered_same start stop limit first first' index index' added keys keys' o a b c =
    subst (λ f. IsOrdered start stop limit f index' added keys') (sym a) (subst (λ i. IsOrdered start stop limit first i added keys') (sym b) (subst (IsOrdered start stop limit first index added) (sym c) o))

-- a call that changes no sector keeps the order
pub ordered_keeps : (file : KeyedFile) (s t : PoolState) → HasKeyOrder file s.contents → KeepsContents s t → HasKeyOrder file t.contents
ordered_keeps file s t ordered k = subst (HasKeyOrder file) (sym k.contents) ordered

-- there is room where not all of it is used
pub some_room : (count capacity : ℕ) → count ≤ capacity → count ≢ capacity → count < capacity
some_room count capacity counted differs = omega arith

pub below_capacity : (i count capacity : ℕ) → i < count → count ≤ capacity → i < capacity
below_capacity i count capacity below counted = omega arith
