-- What the calls of a list of records answer at its end.
use Rattle.std.proofs.Common.{◌≡◌, ◌≢◌, ◌<◌, ◌≤◌, ℕ, Bool, true, false, nat_le, nat_lt, ◌==◌, List, [], ◌∷◌, ◌++◌, ap, ◌∙◌, arith}
use Rattle.std.proofs.lemmas.Bool.Decides.{nat_tests}
use Rattle.std.proofs.lemmas.Option.{slice_get_past}
use Rattle.std.specs.Prelude.{slice_get, slice_set, None, Result, Ok, Err, if◌then◌else◌}
use Rattle.s3_files.specs.Records.{records_in, with_last, with_record}
use Rattle.s3_files.proofs.RecordLemmas.{length_records}
use Rattle.s3_files.specs.declared.fault.FileFault.{FileFault}
use Rattle.s3_files.specs.declared.fault.FileFault.TheVariants.{NoRecord, Full}

pub is_below : (a b : ℕ) → a < b → nat_lt a b ≡ true
is_below a b h = grind (arith, nat_tests)

pub not_below : (a b : ℕ) → b ≤ a → nat_lt a b ≡ false
not_below a b h = grind (arith, nat_tests)

pub at_most : (a b : ℕ) → a ≤ b → nat_le a b ≡ true
at_most a b h = grind (arith, nat_tests)

pub are_same : (a b : ℕ) → a ≡ b → (a == b) ≡ true
are_same a b h = grind (arith, nat_tests)

pub last_taken : (capacity long count : ℕ) (bytes added : List ℕ) → count ≤ capacity → count ≢ capacity
    → with_last capacity added (records_in long count bytes) ≡ Ok (records_in long count bytes ++ added ∷ [])
last_taken capacity long count bytes added few other =
    let rs : List (List ℕ) = records_in long count bytes in
    ap (λ (b : Bool). let r : Result (List (List ℕ)) FileFault = if b then Ok (rs ++ added ∷ []) else Err Full in r)
    (ap (λ n. nat_lt n capacity) (length_records long count bytes) ∙ is_below count capacity (omega (arith, few, other)))

pub last_refused : (capacity long count : ℕ) (bytes added : List ℕ) → count ≡ capacity
    → with_last capacity added (records_in long count bytes) ≡ Err Full
last_refused capacity long count bytes added full =
    let rs : List (List ℕ) = records_in long count bytes in
    ap (λ (b : Bool). let r : Result (List (List ℕ)) FileFault = if b then Ok (rs ++ added ∷ []) else Err Full in r)
    (ap (λ n. nat_lt n capacity) (length_records long count bytes) ∙ not_below count capacity (omega (arith, full)))

pub none_past : (long count i : ℕ) (bytes : List ℕ) → count ≤ i → slice_get (records_in long count bytes) i ≡ None
none_past long count i bytes past = slice_get_past (records_in long count bytes) i (let l = length_records long count bytes in omega (arith, l, past))

pub record_set : (long count i : ℕ) (bytes put : List ℕ) → i < count → with_record i put (records_in long count bytes) ≡ Ok (slice_set (records_in long count bytes) i put)
record_set long count i bytes put there =
    let rs : List (List ℕ) = records_in long count bytes in
    ap (λ (b : Bool). let r : Result (List (List ℕ)) FileFault = if b then Ok (slice_set rs i put) else Err NoRecord in r)
    (ap (nat_lt i) (length_records long count bytes) ∙ is_below i count there)

pub record_not_set : (long count i : ℕ) (bytes put : List ℕ) → count ≤ i → with_record i put (records_in long count bytes) ≡ Err NoRecord
record_not_set long count i bytes put past =
    let rs : List (List ℕ) = records_in long count bytes in
    ap (λ (b : Bool). let r : Result (List (List ℕ)) FileFault = if b then Ok (slice_set rs i put) else Err NoRecord in r)
    (ap (nat_lt i) (length_records long count bytes) ∙ not_below i count past)
