-- What the calls on one open file answer.
use Rattle.std.specs.Prelude.{◌≡◌, ◌+◌, ℕ, min, Bool, List, Option, Some, None, Result, Ok, Err, if◌then◌else◌}
use Rattle.s3_operator.specs.declared.halt_code.HaltCode.{HaltCode}
use Rattle.s3_meaning.specs.Requests.{Answer, Done, Refused}
use Rattle.s3_job_files.specs.declared.records.Put.{Put}
use Rattle.s3_job_files.specs.declared.records.Put.TheVariants.{Done as PutDone, Refused as PutRefused}
use Rattle.s3_job_files.specs.Requests.{answer_with}

-- the record, if one was found
abbrev pub found_record : (found : Bool) → List ℕ → Option (List ℕ)
found_record found bytes = if found then Some bytes else None

abbrev pub found_answer : (found : Bool) → List ℕ → Answer
found_answer found bytes = answer_with (found_record found bytes)

abbrev pub put_answer : Put → Answer
put_answer PutDone = Done
put_answer (PutRefused code) = Refused code

-- the put is done and leaves the meant records, or it is refused with the meant halt and the records are unchanged
abbrev pub Puts : Result (List (List ℕ)) HaltCode → Put → (old new : List (List ℕ)) → Type 0
Puts meant PutDone old new = meant ≡ Ok new
Puts meant (PutRefused code) old new = (meant ≡ Err code) × (new ≡ old)

-- the number of updates of a file after one more was tried, up to what 32 bits count
abbrev pub updates_after : Put → (before : ℕ) → ℕ
updates_after PutDone before = min (before + 1) 4294967295
updates_after (PutRefused _) before = before
