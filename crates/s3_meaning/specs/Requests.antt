-- The requests of a run, and their answers.
use Rattle.std.specs.Prelude.{ℕ, ℤ, Bool, List, Option}
use Rattle.s3_cards.specs.declared.name.Name.{Name}
use Rattle.s3_operator.specs.declared.halt_code.HaltCode.{HaltCode}
use Rattle.s3_meaning.specs.declared.current.Current.{Current}

-- CHAIN seeks a key, or a record number from 1
pub data Sought : Type 0 where
  Key : List ℕ → Sought
  RecordNumber : ℤ → Sought

pub data Request : Type 0 where
  Card : Request
  -- the records of a file have `record_length` bytes
  Read : (file : Name) → (record_length : ℕ) → Request
  Chain : (file : Name) → (record_length : ℕ) → Sought → Request
  Append : (file : Name) → (bytes : List ℕ) → Request
  Add : (file : Name) → (bytes : List ℕ) → Request
  -- the current record, if there is one, and the byte written at each of its positions, if any
  Update : (file : Name) → (current : Option Current) → (changes : List (Option ℕ)) → Request
  Print : (page line : ℕ) → (text : List ℕ) → Request
  Jump : Request
  Ask : HaltCode → Request
  End : (at_once : Bool) → Request

pub data Answer : Type 0 where
  Found : (bytes : List ℕ) → Answer
  Nothing : Answer
  Done : Answer
  Refused : HaltCode → Answer
  Reply : (digit : ℕ) → Answer
