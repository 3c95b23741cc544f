-- The answers of calls on an indexed file, by their definitions and by its sectors.
use Rattle.std.specs.Prelude.{◌≡◌, ⊤, ℕ, List, Option, Some, None, Result, Ok, Err, if◌then◌else◌}
use Rattle.s3_store.specs.Inner.Failures.{failed_transfers}
use Rattle.s3_keyed.specs.KeyOrder.{Entry, is_good_index}
use Rattle.s3_keyed.specs.declared.fault.KeyedFault.{KeyedFault}
use Rattle.s3_keyed.specs.declared.fault.KeyedFault.TheVariants.{NoKey, BadIndex, Pool}

-- ---- the answer of a call
-- the call refuses as defined, or its sectors refuse
abbrev pub Refuses : {T : Type 0} → Result T KeyedFault → KeyedFault → Type 0
Refuses meant (Pool fault) = ⊤
Refuses meant fault = meant ≡ Err fault

-- the call gives a value as defined
abbrev pub Answers : {T : Type 0} → Result T KeyedFault → Result T KeyedFault → Type 0
Answers meant (Ok value) = meant ≡ Ok value
Answers meant (Err fault) = Refuses meant fault

-- the call leaves the records as defined
abbrev pub Leaves : {T R : Type 0} → Result R KeyedFault → Result T KeyedFault → R → Type 0
Leaves meant (Ok _) records = meant ≡ Ok records
Leaves meant (Err fault) records = Refuses meant fault

-- the refusal comes from the sectors
abbrev pub IsOfSectors : KeyedFault → Type 0
IsOfSectors (Pool fault) = ⊤
IsOfSectors _ = ⊥

-- the frame condition of a refused call, unless its sectors refused
abbrev pub OnRefusal : {T : Type 0} → Result T KeyedFault → Type 0 → Type 0
OnRefusal (Ok _) P = Unit {0}
OnRefusal (Err (Pool fault)) P = Unit {0}
OnRefusal (Err _) P = P

abbrev pub or_no_key : {T : Type 0} → Option T → Result T KeyedFault
or_no_key None = Err NoKey
or_no_key (Some value) = Ok value

-- an index is accepted if it is good
abbrev pub index_answer : List Entry → List ℕ → Result (Unit {0}) KeyedFault
index_answer entries keys = if is_good_index entries keys then Ok tt else Err BadIndex

abbrev pub unit_of : {T : Type 0} → Result T KeyedFault → Result (Unit {0}) KeyedFault
unit_of (Ok _) = Ok tt
unit_of (Err fault) = Err fault

-- how many transfers failed in a call with this answer
abbrev pub failed_keyed_transfers : {T : Type 0} → Result T KeyedFault → ℕ
failed_keyed_transfers (Ok _) = 0
failed_keyed_transfers {T} (Err (Pool fault)) = failed_transfers {T = T} (Err fault)
failed_keyed_transfers (Err _) = 0
