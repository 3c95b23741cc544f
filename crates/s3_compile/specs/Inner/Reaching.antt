-- The callers of each subroutine, and a set that grows by callers.
use Rattle.std.specs.Prelude.{◌≡◌, ℕ, nat_eq, Bool, not, ◌&&◌, ◌||◌, List, [], Vec}
use Rattle.std.specs.Option.{option_map_or}
use Rattle.std.specs.List.{list_any}
use Rattle.indexmap.specs.IndexMap.{IndexMap, get}
use Rattle.indexmap.specs.IndexSet.{IndexSet, contains}
use Rattle.s3_program.specs.declared.call.Call.{Call}
use Rattle.s3_program.specs.Jumps.{is_place}

-- whether one subroutine calls another
abbrev pub calls_it : List Call → (caller callee : ℕ) → Bool
calls_it calls caller callee = list_any (λ call. is_place call.caller caller && nat_eq callee call.callee) calls

-- the callers that a table has for a subroutine
abbrev pub callers_in : {A S : Type 0} → IndexMap ℕ (Vec ℕ A) S → (callee : ℕ) → List ℕ
callers_in table callee = option_map_or (λ callers. callers.items) (get nat_eq table callee) []

-- the table has exactly the callers of each subroutine
pub record HasCallers {A S : Type 0} (table : IndexMap ℕ (Vec ℕ A) S) (calls : List Call) : Type 0 where
  pub at : (callee caller : ℕ) → list_any (nat_eq caller) (callers_in table callee) ≡ calls_it calls caller callee

-- the set grows by these subroutines, and the list by those that the set lacked
pub record Adds {S : Type 0} (old new : IndexSet ℕ S) (before after added : List ℕ) : Type 0 where
  pub all : (subroutine : ℕ) → contains nat_eq new subroutine ≡ (contains nat_eq old subroutine || list_any (nat_eq subroutine) added)
  pub fresh : (subroutine : ℕ)
      → list_any (nat_eq subroutine) after ≡ (list_any (nat_eq subroutine) before || (not (contains nat_eq old subroutine) && list_any (nat_eq subroutine) added))
