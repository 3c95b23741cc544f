-- Diagnostic 10: a GOTO out of its section, recursive subroutine calls, and calls nested more than 8 deep.
use Rattle.std.specs.Prelude.{ℕ, zero, suc, ◌-◌, ◌==◌, nat_eq, nat_lt, Bool, true, false, not, ◌&&◌, ◌||◌, List, [], ◌∷◌, Option, Some, None, length, if◌then◌else◌}
use Rattle.std.specs.List.{list_any}
use Rattle.std.specs.Option.{option_eq}
use Rattle.s3_lines.specs.declared.sheet.Factor.{Factor}
use Rattle.s3_lines.specs.declared.sheet.Factor.TheVariants.{Named}
use Rattle.s3_lines.specs.declared.sheet.Operation.{Operation}
use Rattle.s3_lines.specs.declared.sheet.Operation.TheVariants.{GoTo, ExecuteSubroutine}
use Rattle.s3_lines.specs.declared.sheet.CalculationLine.{CalculationLine}
use Rattle.s3_program.specs.declared.program.Meaning.{Meaning}
use Rattle.s3_program.specs.declared.program.Meaning.TheVariants as a
use Rattle.s3_program.specs.declared.standing.CalculationStanding.{CalculationStanding}
use Rattle.s3_program.specs.declared.call.Call.{Call}
use Rattle.s3_program.specs.Standings.{time_on, section_on, behind_calculation}

abbrev pub section_of : CalculationStanding → CalculationLine Meaning → ℕ
section_of at line = section_on at (time_on at.group line.time) line.operation

-- ---- GOTO
abbrev pub is_tag_elsewhere : (section : ℕ) → Meaning → Bool
is_tag_elsewhere section (a.Tag tag) = not (tag.section == section)
is_tag_elsewhere section _ = false

abbrev pub leaves : (section : ℕ) → Option (Factor Meaning) → Bool
leaves section (Some (Named meaning)) = is_tag_elsewhere section meaning
leaves section _ = false

-- ---- calls; a subroutine is identified by the place of its BEGSR
abbrev pub subroutine_called : Meaning → Option ℕ
subroutine_called (a.Subroutine subroutine) = Some subroutine.place
subroutine_called _ = None

abbrev pub called : Option (Factor Meaning) → Option ℕ
called (Some (Named meaning)) = subroutine_called meaning
called _ = None

-- the subroutine that a line calls
abbrev pub callee_of : CalculationLine Meaning → Option ℕ
callee_of line = on line.operation
  where
    on : Option Operation → Option ℕ
    on (Some ExecuteSubroutine) = called line.factor2
    on _ = None

-- the subroutine of a section
abbrev pub subroutine_of : (section : ℕ) → Option ℕ
subroutine_of section = if nat_lt section 3 then None else Some (section - 3)

abbrev pub caller_of : CalculationStanding → CalculationLine Meaning → Option ℕ
caller_of at line = subroutine_of (section_of at line)

abbrev pub with_call : (caller callee : Option ℕ) → List Call → List Call
with_call caller None calls = calls
with_call caller (Some callee) calls = record { caller = caller; callee = callee } ∷ calls

-- the calls of these lines, the first line at this place
abbrev pub calls_from : CalculationStanding → List (CalculationLine Meaning) → List Call
calls_from at [] = []
calls_from at (line ∷ lines) = with_call (caller_of at line) (callee_of line) (calls_from (behind_calculation at line) lines)

abbrev pub is_place : Option ℕ → ℕ → Bool
is_place None place = false
is_place (Some other) place = other == place

-- one subroutine reaches another by at most this many calls
abbrev pub reaches : List Call → ℕ → ℕ → ℕ → Bool
reaches calls zero from to = from == to
reaches calls (suc n) from to = (from == to) || list_any (λ call. is_place call.caller from && reaches calls n call.callee to) calls

-- the callee of this call reaches its caller, so the call is recursive
abbrev pub is_in_circle : List Call → Call → Bool
is_in_circle calls call = on call.caller
  where
    on : Option ℕ → Bool
    on None = false
    on (Some caller) = reaches calls (length calls) call.callee caller

abbrev pub has_circle : List Call → Bool
has_circle calls = list_any (is_in_circle calls) calls

-- this many nested calls end in this subroutine
abbrev pub ends_chain : List Call → ℕ → Option ℕ → Bool
ends_chain calls zero subroutine = true
ends_chain calls (suc n) subroutine = list_any (λ call. is_place subroutine call.callee && ends_chain calls n call.caller) calls

abbrev pub same_call : Call → Call → Bool
same_call a b = option_eq nat_eq a.caller b.caller && a.callee == b.callee

-- A call of the program is forbidden if it is recursive. If no call is recursive, a ninth nested call is forbidden.
abbrev pub is_forbidden : List Call → Call → Bool
is_forbidden calls call =
    list_any (same_call call) calls && (if has_circle calls then is_in_circle calls call else ends_chain calls 8 call.caller)

abbrev pub calls_badly : (Call → Bool) → (caller callee : Option ℕ) → Bool
calls_badly forbidden caller None = false
calls_badly forbidden caller (Some callee) = forbidden (record { caller = caller; callee = callee })

-- whether a line has diagnostic 10; `forbidden` tests a call
abbrev pub calculation_strays : (forbidden : Call → Bool) → CalculationStanding → CalculationLine Meaning → Bool
calculation_strays forbidden at line = on line.operation
  where
    on : Option Operation → Bool
    on (Some GoTo) = leaves (section_of at line) line.factor2
    on (Some ExecuteSubroutine) = calls_badly forbidden (caller_of at line) (called line.factor2)
    on _ = false
