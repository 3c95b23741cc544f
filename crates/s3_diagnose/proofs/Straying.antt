-- Diagnostic 10 as the walk over the lines finds it is the condition on the whole source.
use Rattle.std.proofs.Common.{◌≡◌, ℕ, List, [], ◌∷◌, Bool, true, false, cond, refl, ◌∙◌, ap}
use Rattle.std.specs.Prelude.{◌==◌, not, ◌||◌, Option, Some, None, map, filter, filter_map, option_map}
use Rattle.std.specs.List.{cons_option}
use Rattle.std.specs.Map.{lookup}
use Rattle.s3_cards.specs.declared.name.Name.{Name}
use Rattle.s3_cards.specs.Names.{same_name}
use Rattle.s3_lines.specs.declared.diagnostic.Diagnostic.{Diagnostic}
use Rattle.s3_lines.specs.declared.sheet.Factor.{Factor}
use Rattle.s3_lines.specs.declared.sheet.Factor.TheVariants.{Named, Number, Text}
use Rattle.s3_lines.specs.declared.sheet.Operation.{Operation}
use Rattle.s3_lines.specs.declared.sheet.Operation.TheVariants.{Tag, BeginSubroutine, GoTo, ExecuteSubroutine}
use Rattle.s3_lines.specs.declared.sheet.CalculationLine.{CalculationLine}
use Rattle.s3_lines.specs.declared.sheet.SheetLine.{SheetLine}
use Rattle.s3_lines.specs.declared.sheet.SheetLine.TheVariants as sheet
use Rattle.s3_lines.specs.declared.sheet.Line.{Line}
use Rattle.s3_meaning.specs.Source.{calculation_line}
use Rattle.s3_program.specs.declared.call.Call.{Call}
use Rattle.s3_program.specs.declared.program.Kind.TheVariants as kind
use Rattle.s3_program.specs.declared.program.Meaning.{Meaning}
use Rattle.s3_program.specs.declared.program.Meaning.TheVariants as a
use Rattle.s3_program.specs.declared.program.TagPlace.{TagPlace}
use Rattle.s3_program.specs.declared.program.SubroutinePlace.{SubroutinePlace}
use Rattle.s3_program.specs.Tables.{or_undefined}
use Rattle.s3_program.specs.Jumps.{is_tag_elsewhere, subroutine_called, subroutine_of, callee_of, caller_of, with_call, calls_from, is_forbidden, calls_badly, calculation_strays}
use Rattle.s3_program.specs.Conditions.{numbers, forbidden_among}
use Rattle.s3_diagnose.specs.Known.{Meanings, meant_line, meant_calculation, first_standing}
use Rattle.s3_diagnose.specs.Lookups.{known_of, meanings_of, tables_given, with_entry, tag_given, subroutine_given, tags_from, subroutines_from}
use Rattle.s3_diagnose.specs.Diagnostics.{line_holds, diagnostics_from}
use Rattle.s3_diagnose.specs.Inner.Whole.{on_those, those_of}
use Rattle.s3_diagnose.specs.Inner.Strayed.{TenIsForLinesThatStray, Placed, placed_from, calculations_of, place_of, section_of, is_tag_of, begins_the, the_tag, the_subroutine, is_elsewhere, call_to, call_of, calls_of, is_bad, goes_astray, strays_in}
use Rattle.s3_diagnose.proofs.Told.{stands}
use Rattle.s3_diagnose.proofs.Wholes.{standing_below, calculation_below, calculations_below, place_below, section_below, passed, met, whole, spot_of}

or_false : (b : Bool) → b ≡ (b || false)
or_false true = refl
or_false false = refl

-- ---- the meanings of the names of tags and subroutines
abbrev tag_place : Placed → TagPlace
tag_place placed = record { place = place_of placed; section = section_of placed }

abbrev subroutine_place : Placed → SubroutinePlace
subroutine_place placed = record { place = place_of placed }

tag_at : (p s : ℕ) (placed : Placed) → p ≡ place_of placed → s ≡ section_of placed → record { place = p; section = s } ≡ tag_place placed
tag_at p s placed hp hs = ap (λ n. tag n s) hp ∙ ap (λ n. tag (place_of placed) n) hs
  where
    tag : ℕ → ℕ → TagPlace
    tag n m = record { place = n; section = m }

chosen_first : {X : Type 0} (f : Placed → X) (b : Bool) (x : X) (rest : Option X) (placed : Placed) (found : Option Placed)
    → x ≡ f placed → rest ≡ option_map f found → cond b (Some x) rest ≡ option_map f (cond b (Some placed) found)
chosen_first f true x rest placed found hx hr = ap (λ y. Some y) hx
chosen_first f false x rest placed found hx hr = hr

tag_step : (name : Name) (above : List (CalculationLine Name)) (line : CalculationLine Name) (operation : Option Operation) (factor : Option (Factor Name))
    (rest : List (Name × TagPlace)) (found : Option Placed) → lookup (same_name name) rest ≡ option_map tag_place found
    → lookup (same_name name) (with_entry (tag_given (calculation_below above) (record line { operation = operation; factor1 = factor })) rest)
    ≡ option_map tag_place (cond (is_tag_of name (record line { operation = operation; factor1 = factor }))
    (Some (record line { operation = operation; factor1 = factor }, above)) found)
tag_step name above line None factor rest found h = h
tag_step name above line (Some Tag) None rest found h = h
tag_step name above line (Some Tag) (Some (Named other)) rest found h =
    let here : CalculationLine Name = record line { operation = Some Tag; factor1 = Some (Named other) } in
    chosen_first tag_place (same_name name other)
    (record { place = (calculation_below above).place; section = (calculation_below (here ∷ above)).section })
    (lookup (same_name name) rest) (here, above) found
    (tag_at (calculation_below above).place (calculation_below (here ∷ above)).section (here, above) (place_below above) (section_below (here ∷ above))) h
tag_step name above line (Some Tag) (Some (Number literal)) rest found h = h
tag_step name above line (Some Tag) (Some (Text literal)) rest found h = h
tag_step name above line (Some _) factor rest found h = h

tags_found : (name : Name) (above lines : List (CalculationLine Name))
    → lookup (same_name name) (tags_from (calculation_below above) lines) ≡ option_map tag_place (the_tag (placed_from above lines) name)
tags_found name above [] = refl
tags_found name above (line ∷ lines) =
    tag_step name above line line.operation line.factor1 (tags_from (calculation_below (line ∷ above)) lines)
    (the_tag (placed_from (line ∷ above) lines) name) (tags_found name (line ∷ above) lines)

subroutine_step : (name : Name) (above : List (CalculationLine Name)) (line : CalculationLine Name) (operation : Option Operation) (factor : Option (Factor Name))
    (rest : List (Name × SubroutinePlace)) (found : Option Placed) → lookup (same_name name) rest ≡ option_map subroutine_place found
    → lookup (same_name name) (with_entry (subroutine_given (calculation_below above) (record line { operation = operation; factor1 = factor })) rest)
    ≡ option_map subroutine_place (cond (begins_the name (record line { operation = operation; factor1 = factor }))
    (Some (record line { operation = operation; factor1 = factor }, above)) found)
subroutine_step name above line None factor rest found h = h
subroutine_step name above line (Some BeginSubroutine) None rest found h = h
subroutine_step name above line (Some BeginSubroutine) (Some (Named other)) rest found h =
    chosen_first subroutine_place (same_name name other) (place (calculation_below above).place)
    (lookup (same_name name) rest) (record line { operation = Some BeginSubroutine; factor1 = Some (Named other) }, above) found
    (ap place (place_below above)) h
  where
    place : ℕ → SubroutinePlace
    place n = record { place = n }
subroutine_step name above line (Some BeginSubroutine) (Some (Number literal)) rest found h = h
subroutine_step name above line (Some BeginSubroutine) (Some (Text literal)) rest found h = h
subroutine_step name above line (Some _) factor rest found h = h

subroutines_found : (name : Name) (above lines : List (CalculationLine Name))
    → lookup (same_name name) (subroutines_from (calculation_below above) lines)
    ≡ option_map subroutine_place (the_subroutine (placed_from above lines) name)
subroutines_found name above [] = refl
subroutines_found name above (line ∷ lines) =
    subroutine_step name above line line.operation line.factor1 (subroutines_from (calculation_below (line ∷ above)) lines)
    (the_subroutine (placed_from (line ∷ above) lines) name) (subroutines_found name (line ∷ above) lines)

abbrev tag_meaning : Option Placed → Meaning
tag_meaning found = or_undefined (λ x. a.Tag x) (option_map tag_place found)

abbrev subroutine_meaning : Option Placed → Meaning
subroutine_meaning found = or_undefined (λ x. a.Subroutine x) (option_map subroutine_place found)

tag_meant : (lines : List Line) (name : Name) → meanings_of lines kind.Tag name ≡ tag_meaning (the_tag (calculations_of lines) name)
unfolding tables_given
tag_meant lines name = ap (λ found. or_undefined (λ x. a.Tag x) found) (tags_found name [] (filter_map calculation_line lines))

subroutine_meant : (lines : List Line) (name : Name) → meanings_of lines kind.Subroutine name ≡ subroutine_meaning (the_subroutine (calculations_of lines) name)
unfolding tables_given
subroutine_meant lines name = ap (λ found. or_undefined (λ x. a.Subroutine x) found) (subroutines_found name [] (filter_map calculation_line lines))

-- ---- the calls
abbrev MeanSubroutines : Meanings → List Placed → Type 0
MeanSubroutines meanings all = (name : Name) → meanings kind.Subroutine name ≡ subroutine_meaning (the_subroutine all name)

abbrev call : Option ℕ → ℕ → Call
call caller callee = record { caller = caller; callee = callee }

joined : (placed : Placed) (caller : Option ℕ) (found : Option Placed) (rest calls : List Call) → caller ≡ subroutine_of (section_of placed) → rest ≡ calls
    → with_call caller (subroutine_called (subroutine_meaning found)) rest ≡ cons_option (option_map (call_to placed) found) calls
joined placed caller None rest calls hc hr = hr
joined placed caller (Some subroutine) rest calls hc hr =
    ap (λ c. call c (place_of subroutine) ∷ rest) hc ∙ ap (λ l. call_to placed subroutine ∷ l) hr

call_step : (meanings : Meanings) (all : List Placed) → MeanSubroutines meanings all → (above : List (CalculationLine Name)) (line : CalculationLine Name)
    (operation : Option Operation) (factor : Option (Factor Name)) (rest calls : List Call) → rest ≡ calls
    → with_call (caller_of (calculation_below above) (meant_calculation meanings (record line { operation = operation; factor2 = factor })))
    (callee_of (meant_calculation meanings (record line { operation = operation; factor2 = factor }))) rest
    ≡ cons_option (call_of all (record line { operation = operation; factor2 = factor }, above)) calls
call_step meanings all mean above line None factor rest calls h = h
call_step meanings all mean above line (Some ExecuteSubroutine) None rest calls h = h
call_step meanings all mean above line (Some ExecuteSubroutine) (Some (Named name)) rest calls h =
    let here : CalculationLine Name = record line { operation = Some ExecuteSubroutine; factor2 = Some (Named name) } in
    ap (λ meaning. with_call (subroutine_of (calculation_below (here ∷ above)).section) (subroutine_called meaning) rest) (mean name)
    ∙ joined (here, above) (subroutine_of (calculation_below (here ∷ above)).section) (the_subroutine all name) rest calls
    (ap subroutine_of (section_below (here ∷ above))) h
call_step meanings all mean above line (Some ExecuteSubroutine) (Some (Number literal)) rest calls h = h
call_step meanings all mean above line (Some ExecuteSubroutine) (Some (Text literal)) rest calls h = h
call_step meanings all mean above line (Some _) factor rest calls h = h

calls_found : (meanings : Meanings) (all : List Placed) → MeanSubroutines meanings all → (above lines : List (CalculationLine Name))
    → calls_from (calculation_below above) (map (meant_calculation meanings) lines) ≡ filter_map (call_of all) (placed_from above lines)
calls_found meanings all mean above [] = refl
calls_found meanings all mean above (line ∷ lines) =
    call_step meanings all mean above line line.operation line.factor2
    (calls_from (calculation_below (line ∷ above)) (map (meant_calculation meanings) lines)) (filter_map (call_of all) (placed_from (line ∷ above) lines))
    (calls_found meanings all mean (line ∷ above) lines)

forbidden_found : (lines : List Line) (one : Call) → (known_of lines).forbidden one ≡ is_forbidden (calls_of (calculations_of lines)) one
unfolding forbidden_among
forbidden_found lines one =
    ap (λ calls. is_forbidden calls one)
    (calls_found (meanings_of lines) (calculations_of lines) (subroutine_meant lines) [] (filter_map calculation_line lines))

-- ---- a calculation line
elsewhere : (placed : Placed) (section : ℕ) (found : Option Placed) → section ≡ section_of placed
    → is_tag_elsewhere section (tag_meaning found) ≡ is_elsewhere (section_of placed) found
elsewhere placed section None h = refl
elsewhere placed section (Some tag) h = ap (λ n. not (section_of tag == n)) h

bad : (forbidden : Call → Bool) (calls : List Call) → ((one : Call) → forbidden one ≡ is_forbidden calls one)
    → (placed : Placed) (caller : Option ℕ) (found : Option Placed) → caller ≡ subroutine_of (section_of placed)
    → calls_badly forbidden caller (subroutine_called (subroutine_meaning found)) ≡ is_bad calls (option_map (call_to placed) found)
bad forbidden calls same placed caller None h = refl
bad forbidden calls same placed caller (Some subroutine) h = ap (λ c. forbidden (call c (place_of subroutine))) h ∙ same (call_to placed subroutine)

stray_step : (meanings : Meanings) (all : List Placed) (forbidden : Call → Bool) → MeanSubroutines meanings all
    → ((name : Name) → meanings kind.Tag name ≡ tag_meaning (the_tag all name))
    → ((one : Call) → forbidden one ≡ is_forbidden (calls_of all) one)
    → (above : List (CalculationLine Name)) (line : CalculationLine Name) (operation : Option Operation) (factor : Option (Factor Name))
    → calculation_strays forbidden (calculation_below above) (meant_calculation meanings (record line { operation = operation; factor2 = factor }))
    ≡ goes_astray all (record line { operation = operation; factor2 = factor }, above)
stray_step meanings all forbidden mean tags same above line None factor = refl
stray_step meanings all forbidden mean tags same above line (Some GoTo) None = refl
stray_step meanings all forbidden mean tags same above line (Some GoTo) (Some (Named name)) =
    let here : CalculationLine Name = record line { operation = Some GoTo; factor2 = Some (Named name) } in
    ap (is_tag_elsewhere (calculation_below (here ∷ above)).section) (tags name)
    ∙ (elsewhere (here, above) (calculation_below (here ∷ above)).section (the_tag all name) (section_below (here ∷ above))
    ∙ or_false (is_elsewhere (section_of (here, above)) (the_tag all name)))
stray_step meanings all forbidden mean tags same above line (Some GoTo) (Some (Number literal)) = refl
stray_step meanings all forbidden mean tags same above line (Some GoTo) (Some (Text literal)) = refl
stray_step meanings all forbidden mean tags same above line (Some ExecuteSubroutine) None = refl
stray_step meanings all forbidden mean tags same above line (Some ExecuteSubroutine) (Some (Named name)) =
    let here : CalculationLine Name = record line { operation = Some ExecuteSubroutine; factor2 = Some (Named name) } in
    ap (λ meaning. calls_badly forbidden (subroutine_of (calculation_below (here ∷ above)).section) (subroutine_called meaning)) (mean name)
    ∙ bad forbidden (calls_of all) same (here, above) (subroutine_of (calculation_below (here ∷ above)).section) (the_subroutine all name)
    (ap subroutine_of (section_below (here ∷ above)))
stray_step meanings all forbidden mean tags same above line (Some ExecuteSubroutine) (Some (Number literal)) = refl
stray_step meanings all forbidden mean tags same above line (Some ExecuteSubroutine) (Some (Text literal)) = refl
stray_step meanings all forbidden mean tags same above line (Some _) factor = refl

-- ---- a line of any sheet
same_line : (lines above : List Line) (card : ℕ) (line : SheetLine) (below : List Line)
    → line_holds (known_of lines) (standing_below (meanings_of lines) above) below (meant_line (meanings_of lines) line) 10
    ≡ strays_in lines (spot_of above (record { card = card; sheet = line }) below)
same_line lines above card (sheet.Header name) below = refl
same_line lines above card (sheet.File file) below = refl
same_line lines above card (sheet.Input line) below = refl
same_line lines above card (sheet.Calculation line) below =
    ap (λ at. calculation_strays (known_of lines).forbidden at (meant_calculation (meanings_of lines) line)) (calculations_below (meanings_of lines) above)
    ∙ stray_step (meanings_of lines) (calculations_of lines) (known_of lines).forbidden (subroutine_meant lines) (tag_meant lines) (forbidden_found lines)
    (filter_map calculation_line above) line line.operation line.factor2
same_line lines above card (sheet.Output line) below = refl

abbrev on_card : ℕ → ℕ → Diagnostic
on_card card number = record { card = card; number = number }

ten_of : (holds : ℕ → Bool) (card : ℕ) → those_of 10 (map (on_card card) (filter holds numbers)) ≡ cond (holds 10) (on_card card 10 ∷ []) []
ten_of holds card =
    passed 10 card 5 (holds 5) (filter holds (6 ∷ 7 ∷ 8 ∷ 9 ∷ 10 ∷ 11 ∷ 12 ∷ [])) refl
    ∙ (passed 10 card 6 (holds 6) (filter holds (7 ∷ 8 ∷ 9 ∷ 10 ∷ 11 ∷ 12 ∷ [])) refl
    ∙ (passed 10 card 7 (holds 7) (filter holds (8 ∷ 9 ∷ 10 ∷ 11 ∷ 12 ∷ [])) refl
    ∙ (passed 10 card 8 (holds 8) (filter holds (9 ∷ 10 ∷ 11 ∷ 12 ∷ [])) refl
    ∙ (passed 10 card 9 (holds 9) (filter holds (10 ∷ 11 ∷ 12 ∷ [])) refl
    ∙ met 10 card (holds 10) (filter holds (11 ∷ 12 ∷ [])) refl
    (passed 10 card 11 (holds 11) (filter holds (12 ∷ [])) refl ∙ passed 10 card 12 (holds 12) [] refl)))))

ten_walked : (lines : List Line) → those_of 10 (diagnostics_from (known_of lines) first_standing lines) ≡ on_those 10 (strays_in lines) lines
ten_walked lines =
    whole 10 (known_of lines) (strays_in lines)
    (λ above line below.
    ten_of (line_holds (known_of lines) (standing_below (meanings_of lines) above) below (meant_line (meanings_of lines) line.sheet)) line.card
    ∙ ap (λ b. cond b (on_card line.card 10 ∷ []) []) (same_line lines above line.card line.sheet below))
    [] lines

pub ten_is_for_lines_that_stray : TenIsForLinesThatStray
ten_is_for_lines_that_stray = stands 10 refl strays_in ten_walked
