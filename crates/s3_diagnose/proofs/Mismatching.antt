-- Diagnostic 11 as the walk over the lines finds it is the condition on the whole source.
use Rattle.std.proofs.Common.{◌≡◌, ℕ, List, [], ◌∷◌, ◌++◌, Bool, true, false, cond, refl, ◌∙◌, ap, arith, length}
use Rattle.std.specs.Prelude.{not, ◌&&◌, ◌||◌, Option, Some, None, map, filter, find, flat_map, filter_map, unwrap_or, if◌then◌else◌, option_map, option_to_list}
use Rattle.std.specs.Bool.{beq}
use Rattle.std.specs.List.{list_any, cons_option}
use Rattle.std.specs.Map.{lookup}
use Rattle.std.specs.Cmp.Lexicographic.{pointwise}
use Rattle.s3_cards.specs.declared.name.Name.{Name}
use Rattle.s3_lines.specs.declared.diagnostic.Diagnostic.{Diagnostic}
use Rattle.s3_lines.specs.declared.indicator.Indicator.{Indicator}
use Rattle.s3_lines.specs.declared.sheet.FieldLine.{FieldLine}
use Rattle.s3_lines.specs.declared.sheet.InputLine.{InputLine}
use Rattle.s3_lines.specs.declared.sheet.InputLine.TheVariants.{Record, And as AndCodes, Or as OrCodes, Field as FieldOfRecord}
use Rattle.s3_lines.specs.declared.sheet.SheetLine.{SheetLine}
use Rattle.s3_lines.specs.declared.sheet.SheetLine.TheVariants as sheet
use Rattle.s3_lines.specs.declared.sheet.Line.{Line}
use Rattle.s3_meaning.specs.Source.{input_line}
use Rattle.s3_program.specs.declared.program.Meaning.{Meaning}
use Rattle.s3_program.specs.declared.mark.Key.TheVariants as key
use Rattle.s3_program.specs.declared.mark.Level.{Level}
use Rattle.s3_program.specs.declared.mark.GroupMark.{GroupMark}
use Rattle.s3_program.specs.declared.mark.TypeMark.{TypeMark}
use Rattle.s3_program.specs.declared.mark.TypeKey.{TypeKey}
use Rattle.s3_program.specs.declared.standing.InputStanding.{InputStanding}
use Rattle.s3_program.specs.declared.program.Kind.TheVariants as kind
use Rattle.s3_program.specs.Lines.{map_field}
use Rattle.s3_program.specs.Redefined.{shape_of_field}
use Rattle.s3_program.specs.Standings.{first_input}
use Rattle.s3_program.specs.Matching.{Marks, same_level, same_group_mark, same_type_mark, level, shapes_on, shapes_from, level_shape_of, match_numbers, matched_by, is_matched_by, has_any, first_matched, type_of_or, type_on, with_type, types_from, levels_of, has_type, marks_in_all, marks_in_some, marks_in_type, all_marks_from, some_marks_from, type_marks_from, is_type_of, in_all_of, in_some_of, in_type_of, marks_of, is_given_twice, disagrees, is_chained_meant, level_mismatched, entry_mismatched, type_unlike, input_mismatched}
use Rattle.s3_program.specs.Conditions.{numbers}
use Rattle.s3_diagnose.specs.Known.{Meanings, meant_line, meant_input, first_standing}
use Rattle.s3_diagnose.specs.Lookups.{known_of, meanings_of}
use Rattle.s3_diagnose.specs.Diagnostics.{line_holds, diagnostics_from}
use Rattle.s3_diagnose.specs.Inner.Whole.{on_those, those_of}
use Rattle.s3_diagnose.specs.Inner.Misplaced.{follows_record}
use Rattle.s3_diagnose.specs.Inner.Mismatched.{group_above, file_above, PlacedInput, inputs_from, type_key, type_of, types_of, gives, set_of, empty_set, is_given_above, first_shape, is_bad_key, is_unlike_type, is_mismatched, is_mismatched_in, ElevenIsForMismatchedLines}
use Rattle.s3_diagnose.proofs.Told.{stands}
use Rattle.s3_diagnose.proofs.Wholes.{standing_below, input_below, inputs_below, passed, met, whole, spot_of}
use Rattle.s3_diagnose.proofs.Misplacing.{record_open}
use Rattle.s3_diagnose.proofs.Keyed.{is_among, given_to_all, given_to_some, given_to_type, has_match, given_before}

-- ---- look-ups in all the lines
abbrev stood : Meanings → List (InputLine Name) → InputStanding
stood meanings above = record {
  place = length above;
  group = group_above above;
  file = file_above meanings above;
  is_open = follows_record above;
}

abbrev marks_by : List (InputLine Meaning) → (types : List TypeKey) → (in_all in_some : List (GroupMark × ℕ)) → (in_type : List (TypeMark × ℕ)) → Marks
marks_by lines types in_all in_some in_type = record {
  is_type = is_among types;
  in_all = λ mark. lookup (same_group_mark mark) in_all;
  in_some = λ mark. lookup (same_group_mark mark) in_some;
  in_type = λ mark. lookup (same_type_mark mark) in_type;
  shape = level_shape_of lines;
  matched = first_matched (λ mark. lookup (same_group_mark mark) in_all) (λ mark. lookup (same_type_mark mark) in_type) types;
}

abbrev whole_marks : Meanings → List (InputLine Name) → Marks
whole_marks meanings lines =
    let all : List PlacedInput = inputs_from [] lines in
    marks_by (map (meant_input meanings) lines) (types_of all) (flat_map given_to_all all)
    (flat_map (given_to_some (is_among (types_of all))) all) (flat_map given_to_type all)

-- ---- the place of an Input line
place_below : (meanings : Meanings) (above : List (InputLine Name)) → (input_below meanings above).place ≡ length above
place_below meanings [] = refl
place_below meanings (Record file indicator codes ∷ above) = let h : (input_below meanings above).place ≡ length above = place_below meanings above in omega (arith, h)
place_below meanings (AndCodes codes ∷ above) = let h : (input_below meanings above).place ≡ length above = place_below meanings above in omega (arith, h)
place_below meanings (OrCodes indicator codes ∷ above) = let h : (input_below meanings above).place ≡ length above = place_below meanings above in omega (arith, h)
place_below meanings (FieldOfRecord field ∷ above) = let h : (input_below meanings above).place ≡ length above = place_below meanings above in omega (arith, h)

group_below : (meanings : Meanings) (above : List (InputLine Name)) → (input_below meanings above).group ≡ group_above above
group_below meanings [] = refl
group_below meanings (Record file indicator codes ∷ above) = ap (λ n. Some n) (place_below meanings above)
group_below meanings (AndCodes codes ∷ above) = group_below meanings above
group_below meanings (OrCodes indicator codes ∷ above) = group_below meanings above
group_below meanings (FieldOfRecord field ∷ above) = group_below meanings above

file_below : (meanings : Meanings) (above : List (InputLine Name)) → (input_below meanings above).file ≡ file_above meanings above
file_below meanings [] = refl
file_below meanings (Record file indicator codes ∷ above) = refl
file_below meanings (AndCodes codes ∷ above) = file_below meanings above
file_below meanings (OrCodes indicator codes ∷ above) = file_below meanings above
file_below meanings (FieldOfRecord field ∷ above) = file_below meanings above

abbrev standing : ℕ → Option ℕ → Meaning → Bool → InputStanding
standing place group file is_open = record { place = place; group = group; file = file; is_open = is_open }

input_stands : (meanings : Meanings) (above : List (InputLine Name)) → input_below meanings above ≡ stood meanings above
input_stands meanings above =
    ap (λ n. standing n (input_below meanings above).group (input_below meanings above).file (input_below meanings above).is_open) (place_below meanings above)
    ∙ (ap (λ g. standing (length above) g (input_below meanings above).file (input_below meanings above).is_open) (group_below meanings above)
    ∙ (ap (λ f. standing (length above) (group_above above) f (input_below meanings above).is_open) (file_below meanings above)
    ∙ ap (λ b. standing (length above) (group_above above) (file_above meanings above) b) (record_open meanings above)))

-- ---- the types
with_is_cons : (one : Option TypeKey) (rest types : List TypeKey) → rest ≡ types → with_type one rest ≡ cons_option one types
with_is_cons None rest types h = h
with_is_cons (Some one) rest types h = ap (λ l. one ∷ l) h

type_meant : (meanings : Meanings) (at : InputStanding) (line : InputLine Name) → type_on at (meant_input meanings line) ≡ type_on at line
type_meant meanings at (Record file indicator codes) = refl
type_meant meanings at (AndCodes codes) = refl
type_meant meanings at (OrCodes indicator codes) = refl
type_meant meanings at (FieldOfRecord field) = refl

type_stood : (meanings : Meanings) (line : InputLine Name) (above : List (InputLine Name)) → type_on (stood meanings above) line ≡ type_of (line, above)
type_stood meanings (Record file indicator codes) above = refl
type_stood meanings (AndCodes codes) above = refl
type_stood meanings (OrCodes indicator codes) above = on (follows_record above) (group_above above)
  where
    on : (is_open : Bool) (group : Option ℕ)
        → type_of_or (record { place = length above; group = group; file = file_above meanings above; is_open = is_open }) indicator
        ≡ (if is_open then option_map (type_key indicator) group else None)
    on true None = refl
    on true (Some group) = refl
    on false None = refl
    on false (Some group) = refl
type_stood meanings (FieldOfRecord field) above = refl

types_found : (meanings : Meanings) (above lines : List (InputLine Name))
    → types_from (input_below meanings above) (map (meant_input meanings) lines) ≡ types_of (inputs_from above lines)
types_found meanings above [] = refl
types_found meanings above (line ∷ lines) =
    let rest : List TypeKey = types_from (input_below meanings (line ∷ above)) (map (meant_input meanings) lines) in
    ap (λ one. with_type one rest)
    (type_meant meanings (input_below meanings above) line
    ∙ (ap (λ at. type_on at line) (input_stands meanings above) ∙ type_stood meanings line above))
    ∙ with_is_cons (type_of (line, above)) rest (types_of (inputs_from (line ∷ above) lines)) (types_found meanings (line ∷ above) lines)

-- ---- the match and control fields
all_found : (meanings : Meanings) (above lines : List (InputLine Name))
    → all_marks_from (input_below meanings above) (map (meant_input meanings) lines) ≡ flat_map given_to_all (inputs_from above lines)
all_found meanings above [] = refl
all_found meanings above (Record file indicator codes ∷ lines) = all_found meanings (Record file indicator codes ∷ above) lines
all_found meanings above (AndCodes codes ∷ lines) = all_found meanings (AndCodes codes ∷ above) lines
all_found meanings above (OrCodes indicator codes ∷ lines) = all_found meanings (OrCodes indicator codes ∷ above) lines
all_found meanings above (FieldOfRecord field ∷ lines) =
    let rest : List (GroupMark × ℕ) = all_marks_from (input_below meanings (FieldOfRecord field ∷ above)) (map (meant_input meanings) lines) in
    ap (λ (at : InputStanding). marks_in_all at.group at.place field.relation (levels_of field) ++ rest) (input_stands meanings above)
    ∙ ap (λ l. given_to_all (FieldOfRecord field, above) ++ l) (all_found meanings (FieldOfRecord field ∷ above) lines)

some_found : (meanings : Meanings) (is_type : TypeKey → Bool) (above lines : List (InputLine Name))
    → some_marks_from is_type (input_below meanings above) (map (meant_input meanings) lines) ≡ flat_map (given_to_some is_type) (inputs_from above lines)
some_found meanings is_type above [] = refl
some_found meanings is_type above (Record file indicator codes ∷ lines) = some_found meanings is_type (Record file indicator codes ∷ above) lines
some_found meanings is_type above (AndCodes codes ∷ lines) = some_found meanings is_type (AndCodes codes ∷ above) lines
some_found meanings is_type above (OrCodes indicator codes ∷ lines) = some_found meanings is_type (OrCodes indicator codes ∷ above) lines
some_found meanings is_type above (FieldOfRecord field ∷ lines) =
    let rest : List (GroupMark × ℕ) = some_marks_from is_type (input_below meanings (FieldOfRecord field ∷ above)) (map (meant_input meanings) lines) in
    ap (λ (at : InputStanding). marks_in_some (has_type is_type at.group) at.group at.place field.relation (levels_of field) ++ rest) (input_stands meanings above)
    ∙ ap (λ l. given_to_some is_type (FieldOfRecord field, above) ++ l) (some_found meanings is_type (FieldOfRecord field ∷ above) lines)

type_found : (meanings : Meanings) (above lines : List (InputLine Name))
    → type_marks_from (input_below meanings above) (map (meant_input meanings) lines) ≡ flat_map given_to_type (inputs_from above lines)
type_found meanings above [] = refl
type_found meanings above (Record file indicator codes ∷ lines) = type_found meanings (Record file indicator codes ∷ above) lines
type_found meanings above (AndCodes codes ∷ lines) = type_found meanings (AndCodes codes ∷ above) lines
type_found meanings above (OrCodes indicator codes ∷ lines) = type_found meanings (OrCodes indicator codes ∷ above) lines
type_found meanings above (FieldOfRecord field ∷ lines) =
    let rest : List (TypeMark × ℕ) = type_marks_from (input_below meanings (FieldOfRecord field ∷ above)) (map (meant_input meanings) lines) in
    ap (λ (at : InputStanding). marks_in_type at.group at.place field.relation (levels_of field) ++ rest) (input_stands meanings above)
    ∙ ap (λ l. given_to_type (FieldOfRecord field, above) ++ l) (type_found meanings (FieldOfRecord field ∷ above) lines)

marks_walked : (lines : List (InputLine Meaning))
    → marks_of lines ≡ marks_by lines (types_from first_input lines) (all_marks_from first_input lines)
    (some_marks_from (is_among (types_from first_input lines)) first_input lines) (type_marks_from first_input lines)
unfolding is_type_of in_all_of in_some_of in_type_of marks_of
marks_walked lines = refl

marks_found : (meanings : Meanings) (lines : List (InputLine Name)) → marks_of (map (meant_input meanings) lines) ≡ whole_marks meanings lines
marks_found meanings lines =
    let meant : List (InputLine Meaning) = map (meant_input meanings) lines in
    let all : List PlacedInput = inputs_from [] lines in
    let types : List TypeKey = types_of all in
    marks_walked meant
    ∙ (ap (λ ts. marks_by meant ts (all_marks_from first_input meant) (some_marks_from (is_among ts) first_input meant) (type_marks_from first_input meant))
    (types_found meanings [] lines)
    ∙ (ap (λ l. marks_by meant types l (some_marks_from (is_among types) first_input meant) (type_marks_from first_input meant)) (all_found meanings [] lines)
    ∙ (ap (λ l. marks_by meant types (flat_map given_to_all all) l (type_marks_from first_input meant)) (some_found meanings (is_among types) [] lines)
    ∙ ap (λ l. marks_by meant types (flat_map given_to_all all) (flat_map (given_to_some (is_among types)) all) l) (type_found meanings [] lines))))

-- ---- the first shape of each Mn and Ln
shapes_meant : (meanings : Meanings) (line : InputLine Name) → shapes_on (meant_input meanings line) ≡ shapes_on line
shapes_meant meanings (Record file indicator codes) = refl
shapes_meant meanings (AndCodes codes) = refl
shapes_meant meanings (OrCodes indicator codes) = refl
shapes_meant meanings (FieldOfRecord field) = refl

shapes_found : (meanings : Meanings) (lines : List (InputLine Name)) → shapes_from (map (meant_input meanings) lines) ≡ flat_map shapes_on lines
shapes_found meanings [] = refl
shapes_found meanings (line ∷ lines) =
    ap (λ l. l ++ shapes_from (map (meant_input meanings) lines)) (shapes_meant meanings line)
    ∙ ap (λ l. shapes_on line ++ l) (shapes_found meanings lines)

shape_found : (meanings : Meanings) (lines : List (InputLine Name)) (level : Level)
    → level_shape_of (map (meant_input meanings) lines) level ≡ first_shape lines level
unfolding level_shape_of
shape_found meanings lines level = ap (lookup (same_level level)) (shapes_found meanings lines)

-- ---- the sets of match fields
map_alike : {X Y : Type 0} (f g : X → Y) → ((x : X) → f x ≡ g x) → (xs : List X) → map f xs ≡ map g xs
map_alike f g same [] = refl
map_alike f g same (x ∷ xs) = ap (λ y. y ∷ map f xs) (same x) ∙ ap (λ ys. g x ∷ ys) (map_alike f g same xs)

set_found : (meanings : Meanings) (lines : List (InputLine Name)) (one : TypeKey)
    → matched_by (whole_marks meanings lines).in_all (whole_marks meanings lines).in_type one ≡ set_of (inputs_from [] lines) one
set_found meanings lines one =
    map_alike (is_matched_by (whole_marks meanings lines).in_all (whole_marks meanings lines).in_type one)
    (λ number. list_any (gives (level key.Match number) one) (inputs_from [] lines)) (λ number. has_match one (level key.Match number) lines) match_numbers

first_found : (in_all : GroupMark → Option ℕ) (in_type : TypeMark → Option ℕ) (set : TypeKey → List Bool)
    → ((one : TypeKey) → matched_by in_all in_type one ≡ set one) → (types : List TypeKey)
    → first_matched in_all in_type types ≡ unwrap_or (find has_any (map set types)) empty_set
first_found in_all in_type set same [] = refl
first_found in_all in_type set same (one ∷ types) =
    ap (λ bs. if has_any bs then bs else first_matched in_all in_type types) (same one)
    ∙ (ap (λ bs. if has_any (set one) then set one else bs) (first_found in_all in_type set same types)
    ∙ on (has_any (set one)) (set one) (find has_any (map set types)))
  where
    on : (b : Bool) (bs : List Bool) (other : Option (List Bool)) → (if b then bs else unwrap_or other empty_set) ≡ unwrap_or (cond b (Some bs) other) empty_set
    on true bs other = refl
    on false bs other = refl

unlike : (meanings : Meanings) (lines : List (InputLine Name)) (type_here : Option TypeKey)
    → type_unlike (whole_marks meanings lines) type_here ≡ is_unlike_type (inputs_from [] lines) type_here
unlike meanings lines None = refl
unlike meanings lines (Some one) =
    let marks : Marks = whole_marks meanings lines in
    let all : List PlacedInput = inputs_from [] lines in
    ap (λ bs. has_any bs && not (pointwise beq bs marks.matched)) (set_found meanings lines one)
    ∙ ap (λ bs. has_any (set_of all one) && not (pointwise beq (set_of all one) bs))
    (first_found marks.in_all marks.in_type (set_of all) (set_found meanings lines) (types_of all))

-- ---- a field
twice : (meanings : Meanings) (lines above : List (InputLine Name)) (group : Option ℕ) (relation : Option Indicator) (level : Level)
    → is_given_twice (whole_marks meanings lines)
    (record { place = length above; group = group; file = file_above meanings above; is_open = follows_record above }) relation level
    ≡ is_given_above (inputs_from [] lines) group (length above) relation level
twice meanings lines above None relation level = refl
twice meanings lines above (Some group) None level = given_before (types_of (inputs_from [] lines)) group (length above) None level lines
twice meanings lines above (Some group) (Some indicator) level =
    given_before (types_of (inputs_from [] lines)) group (length above) (Some indicator) level lines

bad_key : (meanings : Meanings) (lines above : List (InputLine Name)) (field : FieldLine Name) (level : Level) (own : FieldLine Meaning)
    → own.relation ≡ field.relation → shape_of_field own ≡ shape_of_field field
    → level_mismatched (whole_marks meanings lines) (stood meanings above) own level ≡ is_bad_key meanings lines above field level
bad_key meanings lines above field level own relation shape =
    ap (λ o. is_chained_meant (file_above meanings above) || disagrees o (shape_of_field own)
    || is_given_twice (whole_marks meanings lines) (stood meanings above) own.relation level) (shape_found meanings lines level)
    ∙ (ap (λ o. is_chained_meant (file_above meanings above) || disagrees (first_shape lines level) o
    || is_given_twice (whole_marks meanings lines) (stood meanings above) own.relation level) shape
    ∙ (ap (λ o. is_chained_meant (file_above meanings above) || disagrees (first_shape lines level) (shape_of_field field)
    || is_given_twice (whole_marks meanings lines) (stood meanings above) o level) relation
    ∙ ap (λ b. is_chained_meant (file_above meanings above) || disagrees (first_shape lines level) (shape_of_field field) || b)
    (twice meanings lines above (group_above above) field.relation level)))

alone : (b : Bool) → b ≡ (b || false)
alone true = refl
alone false = refl

two_keys : (marks : Marks) (at : InputStanding) (own : FieldLine Meaning) (bad : Level → Bool) → ((l : Level) → level_mismatched marks at own l ≡ bad l)
    → (control matching : Option ℕ)
    → (entry_mismatched marks at own key.Control control || entry_mismatched marks at own key.Match matching)
    ≡ list_any bad (option_to_list (option_map (level key.Control) control) ++ option_to_list (option_map (level key.Match) matching))
two_keys marks at own bad same None None = refl
two_keys marks at own bad same None (Some m) = same (level key.Match m) ∙ alone (bad (level key.Match m))
two_keys marks at own bad same (Some n) None = ap (λ b. b || false) (same (level key.Control n))
two_keys marks at own bad same (Some n) (Some m) =
    ap (λ b. b || level_mismatched marks at own (level key.Match m)) (same (level key.Control n))
    ∙ ap (λ b. bad (level key.Control n) || b) (same (level key.Match m) ∙ alone (bad (level key.Match m)))

-- ---- a line
mismatched : (meanings : Meanings) (lines above : List (InputLine Name)) (line : InputLine Name)
    → input_mismatched (whole_marks meanings lines) (stood meanings above) (meant_input meanings line) ≡ is_mismatched meanings lines above line
mismatched meanings lines above (Record file indicator codes) =
    unlike meanings lines (type_of (Record file indicator codes, above))
mismatched meanings lines above (AndCodes codes) = refl
mismatched meanings lines above (OrCodes indicator codes) =
    ap (type_unlike (whole_marks meanings lines)) (type_stood meanings (OrCodes indicator codes) above)
    ∙ unlike meanings lines (type_of (OrCodes indicator codes, above))
mismatched meanings lines above (FieldOfRecord field) =
    two_keys (whole_marks meanings lines) (stood meanings above) (map_field (meanings kind.Field) field) (is_bad_key meanings lines above field)
    (λ l. bad_key meanings lines above field l (map_field (meanings kind.Field) field) refl refl) field.control_level field.match_level

same_line : (lines above : List Line) (card : ℕ) (line : SheetLine) (below : List Line)
    → line_holds (known_of lines) (standing_below (meanings_of lines) above) below (meant_line (meanings_of lines) line) 11
    ≡ is_mismatched_in lines (spot_of above (record { card = card; sheet = line }) below)
same_line lines above card (sheet.Header name) below = refl
same_line lines above card (sheet.File file) below = refl
same_line lines above card (sheet.Input line) below =
    ap (λ at. input_mismatched (known_of lines).marks at (meant_input (meanings_of lines) line))
    (inputs_below (meanings_of lines) above ∙ input_stands (meanings_of lines) (filter_map input_line above))
    ∙ (ap (λ marks. input_mismatched marks (stood (meanings_of lines) (filter_map input_line above)) (meant_input (meanings_of lines) line))
    (marks_found (meanings_of lines) (filter_map input_line lines))
    ∙ mismatched (meanings_of lines) (filter_map input_line lines) (filter_map input_line above) line)
same_line lines above card (sheet.Calculation line) below = refl
same_line lines above card (sheet.Output line) below = refl

-- ---- all lines
abbrev on_card : ℕ → ℕ → Diagnostic
on_card card number = record { card = card; number = number }

eleven_of : (holds : ℕ → Bool) (card : ℕ) → those_of 11 (map (on_card card) (filter holds numbers)) ≡ cond (holds 11) (on_card card 11 ∷ []) []
eleven_of holds card =
    passed 11 card 5 (holds 5) (filter holds (6 ∷ 7 ∷ 8 ∷ 9 ∷ 10 ∷ 11 ∷ 12 ∷ [])) refl
    ∙ (passed 11 card 6 (holds 6) (filter holds (7 ∷ 8 ∷ 9 ∷ 10 ∷ 11 ∷ 12 ∷ [])) refl
    ∙ (passed 11 card 7 (holds 7) (filter holds (8 ∷ 9 ∷ 10 ∷ 11 ∷ 12 ∷ [])) refl
    ∙ (passed 11 card 8 (holds 8) (filter holds (9 ∷ 10 ∷ 11 ∷ 12 ∷ [])) refl
    ∙ (passed 11 card 9 (holds 9) (filter holds (10 ∷ 11 ∷ 12 ∷ [])) refl
    ∙ (passed 11 card 10 (holds 10) (filter holds (11 ∷ 12 ∷ [])) refl
    ∙ met 11 card (holds 11) (filter holds (12 ∷ [])) refl (passed 11 card 12 (holds 12) [] refl))))))

eleven_walked : (lines : List Line)
    → those_of 11 (diagnostics_from (known_of lines) first_standing lines) ≡ on_those 11 (is_mismatched_in lines) lines
eleven_walked lines =
    whole 11 (known_of lines) (is_mismatched_in lines)
    (λ above line below.
    eleven_of (line_holds (known_of lines) (standing_below (meanings_of lines) above) below (meant_line (meanings_of lines) line.sheet)) line.card
    ∙ ap (λ b. cond b (on_card line.card 11 ∷ []) []) (same_line lines above line.card line.sheet below))
    [] lines

pub eleven_is_for_mismatched_lines : ElevenIsForMismatchedLines
eleven_is_for_mismatched_lines = stands 11 refl is_mismatched_in eleven_walked
