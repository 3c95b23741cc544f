-- What is known of lines is what they define.
use Rattle.std.proofs.Common.{◌≡◌, ℕ, List, [], ◌∷◌, ◌++◌, Bool, true, false, cond, zero, suc, ◌+◌, ◌<◌, length, drop, drop-cons, get_or, arith, refl, sym, ◌∙◌, ap, subst}
use Rattle.std.specs.Prelude.{IsTrue, ◌&&◌, ◌||◌, not, Option, Some, None, is_some, map, filter_map, option_map}
use Rattle.std.specs.List.{All, cons_option, list_all}
use Rattle.std.specs.Map.{lookup}
use Rattle.std.specs.Option.{option_or, option_to_list}
use Rattle.std.proofs.Math.Path.{fun_ext}
use Rattle.s3_cards.specs.declared.name.Name.{Name}
use Rattle.s3_cards.specs.Names.{same_name}
use Rattle.s3_lines.specs.declared.diagnostic.Diagnostic.{Diagnostic}
use Rattle.s3_lines.specs.declared.sheet.CalculationLine.{CalculationLine}
use Rattle.s3_lines.specs.declared.sheet.Factor.{Factor}
use Rattle.s3_lines.specs.declared.sheet.Factor.TheVariants.{Named, Number, Text}
use Rattle.s3_lines.specs.declared.sheet.FieldLine.{FieldLine}
use Rattle.s3_lines.specs.declared.sheet.InputLine.TheVariants.{Field as FieldOfRecord}
use Rattle.s3_lines.specs.declared.sheet.Line.{Line}
use Rattle.s3_lines.specs.declared.sheet.Operation.{Operation}
use Rattle.s3_lines.specs.declared.sheet.Operation.TheVariants as op
use Rattle.s3_lines.specs.declared.sheet.Shape.{Shape}
use Rattle.s3_lines.specs.declared.sheet.SheetLine.{SheetLine}
use Rattle.s3_lines.specs.declared.sheet.SheetLine.TheVariants as sheet
use Rattle.s3_lines.specs.Inner.Ranges.{are_read, in_range}
use Rattle.s3_meaning.specs.Source.{calculation_line, file_line, reserved_shapes}
use Rattle.s3_program.specs.declared.program.Kind.{Kind}
use Rattle.s3_program.specs.declared.program.Kind.TheVariants as kind
use Rattle.s3_program.specs.declared.program.Meaning.{Meaning}
use Rattle.s3_program.specs.declared.program.Meaning.TheVariants as meaning
use Rattle.s3_program.specs.declared.row.Row.{Row}
use Rattle.s3_program.specs.declared.standing.CalculationStanding.{CalculationStanding}
use Rattle.s3_program.specs.FileEntries.{file_entry}
use Rattle.s3_program.specs.Inner.Given.{all_noted, files_given, firsts}
use Rattle.s3_program.specs.Rows.{row_of}
use Rattle.s3_program.specs.Standings.{behind_calculation, first_calculation}
use Rattle.s3_program.specs.Tables.{found_in, or_undefined}
use Rattle.s3_program.specs.Undefined.{is_target, is_undefined, is_used}
use Rattle.s3_program.proofs.GivenLemmas.{first_found, found_in_both, noted_behind}
use Rattle.s3_program.proofs.LineLemmas.{all_taken}
use Rattle.s3_diagnose.specs.Inner.Ranged.{is_ranged_field}
use Rattle.s3_diagnose.proofs.Walks.{both_first, both_second}
use Rattle.s3_diagnose.specs.Lookups.{fields_given, subroutine_given, subroutines_from, tables_given, tag_given, tags_from, with_entry}
use Rattle.s3_sheets.specs.declared.parts.FaultyEntry.{FaultyEntry}
use Rattle.s3_blame.specs.declared.known.Known.{Known}
use Rattle.s3_blame.specs.Inner.Names.{Knows, Names, is_known, is_unknown, is_unknown_result, kind_named, names_known, names_of, subroutine_of, subroutine_on, tag_of, tag_on, unknown_by, unknown_in}
use Rattle.s3_blame.specs.Inner.OwnMarks.{HasAllMarks, is_mark_among}

-- ---- names that are found
either : {X : Type 0} (a b : Option X) → is_some (option_or a b) ≡ (is_some a || is_some b)
either None b = refl
either (Some x) b = refl

has_either : {X : Type 0} (name : Name) (xs ys : List (Name × X)) → is_some (lookup (same_name name) (xs ++ ys)) ≡ (is_some (lookup (same_name name) xs) || is_some (lookup (same_name name) ys))
has_either name xs ys = ap is_some (found_in_both (same_name name) xs ys) ∙ either (lookup (same_name name) xs) (lookup (same_name name) ys)

has_one : {X : Type 0} (name : Name) (o : Option (Name × X)) (xs : List (Name × X)) → is_some (lookup (same_name name) (cons_option o xs)) ≡ (is_some (lookup (same_name name) (option_to_list o)) || is_some (lookup (same_name name) xs))
has_one name None xs = refl
has_one name (Some x) xs = has_either name (x ∷ []) xs

has_entry : {X : Type 0} (name : Name) (o : Option (Name × X)) (xs : List (Name × X)) → is_some (lookup (same_name name) (with_entry o xs)) ≡ (is_some (lookup (same_name name) (option_to_list o)) || is_some (lookup (same_name name) xs))
has_entry name None xs = refl
has_entry name (Some x) xs = has_either name (x ∷ []) xs

-- ---- lines that were read
pub read_field : (line : SheetLine) (field : FieldLine Name) → line ≡ sheet.Input (FieldOfRecord field) → IsTrue (in_range line) → IsTrue (is_ranged_field field)
unfolding in_range
read_field line field is read =
    both_second _ _ (both_first _ _ (both_first _ _ (both_first _ _ (both_first _ _ (subst (λ s. IsTrue (in_range s)) is read)))))

pub read_at : (lines : List Line) (i : ℕ) (d : Line) → i < length lines → IsTrue (are_read lines) → IsTrue (in_range (get_or lines i d).sheet)
unfolding are_read
read_at lines i d within read = at lines i within (both_second _ _ (both_first _ _ read))
  where
    at : (lines : List Line) (i : ℕ) → i < length lines → IsTrue (list_all (λ line. in_range line.sheet) lines) → IsTrue (in_range (get_or lines i d).sheet)
    at [] i within all = absurd (omega (arith, within))
    at (line ∷ lines) zero within all = both_first (in_range line.sheet) _ all
    at (line ∷ lines) (suc i) within all = at lines i (omega (arith, within)) (both_second (in_range line.sheet) _ all)

-- ---- tables that are filled line by line
-- what a table notes one after the other
pub noted_in_turn : {X : Type 0} (none one two three xs ys zs : List (Name × X)) → none ≡ [] → one ≡ all_noted none xs → two ≡ all_noted one ys → three ≡ all_noted two zs
    → three ≡ firsts (xs ++ (ys ++ zs))
noted_in_turn none one two three xs ys zs empty first second third =
    third
    ∙ (ap (λ table. all_noted table zs) second
    ∙ (sym (noted_behind one ys zs)
    ∙ (ap (λ table. all_noted table (ys ++ zs)) (first ∙ ap (λ table. all_noted table xs) empty) ∙ sym (noted_behind [] xs (ys ++ zs)))))

-- what one line gives, and those after it
given_next : {A X : Type 0} (of : Line → Option A) (given : A → Option X) (on : Option A → List X) → on None ≡ [] → ((a : A) → on (Some a) ≡ option_to_list (given a)) → (line : Line) (lines : List Line)
    → filter_map given (filter_map of (line ∷ lines)) ≡ on (of line) ++ filter_map given (filter_map of lines)
given_next {A} {X} of given on none some line lines = step (of line)
  where
    joined : (o : Option X) (rest : List X) → cons_option o rest ≡ option_to_list o ++ rest
    joined None rest = refl
    joined (Some x) rest = refl

    step : (o : Option A) → filter_map given (cons_option o (filter_map of lines)) ≡ on o ++ filter_map given (filter_map of lines)
    step None = ap (λ xs. xs ++ filter_map given (filter_map of lines)) (sym none)
    step (Some a) = joined (given a) (filter_map given (filter_map of lines)) ∙ ap (λ xs. xs ++ filter_map given (filter_map of lines)) (sym (some a))

pub noted_next : {A X : Type 0} (of : Line → Option A) (given : A → Option (Name × X)) (on : Option A → List (Name × X)) → on None ≡ [] → ((a : A) → on (Some a) ≡ option_to_list (given a))
    → (old new : List (Name × X)) (lines : List Line) (i : ℕ) (d : Line) (all : List (Name × X)) → i < length lines → new ≡ all_noted old (on (of (get_or lines i d)))
    → all_noted old (filter_map given (filter_map of (drop i lines))) ≡ all → all_noted new (filter_map given (filter_map of (drop (i + 1) lines))) ≡ all
noted_next of given on none some old new lines i d all within more so_far =
    let here = get_or lines i d in
    let rest = drop (i + 1) lines in
    let further : suc i ≡ i + 1 = omega arith in
    let split : drop i lines ≡ here ∷ rest = drop-cons lines i d within ∙ ap (λ n. here ∷ drop n lines) further in
    let parted : filter_map given (filter_map of (drop i lines)) ≡ on (of here) ++ filter_map given (filter_map of rest) =
    ap (λ (ls : List Line). filter_map given (filter_map of ls)) split ∙ given_next of given on none some here rest in
    ap (λ table. all_noted table (filter_map given (filter_map of rest))) more
    ∙ (sym (noted_behind old (on (of here)) (filter_map given (filter_map of rest)))
    ∙ (ap (all_noted old) (sym parted) ∙ so_far))

-- a name is known where there is something that it means
has_meaning : {X : Type 0} (means : X → Meaning) → ((x : X) → is_undefined (means x) ≡ false) → (o : Option X) → is_some o ≡ not (is_undefined (or_undefined means o))
has_meaning means some None = refl
has_meaning means some (Some x) = ap not (sym (some x))

found_first : {X : Type 0} (table entries : List (Name × X)) → table ≡ firsts entries → (name : Name) → lookup (same_name name) table ≡ lookup (same_name name) entries
found_first table entries is name = ap (lookup (same_name name)) is ∙ first_found name entries

-- ---- tags and subroutines, whatever stands beside the name
beside : {X Y : Type 0} (x : X) (y : Y) (b : Bool) → is_some (cond b (Some x) None) ≡ is_some (cond b (Some y) None)
beside x y true = refl
beside x y false = refl

one_tag : (at : CalculationStanding) (card : ℕ) (name : Name) (c : CalculationLine Name)
    → is_some (lookup (same_name name) (option_to_list (tag_given at c))) ≡ is_some (lookup (same_name name) (option_to_list (option_map (λ given. (given.0, card)) (tag_given first_calculation c))))
one_tag at card name c = step c.operation c.factor1
  where
    step : (o : Option Operation) (f : Option (Factor Name)) → is_some (lookup (same_name name) (option_to_list (tag_given at (record c { operation = o; factor1 = f }))))
        ≡ is_some (lookup (same_name name) (option_to_list (option_map (λ given. (given.0, card)) (tag_given first_calculation (record c { operation = o; factor1 = f })))))
    step None f = refl
    step (Some op.Add) f = refl
    step (Some op.Subtract) f = refl
    step (Some op.Multiply) f = refl
    step (Some op.Divide) f = refl
    step (Some op.ZeroAdd) f = refl
    step (Some op.ZeroSubtract) f = refl
    step (Some op.MoveRemainder) f = refl
    step (Some op.Compare) f = refl
    step (Some op.Move) f = refl
    step (Some op.MoveLeft) f = refl
    step (Some op.SetOn) f = refl
    step (Some op.SetOff) f = refl
    step (Some op.GoTo) f = refl
    step (Some op.Tag) None = refl
    step (Some op.Tag) (Some (Named n)) = beside _ _ (same_name name n)
    step (Some op.Tag) (Some (Number literal)) = refl
    step (Some op.Tag) (Some (Text literal)) = refl
    step (Some op.ExecuteSubroutine) f = refl
    step (Some op.BeginSubroutine) f = refl
    step (Some op.EndSubroutine) f = refl
    step (Some op.Except) f = refl
    step (Some op.Chain) f = refl
    step (Some op.Unknown) f = refl

one_subroutine : (at : CalculationStanding) (card : ℕ) (name : Name) (c : CalculationLine Name)
    → is_some (lookup (same_name name) (option_to_list (subroutine_given at c))) ≡ is_some (lookup (same_name name) (option_to_list (option_map (λ given. (given.0, card)) (subroutine_given first_calculation c))))
one_subroutine at card name c = step c.operation c.factor1
  where
    step : (o : Option Operation) (f : Option (Factor Name)) → is_some (lookup (same_name name) (option_to_list (subroutine_given at (record c { operation = o; factor1 = f }))))
        ≡ is_some (lookup (same_name name) (option_to_list (option_map (λ given. (given.0, card)) (subroutine_given first_calculation (record c { operation = o; factor1 = f })))))
    step None f = refl
    step (Some op.Add) f = refl
    step (Some op.Subtract) f = refl
    step (Some op.Multiply) f = refl
    step (Some op.Divide) f = refl
    step (Some op.ZeroAdd) f = refl
    step (Some op.ZeroSubtract) f = refl
    step (Some op.MoveRemainder) f = refl
    step (Some op.Compare) f = refl
    step (Some op.Move) f = refl
    step (Some op.MoveLeft) f = refl
    step (Some op.SetOn) f = refl
    step (Some op.SetOff) f = refl
    step (Some op.GoTo) f = refl
    step (Some op.Tag) f = refl
    step (Some op.ExecuteSubroutine) f = refl
    step (Some op.BeginSubroutine) None = refl
    step (Some op.BeginSubroutine) (Some (Named n)) = beside _ _ (same_name name n)
    step (Some op.BeginSubroutine) (Some (Number literal)) = refl
    step (Some op.BeginSubroutine) (Some (Text literal)) = refl
    step (Some op.EndSubroutine) f = refl
    step (Some op.Except) f = refl
    step (Some op.Chain) f = refl
    step (Some op.Unknown) f = refl

tags_known : (name : Name) (at : CalculationStanding) (lines : List Line)
    → is_some (lookup (same_name name) (tags_from at (filter_map calculation_line lines))) ≡ is_some (lookup (same_name name) (filter_map tag_on lines))
tags_known name at [] = refl
tags_known name at (line ∷ lines) = step (calculation_line line) (λ next. tags_known name next lines)
  where
    step : (o : Option (CalculationLine Name)) → ((next : CalculationStanding) → is_some (lookup (same_name name) (tags_from next (filter_map calculation_line lines))) ≡ is_some (lookup (same_name name) (filter_map tag_on lines)))
        → is_some (lookup (same_name name) (tags_from at (cons_option o (filter_map calculation_line lines)))) ≡ is_some (lookup (same_name name) (cons_option (tag_of line.card o) (filter_map tag_on lines)))
    step None later = later at
    step (Some c) later =
        let below = tags_from (behind_calculation at c) (filter_map calculation_line lines) in
        let here = tag_of line.card (Some c) in
        has_entry name (tag_given at c) below
        ∙ (ap (λ b. b || is_some (lookup (same_name name) below)) (one_tag at line.card name c)
        ∙ (ap (λ b. is_some (lookup (same_name name) (option_to_list here)) || b) (later (behind_calculation at c))
        ∙ sym (has_one name here (filter_map tag_on lines))))

subroutines_known : (name : Name) (at : CalculationStanding) (lines : List Line)
    → is_some (lookup (same_name name) (subroutines_from at (filter_map calculation_line lines))) ≡ is_some (lookup (same_name name) (filter_map subroutine_on lines))
subroutines_known name at [] = refl
subroutines_known name at (line ∷ lines) = step (calculation_line line) (λ next. subroutines_known name next lines)
  where
    step : (o : Option (CalculationLine Name)) → ((next : CalculationStanding) → is_some (lookup (same_name name) (subroutines_from next (filter_map calculation_line lines))) ≡ is_some (lookup (same_name name) (filter_map subroutine_on lines)))
        → is_some (lookup (same_name name) (subroutines_from at (cons_option o (filter_map calculation_line lines)))) ≡ is_some (lookup (same_name name) (cons_option (subroutine_of line.card o) (filter_map subroutine_on lines)))
    step None later = later at
    step (Some c) later =
        let below = subroutines_from (behind_calculation at c) (filter_map calculation_line lines) in
        let here = subroutine_of line.card (Some c) in
        has_entry name (subroutine_given at c) below
        ∙ (ap (λ b. b || is_some (lookup (same_name name) below)) (one_subroutine at line.card name c)
        ∙ (ap (λ b. is_some (lookup (same_name name) (option_to_list here)) || b) (later (behind_calculation at c))
        ∙ sym (has_one name here (filter_map subroutine_on lines))))

-- ---- all names
defined_shown : (lines : List Line) (known : Known) → Knows lines known → IsTrue (are_read lines) → is_known known ≡ (names_of lines).is_defined
unfolding tables_given
defined_shown lines known knows read = fun_ext (λ k. fun_ext (λ name. by k name))
  where
    by : (k : Kind) (name : Name) → is_known known k name ≡ (names_of lines).is_defined k name
    by kind.File name =
        ap is_some (found_first known.files.entries (files_given lines) knows.files name ∙ ap (lookup (same_name name)) (all_taken file_entry file_line lines))
        ∙ has_meaning (λ x. meaning.File x) (λ x. refl) (lookup (same_name name) (map file_entry (filter_map file_line lines)))
    by kind.Field name =
        ap is_some (found_first known.fields.entries (reserved_shapes ++ fields_given lines) (knows.fields read) name)
        ∙ has_meaning (λ x. meaning.Field (record { name = name; meaning = x })) (λ x. refl) (lookup (same_name name) (reserved_shapes ++ fields_given lines))
    by kind.Tag name =
        ap is_some (found_first known.tags.entries (filter_map tag_on lines) knows.tags name)
        ∙ (sym (tags_known name first_calculation lines)
        ∙ has_meaning (λ x. meaning.Tag x) (λ x. refl) (lookup (same_name name) (tags_from first_calculation (filter_map calculation_line lines))))
    by kind.Subroutine name =
        ap is_some (found_first known.subroutines.entries (filter_map subroutine_on lines) knows.subroutines name)
        ∙ (sym (subroutines_known name first_calculation lines)
        ∙ has_meaning (λ x. meaning.Subroutine x) (λ x. refl) (lookup (same_name name) (subroutines_from first_calculation (filter_map calculation_line lines))))

firsts_found : {X : Type 0} (table entries : List (Name × X)) → table ≡ firsts entries → found_in table ≡ found_in entries
firsts_found table entries is = fun_ext (λ name. found_first table entries is name)

abbrev names_made : (Kind → Name → Bool) → (Name → Option Shape) → (Name → Option ℕ) → (Name → Option ℕ) → Names
names_made d f t s = record { is_defined = d; field = f; tag = t; subroutine = s }

pub names_shown : (lines : List Line) (known : Known) → Knows lines known → IsTrue (are_read lines) → names_known known ≡ names_of lines
names_shown lines known knows read =
    ap (λ (d : Kind → Name → Bool). names_made d (found_in known.fields.entries) (found_in known.tags.entries) (found_in known.subroutines.entries)) (defined_shown lines known knows read)
    ∙ (ap (λ (f : Name → Option Shape). names_made (names_of lines).is_defined f (found_in known.tags.entries) (found_in known.subroutines.entries)) (firsts_found known.fields.entries (reserved_shapes ++ fields_given lines) (knows.fields read))
    ∙ (ap (λ (t : Name → Option ℕ). names_made (names_of lines).is_defined (found_in (reserved_shapes ++ fields_given lines)) t (found_in known.subroutines.entries)) (firsts_found known.tags.entries (filter_map tag_on lines) knows.tags)
    ∙ ap (λ (s : Name → Option ℕ). names_made (names_of lines).is_defined (found_in (reserved_shapes ++ fields_given lines)) (found_in (filter_map tag_on lines)) s) (firsts_found known.subroutines.entries (filter_map subroutine_on lines) knows.subroutines)))

-- ---- the names of a C line, by the row of its operation
by_row : (names : Names) (operation : Operation) (factor1 factor2 : Option (Factor Name)) (result : Option Name)
    → (is_used (row_of operation).factor1 && is_unknown names (kind_named (row_of operation).factor1) factor1)
    ∷ (is_used (row_of operation).factor2 && is_unknown names (kind_named (row_of operation).factor2) factor2)
    ∷ (is_target (row_of operation).result && is_unknown_result names result)
    ∷ [] ≡ unknown_by names (Some operation) factor1 factor2 result
by_row names op.Add factor1 factor2 result = refl
by_row names op.Subtract factor1 factor2 result = refl
by_row names op.Multiply factor1 factor2 result = refl
by_row names op.Divide factor1 factor2 result = refl
by_row names op.ZeroAdd factor1 factor2 result = refl
by_row names op.ZeroSubtract factor1 factor2 result = refl
by_row names op.MoveRemainder factor1 factor2 result = refl
by_row names op.Compare factor1 factor2 result = refl
by_row names op.Move factor1 factor2 result = refl
by_row names op.MoveLeft factor1 factor2 result = refl
by_row names op.SetOn factor1 factor2 result = refl
by_row names op.SetOff factor1 factor2 result = refl
by_row names op.GoTo factor1 factor2 result = refl
by_row names op.Tag factor1 factor2 result = refl
by_row names op.ExecuteSubroutine factor1 factor2 result = refl
by_row names op.BeginSubroutine factor1 factor2 result = refl
by_row names op.EndSubroutine factor1 factor2 result = refl
by_row names op.Except factor1 factor2 result = refl
by_row names op.Chain factor1 factor2 result = refl
by_row names op.Unknown factor1 factor2 result = refl

pub unknown_row : (names : Names) (line : CalculationLine Name) (operation : Operation) (row : Row) (first second third : Bool) → line.operation ≡ Some operation → row ≡ row_of operation
    → first ≡ (is_used row.factor1 && is_unknown names (kind_named row.factor1) line.factor1)
    → second ≡ (is_used row.factor2 && is_unknown names (kind_named row.factor2) line.factor2)
    → third ≡ (is_target row.result && is_unknown_result names line.result)
    → first ∷ second ∷ third ∷ [] ≡ unknown_in names line
unknown_row names line operation row first second third is of one two three =
    let all : first ∷ second ∷ third ∷ [] ≡ (is_used row.factor1 && is_unknown names (kind_named row.factor1) line.factor1)
    ∷ (is_used row.factor2 && is_unknown names (kind_named row.factor2) line.factor2) ∷ (is_target row.result && is_unknown_result names line.result) ∷ [] = rw (one, two, three) refl in
    all
    ∙ (ap (λ (r : Row). (is_used r.factor1 && is_unknown names (kind_named r.factor1) line.factor1) ∷ (is_used r.factor2 && is_unknown names (kind_named r.factor2) line.factor2) ∷ (is_target r.result && is_unknown_result names line.result) ∷ []) of
    ∙ (by_row names operation line.factor1 line.factor2 line.result ∙ ap (λ o. unknown_by names o line.factor1 line.factor2 line.result) (sym is)))

-- a C line without an operation names nothing
pub unknown_none : (names : Names) (line : CalculationLine Name) → line.operation ≡ None → false ∷ false ∷ false ∷ [] ≡ unknown_in names line
unknown_none names line is = ap (λ o. unknown_by names o line.factor1 line.factor2 line.result) (sym is)

-- ---- marks, by what is known of lines and by the lines
pub marks_by_lines : (lines : List Line) (known : Known) (marked : List FaultyEntry) → Knows lines known → IsTrue (are_read lines) → list_all (is_mark_among (names_known known) lines) marked ≡ true
    → list_all (is_mark_among (names_of lines) lines) marked ≡ true
marks_by_lines lines known marked knows read is = ap (λ names. list_all (is_mark_among names lines) marked) (sym (names_shown lines known knows read)) ∙ is

pub all_marks_by_lines : (lines : List Line) (known : Known) (told : List Diagnostic) (marked : List FaultyEntry) → Knows lines known → IsTrue (are_read lines) → All (HasAllMarks (names_known known) told marked) lines
    → All (HasAllMarks (names_of lines) told marked) lines
all_marks_by_lines lines known told marked knows read is = subst (λ (names : Names). All (HasAllMarks names told marked) lines) (names_shown lines known knows read) is
