-- The fields of a record lie within it: no type of a valid program has a field after the end of its file's records.
use Rattle.std.proofs.Common.{◌≡◌, ℕ, ◌≤◌, List, [], ◌∷◌, Bool, true, false, not, ◌&&◌, refl, sym, ◌∙◌, ap, subst, arith, zero, suc, length, drop}
use Rattle.std.specs.Prelude.{Option, Some, None, map, find, slice_get, unwrap_or, option_map, nat_le}
use Rattle.std.specs.List.{list_any, list_all}
use Rattle.std.specs.Map.{keys_of}
use Rattle.std.proofs.lemmas.Bool.{and_parts, true≢false}
use Rattle.std.proofs.lemmas.Bool.Decides.{nat_tests}
use Rattle.std.proofs.lemmas.Option.{slice_get-map}
use Rattle.s3_cards.specs.declared.name.Name.{Name}
use Rattle.s3_cards.specs.Names.{same_name, no_name}
use Rattle.s3_cards.proofs.NameLemmas.{same_name-equal, same_name-self}
use Rattle.s3_lines.specs.declared.indicator.Indicator.{Indicator}
use Rattle.s3_lines.specs.declared.sheet.FieldLine.{FieldLine}
use Rattle.s3_lines.specs.declared.sheet.FileLine.{FileLine}
use Rattle.s3_lines.specs.declared.sheet.RecordCode.{RecordCode}
use Rattle.s3_lines.specs.declared.sheet.InputLine.{InputLine}
use Rattle.s3_lines.specs.declared.sheet.InputLine.TheVariants.{Record, And as AndCodes, Or as OrCodes, Field as InputField}
use Rattle.s3_lines.specs.declared.sheet.Shape.{Shape}
use Rattle.s3_lines.specs.Inner.Ranges.{is_within}
use Rattle.s3_meaning.specs.RecordTypes.{RecordType, types_from, group_fields}
use Rattle.s3_meaning.specs.Selection.{type_of, code_holds}
use Rattle.s3_meaning.specs.Source.{file_named}
use Rattle.s3_program.specs.declared.program.Program.{Program}
use Rattle.s3_program.specs.declared.program.Reference.{Reference}
use Rattle.s3_program.specs.declared.program.Reference.TheVariants as slot
use Rattle.s3_program.specs.declared.program.Meaning.TheVariants as meaning
use Rattle.s3_program.specs.declared.program.Kind.TheVariants as kind
use Rattle.s3_program.specs.declared.program.TagPlace.{TagPlace}
use Rattle.s3_program.specs.declared.program.SubroutinePlace.{SubroutinePlace}
use Rattle.s3_program.specs.declared.standing.InputStanding.{InputStanding}
use Rattle.s3_program.specs.Inner.Conditions.{is_clear, inputs_clear, are_clear}
use Rattle.s3_program.specs.Conditions.{input_holds}
use Rattle.s3_program.specs.Inner.Distinct.{are_distinct}
use Rattle.s3_program.specs.Matching.{Marks, marks_of}
use Rattle.s3_program.specs.Inner.Meant.{is_of, input_passes, are_of_kinds}
use Rattle.s3_program.specs.Inner.Positions.{record_length, inputs_within, are_within}
use Rattle.s3_program.specs.Standings.{first_input, behind_input}
use Rattle.s3_program.specs.Tables.{Tables, or_undefined}
use Rattle.s3_program.specs.Inner.Tables.{name_of, meaning_at, item_in}
use Rattle.s3_program.specs.Inner.Valid.{named, named_input, meant_input, meant}
use Rattle.s3_program.specs.FileEntries.{file_entry}
use Rattle.s3_program.specs.Inner.Stands.{parts_of, source_named}
use Rattle.s3_program.proofs.SlotLemmas.{Kept, kept, not_among, opposite}
use Rattle.s3_operations.specs.Inner.Fits.{tables}
use Rattle.s3_operations.specs.Inner.Moves.{named_field}
use Rattle.s3_operations.proofs.FitLemmas.{head_not, rest_not}

some_same : {X : Type 0} (x y : X) → Some x ≡ Some y → x ≡ y
some_same x y h = ap (λ o. unwrap_or o x) h

-- ---- the record length of a file
abbrev length_named : List FileLine → Name → Option ℕ
length_named files name = option_map (λ file. file.record_length) (find (λ file. same_name file.name name) files)

find_own : (files : List FileLine) (k : ℕ) (e : Name × FileLine) → are_distinct (keys_of (map file_entry files)) ≡ true → slice_get (map file_entry files) k ≡ Some e
    → find (λ file. same_name file.name e.0) files ≡ Some e.1
find_own [] k e distinct there = cc
find_own (f ∷ fs) zero e distinct there =
    subst (λ (x : Name × FileLine). find (λ file. same_name file.name x.0) (f ∷ fs) ≡ Some x.1) (some_same (file_entry f) e there) (rw (same_name-self f.name) refl)
find_own (f ∷ fs) (suc k) e distinct there =
    let parts = and_parts (not (list_any (same_name f.name) (keys_of (map file_entry fs)))) (are_distinct (keys_of (map file_entry fs))) distinct in
    let apart : same_name f.name e.0 ≡ false = not_among (map file_entry fs) k e f.name there (opposite (list_any (same_name f.name) (keys_of (map file_entry fs))) parts.0) in
    rw apart (find_own fs k e parts.1 there)

-- a file is found by its name
pub file_found : (p : Program) (k : ℕ) (file : FileLine) → slice_get p.files.items k ≡ Some file → file_named (source_named p) file.name ≡ Some file
unfolding named
file_found p k file there =
    find_own p.files.items k (file_entry file) (kept (parts_of p) p.valid).files_distinct (slice_get-map file_entry p.files.items k ∙ ap (option_map file_entry) there)

file_length : (p : Program) (file : Reference) → is_of kind.File (meaning_at (tables p) file) ≡ true → record_length (meaning_at (tables p) file) ≡ length_named p.files.items (name_of (tables p) file)
file_length p (slot.Field k) of_file = absurd (no_field (slice_get (tables p).fields k) of_file)
  where
    no_field : (o : Option (Name × Shape)) → is_of kind.File (or_undefined (λ (e : Name × Shape). meaning.Field (record { name = e.0; meaning = e.1 })) o) ≡ true → ⊥
    no_field None h = true≢false (sym h)
    no_field (Some x) h = true≢false (sym h)
file_length p (slot.Tag k) of_file = absurd (no_tag (item_in (tables p).tags k) of_file)
  where
    no_tag : (o : Option TagPlace) → is_of kind.File (or_undefined (λ (x : TagPlace). meaning.Tag x) o) ≡ true → ⊥
    no_tag None h = true≢false (sym h)
    no_tag (Some x) h = true≢false (sym h)
file_length p (slot.Subroutine k) of_file = absurd (no_subroutine (item_in (tables p).subroutines k) of_file)
  where
    no_subroutine : (o : Option SubroutinePlace) → is_of kind.File (or_undefined (λ (x : SubroutinePlace). meaning.Subroutine x) o) ≡ true → ⊥
    no_subroutine None h = true≢false (sym h)
    no_subroutine (Some x) h = true≢false (sym h)
file_length p (slot.File k) of_file = step (slice_get (tables p).files k) refl of_file
  where
    step : (o : Option (Name × FileLine)) → slice_get (tables p).files k ≡ o
        → is_of kind.File (or_undefined (λ (x : FileLine). meaning.File x) (option_map (λ (e : Name × FileLine). e.1) o)) ≡ true
        → record_length (or_undefined (λ (x : FileLine). meaning.File x) (option_map (λ (e : Name × FileLine). e.1) (slice_get (tables p).files k)))
        ≡ length_named p.files.items (unwrap_or (option_map (λ (e : Name × FileLine). e.0) (slice_get (tables p).files k)) no_name)
    step None at of_file = absurd (true≢false (sym of_file))
    step (Some e) at of_file =
        ap (λ (o : Option (Name × FileLine)). record_length (or_undefined (λ (x : FileLine). meaning.File x) (option_map (λ (e' : Name × FileLine). e'.1) o))) at
        ∙ (sym (ap (option_map (λ (file : FileLine). file.record_length)) (find_own p.files.items k e (kept (parts_of p) p.valid).files_distinct at))
        ∙ ap (λ (o : Option (Name × FileLine)). length_named p.files.items (unwrap_or (option_map (λ (e' : Name × FileLine). e'.0) o) no_name)) (sym at))

-- ---- the fields of a group
abbrev end_within : Option ℕ → List (FieldLine Name) → Bool
end_within last fields = list_all (λ field. is_within last field.to) fields

both : (a b : Bool) → a ≡ true → b ≡ true → (a && b) ≡ true
both a b e f = (λ i. e i && f i)

group_within : (tables : Tables) (last : Option ℕ) (lines : List (InputLine Reference)) → inputs_within last (map (meant_input tables) lines) ≡ true → end_within last (group_fields (map (named_input tables) lines)) ≡ true
unfolding inputs_within
group_within tables last [] within = refl
group_within tables last (Record file indicator codes ∷ lines) within = refl
group_within tables last (AndCodes codes ∷ lines) within = group_within tables last lines (and_parts _ (inputs_within last (map (meant_input tables) lines)) within).1
group_within tables last (OrCodes indicator codes ∷ lines) within = group_within tables last lines (and_parts _ (inputs_within last (map (meant_input tables) lines)) within).1
group_within tables last (InputField field ∷ lines) within =
    let parts = and_parts (is_within last field.to) (inputs_within last (map (meant_input tables) lines)) within in
    both _ _ parts.0 (group_within tables last lines parts.1)

-- ---- all types
abbrev type_fits : List FileLine → RecordType → Bool
type_fits files kind = end_within (length_named files kind.file) kind.fields

-- the fifth condition of the list, number 9, doesn't hold for an OR line: the line continues a group
open_there : (marks : Marks) (at : InputStanding) (indicator : Indicator) (codes : List (Option RecordCode)) → is_clear (input_holds marks at (OrCodes indicator codes)) ≡ true → at.is_open ≡ true
open_there marks at indicator codes clear = turned at.is_open (head_not (holds 9) (list_any holds (10 ∷ 11 ∷ 12 ∷ []))
    (rest_not (holds 8) (list_any holds (9 ∷ 10 ∷ 11 ∷ 12 ∷ [])) (rest_not (holds 7) (list_any holds (8 ∷ 9 ∷ 10 ∷ 11 ∷ 12 ∷ []))
    (rest_not (holds 6) (list_any holds (7 ∷ 8 ∷ 9 ∷ 10 ∷ 11 ∷ 12 ∷ [])) (rest_not (holds 5) (list_any holds (6 ∷ 7 ∷ 8 ∷ 9 ∷ 10 ∷ 11 ∷ 12 ∷ [])) clear)))))
  where
    holds : ℕ → Bool
    holds number = input_holds marks at (OrCodes indicator codes) number

    turned : (b : Bool) → not b ≡ false → b ≡ true
    turned true h = refl
    turned false h = absurd (true≢false h)

types_within : (p : Program) (marks : Marks) (name : Name) (last : Option ℕ) (at : InputStanding) (lines : List (InputLine Reference))
    → list_all (input_passes is_of) (map (meant_input (tables p)) lines) ≡ true → inputs_within last (map (meant_input (tables p)) lines) ≡ true → inputs_clear marks at (map (meant_input (tables p)) lines) ≡ true
    → (at.is_open ≡ true → last ≡ length_named p.files.items name) → list_all (type_fits p.files.items) (types_from name (map (named_input (tables p)) lines)) ≡ true
unfolding inputs_within
types_within p marks name last at [] kinds within clear is_last = refl
types_within p marks name last at (Record file indicator codes ∷ lines) kinds within clear is_last =
    let kinds' = and_parts (is_of kind.File (meaning_at (tables p) file)) (list_all (input_passes is_of) (map (meant_input (tables p)) lines)) kinds in
    let next : Option ℕ = record_length (meaning_at (tables p) file) in
    let within' = and_parts _ (inputs_within next (map (meant_input (tables p)) lines)) within in
    let clear' = and_parts (is_clear (input_holds marks at (meant_input (tables p) (Record file indicator codes)))) (inputs_clear marks (behind_input at (meant_input (tables p) (Record file indicator codes))) (map (meant_input (tables p)) lines)) clear in
    let same : next ≡ length_named p.files.items (name_of (tables p) file) = file_length p file kinds'.0 in
    both _ _ (ap (λ size. end_within size (group_fields (map (named_input (tables p)) lines))) (sym same) ∙ group_within (tables p) next lines within'.1)
    (types_within p marks (name_of (tables p) file) next (behind_input at (meant_input (tables p) (Record file indicator codes))) lines kinds'.1 within'.1 clear'.1 (λ is. same))
types_within p marks name last at (AndCodes codes ∷ lines) kinds within clear is_last =
    let within' = and_parts _ (inputs_within last (map (meant_input (tables p)) lines)) within in
    let clear' = and_parts (is_clear (input_holds marks at (AndCodes codes))) (inputs_clear marks (behind_input at (AndCodes codes)) (map (meant_input (tables p)) lines)) clear in
    types_within p marks name last (behind_input at (AndCodes codes)) lines kinds within'.1 clear'.1 is_last
types_within p marks name last at (OrCodes indicator codes ∷ lines) kinds within clear is_last =
    let within' = and_parts _ (inputs_within last (map (meant_input (tables p)) lines)) within in
    let clear' = and_parts (is_clear (input_holds marks at (OrCodes indicator codes))) (inputs_clear marks (behind_input at (OrCodes indicator codes)) (map (meant_input (tables p)) lines)) clear in
    both _ _ (ap (λ size. end_within size (group_fields (map (named_input (tables p)) lines))) (sym (is_last (open_there marks at indicator codes clear'.0))) ∙ group_within (tables p) last lines within'.1)
    (types_within p marks name last (behind_input at (OrCodes indicator codes)) lines kinds within'.1 clear'.1 is_last)
types_within p marks name last at (InputField field ∷ lines) kinds within clear is_last =
    let kinds' = and_parts (is_of kind.Field (meaning_at (tables p) field.name)) (list_all (input_passes is_of) (map (meant_input (tables p)) lines)) kinds in
    let within' = and_parts (is_within last field.to) (inputs_within last (map (meant_input (tables p)) lines)) within in
    let clear' = and_parts (is_clear (input_holds marks at (meant_input (tables p) (InputField field)))) (inputs_clear marks (behind_input at (meant_input (tables p) (InputField field))) (map (meant_input (tables p)) lines)) clear in
    types_within p marks name last (behind_input at (meant_input (tables p) (InputField field))) lines kinds'.1 within'.1 clear'.1 (λ is. absurd (true≢false (sym is)))

pub types_fit : (p : Program) → list_all (type_fits p.files.items) (source_named p).types ≡ true
unfolding named are_of_kinds are_within are_clear
types_fit p =
    let k : Kept (parts_of p) = kept (parts_of p) p.valid in
    types_within p (marks_of (meant (parts_of p)).inputs) no_name None first_input p.inputs.items (and_parts _ _ (and_parts _ _ k.kinds).0).0 (and_parts _ _ k.within).0
    (and_parts _ _ (and_parts _ _ (and_parts _ _ k.clear).0).0).1 (λ is. absurd (true≢false (sym is)))

-- ---- the type of a record
found_fits : {X : Type 0} (p q : X → Bool) (xs : List X) (x : X) → find p xs ≡ Some x → list_all q xs ≡ true → (p x ≡ true) × (q x ≡ true)
found_fits p q [] x found all = cc
found_fits {X} p q (y ∷ ys) x found all = step (p y) refl (and_parts (q y) (list_all q ys) all).0 (found_fits p q ys x) found (and_parts (q y) (list_all q ys) all).1
  where
    step : (b : Bool) → p y ≡ b → q y ≡ true → (find p ys ≡ Some x → list_all q ys ≡ true → (p x ≡ true) × (q x ≡ true)) → find p (y ∷ ys) ≡ Some x → list_all q ys ≡ true → (p x ≡ true) × (q x ≡ true)
    step true is here later found rest =
        let same : y ≡ x = some_same y x (rw is at found) in
        (ap p (sym same) ∙ is, ap q (sym same) ∙ here)
    step false is here later found rest = later (rw is at found) rest

-- the fields of a record's type lie within the file's records
pub fields_within : (p : Program) (name : Name) (bytes : List ℕ) (kind : RecordType) (file : FileLine) → type_of (source_named p) name bytes ≡ Some kind → file_named (source_named p) name ≡ Some file
    → list_all (λ field. nat_le field.to file.record_length) kind.fields ≡ true
unfolding named
fields_within p name bytes kind file is_kind is_file =
    let found = found_fits (λ (k : RecordType). same_name k.file name && list_all (code_holds bytes) k.codes) (type_fits p.files.items) (source_named p).types kind is_kind (types_fit p) in
    let same : kind.file ≡ name = same_name-equal kind.file name (and_parts (same_name kind.file name) _ found.0).0 in
    let size : length_named p.files.items kind.file ≡ Some file.record_length = ap (length_named p.files.items) same ∙ ap (option_map (λ (f : FileLine). f.record_length)) is_file in
    ap (λ last. end_within last kind.fields) (sym size) ∙ found.1

-- the first of these fields lies within a record of that length
pub first_within : (p : Program) (field : FieldLine Reference) (fields : List (FieldLine Name)) (size : ℕ) (bytes : List ℕ) → length bytes ≡ size
    → list_all (λ field. nat_le field.to size) (named_field p field ∷ fields) ≡ true → field.to ≤ length bytes
first_within p field fields size bytes is_size all = at_most field.to size (length bytes) (and_parts (nat_le field.to size) _ all).0 is_size
  where
    at_most : (a b c : ℕ) → nat_le a b ≡ true → c ≡ b → a ≤ c
    at_most a b c h e = grind (arith, nat_tests, h, e)

-- ---- the lines from a place on
pub lines_at : (lines : List (InputLine Reference)) (k : ℕ) (line : InputLine Reference) → slice_get lines k ≡ Some line → drop k lines ≡ line ∷ drop (suc k) lines
lines_at [] k line there = cc
lines_at (l ∷ ls) zero line there = ap (λ x. x ∷ ls) (some_same l line there)
lines_at (l ∷ ls) (suc k) line there = lines_at ls k line there

-- the fields from a place on begin with that line's field
pub fields_at : (p : Program) (k : ℕ) (line : InputLine Reference) → slice_get p.inputs.items k ≡ Some line
    → group_fields (map (named_input (tables p)) (drop k p.inputs.items)) ≡ group_fields (named_input (tables p) line ∷ map (named_input (tables p)) (drop (suc k) p.inputs.items))
fields_at p k line there = ap (λ lines. group_fields (map (named_input (tables p)) lines)) (lines_at p.inputs.items k line there)
