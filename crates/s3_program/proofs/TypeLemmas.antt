-- Starts of record types: each start has an existing file, and each file has a list of its own types.
use Rattle.std.proofs.Common.{◌≡◌, ℕ, ◌+◌, ◌<◌, ◌==◌, ◌&&◌, length, get_or, List, [], ◌∷◌, Bool, true, false, not, refl, sym, ◌∙◌, ap, inl, inr, arith, zero, suc, ◌||◌, Vec, Global, zero-add}
use Rattle.std.specs.Prelude.{Option, Some, None, unwrap_or, option_map, map, slice_get, nat_lt}
use Rattle.std.specs.List.{list_any, list_all}
use Rattle.std.specs.Map.{keys_of}
use Rattle.std.specs.Vec.{vec_len}
use Rattle.std.proofs.lemmas.Bool.{and_parts, true≢false, cases_Bool}
use Rattle.std.proofs.lemmas.Bool.Decides.{nat_tests}
use Rattle.std.proofs.lemmas.List.{length-map, get_or-map}
use Rattle.std.proofs.lemmas.Option.{slice_get_past, slice_get-get_or}
use Rattle.std.proofs.lemmas.List.FromFn.{length-map-range_with_len, get_or-map-range_with_len}
use Rattle.s3_cards.specs.declared.name.Name.{Name}
use Rattle.s3_cards.specs.Names.{no_name, same_name}
use Rattle.s3_lines.specs.declared.indicator.Indicator.{Indicator}
use Rattle.s3_lines.specs.declared.sheet.Shape.{Shape}
use Rattle.s3_program.specs.declared.program.Kind.TheVariants as kind
use Rattle.s3_lines.specs.declared.sheet.RecordCode.{RecordCode}
use Rattle.s3_lines.specs.declared.sheet.FileLine.{FileLine}
use Rattle.s3_lines.specs.declared.sheet.InputLine.{InputLine}
use Rattle.s3_lines.specs.declared.sheet.InputLine.TheVariants.{Record, And as AndCodes, Or as OrCodes, Field as InputField}
use Rattle.s3_program.specs.declared.program.Program.{Program}
use Rattle.s3_program.specs.declared.program.Reference.{Reference}
use Rattle.s3_program.specs.declared.program.Reference.TheVariants as slot
use Rattle.s3_program.specs.declared.program.Meaning.{Meaning}
use Rattle.s3_program.specs.declared.program.Meaning.TheVariants as meaning
use Rattle.s3_program.specs.declared.starts.TypeStart.{TypeStart}
use Rattle.s3_program.specs.declared.standing.InputStanding.{InputStanding}
use Rattle.s3_program.specs.Standings.{first_input, behind_input}
use Rattle.s3_program.specs.Matching.{Marks, marks_of}
use Rattle.s3_program.specs.Conditions.{numbers, input_holds}
use Rattle.s3_program.specs.Inner.Conditions.{is_clear, inputs_clear, are_clear}
use Rattle.s3_program.specs.Inner.Distinct.{are_distinct}
use Rattle.s3_program.specs.Inner.Meant.{is_of, input_passes, are_of_kinds}
use Rattle.s3_program.specs.Inner.Starts.{file_slot, types_of_file, type_starts, type_starts_from}
use Rattle.s3_program.specs.Inner.Stands.{parts_of}
use Rattle.s3_program.specs.Tables.{Tables, or_undefined}
use Rattle.s3_program.specs.Inner.Tables.{name_in, meaning_at, item_in}
use Rattle.s3_program.specs.Inner.Valid.{meant_input, meant, tables_of}
use Rattle.s3_program.proofs.SlotLemmas.{kept, own_slot, same_slot}

-- ---- there are as many lists of starts as files
pub as_many : (program : Program) (file : ℕ) → file < length program.files.items → file < vec_len program.starts.types
as_many program file within =
    let e : length program.starts.types.items ≡ length program.files.items =
    sym (length-map program.starts.types.items (λ types. types.items)) ∙ ap length program.starting.types ∙ length-map-range_with_len (types_of_file (type_starts program.files.items program.inputs.items)) 0 (length program.files.items) in
    grind (arith, e)

-- ---- each start has a file
pub no_file : {X : Type 0} (known : X → Meaning) → ((x : X) → is_of kind.File (known x) ≡ false) → (o : Option X) → is_of kind.File (or_undefined known o) ≡ true → ⊥
no_file known never None of_file = true≢false (sym of_file)
no_file known never (Some x) of_file = true≢false (sym of_file ∙ never x)

none_of : (p : ℕ → Bool) (xs : List ℕ) (k : ℕ) → list_any p xs ≡ false → k < length xs → p (get_or xs k 0) ≡ false
none_of p [] k none within = absurd (omega (arith, within))
none_of p (x ∷ xs) zero none within = elim (cases_Bool (p x)) [
  | inl is ↦ absurd (true≢false (sym (ap (λ (b : Bool). b || list_any p xs) is) ∙ none))
  | inr not_it ↦ not_it
]
none_of p (x ∷ xs) (suc k) none within = elim (cases_Bool (p x)) [
  | inl is ↦ absurd (true≢false (sym (ap (λ (b : Bool). b || list_any p xs) is) ∙ none))
  | inr not_it ↦ none_of p xs k (sym (ap (λ (b : Bool). b || list_any p xs) not_it) ∙ none) (omega (arith, within))
]

opposite : (b : Bool) → not b ≡ true → b ≡ false
opposite true h = absurd (true≢false (sym h))
opposite false h = refl

turned : (b : Bool) → not b ≡ false → b ≡ true
turned true h = refl
turned false h = absurd (true≢false h)

-- an OR line continues a group
open_there : (marks : Marks) (at : InputStanding) (indicator : Indicator) (codes : List (Option RecordCode)) → is_clear (input_holds marks at (OrCodes indicator codes)) ≡ true → at.is_open ≡ true
open_there marks at indicator codes clear =
    turned at.is_open (none_of (input_holds marks at (OrCodes indicator codes)) numbers 4 (opposite (list_any (input_holds marks at (OrCodes indicator codes)) numbers) clear) (omega arith))

file_there : (tables : Tables) (last : ℕ) (file : Reference) → is_of kind.File (meaning_at tables file) ≡ true → nat_lt (file_slot last file) (length tables.files) ≡ true
file_there tables last (slot.File k) of_file = elim (cases_Bool (nat_lt k (length tables.files))) [
  | inl within ↦ within
  | inr past ↦
      let none : item_in tables.files k ≡ None = ap (option_map (λ (entry : Name × FileLine). entry.1)) (slice_get_past tables.files k (grind (arith, nat_tests, past))) in
      absurd (true≢false (sym of_file ∙ ap (λ (o : Option FileLine). is_of kind.File (or_undefined (λ x. meaning.File x) o)) none))
]
file_there tables last (slot.Field k) of_file = absurd (no_file (λ (entry : Name × Shape). meaning.Field (record { name = entry.0; meaning = entry.1 })) (λ entry. refl) (slice_get tables.fields k) of_file)
file_there tables last (slot.Tag k) of_file = absurd (no_file (λ x. meaning.Tag x) (λ x. refl) (item_in tables.tags k) of_file)
file_there tables last (slot.Subroutine k) of_file = absurd (no_file (λ x. meaning.Subroutine x) (λ x. refl) (item_in tables.subroutines k) of_file)

pub record Open (count last : ℕ) (is_open : Bool) : Type 0 where
  pub file : is_open ≡ true → nat_lt last count ≡ true

pub both : (a b : Bool) → a ≡ true → b ≡ true → (a && b) ≡ true
both a b e f = (λ i. e i && f i)

files_there : (tables : Tables) (marks : Marks) (last place : ℕ) (at : InputStanding) (lines : List (InputLine Reference))
    → list_all (input_passes is_of) (map (meant_input tables) lines) ≡ true
    → inputs_clear marks at (map (meant_input tables) lines) ≡ true
    → Open (length tables.files) last at.is_open
    → list_all (λ start. nat_lt start.file (length tables.files)) (type_starts_from last place lines) ≡ true
unfolding type_starts_from
files_there tables marks last place at [] kinds clear open_file = refl
files_there tables marks last place at (Record file indicator codes ∷ lines) kinds clear open_file =
    let kind = and_parts (is_of kind.File (meaning_at tables file)) (list_all (input_passes is_of) (map (meant_input tables) lines)) kinds in
    let rest = and_parts (is_clear (input_holds marks at (meant_input tables (Record file indicator codes)))) (inputs_clear marks (behind_input at (meant_input tables (Record file indicator codes))) (map (meant_input tables) lines)) clear in
    let here = file_there tables last file kind.0 in
    both _ _ here (files_there tables marks (file_slot last file) (place + 1) (behind_input at (meant_input tables (Record file indicator codes))) lines kind.1 rest.1 (record { file = λ is. here }))
files_there tables marks last place at (AndCodes codes ∷ lines) kinds clear open_file =
    let rest = and_parts (is_clear (input_holds marks at (AndCodes codes))) (inputs_clear marks (behind_input at (AndCodes codes)) (map (meant_input tables) lines)) clear in
    files_there tables marks last (place + 1) (behind_input at (AndCodes codes)) lines kinds rest.1 open_file
files_there tables marks last place at (OrCodes indicator codes ∷ lines) kinds clear open_file =
    let rest = and_parts (is_clear (input_holds marks at (OrCodes indicator codes))) (inputs_clear marks (behind_input at (OrCodes indicator codes)) (map (meant_input tables) lines)) clear in
    both _ _ (open_file.file (open_there marks at indicator codes rest.0)) (files_there tables marks last (place + 1) (behind_input at (OrCodes indicator codes)) lines kinds rest.1 open_file)
files_there tables marks last place at (InputField field ∷ lines) kinds clear open_file =
    let kind = and_parts (is_of kind.Field (meaning_at tables field.name)) (list_all (input_passes is_of) (map (meant_input tables) lines)) kinds in
    let rest = and_parts (is_clear (input_holds marks at (meant_input tables (InputField field)))) (inputs_clear marks (behind_input at (meant_input tables (InputField field))) (map (meant_input tables) lines)) clear in
    files_there tables marks last (place + 1) (behind_input at (meant_input tables (InputField field))) lines kind.1 rest.1 (record { file = λ is. absurd (true≢false (sym is)) })

-- ---- a name has one slot
name_there : {X : Type 0} (table : List (Name × X)) (k : ℕ) (e : Name × X) → slice_get table k ≡ Some e → name_in table k ≡ e.0
name_there table k e there = ap (λ o. unwrap_or (option_map (λ (entry : Name × _). entry.0) o) no_name) there

pub same_file : {X : Type 0} (table : List (Name × X)) (k file : ℕ) → are_distinct (keys_of table) ≡ true → nat_lt k (length table) ≡ true → file < length table
    → same_name (name_in table k) (name_in table file) ≡ (k == file)
same_file [] k file distinct here there = absurd (omega (arith, there))
same_file {X} (d ∷ ds) k file distinct here there =
    let table : List (Name × X) = d ∷ ds in
    let one = slice_get-get_or table k d (grind (arith, nat_tests, here)) in
    let two = slice_get-get_or table file d there in
    (λ i. same_name (name_there table k (get_or table k d) one i) (name_there table file (get_or table file d) two i))
    ∙ sym (same_slot table file (get_or table file d) (get_or table k d).0 distinct two)
    ∙ ap (λ n. n == file) (own_slot table k (get_or table k d) distinct one)

-- ---- the type
pub own_starts : (program : Program) (file : ℕ) (d : Vec TypeStart Global) → file < length program.files.items
    → (get_or program.starts.types.items file d).items ≡ types_of_file (type_starts program.files.items program.inputs.items) file
own_starts program file d within =
    sym (get_or-map (λ (types : Vec TypeStart Global). types.items) program.starts.types.items file d [] (listed within))
    ∙ (ap (λ (lists : List (List TypeStart)). get_or lists file []) program.starting.types
    ∙ get_or-map-range_with_len (types_of_file (type_starts program.files.items program.inputs.items)) 0 (length program.files.items) file file [] within (zero-add file))
  where
    listed : file < length program.files.items → file < length program.starts.types.items
    listed h =
        let e : length program.starts.types.items ≡ length program.files.items =
        sym (length-map program.starts.types.items (λ types. types.items)) ∙ ap length program.starting.types ∙ length-map-range_with_len (types_of_file (type_starts program.files.items program.inputs.items)) 0 (length program.files.items) in
        omega (arith, e, h)

pub starts_have_files : (program : Program) → list_all (λ start. nat_lt start.file (length (tables_of (parts_of program)).files)) (type_starts program.files.items program.inputs.items) ≡ true
unfolding are_of_kinds are_clear
starts_have_files program =
    let keeps = kept (parts_of program) program.valid in
    let kinds = (and_parts _ _ (and_parts _ _ keeps.kinds).0).0 in
    let clear = (and_parts _ _ (and_parts _ _ (and_parts _ _ keeps.clear).0).0).1 in
    files_there (tables_of (parts_of program)) (marks_of (meant (parts_of program)).inputs) (length program.files.items) 0 first_input program.inputs.items kinds clear (record { file = λ is. absurd (true≢false (sym is)) })
