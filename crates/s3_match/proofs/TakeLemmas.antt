-- A head is taken: the file of its name is the one at its place.
use Rattle.std.proofs.Common.{◌≡◌, ℕ, ◌<◌, ◌==◌, length, get_or, set, map, List, [], ◌∷◌, Bool, true, false, refl, sym, ◌∙◌, ap, zero, suc, arith}
use Rattle.std.specs.Prelude.{Some, nat_lt, if◌then◌else◌}
use Rattle.std.specs.Option.{option_or}
use Rattle.std.proofs.lemmas.Bool.Decides.{nat_tests}
use Rattle.std.proofs.lemmas.List.{length-map, get_or-map}
use Rattle.s3_cards.specs.declared.name.Name.{Name}
use Rattle.s3_cards.specs.Names.{same_name}
use Rattle.s3_lines.specs.declared.sheet.Designation.TheVariants.{Primary}
use Rattle.s3_meaning.specs.Source.{is_designated}
use Rattle.s3_meaning.specs.Selection as meaning
use Rattle.s3_meaning.specs.Selection.{Selected, key_of, taken}
use Rattle.s3_program.specs.declared.program.Program.{Program}
use Rattle.s3_program.specs.Inner.Stands.{parts_of}
use Rattle.s3_program.specs.FileEntries.{file_entry}
use Rattle.s3_program.proofs.SlotLemmas.{kept}
use Rattle.s3_match.specs.declared.heads.InputFile.{InputFile}
use Rattle.s3_match.specs.declared.keys.RecordKey.{RecordKey}
use Rattle.s3_match.specs.declared.reading.Reading.{Reading}
use Rattle.s3_match.specs.Inner.Types.{tables_in}
use Rattle.s3_match.specs.Inner.Keys.{key_in}
use Rattle.s3_match.specs.Inner.Heads.{file_at, input_of, vacated}
use Rattle.s3_match.specs.Inner.Selecting.{inputs_of, selected_of, selected_at}
use Rattle.s3_match.specs.Inner.Reading.{no_input, slots_of, reading_in, IsReading}
use Rattle.s3_match.proofs.SelectLemmas.{seen, own_head}
use Rattle.s3_match.proofs.SlotLemmas.{slot_kept, slot_once}
use Rattle.s3_program.proofs.TypeLemmas.{same_file}
use Rattle.s3_match.proofs.ReadingLemmas.{slot_there, inputs_change, file_named}

-- ---- a test that one place alone passes
shifted : (a b : ℕ) → (suc a == suc b) ≡ (a == b)
shifted a b = grind (arith, nat_tests)

never : (k : ℕ) → (suc k == 0) ≡ false
never k = grind (arith, nat_tests)

first_never : (k : ℕ) → (0 == suc k) ≡ false
first_never k = grind (arith, nat_tests)

kept_nowhere : {X : Type 0} (f : X → X) (test : X → Bool) (xs : List X) (d : X) → ((k : ℕ) → k < length xs → test (get_or xs k d) ≡ false) → map (λ x. if test x then f x else x) xs ≡ xs
kept_nowhere f test [] d none = refl
kept_nowhere f test (x ∷ xs) d none =
    (λ i. (ap (λ (b : Bool). if b then f x else x) (none zero (omega arith))) i ∷ kept_nowhere f test xs d (λ k within. none (suc k) (omega (arith, within))) i)

changed_once : {X : Type 0} (f : X → X) (test : X → Bool) (xs : List X) (place : ℕ) (d : X) → place < length xs → ((k : ℕ) → k < length xs → test (get_or xs k d) ≡ (k == place))
    → map (λ x. if test x then f x else x) xs ≡ set xs place (f (get_or xs place d))
changed_once f test [] place d within once = absurd (omega (arith, within))
changed_once f test (x ∷ xs) zero d within once =
    (λ i. (ap (λ (b : Bool). if b then f x else x) (once zero (omega arith))) i ∷ kept_nowhere f test xs d (λ k h. once (suc k) (omega (arith, h)) ∙ never k) i)
changed_once f test (x ∷ xs) (suc place) d within once =
    (λ i. (ap (λ (b : Bool). if b then f x else x) (once zero (omega arith) ∙ first_never place)) i
    ∷ changed_once f test xs place d (omega (arith, within)) (λ k h. once (suc k) (omega (arith, h)) ∙ shifted k place) i)

-- ---- one name, one place
names_apart : (program : Program) (one other : ℕ) → one < length program.files.items → other < length program.files.items → same_name (file_at program one).name (file_at program other).name ≡ (one == other)
names_apart program one other here there =
    (λ i. same_name (sym (file_named program one here) i) (sym (file_named program other there) i))
    ∙ same_file (tables_in program).files one other (kept (parts_of program) program.valid).files_distinct (test one (fits here)) (fits there)
  where
    fits : {k : ℕ} → k < length program.files.items → k < length (tables_in program).files
    fits h = omega (arith, length-map program.files.items file_entry, h)

    test : (k : ℕ) → k < length (tables_in program).files → nat_lt k (length (tables_in program).files) ≡ true
    test k h = grind (arith, nat_tests, h)

named_once : (program : Program) (reading : Reading) (place k : ℕ) (x : InputFile) (name : Name) → IsReading program reading → place < length reading.files.items → x ≡ get_or reading.files.items place x
    → name ≡ (file_at program x.file).name → k < length reading.files.items → same_name (get_or (inputs_of program reading.files.items) k no_input).file.name name ≡ (k == place)
named_once program reading place k x name sound within there named here =
    let slots : length (slots_of reading.files.items) ≡ length reading.files.items = length-map reading.files.items (λ (input : InputFile). input.file) in
    let one : (get_or reading.files.items k x).file ≡ get_or (slots_of reading.files.items) k 0 = sym (slot_there reading.files.items k x here) in
    let two : x.file ≡ get_or (slots_of reading.files.items) place 0 = ap (λ (input : InputFile). input.file) there ∙ sym (slot_there reading.files.items place x within) in
    (λ i. same_name ((ap (λ (input : meaning.InputFile). input.file.name) (get_or-map (input_of program) reading.files.items k x no_input here) ∙ ap (λ (n : ℕ). (file_at program n).name) one) i) ((named ∙ ap (λ (n : ℕ). (file_at program n).name) two) i))
    ∙ names_apart program (get_or (slots_of reading.files.items) k 0) (get_or (slots_of reading.files.items) place 0)
    (slot_kept program (slots_of reading.files.items) k sound.slots (omega (arith, slots, here))).0
    (slot_kept program (slots_of reading.files.items) place sound.slots (omega (arith, slots, within))).0
    ∙ slot_once program (slots_of reading.files.items) k place sound.slots (omega (arith, slots, here)) (omega (arith, slots, within))

-- ---- what is left behind
pub head_taken : (program : Program) (old : Reading) (key : RecordKey) (place : ℕ) (x z y : InputFile) (selected : Selected) → IsReading program old → place < length old.files.items
    → x ≡ get_or old.files.items place x → z ≡ get_or old.files.items place z → selected_at program old.files.items place ≡ Some selected → input_of program y ≡ vacated (input_of program x)
    → key_in key ≡ (if is_designated Primary (file_at program z.file) then option_or (key_in z.key) (key_in old.primary_key) else key_in old.primary_key)
    → (record { files = inputs_of program (set old.files.items place y); primary_key = key_in key }) ≡ taken (reading_in program old) selected
head_taken program old key place x z y selected sound within there also own changed kept_key =
    let head_x : selected_of program (get_or old.files.items place x) ≡ Some selected = own_head program old.files.items place x selected sound.inputs within own in
    let head_z : selected_of program (get_or old.files.items place z) ≡ Some selected = own_head program old.files.items place z selected sound.inputs within own in
    let sees_x = seen program (get_or old.files.items place x) (sound.inputs place x within) in
    let sees_z = seen program (get_or old.files.items place z) (sound.inputs place z within) in
    let named : selected.file.name ≡ (file_at program x.file).name = ap (λ f. f.name) (sees_x.file selected head_x) ∙ ap (λ (input : InputFile). (file_at program input.file).name) (sym there) in
    let length_same : length (inputs_of program old.files.items) ≡ length old.files.items = length-map old.files.items (input_of program) in
    let files : inputs_of program (set old.files.items place y) ≡ map (meaning.vacated selected.file.name) (inputs_of program old.files.items) =
    inputs_change program old.files.items place x y vacated within there changed
    ∙ sym (changed_once vacated (λ (input : meaning.InputFile). same_name input.file.name selected.file.name) (inputs_of program old.files.items) place no_input (omega (arith, length_same, within))
    (λ k h. named_once program old place k x selected.file.name sound within there named (omega (arith, length_same, h)))) in
    let file : file_at program z.file ≡ selected.file = ap (λ (input : InputFile). file_at program input.file) also ∙ sym (sees_z.file selected head_z) in
    let own_key : key_in z.key ≡ key_of selected = ap (λ (input : InputFile). key_in input.key) also ∙ sym (sees_z.key selected head_z) in
    λ i. record {
      files = files i;
      primary_key = (kept_key ∙ (λ j. if is_designated Primary (file j) then option_or (own_key j) (key_in old.primary_key) else key_in old.primary_key)) i;
    }
