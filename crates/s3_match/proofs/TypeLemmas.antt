-- The type of a record: the first start of its file whose codes hold is the start of the meaning's type.
use Rattle.std.proofs.Common.{◌≡◌, ℕ, ◌+◌, ◌<◌, ◌==◌, ◌&&◌, ◌++◌, length, drop, List, [], ◌∷◌, Bool, true, false, refl, sym, ◌∙◌, ap, arith, subst}
use Rattle.std.specs.Prelude.{Option, Some, None, is_some, IsTrue, IfSome, unwrap_or, option_map, map, filter, filter_map, find, nat_lt, if◌then◌else◌}
use Rattle.std.specs.List.{list_all}
use Rattle.std.proofs.lemmas.Bool.{and_parts, true≢false}
use Rattle.std.proofs.lemmas.Bool.Decides.{nat_tests}
use Rattle.std.proofs.lemmas.List.{drop-drop, length-map}
use Rattle.std.proofs.lemmas.List.Folds.{list_all-append}
use Rattle.s3_cards.specs.declared.name.Name.{Name}
use Rattle.s3_cards.specs.Names.{same_name}
use Rattle.s3_lines.specs.declared.sheet.RecordCode.{RecordCode}
use Rattle.s3_lines.specs.declared.sheet.InputLine.{InputLine}
use Rattle.s3_lines.specs.declared.sheet.InputLine.TheVariants.{Record, And as AndCodes, Or as OrCodes, Field as InputField}
use Rattle.s3_meaning.specs.Names.{entries}
use Rattle.s3_meaning.specs.RecordTypes.{RecordType, further_codes}
use Rattle.s3_meaning.specs.Selection.{code_holds, type_of}
use Rattle.s3_program.specs.declared.program.Program.{Program}
use Rattle.s3_program.specs.declared.program.Reference.{Reference}
use Rattle.s3_program.specs.declared.starts.TypeStart.{TypeStart}
use Rattle.s3_program.specs.Inner.Started.{type_on, type_at}
use Rattle.s3_program.specs.Inner.Starts.{fields_begin, file_slot, is_type_of, types_of_file, type_starts, type_starts_from}
use Rattle.s3_program.specs.Inner.Stands.{parts_of, source_named}
use Rattle.s3_program.specs.Tables.{Tables}
use Rattle.s3_program.specs.Inner.Tables.{name_in}
use Rattle.s3_program.specs.Inner.Valid.{named_input}
use Rattle.s3_program.proofs.SlotLemmas.{kept}
use Rattle.s3_program.proofs.StartedLemmas.{types_stand}
use Rattle.s3_program.proofs.TypeLemmas.{both, same_file, starts_have_files}
use Rattle.s3_match.specs.Inner.Types.{tables_in, name_of_file, kind_at, no_type, is_type_start, entry_holds, further_hold, type_holds, first_that_holds}

-- ---- codes
entries_all : (bytes : List ℕ) (codes : List (Option RecordCode)) → list_all (entry_holds bytes) codes ≡ list_all (code_holds bytes) (entries codes)
entries_all bytes [] = refl
entries_all bytes (None ∷ codes) = entries_all bytes codes
entries_all bytes (Some code ∷ codes) = ap (λ (b : Bool). code_holds bytes code && b) (entries_all bytes codes)

further_all : (bytes : List ℕ) (tables : Tables) (lines : List (InputLine Reference)) → further_hold bytes lines ≡ list_all (code_holds bytes) (further_codes (map (named_input tables) lines))
unfolding further_hold
further_all bytes tables [] = refl
further_all bytes tables (Record file indicator codes ∷ lines) = refl
further_all bytes tables (AndCodes codes ∷ lines) =
    (λ i. entries_all bytes codes i && further_all bytes tables lines i)
    ∙ sym (list_all-append (code_holds bytes) (entries codes) (further_codes (map (named_input tables) lines)))
further_all bytes tables (OrCodes indicator codes ∷ lines) = refl
further_all bytes tables (InputField field ∷ lines) = refl

codes_all : (bytes : List ℕ) (tables : Tables) (codes : List (Option RecordCode)) (lines : List (InputLine Reference))
    → (list_all (entry_holds bytes) codes && further_hold bytes lines) ≡ list_all (code_holds bytes) (entries codes ++ further_codes (map (named_input tables) lines))
codes_all bytes tables codes lines =
    (λ i. entries_all bytes codes i && further_all bytes tables lines i)
    ∙ sym (list_all-append (code_holds bytes) (entries codes) (further_codes (map (named_input tables) lines)))

-- ---- one start
abbrev is_found : Name → List ℕ → RecordType → Bool
is_found name bytes kind = same_name kind.file name && list_all (code_holds bytes) kind.codes

abbrev passes : {Y : Type 0} → (Y → Bool) → Option Y → Bool
passes p None = false
passes p (Some y) = p y

nothing : (b : Bool) → false ≡ (b && false)
nothing true = refl
nothing false = refl

holds_on : (tables : Tables) (inputs : List (InputLine Reference)) (start : TypeStart) (name : Name) (bytes : List ℕ) (lines : List (InputLine Reference)) (own : Bool)
    → same_name (name_in tables.files start.file) name ≡ own → passes (is_found name bytes) (type_on tables inputs start lines) ≡ (own && type_holds bytes lines)
unfolding type_holds
holds_on tables inputs start name bytes [] own e = nothing own
holds_on tables inputs start name bytes (Record file indicator codes ∷ lines) own e = (λ i. e i && sym (codes_all bytes tables codes lines) i)
holds_on tables inputs start name bytes (AndCodes codes ∷ lines) own e = nothing own
holds_on tables inputs start name bytes (OrCodes indicator codes ∷ lines) own e = (λ i. e i && sym (codes_all bytes tables codes lines) i)
holds_on tables inputs start name bytes (InputField field ∷ lines) own e = nothing own

-- ---- the first of many
same_first : {X Y : Type 0} (at : X → Option Y) (d : Y) (own holds : X → Bool) (p : Y → Bool) (x : X) (xs : List X) (o : Option Y) (b h : Bool)
    → at x ≡ o → own x ≡ b → holds x ≡ h → passes p o ≡ (b && h)
    → find p (filter_map at xs) ≡ option_map (λ x. unwrap_or (at x) d) (find holds (filter own xs))
    → find p (filter_map at (x ∷ xs)) ≡ option_map (λ x. unwrap_or (at x) d) (find holds (filter own (x ∷ xs)))
same_first at d own holds p x xs None true true ea eb eh e later = absurd (true≢false (sym e))
same_first at d own holds p x xs None true false ea eb eh e later = rw (ea, eb) (rw eh later)
same_first at d own holds p x xs None false h ea eb eh e later = rw (ea, eb) later
same_first at d own holds p x xs (Some y) true true ea eb eh e later = rw (ea, eb) (rw (e, eh) (rw ea refl))
same_first at d own holds p x xs (Some y) true false ea eb eh e later = rw (ea, eb) (rw (e, eh) later)
same_first at d own holds p x xs (Some y) false h ea eb eh e later = rw (ea, eb) (rw e later)

first_found : {X Y : Type 0} (at : X → Option Y) (d : Y) (good own holds : X → Bool) (p : Y → Bool)
    → ((x : X) → good x ≡ true → passes p (at x) ≡ (own x && holds x))
    → (xs : List X) → list_all good xs ≡ true
    → find p (filter_map at xs) ≡ option_map (λ x. unwrap_or (at x) d) (find holds (filter own xs))
first_found at d good own holds p same [] all = refl
first_found at d good own holds p same (x ∷ xs) all =
    let parts = and_parts (good x) (list_all good xs) all in
    same_first at d own holds p x xs (at x) (own x) (holds x) refl refl refl (same x parts.0) (first_found at d good own holds p same xs parts.1)

-- ---- the type
pub type_found : (program : Program) (file : ℕ) (bytes : List ℕ) → file < length program.files.items
    → option_map (kind_at program) (first_that_holds bytes program.inputs.items (types_of_file (type_starts program.files.items program.inputs.items) file))
    ≡ type_of (source_named program) (name_of_file program file) bytes
type_found program file bytes within =
    let keeps = kept (parts_of program) program.valid in
    sym (first_found (type_at (tables_in program) program.inputs.items) no_type (λ start. nat_lt start.file (length (tables_in program).files)) (is_type_of file)
    (λ start. type_holds bytes (drop start.place program.inputs.items)) (is_found (name_of_file program file) bytes)
    (λ start good. holds_on (tables_in program) program.inputs.items start (name_of_file program file) bytes (drop start.place program.inputs.items) (start.file == file)
    (same_file (tables_in program).files start.file file keeps.files_distinct good (fits within)))
    (type_starts program.files.items program.inputs.items) (starts_have_files program))
    ∙ ap (find (is_found (name_of_file program file) bytes)) (types_stand program)
  where
    fits : file < length program.files.items → file < length (tables_in program).files
    fits h = grind (arith, length-map, h)

-- ---- each start of a file is one of a type
same : (n : ℕ) → (n == n) ≡ true
same n = grind (arith, nat_tests)

-- a type starts at the place of this line, and its fields come after it
abbrev begins : Tables → List (InputLine Reference) → TypeStart → Bool
begins tables all start = is_some (type_at tables all start) && start.fields == fields_begin (start.place + 1) (drop (start.place + 1) all)

line_behind : (all : List (InputLine Reference)) (k : ℕ) (line : InputLine Reference) (lines : List (InputLine Reference)) → drop k all ≡ line ∷ lines → drop (k + 1) all ≡ lines
line_behind all k line lines here = sym (drop-drop 1 k all) ∙ ap (drop 1) here

type_begins : (tables : Tables) (all : List (InputLine Reference)) (file k : ℕ) (line : InputLine Reference) (lines : List (InputLine Reference)) → drop k all ≡ line ∷ lines
    → is_some (type_on tables all (record { file = file; place = k; fields = fields_begin (k + 1) lines }) (line ∷ lines)) ≡ true
    → begins tables all (record { file = file; place = k; fields = fields_begin (k + 1) lines }) ≡ true
type_begins tables all file k line lines here is =
    both _ _ (ap (λ (ls : List (InputLine Reference)). is_some (type_on tables all (record { file = file; place = k; fields = fields_begin (k + 1) lines }) ls)) here ∙ is)
    (ap (λ (ls : List (InputLine Reference)). fields_begin (k + 1) lines == fields_begin (k + 1) ls) (line_behind all k line lines here) ∙ same (fields_begin (k + 1) lines))

starts_from : (tables : Tables) (all : List (InputLine Reference)) (last k : ℕ) (lines : List (InputLine Reference)) → drop k all ≡ lines → list_all (begins tables all) (type_starts_from last k lines) ≡ true
unfolding type_starts_from
starts_from tables all last k [] here = refl
starts_from tables all last k (Record file indicator codes ∷ lines) here =
    both _ _ (type_begins tables all (file_slot last file) k (Record file indicator codes) lines here refl)
    (starts_from tables all (file_slot last file) (k + 1) lines (line_behind all k (Record file indicator codes) lines here))
starts_from tables all last k (AndCodes codes ∷ lines) here = starts_from tables all last (k + 1) lines (line_behind all k (AndCodes codes) lines here)
starts_from tables all last k (OrCodes indicator codes ∷ lines) here =
    both _ _ (type_begins tables all last k (OrCodes indicator codes) lines here refl) (starts_from tables all last (k + 1) lines (line_behind all k (OrCodes indicator codes) lines here))
starts_from tables all last k (InputField field ∷ lines) here = starts_from tables all last (k + 1) lines (line_behind all k (InputField field) lines here)

pub all_starts : (program : Program) → list_all (is_type_start program) (type_starts program.files.items program.inputs.items) ≡ true
all_starts program = starts_from (tables_in program) program.inputs.items (length program.files.items) 0 program.inputs.items refl

all_kept : {X : Type 0} (p q : X → Bool) (xs : List X) → list_all p xs ≡ true → list_all p (filter q xs) ≡ true
all_kept p q [] all = refl
all_kept p q (x ∷ xs) all =
    let parts = and_parts (p x) (list_all p xs) all in
    step (q x) refl parts.0 (all_kept p q xs parts.1)
  where
    step : (b : Bool) → q x ≡ b → p x ≡ true → list_all p (filter q xs) ≡ true → list_all p (filter q (x ∷ xs)) ≡ true
    step true is here later = rw is (both _ _ here later)
    step false is here later = rw is later

pub own_are_starts : (program : Program) (file : ℕ) → list_all (is_type_start program) (types_of_file (type_starts program.files.items program.inputs.items) file) ≡ true
own_are_starts program file = all_kept (is_type_start program) (is_type_of file) (type_starts program.files.items program.inputs.items) (all_starts program)

found_among : {X : Type 0} (p q : X → Bool) (xs : List X) → list_all q xs ≡ true → IfSome (find p xs) (λ x. IsTrue (q x))
found_among p q [] all = tt
found_among p q (x ∷ xs) all =
    let parts = and_parts (q x) (list_all q xs) all in
    by (p x) parts.0 (found_among p q xs parts.1)
  where
    by : (b : Bool) → q x ≡ true → IfSome (find p xs) (λ x. IsTrue (q x)) → IfSome (if b then Some x else find p xs) (λ x. IsTrue (q x))
    by true here later = here
    by false here later = later

pub type_starts_there : (program : Program) (file : ℕ) (bytes : List ℕ) (found : Option TypeStart)
    → found ≡ first_that_holds bytes program.inputs.items (types_of_file (type_starts program.files.items program.inputs.items) file) → IfSome found (λ start. IsTrue (is_type_start program start))
type_starts_there program file bytes found e =
    subst (λ (o : Option TypeStart). IfSome o (λ start. IsTrue (is_type_start program start))) (sym e)
    (found_among (λ start. type_holds bytes (drop start.place program.inputs.items)) (is_type_start program) (types_of_file (type_starts program.files.items program.inputs.items) file) (own_are_starts program file))
