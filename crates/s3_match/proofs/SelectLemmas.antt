-- Heads as they are kept, and as they are selected.
use Rattle.std.proofs.Common.{◌≡◌, ℕ, ◌<◌, ◌≤◌, ◌&&◌, ◌||◌, length, get_or, List, [], ◌∷◌, Bool, true, false, not, refl, sym, ◌∙◌, ap, zero, suc, arith}
use Rattle.std.specs.Prelude.{Option, Some, None, is_some, map, filter, filter_map, unwrap_or, if◌then◌else◌}
use Rattle.std.specs.Option.{option_and_then}
use Rattle.std.specs.List.{All, list_all, list_any, cons_option}
use Rattle.std.proofs.lemmas.Option.{slice_get_past, slice_get-get_or}
use Rattle.s3_lines.specs.declared.sheet.Designation.TheVariants.{Primary, Secondary}
use Rattle.s3_lines.specs.declared.sheet.FileLine.{FileLine}
use Rattle.s3_meaning.specs.Source.{is_designated}
use Rattle.s3_meaning.specs.Selection as meaning
use Rattle.s3_meaning.specs.Selection.{Selected, selectable, key_of, head_of, same_key, is_matched, has_met_end}
use Rattle.s3_program.specs.declared.program.Program.{Program}
use Rattle.s3_match.specs.declared.heads.InputFile.{InputFile}
use Rattle.s3_match.specs.declared.heads.Standing.{Standing}
use Rattle.s3_match.specs.declared.heads.Standing.TheVariants as at
use Rattle.s3_match.specs.declared.keys.RecordKey.{RecordKey}
use Rattle.s3_match.specs.Inner.Keys.{key_in}
use Rattle.s3_match.specs.Inner.Heads.{no_file, file_at, is_head_standing, has_head, standing_as, input_of, IsInput}
use Rattle.s3_match.specs.Inner.Selecting.{inputs_of, reading_of, selected_of, selected_at, is_secondary_with_key, delays_end}

-- ---- the line of a file
pub file_here : (program : Program) (file : ℕ) (d : FileLine) → file < length program.files.items → file_at program file ≡ get_or program.files.items file d
file_here program file d within = ap (λ (o : Option FileLine). unwrap_or o no_file) (slice_get-get_or program.files.items file d within)

pub file_past : (program : Program) (file : ℕ) → length program.files.items ≤ file → file_at program file ≡ no_file
file_past program file past = ap (λ (o : Option FileLine). unwrap_or o no_file) (slice_get_past program.files.items file past)

-- ---- a head as it can be selected
pub record Seen (program : Program) (input : InputFile) (standing : Standing) (selected : Option Selected) : Type 0 where
  pub head : is_head_standing standing ≡ is_some selected
  pub key : (s : Selected) → selected ≡ Some s → key_of s ≡ key_in input.key
  pub file : (s : Selected) → selected ≡ Some s → s.file ≡ file_at program input.file

same_some : {X : Type 0} (a b : X) → Some a ≡ Some b → a ≡ b
same_some a b e = cc

abbrev pub with_standing : Program → InputFile → Standing → meaning.InputFile
with_standing program input standing = record { file = file_at program input.file; standing = standing_as program input.reads input.bytes standing; reads = input.reads; last_key = key_in input.last_key }

seen_by : (program : Program) (input : InputFile) (standing : Standing) → IsInput program input → input.standing ≡ standing → Seen program input standing (selectable (with_standing program input standing))
seen_by program input at.Unread sound e = record { head = refl; key = λ s h. cc; file = λ s h. cc }
seen_by program input (at.Stands start) sound e = record {
  head = refl;
  key = λ s h. ap key_of (sym (same_some _ s h)) ∙ sym (sound.head start e).key;
  file = λ s h. ap (λ (x : Selected). x.file) (sym (same_some _ s h));
}
seen_by program input at.Ended sound e = record { head = refl; key = λ s h. cc; file = λ s h. cc }

pub seen : (program : Program) (input : InputFile) → IsInput program input → Seen program input input.standing (selected_of program input)
seen program input sound = seen_by program input input.standing sound refl

-- ---- MR
abbrev pub passes : {Y : Type 0} → (Y → Bool) → Option Y → Bool
passes p None = false
passes p (Some y) = p y

pub any_kept : {X Y : Type 0} (f : X → Option Y) (p : Y → Bool) (test : X → Bool) (xs : List X) → ((k : ℕ) (d : X) → k < length xs → test (get_or xs k d) ≡ passes p (f (get_or xs k d))) → list_any test xs ≡ list_any p (filter_map f xs)
any_kept f p test [] same = refl
any_kept {X} f p test (x ∷ xs) same =
    (λ i. same zero x (omega arith) i || any_kept f p test xs (λ k d within. same (suc k) d (omega (arith, within))) i) ∙ by (f x)
  where
    by : (o : Option _) → (passes p o || list_any p (filter_map f xs)) ≡ list_any p (cons_option o (filter_map f xs))
    by None = refl
    by (Some y) = refl

pub mapped : {X Y Z : Type 0} (f : X → Y) (g : Y → Option Z) (xs : List X) → filter_map (λ x. g (f x)) xs ≡ filter_map g (map f xs)
mapped f g [] = refl
mapped f g (x ∷ xs) = ap (cons_option (g (f x))) (mapped f g xs)

secondary_seen : (program : Program) (key : RecordKey) (input : InputFile) (selected : Selected) (o : Option Selected) → key_of selected ≡ key_in key → Seen program input input.standing o
    → is_secondary_with_key program key input ≡ passes (λ other. is_designated Secondary other.file && same_key (key_of other) (key_of selected)) o
secondary_seen program key input selected None own sees =
    ap (λ (b : Bool). is_designated Secondary (file_at program input.file) && (b && same_key (key_in input.key) (key_in key))) sees.head ∙ nothing (is_designated Secondary (file_at program input.file))
  where
    nothing : (b : Bool) → (b && false) ≡ false
    nothing true = refl
    nothing false = refl
secondary_seen program key input selected (Some s) own sees =
    ap (λ (b : Bool). is_designated Secondary (file_at program input.file) && (b && same_key (key_in input.key) (key_in key))) sees.head
    ∙ (λ i. is_designated Secondary (sym (sees.file s refl) i) && same_key (sym (sees.key s refl) i) (sym own i))

pub matches_secondary : (program : Program) (files : List InputFile) (key : RecordKey) (selected : Selected) → All (IsInput program) files → key_of selected ≡ key_in key
    → list_any (is_secondary_with_key program key) files ≡ list_any (λ other. is_designated Secondary other.file && same_key (key_of other) (key_of selected)) (filter_map selectable (inputs_of program files))
matches_secondary program files key selected sound own =
    any_kept (selected_of program) (λ other. is_designated Secondary other.file && same_key (key_of other) (key_of selected)) (is_secondary_with_key program key) files
    (λ k d within. secondary_seen program key (get_or files k d) selected (selected_of program (get_or files k d)) own (seen program (get_or files k d) (sound k d within)))
    ∙ ap (list_any (λ other. is_designated Secondary other.file && same_key (key_of other) (key_of selected))) (mapped (input_of program) selectable files)

-- the head at a place, with its key and its file
pub own_head : (program : Program) (files : List InputFile) (place : ℕ) (d : InputFile) (selected : Selected) → All (IsInput program) files → place < length files → selected_at program files place ≡ Some selected
    → selected_of program (get_or files place d) ≡ Some selected
own_head program files place d selected sound within e = sym (ap (option_and_then (selected_of program)) (slice_get-get_or files place d within)) ∙ e

pub primary_is_matched : (program : Program) (files : List InputFile) (primary_key : RecordKey) (place : ℕ) (d : InputFile) (selected : Selected) (matched : Bool)
    → All (IsInput program) files → place < length files → selected_at program files place ≡ Some selected
    → is_designated Primary (file_at program (get_or files place d).file) ≡ true → matched ≡ list_any (is_secondary_with_key program (get_or files place d).key) files
    → matched ≡ is_matched (reading_of program files primary_key) selected
primary_is_matched program files primary_key place d selected matched sound within e primary is =
    let sees = seen program (get_or files place d) (sound place d within) in
    let own = own_head program files place d selected sound within e in
    is ∙ matches_secondary program files (get_or files place d).key selected sound (sees.key selected own)
    ∙ ap (λ (b : Bool). if b then list_any (λ other. is_designated Secondary other.file && same_key (key_of other) (key_of selected)) (filter_map selectable (inputs_of program files)) else same_key (key_of selected) (key_in primary_key))
    (sym (ap (is_designated Primary) (sees.file selected own) ∙ primary))

pub other_is_matched : (program : Program) (files : List InputFile) (primary_key : RecordKey) (place : ℕ) (d : InputFile) (selected : Selected) (matched : Bool)
    → All (IsInput program) files → place < length files → selected_at program files place ≡ Some selected
    → is_designated Primary (file_at program (get_or files place d).file) ≡ false → matched ≡ same_key (key_in (get_or files place d).key) (key_in primary_key)
    → matched ≡ is_matched (reading_of program files primary_key) selected
other_is_matched program files primary_key place d selected matched sound within e other is =
    let sees = seen program (get_or files place d) (sound place d within) in
    let own = own_head program files place d selected sound within e in
    is ∙ ap (λ (key : Option (List ℕ)). same_key key (key_in primary_key)) (sym (sees.key selected own))
    ∙ ap (λ (b : Bool). if b then list_any (λ other. is_designated Secondary other.file && same_key (key_of other) (key_of selected)) (filter_map selectable (inputs_of program files)) else same_key (key_of selected) (key_in primary_key))
    (sym (ap (is_designated Primary) (sees.file selected own) ∙ other))

-- one without match fields
no_key_is : (key : Option (List ℕ)) → same_key key None ≡ false
no_key_is None = refl
no_key_is (Some bytes) = refl

none_has_none : (heads : List Selected) → list_any (λ other. is_designated Secondary other.file && same_key (key_of other) None) heads ≡ false
none_has_none [] = refl
none_has_none (other ∷ heads) =
    (λ i. (is_designated Secondary other.file && no_key_is (key_of other) i) || none_has_none heads i) ∙ nothing (is_designated Secondary other.file)
  where
    nothing : (b : Bool) → (b && false || false) ≡ false
    nothing true = refl
    nothing false = refl

abbrev matched_by : List Selected → Option (List ℕ) → Option (List ℕ) → Bool → Bool
matched_by heads primary_key key primary =
    if primary then list_any (λ other. is_designated Secondary other.file && same_key (key_of other) key) heads else same_key key primary_key

keyless_by : (heads : List Selected) (primary_key : Option (List ℕ)) (primary : Bool) → matched_by heads primary_key None primary ≡ false
keyless_by heads primary_key true = none_has_none heads
keyless_by heads primary_key false = refl

pub keyless_is_not_matched : (program : Program) (files : List InputFile) (primary_key : RecordKey) (place : ℕ) (d : InputFile) (selected : Selected)
    → All (IsInput program) files → place < length files → selected_at program files place ≡ Some selected → (get_or files place d).key.is_given ≡ false
    → false ≡ is_matched (reading_of program files primary_key) selected
keyless_is_not_matched program files primary_key place d selected sound within e none =
    let sees = seen program (get_or files place d) (sound place d within) in
    let own = own_head program files place d selected sound within e in
    let heads : List Selected = filter_map selectable (inputs_of program files) in
    sym (keyless_by heads (key_in primary_key) (is_designated Primary selected.file))
    ∙ ap (λ (key : Option (List ℕ)). matched_by heads (key_in primary_key) key (is_designated Primary selected.file)) (sym (sees.key selected own ∙ no_key (get_or files place d).key none))
  where
    no_key : (key : RecordKey) → key.is_given ≡ false → key_in key ≡ None
    no_key key none = rw none refl

-- ---- the end of the job
pub head_seen : (program : Program) (input : InputFile) → has_head input ≡ is_some (head_of (input_of program input))
head_seen program input = on input.standing
  where
    on : (standing : Standing) → is_head_standing standing ≡ is_some (head_of (with_standing program input standing))
    on at.Unread = refl
    on (at.Stands start) = refl
    on at.Ended = refl

-- one file more, by whether it has a head and counts
one_delays : (head : Bool) (counts : Bool) (input : meaning.InputFile) (inputs : List meaning.InputFile) (rest : Bool)
    → is_some (head_of input) ≡ head → input.file.ends_job ≡ counts
    → not rest ≡ list_all (λ input. not (is_some (head_of input))) (filter (λ input. input.file.ends_job) inputs)
    → not (head && counts || rest) ≡ list_all (λ input. not (is_some (head_of input))) (filter (λ input. input.file.ends_job) (input ∷ inputs))
one_delays true true input inputs rest has ends later = rw ends (rw has refl)
one_delays true false input inputs rest has ends later = rw ends later
one_delays false true input inputs rest has ends later = rw ends (rw has later)
one_delays false false input inputs rest has ends later = rw ends later

counting_delay : (program : Program) (files : List InputFile)
    → not (list_any (delays_end program true) files) ≡ list_all (λ input. not (is_some (head_of input))) (filter (λ input. input.file.ends_job) (inputs_of program files))
counting_delay program [] = refl
counting_delay program (input ∷ files) =
    ap (λ (b : Bool). not (b && (file_at program input.file).ends_job || list_any (delays_end program true) files)) (head_seen program input)
    ∙ one_delays (is_some (head_of (input_of program input))) (file_at program input.file).ends_job (input_of program input) (inputs_of program files) (list_any (delays_end program true) files) refl refl (counting_delay program files)

all_delay : (program : Program) (files : List InputFile) → not (list_any (delays_end program false) files) ≡ list_all (λ input. not (is_some (head_of input))) (inputs_of program files)
all_delay program [] = refl
all_delay program (input ∷ files) =
    ap (λ (b : Bool). not (b && true || list_any (delays_end program false) files)) (head_seen program input)
    ∙ by (is_some (head_of (input_of program input))) (all_delay program files)
  where
    by : (b : Bool) → not (list_any (delays_end program false) files) ≡ list_all (λ input. not (is_some (head_of input))) (inputs_of program files)
        → not (b && true || list_any (delays_end program false) files) ≡ (not b && list_all (λ input. not (is_some (head_of input))) (inputs_of program files))
    by true later = refl
    by false later = later

some_ends : (program : Program) (files : List InputFile) → list_any (λ input. (file_at program input.file).ends_job) files ≡ list_any (λ input. input.file.ends_job) (inputs_of program files)
some_ends program [] = refl
some_ends program (input ∷ files) = ap (λ (b : Bool). (file_at program input.file).ends_job || b) (some_ends program files)

pub met_end : (program : Program) (files : List InputFile) (some_end delayed : Bool) → some_end ≡ list_any (λ input. (file_at program input.file).ends_job) files → delayed ≡ list_any (delays_end program some_end) files
    → not delayed ≡ has_met_end (inputs_of program files)
met_end program files true delayed some is =
    ap not is ∙ counting_delay program files
    ∙ ap (λ (b : Bool). list_all (λ input. not (is_some (head_of input))) (if b then filter (λ input. input.file.ends_job) (inputs_of program files) else inputs_of program files)) (some ∙ some_ends program files)
met_end program files false delayed some is =
    ap not is ∙ all_delay program files
    ∙ ap (λ (b : Bool). list_all (λ input. not (is_some (head_of input))) (if b then filter (λ input. input.file.ends_job) (inputs_of program files) else inputs_of program files)) (some ∙ some_ends program files)
