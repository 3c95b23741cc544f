-- Which head is processed next.
use Rattle.std.proofs.Common.{◌≡◌, ℕ, ◌+◌, ◌<◌, ◌≤◌, ◌++◌, ◌&&◌, length, drop, get_or, List, [], ◌∷◌, Bool, true, false, not, refl, sym, ◌∙◌, ap, subst, arith}
use Rattle.std.specs.Prelude.{Option, Some, None, IfSome, is_some, find, filter, option_map, slice_get, unwrap_or, if◌then◌else◌}
use Rattle.std.specs.Option.{option_and_then, option_or}
use Rattle.std.specs.List.{All, list_any, cons_option}
use Rattle.std.proofs.lemmas.Bool.{and_parts, true≢false}
use Rattle.std.proofs.lemmas.List.{at_drop_more, at_drop_all}
use Rattle.std.proofs.lemmas.Option.{slice_get-get_or}
use Rattle.s3_meaning.specs.Selection as meaning
use Rattle.s3_meaning.specs.Selection.{Selected, selectable, key_of, head_of, is_less, same_key, lesser, least, primary_first, has_met_end}
use Rattle.s3_program.specs.declared.program.Program.{Program}
use Rattle.s3_match.specs.declared.choice.Group.{Group}
use Rattle.s3_match.specs.declared.choice.Group.TheVariants as group
use Rattle.s3_match.specs.declared.heads.InputFile.{InputFile}
use Rattle.s3_match.specs.declared.heads.Standing.{Standing}
use Rattle.s3_match.specs.declared.heads.Standing.TheVariants as at
use Rattle.s3_match.specs.declared.keys.RecordKey.{RecordKey}
use Rattle.s3_match.specs.Inner.Keys.{key_in}
use Rattle.s3_match.specs.Inner.Heads.{file_at, is_head_standing, has_head, input_of, IsInput}
use Rattle.s3_match.specs.Inner.Selecting.{inputs_of, reading_of, selected_of, selected_at}
use Rattle.s3_match.specs.Inner.Choice.{heads, standing_at, has_head_at, IsHeadAt, is_keyless, is_keyless_alone, in_group, is_in, least_onto}
use Rattle.s3_match.proofs.ControlLemmas.{given}
use Rattle.s3_match.proofs.SelectLemmas.{Seen, seen, head_seen, with_standing, passes, any_kept, mapped}

-- ---- the head at a place
selected_here : (program : Program) (files : List InputFile) (k : ℕ) (d : InputFile) → k < length files → selected_at program files k ≡ selected_of program (get_or files k d)
selected_here program files k d within = ap (option_and_then (selected_of program)) (slice_get-get_or files k d within)

head_here : (files : List InputFile) (k : ℕ) (d : InputFile) → k < length files → has_head_at files k ≡ has_head (get_or files k d)
head_here files k d within = ap (λ (o : Option InputFile). unwrap_or (option_map has_head o) false) (slice_get-get_or files k d within)

head_shows : (program : Program) (input : InputFile) → has_head input ≡ is_some (selected_of program input)
head_shows program input = on input.standing
  where
    on : (standing : Standing) → is_head_standing standing ≡ is_some (selectable (with_standing program input standing))
    on at.Unread = refl
    on (at.Stands start) = refl
    on at.Ended = refl

pub stands_at : (files : List InputFile) (k : ℕ) (d : InputFile) (counts : Bool) → k < length files → (has_head (get_or files k d) && counts) ≡ true → IsHeadAt files k
stands_at files k d counts within h = record { within = within; head = head_here files k d within ∙ (and_parts (has_head (get_or files k d)) counts h).0 }

-- ---- the lower of two heads
-- whether the other head is lower, by their keys as they are kept
lower_is : (program : Program) (input : InputFile) (selected : Selected) (here : InputFile) (o : Option Selected) (b : Bool)
    → has_head input ≡ true → key_of selected ≡ key_in here.key → Seen program input input.standing o → is_less (key_in input.key) (key_in here.key) ≡ b
    → Some (lesser selected o) ≡ (if b then o else Some selected)
lower_is program input selected here None b head own sees is = absurd (true≢false (sym head ∙ sees.head))
lower_is program input selected here (Some other) b head own sees is =
    ap (λ (b : Bool). Some (if b then other else selected)) ((λ i. is_less (sees.key other refl i) (own i)) ∙ is) ∙ outside b
  where
    outside : (b : Bool) → Some (if b then other else selected) ≡ (if b then Some other else Some selected)
    outside true = refl
    outside false = refl

pub lower_of_two : (program : Program) (files : List InputFile) (place other : ℕ) (d e : InputFile) (selected : Selected) (b : Bool) → All (IsInput program) files → IsHeadAt files place → IsHeadAt files other
    → selected_at program files place ≡ Some selected → is_less (key_in (get_or files other e).key) (key_in (get_or files place d).key) ≡ b
    → Some (lesser selected (selected_at program files other)) ≡ (if b then selected_at program files other else Some selected)
lower_of_two program files place other d e selected b sound here there own is =
    let own_seen = seen program (get_or files place d) (sound place d here.within) in
    let at_other = selected_here program files other e there.within in
    subst (λ (o : Option Selected). Some (lesser selected o) ≡ (if b then o else Some selected)) (sym at_other)
    (lower_is program (get_or files other e) selected (get_or files place d) (selected_of program (get_or files other e)) b (sym (head_here files other e there.within) ∙ there.head)
    (own_seen.key selected (sym (selected_here program files place d here.within) ∙ own)) (seen program (get_or files other e) (sound other e there.within)) is)

-- ---- groups
abbrev pub picks : Group → Option (List ℕ) → Selected → Bool
picks group last selected = in_group group last selected.file (key_of selected)

picked : (program : Program) (group : Group) (last : Option (List ℕ)) (input : InputFile) (o : Option Selected) → Seen program input input.standing o → is_in program group last input ≡ passes (picks group last) o
picked program group last input None sees = ap (λ (b : Bool). b && in_group group last (file_at program input.file) (key_in input.key)) sees.head
picked program group last input (Some s) sees =
    ap (λ (b : Bool). b && in_group group last (file_at program input.file) (key_in input.key)) sees.head
    ∙ (λ i. in_group group last (sym (sees.file s refl) i) (sym (sees.key s refl) i))

pub some_is_in : (program : Program) (files : List InputFile) (group : Group) (last : Option (List ℕ)) → All (IsInput program) files → list_any (is_in program group last) files ≡ list_any (picks group last) (heads program files)
some_is_in program files group last sound =
    any_kept (selected_of program) (picks group last) (is_in program group last) files
    (λ k d within. picked program group last (get_or files k d) (selected_of program (get_or files k d)) (seen program (get_or files k d) (sound k d within)))

-- the least of the remaining heads and of one after them
abbrev pub least_in : Program → Group → (last : Option (List ℕ)) → (behind : Option Selected) → List InputFile → Option Selected
least_in program group last behind files = least_onto (filter (picks group last) (heads program files)) behind

pub none_left : (program : Program) (files : List InputFile) (group : Group) (last : Option (List ℕ)) (behind : Option Selected) (k : ℕ) → length files ≤ k → behind ≡ least_in program group last behind (drop k files)
none_left program files group last behind k past = sym (at_drop_all (least_in program group last behind) files k past)

one_more : (p : Selected → Bool) (behind : Option Selected) (rest : List Selected) (o least lower : Option Selected) → passes p o ≡ true → least ≡ least_onto (filter p rest) behind
    → ((s : Selected) → o ≡ Some s → lower ≡ Some (lesser s least)) → lower ≡ least_onto (filter p (cons_option o rest)) behind
one_more p behind rest None least lower is before lowers = absurd (true≢false (sym is))
one_more p behind rest (Some s) least lower is before lowers =
    lowers s refl ∙ ap (λ (o : Option Selected). Some (lesser s o)) before
    ∙ sym (ap (λ (b : Bool). least_onto (if b then s ∷ filter p rest else filter p rest) behind) is)

one_less : (p : Selected → Bool) (behind : Option Selected) (rest : List Selected) (o least : Option Selected) → passes p o ≡ false → least ≡ least_onto (filter p rest) behind
    → least ≡ least_onto (filter p (cons_option o rest)) behind
one_less p behind rest None least is before = before
one_less p behind rest (Some s) least is before = before ∙ sym (ap (λ (b : Bool). least_onto (if b then s ∷ filter p rest else filter p rest) behind) is)

pub takes_head : (program : Program) (files : List InputFile) (group : Group) (last : Option (List ℕ)) (behind least : Option Selected) (lower : ℕ) (k m n : ℕ) (d : InputFile)
    → All (IsInput program) files → k < length files → m ≡ k → n ≡ k + 1 → is_in program group last (get_or files k d) ≡ true → least ≡ least_in program group last behind (drop n files)
    → ((s : Selected) → selected_at program files k ≡ Some s → selected_at program files lower ≡ Some (lesser s least))
    → selected_at program files lower ≡ least_in program group last behind (drop m files)
takes_head program files group last behind least lower k m n d sound within same next is before lowers =
    one_more (picks group last) behind (heads program (drop (k + 1) files)) (selected_of program (get_or files k d)) least (selected_at program files lower)
    (sym (picked program group last (get_or files k d) (selected_of program (get_or files k d)) (seen program (get_or files k d) (sound k d within))) ∙ is)
    (before ∙ ap (λ (m : ℕ). least_in program group last behind (drop m files)) next)
    (λ s e. lowers s (selected_here program files k d within ∙ e))
    ∙ sym (at_drop_more (least_in program group last behind) files k d within) ∙ ap (λ (m : ℕ). least_in program group last behind (drop m files)) (sym same)

pub passes_head : (program : Program) (files : List InputFile) (group : Group) (last : Option (List ℕ)) (behind least : Option Selected) (k m n : ℕ) (d : InputFile)
    → All (IsInput program) files → k < length files → m ≡ k → n ≡ k + 1 → is_in program group last (get_or files k d) ≡ false → least ≡ least_in program group last behind (drop n files)
    → least ≡ least_in program group last behind (drop m files)
passes_head program files group last behind least k m n d sound within same next is before =
    one_less (picks group last) behind (heads program (drop (k + 1) files)) (selected_of program (get_or files k d)) least
    (sym (picked program group last (get_or files k d) (selected_of program (get_or files k d)) (seen program (get_or files k d) (sound k d within))) ∙ is)
    (before ∙ ap (λ (m : ℕ). least_in program group last behind (drop m files)) next)
    ∙ sym (at_drop_more (least_in program group last behind) files k d within) ∙ ap (λ (m : ℕ). least_in program group last behind (drop m files)) (sym same)

-- ---- the first head without a key
abbrev pub without_key : Selected → Bool
without_key selected = not (is_some (key_of selected))

keyless_seen : (program : Program) (input : InputFile) (o : Option Selected) → Seen program input input.standing o → is_keyless input ≡ passes without_key o
keyless_seen program input None sees = ap (λ (b : Bool). b && not input.key.is_given) sees.head
keyless_seen program input (Some s) sees =
    ap (λ (b : Bool). b && not input.key.is_given) sees.head ∙ ap not (sym (given input.key) ∙ ap is_some (sym (sees.key s refl)))

found_first : (p : Selected → Bool) (o : Option Selected) (rest : List Selected) → passes p o ≡ true → o ≡ find p (cons_option o rest)
found_first p None rest is = absurd (true≢false (sym is))
found_first p (Some s) rest is = sym (ap (λ (b : Bool). if b then Some s else find p rest) is)

found_later : (p : Selected → Bool) (o : Option Selected) (rest : List Selected) → passes p o ≡ false → find p (cons_option o rest) ≡ find p rest
found_later p None rest is = refl
found_later p (Some s) rest is = ap (λ (b : Bool). if b then Some s else find p rest) is

abbrev pub keyless_in : Program → List InputFile → Option Selected
keyless_in program files = find without_key (heads program files)

pub keyless_here : (program : Program) (files : List InputFile) (k : ℕ) (d : InputFile) → All (IsInput program) files → k < length files → is_keyless (get_or files k d) ≡ true
    → keyless_in program files ≡ keyless_in program (drop k files) → selected_at program files k ≡ keyless_in program files
keyless_here program files k d sound within is before =
    selected_here program files k d within
    ∙ found_first without_key (selected_of program (get_or files k d)) (heads program (drop (k + 1) files))
    (sym (keyless_seen program (get_or files k d) (selected_of program (get_or files k d)) (seen program (get_or files k d) (sound k d within))) ∙ is)
    ∙ sym (at_drop_more (keyless_in program) files k d within) ∙ sym before

pub keyless_later : (program : Program) (files : List InputFile) (k : ℕ) (d : InputFile) → All (IsInput program) files → k < length files → is_keyless (get_or files k d) ≡ false
    → keyless_in program files ≡ keyless_in program (drop k files) → keyless_in program files ≡ keyless_in program (drop (k + 1) files)
keyless_later program files k d sound within is before =
    before ∙ at_drop_more (keyless_in program) files k d within
    ∙ found_later without_key (selected_of program (get_or files k d)) (heads program (drop (k + 1) files))
    (sym (keyless_seen program (get_or files k d) (selected_of program (get_or files k d)) (seen program (get_or files k d) (sound k d within))) ∙ is)

pub keyless_nowhere : (program : Program) (files : List InputFile) (k : ℕ) → length files ≤ k → keyless_in program files ≡ keyless_in program (drop k files) → None ≡ keyless_in program files
keyless_nowhere program files k past before = sym (before ∙ at_drop_all (keyless_in program) files k past)

-- ---- least, in two steps
onto_none : (xs : List Selected) → least_onto xs None ≡ least xs
onto_none [] = refl
onto_none (x ∷ xs) = ap (λ (o : Option Selected). Some (lesser x o)) (onto_none xs)

onto_least : (xs ys : List Selected) → least_onto xs (least ys) ≡ least (xs ++ ys)
onto_least [] ys = refl
onto_least (x ∷ xs) ys = ap (λ (o : Option Selected). Some (lesser x o)) (onto_least xs ys)

pub primary_then_secondary : (program : Program) (files : List InputFile) (last : Option (List ℕ)) (secondary both : Option Selected) → secondary ≡ least_in program group.Secondary last None files
    → both ≡ least_in program group.Primary last secondary files → both ≡ least (primary_first (heads program files))
primary_then_secondary program files last secondary both one two =
    two ∙ ap (λ (o : Option Selected). least_in program group.Primary last o files) (one ∙ onto_none (filter (picks group.Secondary last) (heads program files)))
    ∙ onto_least (filter (picks group.Primary last) (heads program files)) (filter (picks group.Secondary last) (heads program files))

-- ---- at the end of the job
pub primary_stands : (program : Program) (files : List InputFile) (last : Option (List ℕ)) (some : Bool) → All (IsInput program) files → some ≡ list_any (is_in program group.Primary last) files → some ≡ true
    → None ≡ meaning.select_at_end (heads program files) last
primary_stands program files last some sound is on =
    sym (ap (λ (b : Bool). if b then None else least (filter (λ selected. same_key (key_of selected) last) (heads program files))) (sym (some_is_in program files group.Primary last sound) ∙ sym is ∙ on))

pub no_primary_stands : (program : Program) (files : List InputFile) (last : Option (List ℕ)) (some : Bool) (matched : Option Selected) → All (IsInput program) files → some ≡ list_any (is_in program group.Primary last) files → some ≡ false
    → matched ≡ least_in program group.Matched last None files → matched ≡ meaning.select_at_end (heads program files) last
no_primary_stands program files last some matched sound is off found =
    found ∙ onto_none (filter (picks group.Matched last) (heads program files))
    ∙ sym (ap (λ (b : Bool). if b then None else least (filter (λ selected. same_key (key_of selected) last) (heads program files))) (sym (some_is_in program files group.Primary last sound) ∙ sym is ∙ off))

-- ---- selection
abbrev chosen : List Selected → Option (List ℕ) → Bool → Option Selected
chosen heads last met = if met then meaning.select_at_end heads last else option_or (find without_key heads) (least (primary_first heads))

chosen_is : (program : Program) (files : List InputFile) (key : RecordKey) (met : Bool) → met ≡ has_met_end (inputs_of program files) → chosen (heads program files) (key_in key) met ≡ meaning.select (reading_of program files key)
chosen_is program files key met is = (λ i. chosen (mapped (input_of program) selectable files i) (key_in key) (is i))

pub selects_at_end : (program : Program) (files : List InputFile) (key : RecordKey) (met : Bool) (selected : Option Selected) → met ≡ has_met_end (inputs_of program files) → met ≡ true
    → selected ≡ meaning.select_at_end (heads program files) (key_in key) → selected ≡ meaning.select (reading_of program files key)
selects_at_end program files key met selected is on found = found ∙ sym (ap (chosen (heads program files) (key_in key)) on) ∙ chosen_is program files key met is

selects_on : (program : Program) (files : List InputFile) (key : RecordKey) (met : Bool) → met ≡ has_met_end (inputs_of program files) → met ≡ false
    → option_or (keyless_in program files) (least (primary_first (heads program files))) ≡ meaning.select (reading_of program files key)
selects_on program files key met is off = sym (ap (chosen (heads program files) (key_in key)) off) ∙ chosen_is program files key met is

pub selects_keyless : (program : Program) (files : List InputFile) (key : RecordKey) (met : Bool) (first : Option ℕ) → met ≡ has_met_end (inputs_of program files) → met ≡ false
    → IfSome first (IsHeadAt files) → All (IsInput program) files
    → standing_at program files first ≡ keyless_in program files → is_some first ≡ true → standing_at program files first ≡ meaning.select (reading_of program files key)
selects_keyless program files key met None is off stands sound found some = absurd (true≢false (sym some))
selects_keyless program files key met (Some k) is off stands sound found some =
    there (selected_at program files k) is_there ∙ ap (λ (o : Option Selected). option_or o (least (primary_first (heads program files)))) found ∙ selects_on program files key met is off
  where
    there : (o : Option Selected) → is_some o ≡ true → o ≡ option_or o (least (primary_first (heads program files)))
    there None h = absurd (true≢false (sym h))
    there (Some s) h = refl

    at_input : (o : Option InputFile) → unwrap_or (option_map has_head o) false ≡ true → is_some (option_and_then (selected_of program) o) ≡ true
    at_input None h = absurd (true≢false (sym h))
    at_input (Some input) h = sym (head_shows program input) ∙ h

    is_there : is_some (selected_at program files k) ≡ true
    is_there = at_input (slice_get files k) stands.head

-- ---- one file alone, with a record without match fields at its head
lone_goes_on : (input : meaning.InputFile) (ends : Bool) → input.file.ends_job ≡ ends → is_some (head_of input) ≡ true → has_met_end (input ∷ []) ≡ false
lone_goes_on input true is head = rw is (rw head refl)
lone_goes_on input false is head = rw is (rw head refl)

pub alone_stands : (files : List InputFile) → is_keyless_alone files ≡ true → IsHeadAt files 0
alone_stands [] alone = absurd (true≢false (sym alone))
alone_stands (input ∷ []) alone = stands_at (input ∷ []) 0 input (not input.key.is_given) (omega arith) alone
alone_stands (input ∷ other ∷ files) alone = absurd (true≢false (sym alone))

pub selects_alone : (program : Program) (files : List InputFile) (key : RecordKey) → All (IsInput program) files → is_keyless_alone files ≡ true → selected_at program files 0 ≡ meaning.select (reading_of program files key)
selects_alone program [] key sound alone = absurd (true≢false (sym alone))
selects_alone program (input ∷ []) key sound alone =
    let head = (and_parts (has_head input) (not input.key.is_given) alone).0 in
    selects_keyless program (input ∷ []) key false (Some 0)
    (sym (lone_goes_on (input_of program input) (file_at program input.file).ends_job refl (sym (head_seen program input) ∙ head))) refl
    (alone_stands (input ∷ []) alone) sound (keyless_here program (input ∷ []) 0 input sound (omega arith) alone refl) refl
selects_alone program (input ∷ other ∷ files) key sound alone = absurd (true≢false (sym alone))

pub alone_is : (files : List InputFile) (d : InputFile) → length files ≡ 1 → is_keyless (get_or files 0 d) ≡ is_keyless_alone files
alone_is [] d one = absurd (omega (arith, one))
alone_is (input ∷ []) d one = refl
alone_is (input ∷ other ∷ files) d one = absurd (omega (arith, one))

pub selects_by_key : (program : Program) (files : List InputFile) (key : RecordKey) (met : Bool) (first : Option ℕ) (selected : Option Selected) → met ≡ has_met_end (inputs_of program files) → met ≡ false
    → standing_at program files first ≡ keyless_in program files → is_some first ≡ false → selected ≡ least (primary_first (heads program files)) → selected ≡ meaning.select (reading_of program files key)
selects_by_key program files key met None selected is off found none least_is =
    least_is ∙ ap (λ (o : Option Selected). option_or o (least (primary_first (heads program files)))) found ∙ selects_on program files key met is off
selects_by_key program files key met (Some k) selected is off found none least_is = absurd (true≢false none)
