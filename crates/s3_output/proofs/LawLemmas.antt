-- The lines that start at the places of a program, and their files.
use Rattle.std.proofs.Common.{◌≡◌, ℕ, List, [], ◌∷◌, Bool, true, false, not, ◌||◌, map, refl, sym, ◌∙◌, ap, subst, zero, suc}
use Rattle.std.specs.Prelude.{Option, Some, None, slice_get, unwrap_or, option_map, find, is_some, drop, ◌+◌, filter, filter_map, if◌then◌else◌}
use Rattle.std.specs.List.{list_any, cons_option}
use Rattle.std.specs.Map.{keys_of}
use Rattle.std.proofs.lemmas.Bool.{and_parts, true≢false}
use Rattle.std.proofs.lemmas.Option.{slice_get-map}
use Rattle.s3_cards.specs.declared.name.Name.{Name}
use Rattle.s3_cards.specs.Names.{same_name, no_name}
use Rattle.s3_cards.proofs.NameLemmas.{same_name-self}
use Rattle.s3_lines.specs.declared.sheet.FileLine.{FileLine}
use Rattle.s3_lines.specs.declared.sheet.OutputLine.{OutputLine}
use Rattle.s3_lines.specs.declared.sheet.OutputLine.TheVariants.{Line as LineCard, And as AndCard, Or as OrCard, Field as FieldCard}
use Rattle.s3_meaning.specs.Source.{file_named}
use Rattle.s3_meaning.specs.OutputLines.{Output, output_from}
use Rattle.s3_program.specs.declared.program.Program.{Program}
use Rattle.s3_program.specs.declared.program.Reference.{Reference}
use Rattle.s3_program.specs.declared.starts.OutputStart.{OutputStart}
use Rattle.s3_program.specs.declared.starts.Walk.{Walk}
use Rattle.s3_program.specs.Inner.Starts.{output_starts, walked, is_walked}
use Rattle.s3_program.specs.Lines.{map_card}
use Rattle.s3_program.proofs.StartedLemmas.{outputs_stand}
use Rattle.s3_program.specs.Inner.Distinct.{are_distinct}
use Rattle.s3_program.specs.Inner.Started.{output_at, output_on}
use Rattle.s3_program.specs.Inner.Stands.{parts_of, source_named}
use Rattle.s3_program.specs.Inner.Tables.{name_of, name_in}
use Rattle.s3_program.specs.FileEntries.{file_entry}
use Rattle.s3_program.specs.Inner.Valid.{named, named_output}
use Rattle.s3_program.proofs.SlotLemmas.{Kept, kept}
use Rattle.s3_operations.specs.Inner.Fits.{tables}
use Rattle.s3_output.specs.Inner.Lines.{IsLineAt, IsStart, file_of}
use Rattle.s3_output.proofs.StartLemmas.{StartsAt, starts_at}

pub line_starts : (p : Program) (start : OutputStart) → IsStart p start → is_some (output_at (tables p) p.outputs.items start) ≡ true
line_starts p start is = ap (λ cards. is_some (output_on (tables p) start cards)) (starts_at p start is).there

some_same : {X : Type 0} (x y : X) → Some x ≡ Some y → x ≡ y
some_same x y h = ap (λ o. unwrap_or o x) h

opposite : (b : Bool) → not b ≡ true → b ≡ false
opposite true h = sym h
opposite false h = refl

not_named : (files : List FileLine) (k : ℕ) (file : FileLine) (name : Name) → slice_get files k ≡ Some file → list_any (same_name name) (keys_of (map file_entry files)) ≡ false → same_name name file.name ≡ false
not_named [] k file name there none = cc
not_named (f ∷ fs) zero file name there none = ap (λ (g : FileLine). same_name name g.name) (sym (some_same f file there)) ∙ first (same_name name f.name) (list_any (same_name name) (keys_of (map file_entry fs))) none
  where
    first : (a b : Bool) → (a || b) ≡ false → a ≡ false
    first true b h = h
    first false b h = refl
not_named (f ∷ fs) (suc k) file name there none = not_named fs k file name there (second (same_name name f.name) (list_any (same_name name) (keys_of (map file_entry fs))) none)
  where
    second : (a b : Bool) → (a || b) ≡ false → b ≡ false
    second true b h = absurd (true≢false h)
    second false b h = h

found_named : (files : List FileLine) (k : ℕ) (file : FileLine) → are_distinct (keys_of (map file_entry files)) ≡ true → slice_get files k ≡ Some file
    → find (λ f. same_name f.name file.name) files ≡ Some file
found_named [] k file distinct there = cc
found_named (f ∷ fs) zero file distinct there = let same : f ≡ file = some_same f file there in subst (λ (g : FileLine). find (λ h. same_name h.name g.name) (f ∷ fs) ≡ Some g) same (rw (same_name-self f.name) refl)
found_named (f ∷ fs) (suc k) file distinct there =
    let parts = and_parts (not (list_any (same_name f.name) (keys_of (map file_entry fs)))) (are_distinct (keys_of (map file_entry fs))) distinct in
    let apart : same_name f.name file.name ≡ false = not_named fs k file f.name there (opposite _ parts.0) in
    rw apart (found_named fs k file parts.1 there)

line_named : (p : Program) (start : OutputStart) (cards : List (OutputLine Reference)) (line : Output) → output_on (tables p) start cards ≡ Some line → line.file ≡ name_in (tables p).files start.file
line_named p start [] line is = cc
line_named p start (LineCard card ∷ cards) line is = ap (λ (o : Option Output). file_in o) (sym is)
  where
    file_in : Option Output → Name
    file_in (Some l) = l.file
    file_in None = no_name
line_named p start (AndCard conditions ∷ cards) line is = cc
line_named p start (OrCard conditions ∷ cards) line is = cc
line_named p start (FieldCard field ∷ cards) line is = cc

files_of : (p : Program) (name : Name) → file_named (source_named p) name ≡ find (λ f. same_name f.name name) p.files.items
unfolding named
files_of p name = refl

pub file_there : (p : Program) (start : OutputStart) (line : Output) (file : FileLine) → IsLineAt p start line → file_of p start ≡ Some file → file_named (source_named p) line.file ≡ Some file
file_there p start line file line_is there =
    let k : Kept (parts_of p) = kept (parts_of p) p.valid in
    let named_file : name_in (tables p).files start.file ≡ file.name =
    ap (λ o. unwrap_or (option_map (λ (e : Name × FileLine). e.0) o) no_name) (slice_get-map file_entry p.files.items start.file ∙ ap (option_map file_entry) there) in
    ap (file_named (source_named p)) (line_named p start _ line line_is ∙ named_file)
    ∙ (files_of p file.name ∙ found_named p.files.items start.file file k.files_distinct there)

-- ---- lines of one walk
line_kind : (p : Program) (start : OutputStart) (line : Output) → IsStart p start → IsLineAt p start line → line.kind ≡ start.kind
line_kind p start line is line_is =
    let s : StartsAt p start = starts_at p start is in
    let made : Output = output_from (name_in (tables p).files start.file) (map_card (name_of (tables p)) s.card) (map (named_output (tables p)) (drop (start.place + 1) p.outputs.items)) in
    ap (λ (l : Output). l.kind) (sym (some_same made line (sym (ap (output_on (tables p) start) s.there) ∙ line_is))) ∙ s.kind_is

filtered : {X Y : Type 0} (f : X → Option Y) (one : X → Bool) (two : Y → Bool) (xs : List X) → ((k : ℕ) (x : X) (y : Y) → slice_get xs k ≡ Some x → f x ≡ Some y → two y ≡ one x)
    → filter_map f (filter one xs) ≡ filter two (filter_map f xs)
filtered f one two [] same = refl
filtered f one two (x ∷ xs) same = by (one x) (f x) refl (λ y is. same 0 x y refl is) (filtered f one two xs (λ k. same (suc k)))
  where
    by : (b : Bool) (o : Option _) → f x ≡ o → ((y : _) → f x ≡ Some y → two y ≡ b) → filter_map f (filter one xs) ≡ filter two (filter_map f xs)
        → filter_map f (if b then x ∷ filter one xs else filter one xs) ≡ filter two (cons_option (f x) (filter_map f xs))
    by true None is kind rest = rw is rest
    by true (Some y) is kind rest = rw (is, kind y is) (ap (λ ys. y ∷ ys) rest)
    by false None is kind rest = rw is rest
    by false (Some y) is kind rest = rw (is, kind y is) rest

pub walk_lines : (p : Program) (walk : Walk) → filter_map (output_at (tables p) p.outputs.items) (walked walk p.files.items p.outputs.items)
    ≡ filter (λ (line : Output). is_walked walk line.kind) (source_named p).outputs
walk_lines p walk =
    filtered (output_at (tables p) p.outputs.items) (λ (s : OutputStart). is_walked walk s.kind) (λ (line : Output). is_walked walk line.kind) (output_starts p.files.items p.outputs.items)
    (λ k start line there line_is. ap (is_walked walk) (line_kind p start line (record { number = k; there = there }) line_is))
    ∙ ap (filter (λ (line : Output). is_walked walk line.kind)) (outputs_stand p)

kept_start : {X : Type 0} (test : X → Bool) (xs : List X) (k : ℕ) (x : X) → slice_get (filter test xs) k ≡ Some x → (j : ℕ) × (slice_get xs j ≡ Some x)
kept_start test [] k x there = cc
kept_start test (y ∷ ys) k x there = by (test y) k there (λ j. kept_start test ys j x)
  where
    by : (b : Bool) (k : ℕ) → slice_get (if b then y ∷ filter test ys else filter test ys) k ≡ Some x
        → ((j : ℕ) → slice_get (filter test ys) j ≡ Some x → (i : ℕ) × (slice_get ys i ≡ Some x)) → (j : ℕ) × (slice_get (y ∷ ys) j ≡ Some x)
    by true zero there rest = (0, there)
    by true (suc k) there rest = let at = rest k there in (suc at.0, at.1)
    by false k there rest = let at = rest k there in (suc at.0, at.1)

pub walked_start : (p : Program) (walk : Walk) (number : ℕ) (start : OutputStart) → slice_get (walked walk p.files.items p.outputs.items) number ≡ Some start → IsStart p start
walked_start p walk number start there =
    let at = kept_start (λ (s : OutputStart). is_walked walk s.kind) (output_starts p.files.items p.outputs.items) number start there in
    record { number = at.0; there = at.1 }
