-- The record identifying indicators of one file go off, by the file's types.
use Rattle.std.proofs.Common.{◌≡◌, ℕ, ◌+◌, ◌<◌, ◌&&◌, ◌||◌, not, length, get_or, drop, map, take, List, [], ◌∷◌, Bool, true, false, refl, sym, ◌∙◌, ap, arith}
use Rattle.std.specs.Prelude.{Option, Some, None, is_some, unwrap_or, filter, filter_map, nat_lt, if◌then◌else◌}
use Rattle.std.specs.List.{list_any, list_all}
use Rattle.std.proofs.lemmas.Bool.{and_parts, true≢false}
use Rattle.std.proofs.lemmas.List.{get_or-map, length-map}
use Rattle.s3_cards.specs.declared.name.Name.{Name}
use Rattle.s3_cards.specs.Names.{same_name}
use Rattle.s3_operations.specs.Inner.Places.{indicator_place}
use Rattle.s3_lines.specs.declared.indicator.Indicator.{Indicator}
use Rattle.s3_lines.specs.declared.sheet.InputLine.{InputLine}
use Rattle.s3_lines.specs.declared.sheet.InputLine.TheVariants.{Record, And as AndCodes, Or as OrCodes, Field as InputField}
use Rattle.s3_meaning.specs.Names.{same_indicator}
use Rattle.s3_meaning.specs.RecordTypes.{RecordType}
use Rattle.s3_program.specs.declared.program.Program.{Program}
use Rattle.s3_program.specs.declared.program.Reference.{Reference}
use Rattle.s3_program.specs.declared.starts.TypeStart.{TypeStart}
use Rattle.s3_program.specs.Inner.Started.{type_at, type_on}
use Rattle.s3_program.specs.Inner.Starts.{is_type_of, types_of_file, type_starts}
use Rattle.s3_program.specs.Inner.Stands.{parts_of, source_named}
use Rattle.s3_program.specs.Tables.{Tables}
use Rattle.s3_program.specs.Inner.Tables.{name_in}
use Rattle.s3_program.proofs.SlotLemmas.{kept}
use Rattle.s3_program.proofs.StartedLemmas.{types_stand}
use Rattle.s3_program.proofs.TypeLemmas.{both, same_file, starts_have_files}
use Rattle.s3_match.proofs.FieldLemmas.{type_is}
use Rattle.s3_match.proofs.TypeLemmas.{all_starts}
use Rattle.s3_match.specs.Inner.Types.{tables_in, is_type_start, kind_at, name_of_file, no_type}
use Rattle.s3_operations.specs.declared.indicators.Indicators.{Indicators}
use Rattle.s3_operations.specs.declared.values.Values.{Values}
use Rattle.s3_operations.specs.Inner.Held.{IsSound, Changes}
use Rattle.s3_operations.specs.Inner.Indicators.{on_in}
use Rattle.s3_operations.proofs.PlaceLemmas.{turned_to}
use Rattle.s3_operations.proofs.IndicatingLemmas.{turned_by, off_where}
use Rattle.s3_cycle.specs.Inner.Clearing.{shown_by, turned_off, without_types_of}
use Rattle.s3_cycle.proofs.ClearingLemmas.{IsSetOff, one_off}
use Rattle.s3_cycle.proofs.IdentifyLemmas.{kind_settable}

-- ---- one type after another
abbrev shown : Program → TypeStart → Indicator
shown p start = (kind_at p start).indicator

pub one_type_off : (p : Program) (old new : Indicators) (starts : List TypeStart) (k place : ℕ) (d : TypeStart) (other : Indicator) (v : Bool) → k < length starts → is_type_start p (get_or starts k d) ≡ true
    → place ≡ indicator_place (shown p (get_or starts k d)) → IsSetOff old new place other
    → on_in old other ≡ turned_off (take k (shown_by p starts)) other v → on_in new other ≡ turned_off (take (k + 1) (shown_by p starts)) other v
one_type_off p old new starts k place d other v within starts_there is set before =
    let here : get_or (shown_by p starts) k (shown p d) ≡ shown p (get_or starts k d) = get_or-map (shown p) starts k d (shown p d) within in
    turned_to old new (shown p (get_or starts k d)) other false place is (kind_settable p (get_or starts k d) starts_there) set
    ∙ ap (λ (i : Indicator). if same_indicator other i then false else on_in old other) (sym here)
    ∙ one_off (shown_by p starts) k (shown p d) other v (on_in old other) (omega (arith, within, length-map starts (shown p))) before

-- ---- the types of the source, by their starts
abbrev passes : {Y : Type 0} → (Y → Bool) → Option Y → Bool
passes p None = false
passes p (Some y) = p y

any_mapped : {X Y : Type 0} (p : Y → Bool) (f : X → Y) (xs : List X) → list_any p (map f xs) ≡ list_any (λ x. p (f x)) xs
any_mapped p f [] = refl
any_mapped p f (x ∷ xs) = ap (λ b. p (f x) || b) (any_mapped p f xs)

any_kept : {X : Type 0} (p q : X → Bool) (xs : List X) → list_any p (filter q xs) ≡ list_any (λ x. q x && p x) xs
any_kept p q [] = refl
any_kept p q (x ∷ xs) = step (q x) refl (any_kept p q xs)
  where
    step : (b : Bool) → q x ≡ b → list_any p (filter q xs) ≡ list_any (λ x. q x && p x) xs → list_any p (filter q (x ∷ xs)) ≡ list_any (λ x. q x && p x) (x ∷ xs)
    step true is later = rw is (ap (λ b. p x || b) later)
    step false is later = rw is later

any_found : {X Y : Type 0} (at : X → Option Y) (good holds : X → Bool) (p : Y → Bool) → ((x : X) → good x ≡ true → passes p (at x) ≡ holds x)
    → (xs : List X) → list_all good xs ≡ true → list_any p (filter_map at xs) ≡ list_any holds xs
any_found at good holds p same [] all = refl
any_found at good holds p same (x ∷ xs) all =
    let parts = and_parts (good x) (list_all good xs) all in
    step (at x) refl (same x parts.0) (any_found at good holds p same xs parts.1)
  where
    step : (o : Option _) → at x ≡ o → passes p (at x) ≡ holds x → list_any p (filter_map at xs) ≡ list_any holds xs → list_any p (filter_map at (x ∷ xs)) ≡ list_any holds (x ∷ xs)
    step None is here later = rw is (rw (sym here) (rw is later))
    step (Some y) is here later = rw is (rw (sym here) (rw is (ap (λ b. p y || b) later)))

all_both : {X : Type 0} (p q : X → Bool) (xs : List X) → list_all p xs ≡ true → list_all q xs ≡ true → list_all (λ x. p x && q x) xs ≡ true
all_both p q [] one two = refl
all_both p q (x ∷ xs) one two =
    let here = and_parts (p x) (list_all p xs) one in
    let there = and_parts (q x) (list_all q xs) two in
    both _ _ (both _ _ here.0 there.0) (all_both p q xs here.1 there.1)

type_passes : (tables : Tables) (inputs : List (InputLine Reference)) (start : TypeStart) (good : Name → Bool) (other : Indicator) (lines : List (InputLine Reference))
    → is_some (type_on tables inputs start lines) ≡ true
    → passes (λ (kind : RecordType). good kind.file && same_indicator other kind.indicator) (type_on tables inputs start lines)
    ≡ (good (name_in tables.files start.file) && same_indicator other (unwrap_or (type_on tables inputs start lines) no_type).indicator)
type_passes tables inputs start good other [] h = absurd (true≢false (sym h))
type_passes tables inputs start good other (Record file indicator codes ∷ lines) h = refl
type_passes tables inputs start good other (AndCodes codes ∷ lines) h = absurd (true≢false (sym h))
type_passes tables inputs start good other (OrCodes indicator codes ∷ lines) h = refl
type_passes tables inputs start good other (InputField field ∷ lines) h = absurd (true≢false (sym h))

abbrev has_file : Program → TypeStart → Bool
has_file p start = nat_lt start.file (length (tables_in p).files)

-- the types of one file
own_types : (p : Program) (file : ℕ) (other : Indicator) → file < length p.files.items
    → list_any (λ start. is_type_of file start && same_indicator other (shown p start)) (type_starts p.files.items p.inputs.items)
    ≡ list_any (λ (kind : RecordType). same_name kind.file (name_of_file p file) && same_indicator other kind.indicator) (source_named p).types
own_types p file other within =
    let keeps = kept (parts_of p) p.valid in
    sym (any_found (type_at (tables_in p) p.inputs.items) (λ start. has_file p start && is_type_start p start) (λ start. is_type_of file start && same_indicator other (shown p start))
    (λ (kind : RecordType). same_name kind.file (name_of_file p file) && same_indicator other kind.indicator)
    (λ start good.
    let parts = and_parts (has_file p start) (is_type_start p start) good in
    type_passes (tables_in p) p.inputs.items start (λ name. same_name name (name_of_file p file)) other (drop start.place p.inputs.items) (type_is p start parts.1)
    ∙ ap (λ b. b && same_indicator other (shown p start)) (same_file (tables_in p).files start.file file keeps.files_distinct parts.0 (fits within)))
    (type_starts p.files.items p.inputs.items) (all_both (has_file p) (is_type_start p) (type_starts p.files.items p.inputs.items) (starts_have_files p) (all_starts p)))
    ∙ ap (list_any (λ (kind : RecordType). same_name kind.file (name_of_file p file) && same_indicator other kind.indicator)) (types_stand p)
  where
    fits : file < length p.files.items → file < length (tables_in p).files
    fits h = grind (arith, length-map, h)

pub types_of_cleared : (p : Program) (file : ℕ) (old new : Values) → IsSound p old → file < length p.files.items → new.numbers.items ≡ old.numbers.items → new.forms.items ≡ old.forms.items → new.texts ≡ old.texts → new.division ≡ old.division
    → ((other : Indicator) → on_in new.indicators other ≡ turned_off (shown_by p (types_of_file (type_starts p.files.items p.inputs.items) file)) other (on_in old.indicators other))
    → Changes p old new (without_types_of (name_of_file p file))
types_of_cleared p file old new sound within numbers forms texts division turned =
    let starts : List TypeStart = type_starts p.files.items p.inputs.items in
    let own : List TypeStart = types_of_file starts file in
    let change = turned_by (λ on other. on other && not (list_any (λ (kind : RecordType). same_name kind.file (name_of_file p file) && same_indicator other kind.indicator) (source_named p).types)) p old new sound numbers forms texts division
    (λ other. turned other ∙ off_where (list_any (same_indicator other) (shown_by p own)) (on_in old.indicators other)
    ∙ ap (λ b. on_in old.indicators other && not b) (any_mapped (same_indicator other) (shown p) own
    ∙ any_kept (λ start. same_indicator other (shown p start)) (is_type_of file) starts ∙ own_types p file other within)) in
    record { sound = change.sound; held = change.held }
