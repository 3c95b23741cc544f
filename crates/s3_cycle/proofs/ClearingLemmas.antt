-- Step 2: record identifying indicators go off, by their places.
use Rattle.std.proofs.Common.{◌≡◌, ℕ, ◌+◌, ◌<◌, ◌||◌, ◌&&◌, not, zero, suc, length, get_or, map, take, List, [], ◌∷◌, Bool, true, false, refl, sym, ◌∙◌, ap, subst, arith}
use Rattle.std.specs.Prelude.{◌==◌, if◌then◌else◌}
use Rattle.std.specs.List.{list_any, list_all}
use Rattle.std.proofs.lemmas.Bool.{and_parts}
use Rattle.std.proofs.lemmas.List.{take_all, take_more, length-map, get_or-map}
use Rattle.std.proofs.lemmas.List.Elements.{All-get_or}
use Rattle.std.proofs.lemmas.List.Folds.{list_any-append}
use Rattle.s3_cards.specs.declared.name.Name.{Name}
use Rattle.s3_cards.specs.Names.{no_name}
use Rattle.s3_operations.specs.Inner.Places.{indicator_place}
use Rattle.s3_lines.specs.declared.indicator.Indicator.{Indicator}
use Rattle.s3_lines.specs.declared.sheet.InputLine.{InputLine}
use Rattle.s3_lines.specs.declared.sheet.InputLine.TheVariants.{Record, And as AndCodes, Or as OrCodes, Field as InputField}
use Rattle.s3_meaning.specs.Names.{same_indicator}
use Rattle.s3_meaning.specs.RecordTypes.{RecordType, types_from}
use Rattle.s3_meaning.specs.Cycle.{without_types}
use Rattle.s3_meaning.specs.Environment.{turn}
use Rattle.s3_program.specs.declared.program.Program.{Program}
use Rattle.s3_program.specs.declared.program.Reference.{Reference}
use Rattle.s3_program.specs.declared.starts.TypeStart.{TypeStart}
use Rattle.s3_program.specs.Inner.Stands.{source_named}
use Rattle.s3_program.specs.Tables.{Tables}
use Rattle.s3_program.specs.Inner.Valid.{named, named_input}
use Rattle.s3_match.specs.Inner.Types.{tables_in, is_type_start, kind_at}
use Rattle.s3_match.specs.Inner.Reading.{ArePlacesOf, indicators_on}
use Rattle.s3_operations.specs.declared.indicators.Indicators.{Indicators}
use Rattle.s3_operations.specs.declared.values.Values.{Values}
use Rattle.s3_operations.specs.Inner.Held.{IsSound, Changes}
use Rattle.s3_operations.specs.Inner.Indicating.{type_indicator}
use Rattle.s3_operations.specs.Inner.Indicators.{on_in, is_settable, is_settable_entry}
use Rattle.s3_operations.proofs.PlaceLemmas.{turned_to}
use Rattle.s3_operations.proofs.IndicatingLemmas.{turned_by, turn_once, off_where, types_settable}
use Rattle.s3_cycle.specs.Inner.Clearing.{turned_off}
use Rattle.s3_cycle.proofs.IdentifyLemmas.{kind_settable}

-- ---- one indicator after another
settable_kept : (lines : List (InputLine Reference)) → list_all is_settable_entry (map type_indicator lines) ≡ true → list_all is_settable (indicators_on lines) ≡ true
settable_kept [] all = refl
settable_kept (Record file indicator codes ∷ lines) all =
    let parts = and_parts (is_settable indicator) (list_all is_settable_entry (map type_indicator lines)) all in
    (λ i. parts.0 i && settable_kept lines parts.1 i)
settable_kept (AndCodes codes ∷ lines) all = settable_kept lines all
settable_kept (OrCodes indicator codes ∷ lines) all =
    let parts = and_parts (is_settable indicator) (list_all is_settable_entry (map type_indicator lines)) all in
    (λ i. parts.0 i && settable_kept lines parts.1 i)
settable_kept (InputField field ∷ lines) all = settable_kept lines all

pub holds_at : {X : Type 0} (p : X → Bool) (xs : List X) (k : ℕ) (d : X) → list_all p xs ≡ true → k < length xs → p (get_or xs k d) ≡ true
holds_at p [] k d all within = absurd (omega (arith, within))
holds_at p (x ∷ xs) zero d all within = (and_parts (p x) (list_all p xs) all).0
holds_at p (x ∷ xs) (suc k) d all within = holds_at p xs k d (and_parts (p x) (list_all p xs) all).1 (omega (arith, within))

pub one_off : (types : List Indicator) (k : ℕ) (d other : Indicator) (v w : Bool) → k < length types → w ≡ turned_off (take k types) other v
    → (if same_indicator other (get_or types k d) then false else w) ≡ turned_off (take (k + 1) types) other v
one_off types k d other v w within before =
    rw (before, take_more types k d within, list_any-append (same_indicator other) (take k types) (get_or types k d ∷ []))
    (turn_once (list_any (same_indicator other) (take k types)) (same_indicator other (get_or types k d)) false v)

-- the indicator at this place goes off
abbrev pub IsSetOff : (old new : Indicators) → (place : ℕ) → Indicator → Type 0
IsSetOff old new place other = on_in new other ≡ (if indicator_place other == place then false else on_in old other)

place_there : (p : Program) (places : List ℕ) (k place : ℕ) (d : Indicator) → ArePlacesOf p.inputs.items places → k < length places → place ≡ get_or places k 0
    → place ≡ indicator_place (get_or (indicators_on p.inputs.items) k d)
place_there p places k place d are within is =
    is ∙ ap (λ (xs : List ℕ). get_or xs k 0) are.placed ∙ get_or-map indicator_place (indicators_on p.inputs.items) k d 0 (omega (arith, within, ap length are.placed, length-map (indicators_on p.inputs.items) indicator_place))

settable_there : (p : Program) (places : List ℕ) (k : ℕ) (d : Indicator) → ArePlacesOf p.inputs.items places → k < length places → is_settable (get_or (indicators_on p.inputs.items) k d) ≡ true
settable_there p places k d are within =
    holds_at is_settable (indicators_on p.inputs.items) k d (settable_kept p.inputs.items (types_settable p)) (omega (arith, within, ap length are.placed, length-map (indicators_on p.inputs.items) indicator_place))

-- the place of a type's indicator is within the words
pub type_place_within : (places : List ℕ) (p : Program) (k place : ℕ) → ArePlacesOf p.inputs.items places → k < length places → place ≡ get_or places k 0 → place < 1600
type_place_within places p k place are within is = subst (λ (n : ℕ). n < 1600) (sym is) (All-get_or (λ (n : ℕ). n < 1600) places k 0 within are.within)

pub one_more_off : (p : Program) (old new : Indicators) (places : List ℕ) (k place : ℕ) (d other : Indicator) (v : Bool) → ArePlacesOf p.inputs.items places → k < length places → place ≡ get_or places k 0
    → IsSetOff old new place other → on_in old other ≡ turned_off (take k (indicators_on p.inputs.items)) other v → on_in new other ≡ turned_off (take (k + 1) (indicators_on p.inputs.items)) other v
one_more_off p old new places k place d other v are within is set before =
    let types : List Indicator = indicators_on p.inputs.items in
    turned_to old new (get_or types k d) other false place (place_there p places k place d are within is) (settable_there p places k d are within) set
    ∙ one_off types k d other v (on_in old other) (omega (arith, within, ap length are.placed, length-map types indicator_place)) before

-- a program with only one type
pub only_off : (p : Program) (old new : Indicators) (places : List ℕ) (place : ℕ) (d other : Indicator) → ArePlacesOf p.inputs.items places → length places ≡ 1 → place ≡ get_or places 0 0
    → IsSetOff old new place other → on_in new other ≡ turned_off (indicators_on p.inputs.items) other (on_in old other)
only_off p old new places place d other are one is set =
    let types : List Indicator = indicators_on p.inputs.items in
    let all : take 1 types ≡ types = take_all 1 types (omega (arith, one, ap length are.placed, length-map types indicator_place)) in
    one_more_off p old new places 0 place d other (on_in old other) are (omega (arith, one)) is set refl
    ∙ ap (λ (shown : List Indicator). turned_off shown other (on_in old other)) all

-- ---- the program's indicators are those of the source's types
types_shown : (tables : Tables) (other : Indicator) (file : Name) (lines : List (InputLine Reference))
    → list_any (same_indicator other) (indicators_on lines) ≡ list_any (λ (kind : RecordType). same_indicator other kind.indicator) (types_from file (map (named_input tables) lines))
types_shown tables other file [] = refl
types_shown tables other file (Record next indicator codes ∷ lines) = ap (λ (b : Bool). same_indicator other indicator || b) (types_shown tables other _ lines)
types_shown tables other file (AndCodes codes ∷ lines) = types_shown tables other file lines
types_shown tables other file (OrCodes indicator codes ∷ lines) = ap (λ (b : Bool). same_indicator other indicator || b) (types_shown tables other file lines)
types_shown tables other file (InputField field ∷ lines) = types_shown tables other file lines

all_shown : (p : Program) (other : Indicator)
    → list_any (same_indicator other) (indicators_on p.inputs.items) ≡ list_any (λ (kind : RecordType). same_indicator other kind.indicator) (source_named p).types
unfolding named
all_shown p other = types_shown (tables_in p) other no_name p.inputs.items

pub types_cleared : (p : Program) (old new : Values) → IsSound p old → new.numbers.items ≡ old.numbers.items → new.forms.items ≡ old.forms.items → new.texts ≡ old.texts → new.division ≡ old.division
    → ((other : Indicator) → on_in new.indicators other ≡ turned_off (indicators_on p.inputs.items) other (on_in old.indicators other)) → Changes p old new without_types
types_cleared p old new sound numbers forms texts division turned =
    let change = turned_by (λ on other. on other && not (list_any (λ (kind : RecordType). same_indicator other kind.indicator) (source_named p).types)) p old new sound numbers forms texts division
    (λ other. turned other ∙ off_where (list_any (same_indicator other) (indicators_on p.inputs.items)) (on_in old.indicators other)
    ∙ ap (λ (b : Bool). on_in old.indicators other && not b) (all_shown p other)) in
    record { sound = change.sound; held = change.held }

-- ---- the indicator of one type goes on
pub type_turned : (p : Program) (old new : Values) (start : TypeStart) (place : ℕ) → IsSound p old → is_type_start p start ≡ true → place ≡ indicator_place (kind_at p start).indicator
    → new.numbers.items ≡ old.numbers.items → new.forms.items ≡ old.forms.items → new.texts ≡ old.texts → new.division ≡ old.division
    → ((other : Indicator) → on_in new.indicators other ≡ (if indicator_place other == place then true else on_in old.indicators other)) → Changes p old new (λ source. turn (kind_at p start).indicator true)
type_turned p old new start place sound starts is numbers forms texts division set =
    let shown : Indicator = (kind_at p start).indicator in
    turned_by (λ on other. if same_indicator other shown then true else on other) p old new sound numbers forms texts division
    (λ other. turned_to old.indicators new.indicators shown other true place is (kind_settable p start starts) (set other))
