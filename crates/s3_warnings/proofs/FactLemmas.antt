-- Tables that are filled line by line, and what they say of all lines.
use Rattle.std.proofs.Common.{◌≡◌, ℕ, ◌+◌, ◌<◌, ◌++◌, ◌||◌, length, take, get_or, List, [], ◌∷◌, true, false, cond, refl, sym, ◌∙◌, ap}
use Rattle.std.proofs.Math.Path.{fun_ext}
use Rattle.std.specs.Prelude.{nat_eq, Bool, Option, Some, None, filter_map, flat_map}
use Rattle.std.specs.List.{list_any, cons_option}
use Rattle.std.specs.Map.{lookup}
use Rattle.std.specs.Option.{option_to_list}
use Rattle.std.proofs.lemmas.List.{take_more, flat_map_more}
use Rattle.std.proofs.lemmas.List.Elements.{filter_map-append}
use Rattle.std.proofs.lemmas.List.Folds.{list_any_more}
use Rattle.indexmap.specs.IndexSet.{IndexSet, contains}
use Rattle.s3_cards.specs.declared.name.Name.{Name}
use Rattle.s3_cards.specs.Names.{same_name}
use Rattle.s3_lines.specs.Indicators.{indicator_number, same_indicator}
use Rattle.s3_lines.proofs.IndicatorLemmas.{by_number}
use Rattle.s3_lines.specs.declared.indicator.Indicator.{Indicator}
use Rattle.s3_lines.specs.declared.sheet.Line.{Line}
use Rattle.s3_lines.specs.declared.sheet.Shape.{Shape}
use Rattle.s3_lines.specs.declared.sheet.SheetLine.{SheetLine}
use Rattle.s3_meaning.specs.Source.{reserved_shapes}
use Rattle.s3_program.specs.Inner.Given.{all_noted, firsts}
use Rattle.s3_program.proofs.GivenLemmas.{noted_behind, first_found}
use Rattle.s3_warnings.specs.declared.kinds.Warning.{Warning}
use Rattle.s3_warnings.specs.declared.entries.IndicatorEntry.{IndicatorEntry}
use Rattle.s3_warnings.specs.declared.known.Known.{Known}
use Rattle.s3_warnings.specs.Inner.Entries.{Entries}
use Rattle.s3_warnings.specs.Inner.Facts.{is_among, is_entry_of, is_set_by, is_tested_by, shape_given, shape_by, facts_of}
use Rattle.s3_warnings.specs.Inner.Shown.{facts_shown}
use Rattle.s3_warnings.specs.Inner.Warnings.{warnings, warnings_by}

-- ---- indicators: a set has those of the first entries of a card, and then those of one entry more
pub entry_more : {S : Type 0} (start old new : IndexSet ℕ S) (entries : Entries) (i : ℕ) (d : Option IndicatorEntry) → i < length entries
    → ((indicator : Indicator) → contains nat_eq new (indicator_number indicator) ≡ (is_entry_of indicator (get_or entries i d) || contains nat_eq old (indicator_number indicator)))
    → ((indicator : Indicator) → contains nat_eq old (indicator_number indicator) ≡ (is_among indicator (take i entries) || contains nat_eq start (indicator_number indicator)))
    → (indicator : Indicator) → contains nat_eq new (indicator_number indicator) ≡ (is_among indicator (take (i + 1) entries) || contains nat_eq start (indicator_number indicator))
entry_more start old new entries i d within more so_far indicator =
    more indicator
    ∙ (ap (λ b. is_entry_of indicator (get_or entries i d) || b) (so_far indicator)
    ∙ (turned (is_entry_of indicator (get_or entries i d)) (is_among indicator (take i entries)) (contains nat_eq start (indicator_number indicator))
    ∙ ap (λ b. b || contains nat_eq start (indicator_number indicator)) (sym (list_any_more (is_entry_of indicator) entries i d within))))
  where
    turned : (a b c : Bool) → (a || (b || c)) ≡ ((b || a) || c)
    turned true true c = refl
    turned true false c = refl
    turned false true c = refl
    turned false false c = refl

-- .. and those of the first lines, and then those of one line more
pub more_on_line : {S : Type 0} (on : SheetLine → Entries) (old new : IndexSet ℕ S) (lines : List Line) (i : ℕ) (d : Line) (entries : Entries) → i < length lines
    → entries ≡ on (get_or lines i d).sheet
    → ((indicator : Indicator) → contains nat_eq new (indicator_number indicator) ≡ (is_among indicator entries || contains nat_eq old (indicator_number indicator)))
    → ((indicator : Indicator) → contains nat_eq old (indicator_number indicator) ≡ list_any (λ (line : Line). is_among indicator (on line.sheet)) (take i lines))
    → (indicator : Indicator) → contains nat_eq new (indicator_number indicator) ≡ list_any (λ (line : Line). is_among indicator (on line.sheet)) (take (i + 1) lines)
more_on_line on old new lines i d entries within are more so_far indicator =
    more indicator
    ∙ (ap (λ b. is_among indicator entries || b) (so_far indicator)
    ∙ (ap (λ es. is_among indicator es || list_any (λ (line : Line). is_among indicator (on line.sheet)) (take i lines)) are
    ∙ (turned (is_among indicator (on (get_or lines i d).sheet)) (list_any (λ (line : Line). is_among indicator (on line.sheet)) (take i lines))
    ∙ sym (list_any_more (λ (line : Line). is_among indicator (on line.sheet)) lines i d within))))
  where
    turned : (a b : Bool) → (a || b) ≡ (b || a)
    turned true true = refl
    turned true false = refl
    turned false true = refl
    turned false false = refl

-- ---- fields
joined : {X : Type 0} (o : Option X) → cons_option o [] ≡ option_to_list o
joined None = refl
joined (Some x) = refl

pub shapes_more : (start old new : List (Name × Shape)) (lines : List Line) (i : ℕ) (d : Line) → i < length lines
    → new ≡ all_noted old (option_to_list (shape_given (get_or lines i d)))
    → old ≡ all_noted start (filter_map shape_given (take i lines)) → new ≡ all_noted start (filter_map shape_given (take (i + 1) lines))
shapes_more start old new lines i d within more so_far =
    let here = get_or lines i d in
    let split : filter_map shape_given (take (i + 1) lines) ≡ filter_map shape_given (take i lines) ++ option_to_list (shape_given here) =
    ap (filter_map shape_given) (take_more lines i d within)
    ∙ (filter_map-append shape_given (take i lines) (here ∷ []) ∙ ap (λ xs. filter_map shape_given (take i lines) ++ xs) (joined (shape_given here))) in
    more
    ∙ (ap (λ table. all_noted table (option_to_list (shape_given here))) so_far
    ∙ (sym (noted_behind start (filter_map shape_given (take i lines)) (option_to_list (shape_given here))) ∙ ap (all_noted start) (sym split)))

pub shapes_in_turn : (none reserved all : List (Name × Shape)) (lines : List Line) → none ≡ [] → reserved ≡ all_noted none reserved_shapes
    → all ≡ all_noted reserved (filter_map shape_given lines) → all ≡ firsts (reserved_shapes ++ filter_map shape_given lines)
shapes_in_turn none reserved all lines empty first second =
    second
    ∙ (ap (λ table. all_noted table (filter_map shape_given lines)) (first ∙ ap (λ table. all_noted table reserved_shapes) empty)
    ∙ sym (noted_behind [] reserved_shapes (filter_map shape_given lines)))

-- ---- together
pub known_shown : (known : Known) (lines : List Line)
    → ((indicator : Indicator) → contains nat_eq known.set (indicator_number indicator) ≡ is_set_by lines indicator)
    → ((indicator : Indicator) → contains nat_eq known.tested (indicator_number indicator) ≡ is_tested_by lines indicator)
    → known.shapes.entries ≡ firsts (reserved_shapes ++ filter_map shape_given lines) → facts_shown known ≡ facts_of lines
known_shown known lines set tested shapes =
    let one : (λ (indicator : Indicator). contains nat_eq known.set (indicator_number indicator)) ≡ is_set_by lines = fun_ext set in
    let two : (λ (indicator : Indicator). contains nat_eq known.tested (indicator_number indicator)) ≡ is_tested_by lines = fun_ext tested in
    let three : (λ (name : Name). lookup (same_name name) known.shapes.entries) ≡ shape_by lines =
    fun_ext (λ name. ap (lookup (same_name name)) shapes ∙ first_found name (reserved_shapes ++ filter_map shape_given lines)) in
    λ i. record { is_set = one i; is_tested = two i; shape = three i }

-- ---- warnings, card by card
pub warnings_more : (on : Line → List Warning) (old new : List Warning) (lines : List Line) (i : ℕ) (d : Line) → i < length lines
    → new ≡ old ++ on (get_or lines i d) → old ≡ flat_map on (take i lines) → new ≡ flat_map on (take (i + 1) lines)
warnings_more on old new lines i d within more so_far =
    more
    ∙ (ap (λ found. found ++ on (get_or lines i d)) so_far
    ∙ (flat_map_more on [] (take i lines) (get_or lines i d) ∙ ap (flat_map on) (sym (take_more lines i d within))))

-- ---- a set with the number of one indicator more
pub one_added : {S : Type 0} (old new : IndexSet ℕ S) (number : ℕ) (added : Indicator) → number ≡ indicator_number added
    → ((other : ℕ) → contains nat_eq new other ≡ cond (nat_eq number other) true (contains nat_eq old other))
    → (indicator : Indicator) → contains nat_eq new (indicator_number indicator) ≡ (same_indicator added indicator || contains nat_eq old (indicator_number indicator))
one_added old new number added is more indicator =
    more (indicator_number indicator)
    ∙ (step (nat_eq number (indicator_number indicator)) (contains nat_eq old (indicator_number indicator))
    ∙ ap (λ b. b || contains nat_eq old (indicator_number indicator)) (ap (λ n. nat_eq n (indicator_number indicator)) is ∙ by_number added indicator))
  where
    step : (b had : Bool) → cond b true had ≡ (b || had)
    step true had = refl
    step false had = refl

-- ---- warnings by tables are those by what the lines say
pub warnings_shown : (known : Known) (lines : List Line) (found : List Warning) → found ≡ warnings_by (facts_shown known) lines → facts_shown known ≡ facts_of lines → found ≡ warnings lines
unfolding warnings
warnings_shown known lines found by shown = by ∙ ap (λ facts. warnings_by facts lines) shown
