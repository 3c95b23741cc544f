-- In lines without diagnostics, tags and subroutines have the places in the tables, and no name occurs twice.
use Rattle.std.proofs.Common.{◌≡◌, ℕ, ◌+◌, ◌<◌, ◌≤◌, List, [], ◌∷◌, Bool, true, false, refl, sym, ◌∙◌, ap, subst, arith, nat_eq, ◌==◌}
use Rattle.std.specs.Prelude.{Option, Some, None, map, option_map, unwrap_or}
use Rattle.std.specs.List.{list_any, cons_option}
use Rattle.std.specs.Map.{keys_of}
use Rattle.std.specs.Cmp.Lexicographic.{pointwise}
use Rattle.std.proofs.lemmas.Bool.{true≢false, and_parts, or_parts, or_from, not-true, not-false, not_from_false, false_from_ne_true, eqb-true, eq-eqb}
use Rattle.s3_cards.specs.declared.name.Name.{Name}
use Rattle.s3_cards.specs.Names.{same_name}
use Rattle.s3_cards.proofs.NameLemmas.{same_name-equal}
use Rattle.s3_lines.specs.declared.sheet.Factor.{Factor}
use Rattle.s3_lines.specs.declared.sheet.Factor.TheVariants.{Named, Number, Text}
use Rattle.s3_lines.specs.declared.sheet.Operation.{Operation}
use Rattle.s3_lines.specs.declared.sheet.Operation.TheVariants as op
use Rattle.s3_lines.specs.declared.sheet.CalculationLine.{CalculationLine}
use Rattle.s3_program.specs.declared.call.Call.{Call}
use Rattle.s3_program.specs.declared.program.Meaning.TheVariants as a
use Rattle.s3_program.specs.declared.program.TagPlace.{TagPlace}
use Rattle.s3_program.specs.declared.program.SubroutinePlace.{SubroutinePlace}
use Rattle.s3_program.specs.declared.standing.CalculationStanding.{CalculationStanding}
use Rattle.s3_program.specs.Conditions.{numbers, verb_of, calculation_holds}
use Rattle.s3_program.specs.Inner.Conditions.{is_clear, calculations_clear}
use Rattle.s3_program.specs.Inner.Distinct.{are_distinct}
use Rattle.s3_program.specs.Inner.Given.{firsts}
use Rattle.s3_program.specs.Inner.Labels.{tag_on, tags_from as tag_places_from, subroutine_on, subroutines_from as subroutine_places_from, same_tag, labels_stand}
use Rattle.s3_program.specs.Places.{Verb}
use Rattle.s3_program.specs.Redefined.{is_second_tag, is_second_subroutine}
use Rattle.s3_program.specs.Standings.{time_on, section_on, first_calculation, behind_calculation}
use Rattle.s3_program.specs.Tables.{Tables, or_undefined, found_in}
use Rattle.s3_program.specs.Inner.Translation.{known_calculation}
use Rattle.s3_program.specs.Undefined.{is_undefined}
use Rattle.s3_program.proofs.GivenLemmas.{distinct_first}
use Rattle.s3_program.proofs.SoundLemmas.{both}
use Rattle.s3_diagnose.specs.Lookups.{tag_given, subroutine_given, with_entry, tags_from, subroutines_from}

-- ---- conditions that don't hold for a line
pub record IsOff (holds : ℕ → Bool) : Type 0 where
  pub undefined : holds 5 ≡ false
  pub redefined : holds 6 ≡ false
  pub unfit : holds 8 ≡ false

pub is_off : (holds : ℕ → Bool) → is_clear holds ≡ true → IsOff holds
is_off holds clear =
    let five = or_parts (holds 5) (list_any holds (6 ∷ 7 ∷ 8 ∷ 9 ∷ 10 ∷ 11 ∷ 12 ∷ [])) (not-true (list_any holds numbers) clear) in
    let six = or_parts (holds 6) (list_any holds (7 ∷ 8 ∷ 9 ∷ 10 ∷ 11 ∷ 12 ∷ [])) five.1 in
    let seven = or_parts (holds 7) (list_any holds (8 ∷ 9 ∷ 10 ∷ 11 ∷ 12 ∷ [])) six.1 in
    let eight = or_parts (holds 8) (list_any holds (9 ∷ 10 ∷ 11 ∷ 12 ∷ [])) seven.1 in
    record { undefined = five.0; redefined = six.0; unfit = eight.0 }

-- ---- names with ascending places, each found at its own place
abbrev pub Ascends : {X : Type 0} → (X → ℕ) → (Name → Option ℕ) → ℕ → List (Name × X) → Type 0
Ascends place found low [] = Unit {0}
Ascends place found low (entry ∷ entries) =
    (low ≤ place entry.1) × ((found entry.0 ≡ Some (place entry.1)) × Ascends place found (place entry.1 + 1) entries)

pub ascends_behind : {X : Type 0} (place : X → ℕ) (found : Name → Option ℕ) (low : ℕ) (entries : List (Name × X)) → Ascends place found (low + 1) entries → Ascends place found low entries
ascends_behind place found low [] all = tt
ascends_behind place found low (entry ∷ entries) all = let first = all.0 in (omega arith, all.1)

-- a name that is found at an earlier place isn't among these
absent : {X : Type 0} (place : X → ℕ) (found : Name → Option ℕ) (low : ℕ) (entries : List (Name × X)) (name : Name) (p : ℕ) → found name ≡ Some p → p < low → Ascends place found low entries
    → list_any (same_name name) (keys_of entries) ≡ false
absent place found low [] name p at below all = refl
absent place found low (entry ∷ entries) name p at below all =
    let first = all.0 in
    or_from (same_name name entry.0) (list_any (same_name name) (keys_of entries)) (false_from_ne_true (same_name name entry.0) apart)
    (absent place found (place entry.1 + 1) entries name p at (omega arith) all.1.1)
  where
    apart : same_name name entry.0 ≡ true → ⊥
    apart same =
        let there : Some p ≡ Some (place entry.1) = sym at ∙ (ap found (same_name-equal name entry.0 same) ∙ all.1.0) in
        let is : p ≡ place entry.1 = ap (λ o. unwrap_or o p) there in
        let first = all.0 in
        omega arith

pub ascending_distinct : {X : Type 0} (place : X → ℕ) (found : Name → Option ℕ) (low : ℕ) (entries : List (Name × X)) → Ascends place found low entries → are_distinct (keys_of entries) ≡ true
ascending_distinct place found low [] all = refl
ascending_distinct place found low (entry ∷ entries) all =
    both _ _ (not_from_false _ (absent place found (place entry.1 + 1) entries entry.0 (place entry.1) all.1.0 (omega arith) all.1.1))
    (ascending_distinct place found (place entry.1 + 1) entries all.1.1)

-- ---- a table of labels compared with the places of lines
-- how a table of labels is read: the place of a label, the look-up of a name, the compared value, and the comparison
record Reading (X Y : Type 0) : Type 0 where
  place : X → ℕ
  found : Name → Option ℕ
  value : X → Y
  same : Y → Y → Bool

-- the label of a line agrees with its meaning, and is found at the line's place
record IsOn {X Y : Type 0} (read : Reading X Y) (at : ℕ) (entry : Name × X) (given : Y) : Type 0 where
  same : read.same (read.value entry.1) given ≡ true
  place : read.place entry.1 ≡ at
  found : read.found entry.0 ≡ Some at

-- two options agree: both have values that agree, or both are empty
abbrev Agree : {X Y : Type 0} → (X → Y → Type 0) → Option X → Option Y → Type 0
Agree P None None = Unit {0}
Agree P None (Some y) = ⊥
Agree P (Some x) None = ⊥
Agree P (Some x) (Some y) = P x y

record AreOn {X Y : Type 0} (read : Reading X Y) (at : ℕ) (entries : List (Name × X)) (given : List Y) : Type 0 where
  ascend : Ascends read.place read.found at entries
  same : pointwise read.same (map (λ entry. read.value entry.1) entries) given ≡ true

one_more : {X Y : Type 0} (read : Reading X Y) (at : ℕ) (entry : Option (Name × X)) (y : Option Y) (entries : List (Name × X)) (ys : List Y) → Agree (IsOn read at) entry y
    → AreOn read (at + 1) entries ys → AreOn read at (with_entry entry entries) (cons_option y ys)
one_more read at None None entries ys here later = record { ascend = ascends_behind read.place read.found at entries later.ascend; same = later.same }
one_more read at None (Some y) entries ys here later = absurd here
one_more read at (Some entry) None entries ys here later = absurd here
one_more read at (Some entry) (Some y) entries ys here later =
    let is : read.place entry.1 ≡ at = here.place in
    record {
      ascend = (omega arith, (here.found ∙ ap (λ n. Some n) (sym is), subst (λ n. Ascends read.place read.found (n + 1) entries) (sym is) later.ascend));
      same = both _ _ here.same later.same;
    }

-- ---- one line
same_number : (n : ℕ) → (n == n) ≡ true
same_number n = eq-eqb n n refl

same_tag-self : (tag : TagPlace) → same_tag tag tag ≡ true
same_tag-self tag = both _ _ (same_number tag.place) (same_number tag.section)

abbrev tags_by : Tables → Reading TagPlace TagPlace
tags_by tables = record {
  place = λ tag. tag.place;
  found = λ name. option_map (λ (tag : TagPlace). tag.place) (found_in tables.tags name);
  value = λ tag. tag;
  same = same_tag;
}

abbrev subroutines_by : Tables → Reading SubroutinePlace ℕ
subroutines_by tables = record {
  place = λ subroutine. subroutine.place;
  found = λ name. option_map (λ (subroutine : SubroutinePlace). subroutine.place) (found_in tables.subroutines name);
  value = λ subroutine. subroutine.place;
  same = nat_eq;
}

record IsLabelled (tables : Tables) (at : CalculationStanding) (line : CalculationLine Name) : Type 0 where
  tag : Agree (IsOn (tags_by tables) at.place) (tag_given at line) (tag_on at (known_calculation tables line))
  subroutine : Agree (IsOn (subroutines_by tables) at.place) (subroutine_given at line) (subroutine_on at.place (known_calculation tables line))

own_tag : (place : ℕ) (found : Option TagPlace) → is_undefined (or_undefined (λ x. a.Tag x) found) ≡ false → is_second_tag place (or_undefined (λ x. a.Tag x) found) ≡ false
    → option_map (λ tag. tag.place) found ≡ Some place
own_tag place None known only = absurd (true≢false known)
own_tag place (Some tag) known only = ap (λ n. Some n) (eqb-true tag.place place (not-false (tag.place == place) only))

own_subroutine : (place : ℕ) (found : Option SubroutinePlace) → is_undefined (or_undefined (λ x. a.Subroutine x) found) ≡ false → is_second_subroutine place (or_undefined (λ x. a.Subroutine x) found) ≡ false
    → option_map (λ subroutine. subroutine.place) found ≡ Some place
own_subroutine place None known only = absurd (true≢false known)
own_subroutine place (Some subroutine) known only = ap (λ n. Some n) (eqb-true subroutine.place place (not-false (subroutine.place == place) only))

labelled : (tables : Tables) (forbidden : Call → Bool) (at : CalculationStanding) (later : List Verb) (line : CalculationLine Name)
    → is_clear (calculation_holds forbidden at later (known_calculation tables line)) ≡ true → IsLabelled tables at line
labelled tables forbidden at later line clear = on line.operation line.factor1 (is_off (calculation_holds forbidden at later (known_calculation tables line)) clear)
  where
    on : (operation : Option Operation) (factor1 : Option (Factor Name))
        → IsOff (calculation_holds forbidden at later (known_calculation tables (record line { operation = operation; factor1 = factor1 })))
        → IsLabelled tables at (record line { operation = operation; factor1 = factor1 })
    on None factor1 off = record { tag = tt; subroutine = tt }
    on (Some op.Add) factor1 off = record { tag = tt; subroutine = tt }
    on (Some op.Subtract) factor1 off = record { tag = tt; subroutine = tt }
    on (Some op.Multiply) factor1 off = record { tag = tt; subroutine = tt }
    on (Some op.Divide) factor1 off = record { tag = tt; subroutine = tt }
    on (Some op.ZeroAdd) factor1 off = record { tag = tt; subroutine = tt }
    on (Some op.ZeroSubtract) factor1 off = record { tag = tt; subroutine = tt }
    on (Some op.MoveRemainder) factor1 off = record { tag = tt; subroutine = tt }
    on (Some op.Compare) factor1 off = record { tag = tt; subroutine = tt }
    on (Some op.Move) factor1 off = record { tag = tt; subroutine = tt }
    on (Some op.MoveLeft) factor1 off = record { tag = tt; subroutine = tt }
    on (Some op.SetOn) factor1 off = record { tag = tt; subroutine = tt }
    on (Some op.SetOff) factor1 off = record { tag = tt; subroutine = tt }
    on (Some op.GoTo) factor1 off = record { tag = tt; subroutine = tt }
    on (Some op.Tag) None off = absurd (true≢false off.unfit)
    on (Some op.Tag) (Some (Named name)) off =
        let known = or_parts _ _ (or_parts _ _ off.undefined).0 in
        let only = or_parts _ _ off.redefined in
        let tag : TagPlace = record { place = at.place; section = section_on at (time_on at.group line.time) (Some op.Tag) } in
        record {
          tag = record { same = same_tag-self tag; place = refl; found = own_tag at.place (found_in tables.tags name) known.0 only.0 };
          subroutine = tt;
        }
    on (Some op.Tag) (Some (Number literal)) off = absurd (true≢false off.unfit)
    on (Some op.Tag) (Some (Text literal)) off = absurd (true≢false off.unfit)
    on (Some op.ExecuteSubroutine) factor1 off = record { tag = tt; subroutine = tt }
    on (Some op.BeginSubroutine) None off = absurd (true≢false off.unfit)
    on (Some op.BeginSubroutine) (Some (Named name)) off =
        let known = or_parts _ _ (or_parts _ _ off.undefined).0 in
        let only = or_parts _ _ off.redefined in
        record {
          tag = tt;
          subroutine = record { same = same_number at.place; place = refl; found = own_subroutine at.place (found_in tables.subroutines name) known.0 only.0 };
        }
    on (Some op.BeginSubroutine) (Some (Number literal)) off = absurd (true≢false off.unfit)
    on (Some op.BeginSubroutine) (Some (Text literal)) off = absurd (true≢false off.unfit)
    on (Some op.EndSubroutine) factor1 off = record { tag = tt; subroutine = tt }
    on (Some op.Except) factor1 off = record { tag = tt; subroutine = tt }
    on (Some op.Chain) factor1 off = record { tag = tt; subroutine = tt }
    on (Some op.Unknown) factor1 off = record { tag = tt; subroutine = tt }

-- ---- all lines
record AreLabelled (tables : Tables) (at : CalculationStanding) (lines : List (CalculationLine Name)) : Type 0 where
  tags : AreOn (tags_by tables) at.place (tags_from at lines) (tag_places_from at (map (known_calculation tables) lines))
  subroutines : AreOn (subroutines_by tables) at.place (subroutines_from at lines) (subroutine_places_from at.place (map (known_calculation tables) lines))

all_labelled : (tables : Tables) (forbidden : Call → Bool) (at : CalculationStanding) (lines : List (CalculationLine Name))
    → calculations_clear forbidden at (map (known_calculation tables) lines) ≡ true → AreLabelled tables at lines
unfolding tag_places_from subroutine_places_from
all_labelled tables forbidden at [] clear = record { tags = record { ascend = tt; same = refl }; subroutines = record { ascend = tt; same = refl } }
all_labelled tables forbidden at (line ∷ lines) clear =
    let parts = and_parts _ _ clear in
    let here : IsLabelled tables at line = labelled tables forbidden at (map verb_of (map (known_calculation tables) lines)) line parts.0 in
    let later : AreLabelled tables (behind_calculation at line) lines = all_labelled tables forbidden (behind_calculation at line) lines parts.1 in
    record {
      tags = one_more (tags_by tables) at.place _ _ _ _ here.tag later.tags;
      subroutines = one_more (subroutines_by tables) at.place _ _ _ _ here.subroutine later.subroutines;
    }

-- tables with the first definitions of the lines are right
pub labels_right : (tables : Tables) (forbidden : Call → Bool) (lines : List (CalculationLine Name)) → tables.tags ≡ firsts (tags_from first_calculation lines)
    → tables.subroutines ≡ firsts (subroutines_from first_calculation lines) → calculations_clear forbidden first_calculation (map (known_calculation tables) lines) ≡ true
    → labels_stand tables.tags tables.subroutines (map (known_calculation tables) lines) ≡ true
unfolding labels_stand
labels_right tables forbidden lines tags subroutines clear =
    let all : AreLabelled tables first_calculation lines = all_labelled tables forbidden first_calculation lines clear in
    let tags_given : List (Name × TagPlace) = tags_from first_calculation lines in
    let subroutines_given : List (Name × SubroutinePlace) = subroutines_from first_calculation lines in
    let tags_apart : are_distinct (keys_of tags_given) ≡ true = ascending_distinct _ _ 0 tags_given all.tags.ascend in
    let subroutines_apart : are_distinct (keys_of subroutines_given) ≡ true = ascending_distinct _ _ 0 subroutines_given all.subroutines.ascend in
    let tags_are : tables.tags ≡ tags_given = tags ∙ distinct_first tags_given tags_apart in
    let subroutines_are : tables.subroutines ≡ subroutines_given = subroutines ∙ distinct_first subroutines_given subroutines_apart in
    both _ _ (both _ _ (both _ _ (ap (λ (table : List (Name × TagPlace)). are_distinct (keys_of table)) tags_are ∙ tags_apart)
    (ap (λ (table : List (Name × SubroutinePlace)). are_distinct (keys_of table)) subroutines_are ∙ subroutines_apart))
    (ap (λ (table : List (Name × TagPlace)). pointwise same_tag (map (λ tag. tag.1) table) (tag_places_from first_calculation (map (known_calculation tables) lines))) tags_are ∙ all.tags.same))
    (ap (λ (table : List (Name × SubroutinePlace)). pointwise nat_eq (map (λ subroutine. subroutine.1.place) table) (subroutine_places_from 0 (map (known_calculation tables) lines))) subroutines_are ∙ all.subroutines.same)
