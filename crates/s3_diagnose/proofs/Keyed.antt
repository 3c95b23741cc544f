-- Match and control fields by their places: an earlier field exists exactly if the first such field is earlier.
use Rattle.std.proofs.Common.{◌≡◌, ℕ, List, [], ◌∷◌, ◌++◌, Bool, true, false, cond, refl, ◌∙◌, ap, arith, length, sym}
use Rattle.std.specs.Prelude.{suc, ◌==◌, nat_lt, ◌&&◌, ◌||◌, Option, Some, None, is_some, is_none, map, flat_map, if◌then◌else◌}
use Rattle.std.specs.List.{list_any}
use Rattle.std.specs.Map.{lookup}
use Rattle.std.proofs.lemmas.Bool.{eqb-true}
use Rattle.std.proofs.lemmas.Bool.Decides.{nat_tests}
use Rattle.s3_cards.specs.declared.name.Name.{Name}
use Rattle.s3_lines.specs.declared.indicator.Indicator.{Indicator}
use Rattle.s3_lines.specs.Indicators.{same_indicator, indicator_number}
use Rattle.s3_lines.proofs.IndicatorLemmas.{by_number}
use Rattle.s3_lines.specs.declared.sheet.InputLine.{InputLine}
use Rattle.s3_lines.specs.declared.sheet.InputLine.TheVariants.{Record, And as AndCodes, Or as OrCodes, Field as FieldOfRecord}
use Rattle.s3_program.specs.declared.mark.Level.{Level}
use Rattle.s3_program.specs.declared.mark.GroupMark.{GroupMark}
use Rattle.s3_program.specs.declared.mark.TypeMark.{TypeMark}
use Rattle.s3_program.specs.declared.mark.TypeKey.{TypeKey}
use Rattle.s3_program.specs.Matching.{same_level, same_type, same_group_mark, same_type_mark, levels_of, has_type, group_mark, type_mark, counts_in_some, marks_in_all, marks_in_some, marks_in_type, is_before}
use Rattle.s3_diagnose.specs.Inner.Mismatched.{PlacedInput, inputs_from, group_above, type_key, has_level, is_in, is_of, gives, counts, meet, is_rival}

-- ---- match and control fields with their places: of all types of their group, of some, and of the types with an indicator
abbrev pub is_among : List TypeKey → TypeKey → Bool
is_among types kind = list_any (same_type kind) types

abbrev pub given_to_all : PlacedInput → List (GroupMark × ℕ)
given_to_all placed = on placed.0
  where
    on : InputLine Name → List (GroupMark × ℕ)
    on (FieldOfRecord field) = marks_in_all (group_above placed.1) (length placed.1) field.relation (levels_of field)
    on _ = []

abbrev pub given_to_some : (TypeKey → Bool) → PlacedInput → List (GroupMark × ℕ)
given_to_some is_type placed = on placed.0
  where
    on : InputLine Name → List (GroupMark × ℕ)
    on (FieldOfRecord field) =
        marks_in_some (has_type is_type (group_above placed.1)) (group_above placed.1) (length placed.1) field.relation (levels_of field)
    on _ = []

abbrev pub given_to_type : PlacedInput → List (TypeMark × ℕ)
given_to_type placed = on placed.0
  where
    on : InputLine Name → List (TypeMark × ℕ)
    on (FieldOfRecord field) = marks_in_type (group_above placed.1) (length placed.1) field.relation (levels_of field)
    on _ = []

-- ---- tests
and_false : (b : Bool) → false ≡ (b && false)
and_false true = refl
and_false false = refl

and_group : (a b c : Bool) → ((a && b) && c) ≡ (a && (b && c))
and_group true b c = refl
and_group false b c = refl

any_alike : {X : Type 0} (p q : X → Bool) → ((x : X) → p x ≡ q x) → (xs : List X) → list_any p xs ≡ list_any q xs
any_alike p q same [] = refl
any_alike p q same (x ∷ xs) = ap (λ b. b || list_any p xs) (same x) ∙ ap (λ b. q x || b) (any_alike p q same xs)

either_of : (a b c d : Bool) → ((a || c) || (b || d)) ≡ ((a || b) || (c || d))
either_of true true c d = refl
either_of true false c d = refl
either_of false true true d = refl
either_of false true false d = refl
either_of false false c d = refl

any_either : {X : Type 0} (p q r : X → Bool) → ((x : X) → (p x || q x) ≡ r x) → (xs : List X) → (list_any p xs || list_any q xs) ≡ list_any r xs
any_either p q r same [] = refl
any_either p q r same (x ∷ xs) =
    either_of (p x) (q x) (list_any p xs) (list_any q xs)
    ∙ (ap (λ b. b || (list_any p xs || list_any q xs)) (same x) ∙ ap (λ b. r x || b) (any_either p q r same xs))

-- ---- a look-up in the marks of one field, then in the others
looked_up : {M : Type 0} (p : M → Bool) (mark : Level → M) (place : ℕ) (b : Bool) (level : Level) → ((l : Level) → p (mark l) ≡ (b && same_level level l))
    → (levels : List Level) (rest : List (M × ℕ))
    → lookup p (map (λ l. (mark l, place)) levels ++ rest) ≡ cond (b && list_any (same_level level) levels) (Some place) (lookup p rest)
looked_up p mark place true level same [] rest = refl
looked_up p mark place true level same (l ∷ levels) rest =
    ap (λ b. cond b (Some place) (lookup p (map (λ l. (mark l, place)) levels ++ rest))) (same l)
    ∙ (ap (λ o. cond (same_level level l) (Some place) o) (looked_up p mark place true level same levels rest)
    ∙ either (same_level level l) (list_any (same_level level) levels) (lookup p rest))
  where
    either : (a b : Bool) (other : Option ℕ) → cond a (Some place) (cond b (Some place) other) ≡ cond (a || b) (Some place) other
    either true b other = refl
    either false b other = refl
looked_up p mark place false level same [] rest = refl
looked_up p mark place false level same (l ∷ levels) rest =
    ap (λ b. cond b (Some place) (lookup p (map (λ l. (mark l, place)) levels ++ rest))) (same l)
    ∙ looked_up p mark place false level same levels rest

-- a field of all types of the group, of some type, or only of the types with an indicator
abbrev of_all : ℕ → Level → PlacedInput → Bool
of_all group level placed = on placed.0
  where
    on : InputLine Name → Bool
    on (FieldOfRecord field) = is_in group (group_above placed.1) && (is_none field.relation && has_level level field)
    on _ = false

abbrev of_some : List TypeKey → ℕ → Level → PlacedInput → Bool
of_some types group level placed = is_rival types group None level placed

abbrev is_just_of : Indicator → Option Indicator → Bool
is_just_of indicator None = false
is_just_of indicator (Some relation) = same_indicator indicator relation

abbrev of_type : ℕ → Indicator → Level → PlacedInput → Bool
of_type group indicator level placed = on placed.0
  where
    on : InputLine Name → Bool
    on (FieldOfRecord field) = is_in group (group_above placed.1) && (is_just_of indicator field.relation && has_level level field)
    on _ = false

nothing : {M : Type 0} (p : M → Bool) (place : ℕ) (b : Bool) (rest : List (M × ℕ)) → lookup p rest ≡ cond (b && false) (Some place) (lookup p rest)
nothing p place true rest = refl
nothing p place false rest = refl

all_split : (group place : ℕ) (level : Level) (own : Option ℕ) (relation : Option Indicator) (levels : List Level) (rest : List (GroupMark × ℕ))
    → lookup (same_group_mark (group_mark group level)) (marks_in_all own place relation levels ++ rest)
    ≡ cond (is_in group own && (is_none relation && list_any (same_level level) levels)) (Some place) (lookup (same_group_mark (group_mark group level)) rest)
all_split group place level None None levels rest = refl
all_split group place level None (Some i) levels rest = refl
all_split group place level (Some g) None levels rest =
    looked_up (same_group_mark (group_mark group level)) (group_mark g) place (group == g) level (λ l. refl) levels rest
all_split group place level (Some g) (Some i) levels rest = nothing (same_group_mark (group_mark group level)) place (group == g) rest

some_kept : (group g place : ℕ) (level : Level) (c : Bool) (levels : List Level) (rest : List (GroupMark × ℕ))
    → lookup (same_group_mark (group_mark group level)) ((if c then map (λ l. (group_mark g l, place)) levels else []) ++ rest)
    ≡ cond ((group == g) && (c && list_any (same_level level) levels)) (Some place) (lookup (same_group_mark (group_mark group level)) rest)
some_kept group g place level true levels rest =
    looked_up (same_group_mark (group_mark group level)) (group_mark g) place (group == g) level (λ l. refl) levels rest
some_kept group g place level false levels rest = nothing (same_group_mark (group_mark group level)) place (group == g) rest

counts_there : (types : List TypeKey) (group g : ℕ) (relation : Option Indicator) (b : Bool) → (group == g) ≡ b → (x : Bool)
    → (b && (counts_in_some (has_type (is_among types) (Some g)) relation && x)) ≡ (b && (counts types group relation && x))
counts_there types group g None b same x = refl
counts_there types group g (Some i) true same x = ap (λ n. list_any (same_type (type_key i n)) types && x) (sym (eqb-true group g same))
counts_there types group g (Some i) false same x = refl

some_split : (types : List TypeKey) (group place : ℕ) (level : Level) (own : Option ℕ) (relation : Option Indicator) (levels : List Level) (rest : List (GroupMark × ℕ))
    → lookup (same_group_mark (group_mark group level)) (marks_in_some (has_type (is_among types) own) own place relation levels ++ rest)
    ≡ cond (is_in group own && (counts types group relation && list_any (same_level level) levels)) (Some place)
    (lookup (same_group_mark (group_mark group level)) rest)
some_split types group place level None relation levels rest = refl
some_split types group place level (Some g) relation levels rest =
    some_kept group g place level (counts_in_some (has_type (is_among types) (Some g)) relation) levels rest
    ∙ ap (λ b. cond b (Some place) (lookup (same_group_mark (group_mark group level)) rest))
    (counts_there types group g relation (group == g) refl (list_any (same_level level) levels))

type_split : (group place : ℕ) (indicator : Indicator) (level : Level) (own : Option ℕ) (relation : Option Indicator) (levels : List Level) (rest : List (TypeMark × ℕ))
    → lookup (same_type_mark (type_mark group indicator level)) (marks_in_type own place relation levels ++ rest)
    ≡ cond (is_in group own && (is_just_of indicator relation && list_any (same_level level) levels)) (Some place)
    (lookup (same_type_mark (type_mark group indicator level)) rest)
type_split group place indicator level None None levels rest = refl
type_split group place indicator level None (Some i) levels rest = refl
type_split group place indicator level (Some g) None levels rest = nothing (same_type_mark (type_mark group indicator level)) place (group == g) rest
type_split group place indicator level (Some g) (Some i) levels rest =
    looked_up (same_type_mark (type_mark group indicator level)) (type_mark g i) place ((group == g) && same_indicator indicator i) level
    (λ l. ap (λ b. ((group == g) && b) && same_level level l) (by_number indicator i))
    levels rest
    ∙ ap (λ b. cond b (Some place) (lookup (same_type_mark (type_mark group indicator level)) rest))
    (and_group (group == g) (same_indicator indicator i) (list_any (same_level level) levels))

-- ---- a look-up in the marks of all lines
abbrev Splits : {M : Type 0} → (M → Bool) → (PlacedInput → List (M × ℕ)) → (PlacedInput → Bool) → Type 0
Splits {M} p given has =
    (line : InputLine Name) (above : List (InputLine Name)) (rest : List (M × ℕ))
    → lookup p (given (line, above) ++ rest) ≡ cond (has (line, above)) (Some (length above)) (lookup p rest)

all_splits : (group : ℕ) (level : Level) → Splits (same_group_mark (group_mark group level)) given_to_all (of_all group level)
all_splits group level (Record file indicator codes) above rest = refl
all_splits group level (AndCodes codes) above rest = refl
all_splits group level (OrCodes indicator codes) above rest = refl
all_splits group level (FieldOfRecord field) above rest = all_split group (length above) level (group_above above) field.relation (levels_of field) rest

some_splits : (types : List TypeKey) (group : ℕ) (level : Level)
    → Splits (same_group_mark (group_mark group level)) (given_to_some (is_among types)) (of_some types group level)
some_splits types group level (Record file indicator codes) above rest = refl
some_splits types group level (AndCodes codes) above rest = refl
some_splits types group level (OrCodes indicator codes) above rest = refl
some_splits types group level (FieldOfRecord field) above rest =
    some_split types group (length above) level (group_above above) field.relation (levels_of field) rest

type_splits : (group : ℕ) (indicator : Indicator) (level : Level)
    → Splits (same_type_mark (type_mark group indicator level)) given_to_type (of_type group indicator level)
type_splits group indicator level (Record file own codes) above rest = refl
type_splits group indicator level (AndCodes codes) above rest = refl
type_splits group indicator level (OrCodes own codes) above rest = refl
type_splits group indicator level (FieldOfRecord field) above rest =
    type_split group (length above) indicator level (group_above above) field.relation (levels_of field) rest

found : {M : Type 0} (p : M → Bool) (given : PlacedInput → List (M × ℕ)) (has : PlacedInput → Bool) → Splits p given has
    → (above lines : List (InputLine Name)) → is_some (lookup p (flat_map given (inputs_from above lines))) ≡ list_any has (inputs_from above lines)
found p given has splits above [] = refl
found p given has splits above (line ∷ lines) =
    ap (λ (o : Option ℕ). is_some o) (splits line above (flat_map given (inputs_from (line ∷ above) lines)))
    ∙ (some (has (line, above)) (length above) (lookup p (flat_map given (inputs_from (line ∷ above) lines)))
    ∙ ap (λ b. has (line, above) || b) (found p given has splits (line ∷ above) lines))
  where
    some : (b : Bool) (n : ℕ) (other : Option ℕ) → is_some (cond b (Some n) other) ≡ (b || is_some other)
    some true n other = refl
    some false n other = refl

abbrev pub above_of : ℕ → (PlacedInput → Bool) → PlacedInput → Bool
above_of place has other = nat_lt (length other.1) place && has other

later : (n place : ℕ) → nat_lt n place ≡ false → nat_lt (suc n) place ≡ false
later n place late = grind (arith, nat_tests, late)

too_late : (place : ℕ) (has : PlacedInput → Bool) (above lines : List (InputLine Name)) → nat_lt (length above) place ≡ false
    → list_any (above_of place has) (inputs_from above lines) ≡ false
too_late place has above [] late = refl
too_late place has above (line ∷ lines) late =
    ap (λ b. (b && has (line, above)) || list_any (above_of place has) (inputs_from (line ∷ above) lines)) late
    ∙ too_late place has (line ∷ above) lines (later (length above) place late)

first_of : (n place : ℕ) (b near : Bool) (other : Option ℕ) (rest : Bool) → nat_lt n place ≡ near → is_before place other ≡ rest
    → (near ≡ false → rest ≡ false) → is_before place (cond b (Some n) other) ≡ ((near && b) || rest)
first_of n place true true other rest same h none = same
first_of n place true false other rest same h none = same ∙ sym (none refl)
first_of n place false true other rest same h none = h
first_of n place false false other rest same h none = h

found_before : {M : Type 0} (p : M → Bool) (given : PlacedInput → List (M × ℕ)) (has : PlacedInput → Bool) → Splits p given has
    → (place : ℕ) (above lines : List (InputLine Name))
    → is_before place (lookup p (flat_map given (inputs_from above lines))) ≡ list_any (above_of place has) (inputs_from above lines)
found_before p given has splits place above [] = refl
found_before p given has splits place above (line ∷ lines) =
    ap (is_before place) (splits line above (flat_map given (inputs_from (line ∷ above) lines)))
    ∙ first_of (length above) place (has (line, above)) (nat_lt (length above) place) (lookup p (flat_map given (inputs_from (line ∷ above) lines)))
    (list_any (above_of place has) (inputs_from (line ∷ above) lines)) refl (found_before p given has splits place (line ∷ above) lines)
    (λ late. too_late place has (line ∷ above) lines (later (length above) place late))

-- ---- the match fields of a type
either_gives : (kind : TypeKey) (level : Level) (line : InputLine Name) (above : List (InputLine Name))
    → (of_all kind.group level (line, above) || of_type kind.group kind.indicator level (line, above)) ≡ gives level kind (line, above)
either_gives kind level (Record file indicator codes) above = refl
either_gives kind level (AndCodes codes) above = refl
either_gives kind level (OrCodes indicator codes) above = refl
either_gives kind level (FieldOfRecord field) above = on (is_in kind.group (group_above above)) field.relation (has_level level field)
  where
    on : (b : Bool) (relation : Option Indicator) (x : Bool)
        → ((b && (is_none relation && x)) || (b && (is_just_of kind.indicator relation && x))) ≡ (b && (is_of kind.indicator relation && x))
    on true None true = refl
    on true None false = refl
    on true (Some i) x = refl
    on false relation x = refl

pub has_match : (kind : TypeKey) (level : Level) (lines : List (InputLine Name))
    → (is_some (lookup (same_group_mark (group_mark kind.group level)) (flat_map given_to_all (inputs_from [] lines)))
    || is_some (lookup (same_type_mark (type_mark kind.group kind.indicator level)) (flat_map given_to_type (inputs_from [] lines))))
    ≡ list_any (gives level kind) (inputs_from [] lines)
has_match kind level lines =
    ap (λ b. b || is_some (lookup (same_type_mark (type_mark kind.group kind.indicator level)) (flat_map given_to_type (inputs_from [] lines))))
    (found (same_group_mark (group_mark kind.group level)) given_to_all (of_all kind.group level) (all_splits kind.group level) [] lines)
    ∙ (ap (λ b. list_any (of_all kind.group level) (inputs_from [] lines) || b)
    (found (same_type_mark (type_mark kind.group kind.indicator level)) given_to_type (of_type kind.group kind.indicator level)
    (type_splits kind.group kind.indicator level) [] lines)
    ∙ any_either (of_all kind.group level) (of_type kind.group kind.indicator level) (gives level kind)
    (λ placed. either_gives kind level placed.0 placed.1) (inputs_from [] lines))

-- ---- earlier fields of the same type
same_counts : (types : List TypeKey) (group : ℕ) (i j : Indicator) → same_indicator i j ≡ true → counts types group (Some i) ≡ counts types group (Some j)
same_counts types group i j same =
    any_alike (same_type (type_key i group)) (same_type (type_key j group))
    (λ (kind : TypeKey). ap (λ b. (group == kind.group) && b) (sym (by_number i kind.indicator)
    ∙ (ap (λ n. n == indicator_number kind.indicator) (nat_same (indicator_number i) (indicator_number j) (by_number i j ∙ same))
    ∙ by_number j kind.indicator)))
    types
  where
    nat_same : (a b : ℕ) → (a == b) ≡ true → a ≡ b
    nat_same a b h = eqb-true a b h

either_rival : (types : List TypeKey) (group place : ℕ) (i : Indicator) (level : Level) → counts types group (Some i) ≡ true
    → (line : InputLine Name) (above : List (InputLine Name))
    → (above_of place (of_all group level) (line, above) || above_of place (of_type group i level) (line, above))
    ≡ above_of place (is_rival types group (Some i) level) (line, above)
either_rival types group place i level all (Record file indicator codes) above = nothing_near (nat_lt (length above) place)
  where
    nothing_near : (near : Bool) → ((near && false) || (near && false)) ≡ (near && false)
    nothing_near true = refl
    nothing_near false = refl
either_rival types group place i level all (AndCodes codes) above = nothing_near (nat_lt (length above) place)
  where
    nothing_near : (near : Bool) → ((near && false) || (near && false)) ≡ (near && false)
    nothing_near true = refl
    nothing_near false = refl
either_rival types group place i level all (OrCodes indicator codes) above = nothing_near (nat_lt (length above) place)
  where
    nothing_near : (near : Bool) → ((near && false) || (near && false)) ≡ (near && false)
    nothing_near true = refl
    nothing_near false = refl
either_rival types group place i level all (FieldOfRecord field) above =
    on (nat_lt (length above) place) (is_in group (group_above above)) field.relation (has_level level field)
  where
    related : (j : Indicator) (m x : Bool) → same_indicator i j ≡ m → (m && x) ≡ (counts types group (Some j) && (m && x))
    related j true x same = sym (ap (λ b. b && (true && x)) (sym (same_counts types group i j same) ∙ all))
    related j false x same = and_false (counts types group (Some j))

    on : (near b : Bool) (relation : Option Indicator) (x : Bool)
        → ((near && (b && (is_none relation && x))) || (near && (b && (is_just_of i relation && x))))
        ≡ (near && (b && (counts types group relation && (meet (Some i) relation && x))))
    on true true None true = refl
    on true true None false = refl
    on true true (Some j) x = related j (same_indicator i j) x refl
    on true false relation x = refl
    on false b relation x = refl

-- the condition by look-ups
abbrev pub is_given_before_by : List TypeKey → (group place : ℕ) → Option Indicator → Level → List (InputLine Name) → Bool
is_given_before_by types group place None level lines =
    is_before place (lookup (same_group_mark (group_mark group level)) (flat_map (given_to_some (is_among types)) (inputs_from [] lines)))
is_given_before_by types group place (Some i) level lines =
    is_among types (type_key i group)
    && (is_before place (lookup (same_group_mark (group_mark group level)) (flat_map given_to_all (inputs_from [] lines)))
    || is_before place (lookup (same_type_mark (type_mark group i level)) (flat_map given_to_type (inputs_from [] lines))))

pub given_before : (types : List TypeKey) (group place : ℕ) (relation : Option Indicator) (level : Level) (lines : List (InputLine Name))
    → is_given_before_by types group place relation level lines
    ≡ (counts types group relation && list_any (above_of place (is_rival types group relation level)) (inputs_from [] lines))
given_before types group place None level lines =
    found_before (same_group_mark (group_mark group level)) (given_to_some (is_among types)) (of_some types group level) (some_splits types group level)
    place [] lines
given_before types group place (Some i) level lines = on (counts types group (Some i)) refl
  where
    all_of : Option ℕ
    all_of = lookup (same_group_mark (group_mark group level)) (flat_map given_to_all (inputs_from [] lines))

    type_of : Option ℕ
    type_of = lookup (same_type_mark (type_mark group i level)) (flat_map given_to_type (inputs_from [] lines))

    on : (b : Bool) → counts types group (Some i) ≡ b
        → (b && (is_before place all_of || is_before place type_of))
        ≡ (b && list_any (above_of place (is_rival types group (Some i) level)) (inputs_from [] lines))
    on true all =
        ap (λ b. b || is_before place type_of)
        (found_before (same_group_mark (group_mark group level)) given_to_all (of_all group level) (all_splits group level) place [] lines)
        ∙ (ap (λ b. list_any (above_of place (of_all group level)) (inputs_from [] lines) || b)
        (found_before (same_type_mark (type_mark group i level)) given_to_type (of_type group i level) (type_splits group i level) place [] lines)
        ∙ any_either (above_of place (of_all group level)) (above_of place (of_type group i level)) (above_of place (is_rival types group (Some i) level))
        (λ placed. either_rival types group place i level all placed.0 placed.1) (inputs_from [] lines))
    on false none = refl
