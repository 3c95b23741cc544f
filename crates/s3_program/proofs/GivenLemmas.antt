-- Tables of first entries: a look-up finds the same as in all entries, and no name occurs twice.
use Rattle.std.proofs.Common.{◌≡◌, ℕ, ◌+◌, ◌<◌, ◌++◌, length, take, get_or, List, [], ◌∷◌, Bool, true, false, cond, ◌||◌, refl, sym, ◌∙◌, ap, append_assoc, arith, ◌==◌, ◌⊎◌, inl, inr}
use Rattle.std.specs.Prelude.{Option, Some, None, is_some, not, unwrap_or, filter_map}
use Rattle.std.specs.Option.{option_or, option_to_list}
use Rattle.std.specs.List.{list_any, list_all}
use Rattle.std.specs.Map.{lookup, keys_of}
use Rattle.std.proofs.lemmas.Bool.{cases_Bool, and_parts, true≢false}
use Rattle.std.proofs.lemmas.List.{take_more, append-nil}
use Rattle.std.proofs.lemmas.List.Elements.{filter_map-append}
use Rattle.s3_cards.specs.declared.name.Name.{Name}
use Rattle.s3_cards.specs.Names.{same_name}
use Rattle.s3_cards.proofs.DeckLemmas.{option_or_assoc}
use Rattle.s3_cards.proofs.NameLemmas.{same_name-equal, same_name-self}
use Rattle.s3_lines.specs.declared.sheet.Line.{Line}
use Rattle.std.proofs.lemmas.Bool.Decides.{nat_tests}
use Rattle.s3_lines.specs.Reserved.{reserved_names}
use Rattle.s3_lines.specs.declared.sheet.Shape.{Shape}
use Rattle.s3_lines.specs.declared.sheet.Shape.TheVariants.{Alphanumeric, Numeric}
use Rattle.s3_meaning.specs.Source.{reserved_shapes, shape_in}
use Rattle.s3_program.specs.Inner.Distinct.{are_distinct}
use Rattle.s3_program.specs.Shapes.{same_shape}
use Rattle.s3_program.specs.Inner.Valid.{begin_reserved}
use Rattle.s3_program.specs.Inner.Given.{noted, all_noted, firsts}
use Rattle.s3_program.proofs.SoundLemmas.{both}

-- ---- look-ups
pub found_in_both : {K X : Type 0} (test : K → Bool) (xs ys : List (K × X)) → lookup test (xs ++ ys) ≡ option_or (lookup test xs) (lookup test ys)
found_in_both test [] ys = refl
found_in_both {K} {X} test (x ∷ xs) ys = step (test x.0) (found_in_both test xs ys)
  where
    step : (b : Bool) → lookup test (xs ++ ys) ≡ option_or (lookup test xs) (lookup test ys)
        → cond b (Some x.1) (lookup test (xs ++ ys)) ≡ option_or (cond b (Some x.1) (lookup test xs)) (lookup test ys)
    step true later = refl
    step false later = later

found_or : {X : Type 0} (o : Option X) (rest : Option X) → is_some o ≡ true → option_or o rest ≡ o
found_or None rest there = absurd (true≢false (sym there))
found_or (Some x) rest there = refl

pub or_none : {X : Type 0} (o : Option X) → option_or o None ≡ o
or_none None = refl
or_none (Some x) = refl

note_found : {X : Type 0} (name : Name) (table : List (Name × X)) (entry : Name × X)
    → lookup (same_name name) (noted table entry) ≡ option_or (lookup (same_name name) table) (lookup (same_name name) (entry ∷ []))
note_found {X} name table entry = elim (cases_Bool (is_some (lookup (same_name entry.0) table))) [
  | inl there ↦ rw there (old (same_name name entry.0) (same_name-equal name entry.0) there)
  | inr new ↦ rw new (found_in_both (same_name name) table (entry ∷ []))
]
  where
    old : (b : Bool) → (b ≡ true → name ≡ entry.0) → is_some (lookup (same_name entry.0) table) ≡ true
        → lookup (same_name name) table ≡ option_or (lookup (same_name name) table) (cond b (Some entry.1) None)
    old true same there = sym (found_or (lookup (same_name name) table) (Some entry.1) (ap (λ (n : Name). is_some (lookup (same_name n) table)) (same refl) ∙ there))
    old false same there = sym (or_none (lookup (same_name name) table))

pub all_found : {X : Type 0} (name : Name) (table entries : List (Name × X))
    → lookup (same_name name) (all_noted table entries) ≡ option_or (lookup (same_name name) table) (lookup (same_name name) entries)
unfolding all_noted
all_found name table [] = sym (or_none (lookup (same_name name) table))
all_found name table (entry ∷ entries) =
    all_found name (noted table entry) entries
    ∙ (ap (λ o. option_or o (lookup (same_name name) entries)) (note_found name table entry)
    ∙ (option_or_assoc (lookup (same_name name) table) (lookup (same_name name) (entry ∷ [])) (lookup (same_name name) entries)
    ∙ ap (option_or (lookup (same_name name) table)) (sym (found_in_both (same_name name) (entry ∷ []) entries))))

-- a name has its first entry's value
pub first_found : {X : Type 0} (name : Name) (entries : List (Name × X)) → lookup (same_name name) (firsts entries) ≡ lookup (same_name name) entries
first_found name entries = all_found name [] entries

-- ---- no name occurs twice
turned : (a b : Name) → same_name a b ≡ false → same_name b a ≡ false
turned a b apart = elim (cases_Bool (same_name b a)) [
  | inl same ↦ absurd (true≢false (sym (ap (λ (n : Name). same_name n b) (sym (same_name-equal b a same)) ∙ same_name-self b) ∙ apart))
  | inr other ↦ other
]

-- a name that is none of these and isn't the last one
unlike : {X : Type 0} (name : Name) (entry : Name × X) → same_name name entry.0 ≡ false → (xs : List (Name × X)) → not (list_any (same_name name) (keys_of xs)) ≡ true
    → not (list_any (same_name name) (keys_of (xs ++ entry ∷ []))) ≡ true
unlike name entry apart [] none = rw apart refl
unlike {X} name entry apart (x ∷ xs) none = step (same_name name x.0) (unlike name entry apart xs) none
  where
    step : (b : Bool) → (not (list_any (same_name name) (keys_of xs)) ≡ true → not (list_any (same_name name) (keys_of (xs ++ entry ∷ []))) ≡ true)
        → not (b || list_any (same_name name) (keys_of xs)) ≡ true → not (b || list_any (same_name name) (keys_of (xs ++ entry ∷ []))) ≡ true
    step true later none = none
    step false later none = later none

absent : {X : Type 0} (table : List (Name × X)) (entry : Name × X) → is_some (lookup (same_name entry.0) table) ≡ false → are_distinct (keys_of table) ≡ true
    → are_distinct (keys_of (table ++ entry ∷ [])) ≡ true
absent [] entry new distinct = refl
absent {X} (e ∷ es) entry new distinct =
    let parts = and_parts (not (list_any (same_name e.0) (keys_of es))) (are_distinct (keys_of es)) distinct in
    let apart = first (same_name entry.0 e.0) refl new in
    both _ _ (unlike e.0 entry (turned entry.0 e.0 apart.0) es parts.0) (absent es entry apart.1 parts.1)
  where
    first : (b : Bool) → same_name entry.0 e.0 ≡ b → is_some (cond b (Some e.1) (lookup (same_name entry.0) es)) ≡ false
        → (same_name entry.0 e.0 ≡ false) × (is_some (lookup (same_name entry.0) es) ≡ false)
    first true at new = absurd (true≢false new)
    first false at new = (at, new)

pub all_distinct : {X : Type 0} (table entries : List (Name × X)) → are_distinct (keys_of table) ≡ true → are_distinct (keys_of (all_noted table entries)) ≡ true
unfolding all_noted
all_distinct table [] distinct = distinct
all_distinct {X} table (entry ∷ entries) distinct = all_distinct (noted table entry) entries (step (cases_Bool (is_some (lookup (same_name entry.0) table))))
  where
    step : (is_some (lookup (same_name entry.0) table) ≡ true) ⊎ (is_some (lookup (same_name entry.0) table) ≡ false) → are_distinct (keys_of (noted table entry)) ≡ true
    step (inl there) = rw there distinct
    step (inr new) = rw new (absent table entry new distinct)

-- ---- one line more
pub none_first : {X : Type 0} → firsts {X = X} [] ≡ []
unfolding all_noted
none_first = refl

pub noted_behind : {X : Type 0} (table xs ys : List (Name × X)) → all_noted table (xs ++ ys) ≡ all_noted (all_noted table xs) ys
unfolding all_noted
noted_behind table [] ys = refl
noted_behind table (x ∷ xs) ys = noted_behind (noted table x) xs ys

pub one_more : {X : Type 0} (old new : List (Name × X)) (f : Line → Option (Name × X)) (lines : List Line) (k : ℕ) (line : Line) → k < length lines → old ≡ firsts (filter_map f (take k lines))
    → new ≡ all_noted old (option_to_list (f (get_or lines k line))) → new ≡ firsts (filter_map f (take (k + 1) lines))
one_more {X} old new f lines k line within before more =
    more ∙ (ap (λ table. all_noted table (option_to_list (f (get_or lines k line)))) before
    ∙ (sym (noted_behind [] (filter_map f (take k lines)) (option_to_list (f (get_or lines k line))))
    ∙ ap firsts (ap (λ xs. filter_map f (take k lines) ++ xs) (sym (last_of (f (get_or lines k line)))) ∙ (sym (filter_map-append f (take k lines) (get_or lines k line ∷ [])) ∙ ap (filter_map f) (sym (take_more lines k line within))))))
  where
    last_of : (entry : Option (Name × X)) → filter_map {X = Option (Name × X)} (λ o. o) (entry ∷ []) ≡ option_to_list entry
    last_of None = refl
    last_of (Some entry) = refl

-- ---- shapes
-- the result of a look-up of shapes
shape_found : (shapes : List (Name × Shape)) (name : Name) (shape : Shape) → lookup (same_name name) shapes ≡ Some shape → shape_in shapes name ≡ shape
shape_found [] name shape there = cc
shape_found (s ∷ shapes) name shape there = step (same_name name s.0) there (shape_found shapes name shape)
  where
    step : (b : Bool) → cond b (Some s.1) (lookup (same_name name) shapes) ≡ Some shape → (lookup (same_name name) shapes ≡ Some shape → shape_in shapes name ≡ shape)
        → cond b s.1 (shape_in shapes name) ≡ shape
    step true there later = ap (λ o. unwrap_or o shape) there
    step false there later = later there

-- a name that none of these entries has differs from the entry's name
apart_from : {X : Type 0} (name : Name) (xs ys : List (Name × X)) (entry : Name × X) → not (list_any (same_name name) (keys_of (xs ++ entry ∷ ys))) ≡ true → same_name name entry.0 ≡ false
apart_from name [] ys entry none = first (same_name name entry.0) (list_any (same_name name) (keys_of ys)) none
  where
    first : (a b : Bool) → not (a || b) ≡ true → a ≡ false
    first true b none = sym none
    first false b none = refl
apart_from name (x ∷ xs) ys entry none = apart_from name xs ys entry (second (same_name name x.0) (list_any (same_name name) (keys_of (xs ++ entry ∷ ys))) none)
  where
    second : (a b : Bool) → not (a || b) ≡ true → not b ≡ true
    second true b none = absurd (true≢false (sym none))
    second false b none = none

-- in a table without repeated names, the look-up of an entry's name finds the entry
own_found : {X : Type 0} (before table : List (Name × X)) (entry : Name × X) → are_distinct (keys_of (before ++ entry ∷ table)) ≡ true
    → lookup (same_name entry.0) (before ++ entry ∷ table) ≡ Some entry.1
own_found [] table entry distinct = rw (same_name-self entry.0) refl
own_found {X} (e ∷ before) table entry distinct =
    let parts = and_parts (not (list_any (same_name e.0) (keys_of (before ++ entry ∷ table)))) (are_distinct (keys_of (before ++ entry ∷ table))) distinct in
    rw (turned e.0 entry.0 (apart_from e.0 before table entry parts.0)) (own_found before table entry parts.1)

same_number : (n : ℕ) → (n == n) ≡ true
same_number n = grind (arith, nat_tests)

same_self : (shape : Shape) → same_shape shape shape ≡ true
same_self (Alphanumeric n) = same_number n
same_self (Numeric n d) = both (n == n) (d == d) (same_number n) (same_number d)

-- each entry of the table has the shape that the first of all entries gives its name
shaped_by : (entries before table : List (Name × Shape)) → before ++ table ≡ firsts entries → list_all (λ field. same_shape (shape_in entries field.0) field.1) table ≡ true
shaped_by entries before [] whole = refl
shaped_by entries before (field ∷ table) whole =
    let distinct : are_distinct (keys_of (before ++ field ∷ table)) ≡ true = ap (λ (t : List (Name × Shape)). are_distinct (keys_of t)) whole ∙ all_distinct [] entries refl in
    let there : lookup (same_name field.0) entries ≡ Some field.1 =
    sym (first_found field.0 entries) ∙ (ap (lookup (same_name field.0)) (sym whole) ∙ own_found before table field distinct) in
    both _ _ (ap (λ shape. same_shape shape field.1) (shape_found entries field.0 field.1 there) ∙ same_self field.1)
    (shaped_by entries (before ++ field ∷ []) table (append_assoc before (field ∷ []) table ∙ whole))

pub first_shapes : (entries : List (Name × Shape)) → list_all (λ field. same_shape (shape_in entries field.0) field.1) (firsts entries) ≡ true
first_shapes entries = shaped_by entries [] (firsts entries) refl

-- the reserved fields stay first
kept_first : (table entries : List (Name × Shape)) → (more : List (Name × Shape)) × (all_noted table entries ≡ table ++ more)
unfolding all_noted
kept_first table [] = ([], sym (append-nil table))
kept_first table (entry ∷ entries) = step (is_some (lookup (same_name entry.0) table)) refl (kept_first table entries) (kept_first (table ++ entry ∷ []) entries)
  where
    step : (b : Bool) → is_some (lookup (same_name entry.0) table) ≡ b → (more : List (Name × Shape)) × (all_noted table entries ≡ table ++ more)
        → (more : List (Name × Shape)) × (all_noted (table ++ entry ∷ []) entries ≡ (table ++ entry ∷ []) ++ more) → (more : List (Name × Shape)) × (all_noted (noted table entry) entries ≡ table ++ more)
    step true here old new = (old.0, rw here old.1)
    step false here old new = (entry ∷ new.0, rw here (new.1 ∙ append_assoc table (entry ∷ []) new.0))

pub reserved_first : (entries : List (Name × Shape)) → begin_reserved (firsts (reserved_shapes ++ entries)) ≡ true
unfolding all_noted reserved_names
reserved_first entries =
    let kept = kept_first reserved_shapes entries in
    let whole : firsts (reserved_shapes ++ entries) ≡ reserved_shapes ++ kept.0 = noted_behind [] reserved_shapes entries ∙ kept.1 in
    ap begin_reserved whole

-- ---- if no name occurs twice, each entry is its name's first
new_behind : {X : Type 0} (xs ys : List (Name × X)) (entry : Name × X) → are_distinct (keys_of (xs ++ entry ∷ ys)) ≡ true → is_some (lookup (same_name entry.0) xs) ≡ false
new_behind [] ys entry distinct = refl
new_behind (x ∷ xs) ys entry distinct =
    let parts = and_parts (not (list_any (same_name x.0) (keys_of (xs ++ entry ∷ ys)))) (are_distinct (keys_of (xs ++ entry ∷ ys))) distinct in
    rw (turned x.0 entry.0 (apart_from x.0 xs ys entry parts.0)) (new_behind xs ys entry parts.1)

all_behind : {X : Type 0} (table entries : List (Name × X)) → are_distinct (keys_of (table ++ entries)) ≡ true → all_noted table entries ≡ table ++ entries
unfolding all_noted
all_behind table [] distinct = sym (append-nil table)
all_behind {X} table (entry ∷ entries) distinct =
    let new : is_some (lookup (same_name entry.0) table) ≡ false = new_behind table entries entry distinct in
    let same : noted table entry ≡ table ++ entry ∷ [] = rw new refl in
    let joined : (table ++ entry ∷ []) ++ entries ≡ table ++ entry ∷ entries = append_assoc table (entry ∷ []) entries in
    ap (λ (t : List (Name × X)). all_noted t entries) same
    ∙ (all_behind (table ++ entry ∷ []) entries (ap (λ (t : List (Name × X)). are_distinct (keys_of t)) joined ∙ distinct) ∙ joined)

pub distinct_first : {X : Type 0} (entries : List (Name × X)) → are_distinct (keys_of entries) ≡ true → firsts entries ≡ entries
distinct_first entries distinct = all_behind [] entries distinct
