-- Which fields have which bytes of a record.
use Rattle.std.proofs.Common.{◌≡◌, ℕ, ◌+◌, ◌-◌, ◌<◌, ◌≤◌, ◌≢◌, ◌*◌, refl, arith, sym, ◌∙◌, ap, ap₂, subst, Bool, true, false, ◌||◌, ◌&&◌, not, cond, suc, zero, nat_le, nat_lt, List, [], ◌∷◌, ◌++◌, length, take, get_or, replicate, slice_set, inl, inr}
use Rattle.std.specs.List.{All, Contains, filter, list_all, list_any, range_with_len}
use Rattle.std.proofs.lemmas.List.{get_or-replicate, get_or-set_other, get_or-set_same, get_or_append_left, get_or_push, length-append, take_all}
use Rattle.std.proofs.lemmas.List.Elements.{All-contains, All-filter, filter_more}
use Rattle.std.proofs.lemmas.List.Folds.{Any-from_list_any, list_any_at, list_any_more}
use Rattle.std.proofs.lemmas.Bool.{and_parts, cases_Bool, cases_eq, eqb-true, le-leb, leb-false, leb-true, lt-ltb, ltb-false, ltb-true}
use Rattle.std.proofs.Math.Bool.{and-true}
use Rattle.s3_cells.specs.Inner.Fields.{LiesIn}
use Rattle.s3_cells.specs.Inner.Values.{is_kind_of}
use Rattle.s3_cells.specs.declared.field.Field.{Field}
use Rattle.s3_cells.specs.declared.kind.FieldKind.{FieldKind}
use Rattle.s3_cells.specs.declared.kind.FieldKind.TheVariants.{Text as TextKind, Zoned, Packed, Date}
use Rattle.s3_load.specs.Inner.Columns.{has_byte, is_clear, is_covered, is_inside, left_out, overlap}
use Rattle.s3_load.specs.Inner.Owners.{AreOwners, IsFree, is_owned, owns_whole, unowned}
use Rattle.s3_load.proofs.ColumnLemmas.{clear_number}

-- ---- the fields that are named
pub one_more_among : (fields old new : List Field) (field : Field) → All (Contains fields) old → Contains fields field → new ≡ old ++ field ∷ [] → All (Contains fields) new
one_more_among fields old new field before one added k d h =
    let long : length new ≡ length old + 1 = ap length added ∙ length-append old (field ∷ []) in
    elim (cases_eq k (length old)) [
      | inl here ↦ subst (Contains fields) (sym (ap (λ xs. get_or xs k d) added ∙ get_or_push old field d k (sym here))) one
      | inr other ↦
          let low : k < length old = omega arith in
          subst (Contains fields) (sym (ap (λ xs. get_or xs k d) added ∙ get_or_append_left old (field ∷ []) d k low)) (before k d low)
    ]

pub named_within : (n : ℕ) (fields named : List Field) → All (LiesIn n) fields → All (Contains fields) named → All (LiesIn n) named
named_within n fields named all among k d h = All-contains (LiesIn n) fields (get_or named k d) all (among k d h)

pub none_left : {X : Type 0} (xs : List X) → length xs ≡ 0 → xs ≡ []
none_left [] h = refl
none_left (x ∷ xs) h = absurd (omega (arith, h))

pub missing_within : (n : ℕ) (fields : List Field) (owners : List ℕ) → All (LiesIn n) fields → All (LiesIn n) (unowned owners fields)
missing_within n fields owners all = All-filter (λ field. not (owns_whole owners field)) (LiesIn n) fields all

-- ---- bytes between two places
abbrev pub is_between : (start stop place : ℕ) → Bool
is_between start stop place = nat_le start place && nat_lt place stop

same_tests : (a b : Bool) → (a ≡ true → b ≡ true) → (b ≡ true → a ≡ true) → a ≡ b
same_tests true true h k = refl
same_tests true false h k = sym (h refl)
same_tests false true h k = k refl
same_tests false false h k = refl

or_none : (a b : Bool) → b ≡ false → a ≡ (a || b)
or_none true b h = refl
or_none false b h = sym h

or_some : (a b : Bool) → b ≡ true → (a || b) ≡ true
or_some true b h = refl
or_some false b h = h

or_first : (a b : Bool) → (a || b) ≡ false → a ≡ false
or_first true b h = h
or_first false b h = refl

between_none : (start k : ℕ) → is_between start start k ≡ false
between_none start k = elim (cases_Bool (is_between start start k)) [
  | inl it ↦
      let both = and_parts (nat_le start k) (nat_lt k start) it in
      let low = leb-true start k both.0 in
      let high = ltb-true k start both.1 in
      absurd (omega arith)
  | inr none ↦ none
]

between_here : (start cur : ℕ) → start ≤ cur → is_between start (cur + 1) cur ≡ true
between_here start cur low = ap₂ (λ a b. a && b) (le-leb start cur low) (lt-ltb cur (cur + 1) (omega arith))

between_other : (start cur k : ℕ) → k ≢ cur → is_between start (cur + 1) k ≡ is_between start cur k
between_other start cur k other = ap (λ b. nat_le start k && b) (same_tests (nat_lt k (cur + 1)) (nat_lt k cur)
    (λ h. let below = ltb-true k (cur + 1) h in lt-ltb k cur (omega arith))
    (λ h. let below = ltb-true k cur h in lt-ltb k (cur + 1) (omega arith)))

-- ---- a field that gets bytes
pub none_between : (start : ℕ) (owners : List ℕ) (k : ℕ) → is_owned owners k ≡ (is_owned owners k || is_between start start k)
none_between start owners k = or_none (is_owned owners k) (is_between start start k) (between_none start k)

pub own_more : (start cur v : ℕ) (initial owners new : List ℕ) → start ≤ cur → cur < length owners → 0 < v → new ≡ slice_set owners cur v → ((k : ℕ) → is_owned owners k ≡ (is_owned initial k || is_between start cur k))
    → (k : ℕ) → is_owned new k ≡ (is_owned initial k || is_between start (cur + 1) k)
own_more start cur v initial owners new low fits some is before k = elim (cases_eq k cur) [
  | inl here ↦
      let set : get_or new k 0 ≡ v = ap (λ xs. get_or xs k 0) is ∙ ap (λ i. get_or (slice_set owners cur v) i 0) here ∙ get_or-set_same owners cur v 0 fits in
      let left : is_owned new k ≡ true = ap (nat_lt 0) set ∙ lt-ltb 0 v some in
      let right : is_between start (cur + 1) k ≡ true = ap (is_between start (cur + 1)) here ∙ between_here start cur low in
      left ∙ sym (or_some (is_owned initial k) (is_between start (cur + 1) k) right)
  | inr other ↦
      let same : get_or new k 0 ≡ get_or owners k 0 = ap (λ xs. get_or xs k 0) is ∙ get_or-set_other owners cur k v 0 other in
      ap (nat_lt 0) same ∙ before k ∙ ap (λ b. is_owned initial k || b) (sym (between_other start cur k other))
]

pub own_all : (field : Field) (start stop : ℕ) (initial owners : List ℕ) → start ≡ field.start → stop ≡ field.start + field.width → ((k : ℕ) → is_owned owners k ≡ (is_owned initial k || is_between start stop k))
    → (k : ℕ) → is_owned owners k ≡ (is_owned initial k || has_byte k field)
own_all field start stop initial owners first last before k = before k ∙ ap₂ (λ a b. is_owned initial k || is_between a b k) first last

-- ---- the bytes of a field, looked at one after another
abbrev pub FreeBelow : List ℕ → (start stop : ℕ) → Type 0
FreeBelow owners start stop = (k : ℕ) → is_between start stop k ≡ true → is_owned owners k ≡ false

pub none_looked : (start first : ℕ) (owners : List ℕ) → first ≡ 0 → FreeBelow owners start start
none_looked start first owners none k it = absurd (cc (between_none start k))

free_zero : (owners : List ℕ) (k : ℕ) → get_or owners k 0 ≡ 0 → is_owned owners k ≡ false
free_zero owners k none = ap (nat_lt 0) none

pub one_more_looked : (start cur first next here : ℕ) (owners : List ℕ) → here ≡ get_or owners cur 0 → (next ≡ 0 → first ≡ 0) → (next ≡ 0 → here ≡ 0) → (first ≡ 0 → FreeBelow owners start cur)
    → next ≡ 0 → FreeBelow owners start (cur + 1)
one_more_looked start cur first next here owners is one other before none k it = elim (cases_eq k cur) [
  | inl at ↦ free_zero owners k (ap (λ i. get_or owners i 0) at ∙ sym is ∙ other none)
  | inr beside ↦ before (one none) k (sym (between_other start cur k beside) ∙ it)
]

pub all_looked : (field : Field) (start stop : ℕ) (owners : List ℕ) → start ≡ field.start → stop ≡ field.start + field.width → FreeBelow owners start stop → IsFree owners field
all_looked field start stop owners first last free k it = free k (ap₂ (λ a b. is_between a b k) first last ∙ it)

-- ---- tests of each byte of a field
abbrev pub AllBelow : (ℕ → Bool) → (start stop : ℕ) → Type 0
AllBelow p start stop = (start ≤ stop) × (list_all p (range_with_len start (stop - start)) ≡ true)

all_more : (p : ℕ → Bool) (a n : ℕ) → list_all p (range_with_len a (suc n)) ≡ (list_all p (range_with_len a n) && p (a + n))
all_more p a zero = let at : a + 0 ≡ a = omega arith in and-true (p a) ∙ ap p (sym at)
all_more p a (suc n) =
    let at : a + 1 + n ≡ a + suc n = omega arith in
    ap (λ b. p a && b) (all_more p (a + 1) n ∙ ap (λ i. list_all p (range_with_len (a + 1) n) && p i) at)
    ∙ elim (p a) as (λ b. (b && (list_all p (range_with_len (a + 1) n) && p (a + suc n))) ≡ ((b && list_all p (range_with_len (a + 1) n)) && p (a + suc n))) [ true ↦ refl | false ↦ refl ]

all_fails : (p : ℕ → Bool) (a n i : ℕ) → a ≤ i → i < a + n → p i ≡ false → list_all p (range_with_len a n) ≡ false
all_fails p a zero i low high fails = absurd (omega arith)
all_fails p a (suc n) i low high fails = elim (cases_eq i a) [
  | inl here ↦ ap (λ b. b && list_all p (range_with_len (a + 1) n)) (ap p (sym here) ∙ fails)
  | inr more ↦ ap (λ b. p a && b) (all_fails p (a + 1) n i (omega arith) (omega arith) fails) ∙ elim (p a) as (λ b. (b && false) ≡ false) [ true ↦ refl | false ↦ refl ]
]

pub none_whole : (owners : List ℕ) (start : ℕ) → AllBelow (is_owned owners) start start
none_whole owners start = let none : start - start ≡ 0 = omega arith in (omega arith, ap (λ n. list_all (is_owned owners) (range_with_len start n)) none)

pub one_more_whole : (owners : List ℕ) (start place here : ℕ) → AllBelow (is_owned owners) start place → here ≡ get_or owners place 0 → here ≢ 0 → AllBelow (is_owned owners) start (place + 1)
one_more_whole owners start place here before is some =
    let low = before.0 in
    let more : place + 1 - start ≡ suc (place - start) = omega arith in
    let at : start + (place - start) ≡ place = omega arith in
    let one : is_owned owners place ≡ true = lt-ltb 0 (get_or owners place 0) (let there : 0 < here = omega arith in subst (λ n. 0 < n) is there) in
    (omega arith, ap (λ n. list_all (is_owned owners) (range_with_len start n)) more ∙ all_more (is_owned owners) start (place - start) ∙ ap₂ (λ a b. a && b) before.1 (ap (is_owned owners) at ∙ one))

pub all_whole : (owners : List ℕ) (field : Field) (start stop : ℕ) → start ≡ field.start → stop ≡ field.start + field.width → AllBelow (is_owned owners) start stop → true ≡ owns_whole owners field
all_whole owners field start stop first last below =
    let wide : stop - start ≡ field.width = omega arith in
    sym (ap₂ (λ a n. list_all (is_owned owners) (range_with_len a n)) (sym first) (sym wide) ∙ below.1)

pub one_missing : (owners : List ℕ) (field : Field) (place here : ℕ) → field.start ≤ place → place < field.start + field.width → here ≡ get_or owners place 0 → here ≡ 0 → false ≡ owns_whole owners field
one_missing owners field place here low high is none = sym (all_fails (is_owned owners) field.start field.width place low high (free_zero owners place (sym is ∙ none)))

-- ---- owners and their fields
pub none_owned : (n : ℕ) (owners : List ℕ) → owners ≡ replicate n 0 → AreOwners [] owners
none_owned n owners is k =
    let at : get_or owners k 0 ≡ get_or (replicate n 0) k 0 = ap (λ (xs : List ℕ). get_or xs k 0) is in
    let none : ◌≡◌ {A = ℕ} (get_or (replicate n 0) k 0) 0 = elim (cases_Bool (nat_lt k n)) [
      | inl low ↦ get_or-replicate n k 0 0 (ltb-true k n low)
      | inr high ↦ replicate_past n k (ltb-false k n high)
    ] in
    free_zero owners k (at ∙ none)
  where
    replicate_past : (n k : ℕ) → n ≤ k → ◌≡◌ {A = ℕ} (get_or (replicate n 0) k 0) 0
    replicate_past zero k h = refl
    replicate_past (suc n) zero h = absurd (omega arith)
    replicate_past (suc n) (suc k) h = replicate_past n k (omega arith)

pub one_more_owner : (named : List Field) (i : ℕ) (f : Field) (old new : List ℕ) → i < length named → f ≡ get_or named i f → AreOwners (take i named) old → ((k : ℕ) → is_owned new k ≡ (is_owned old k || has_byte k f)) → AreOwners (take (i + 1) named) new
one_more_owner named i f old new h is before owns k =
    owns k ∙ ap₂ (λ a b. a || b) (before k) (ap (has_byte k) is) ∙ sym (list_any_more (has_byte k) named i f h)

pub all_owned : (named : List Field) (n : ℕ) (owners : List ℕ) → length named ≤ n → AreOwners (take n named) owners → AreOwners named owners
all_owned named n owners whole are = subst (λ fs. AreOwners fs owners) (take_all n named whole) are

-- ---- a field none of whose bytes has an owner lies over none of the owners
some_width : (kind : FieldKind) (width : ℕ) → is_kind_of kind width ≡ true → 0 < width
some_width (TextKind cells) width h =
    let one = leb-true 1 width (and_parts (nat_le 1 width) (nat_le width 256) h).0 in omega arith
some_width (Zoned decimals cells) width h =
    let a = (and_parts (nat_le 1 width && nat_le width 15 && nat_le decimals 9) (nat_le decimals width) h).0 in
    let b = (and_parts (nat_le 1 width && nat_le width 15) (nat_le decimals 9) a).0 in
    let one = leb-true 1 width (and_parts (nat_le 1 width) (nat_le width 15) b).0 in omega arith
some_width (Packed decimals cells) width h =
    let a = (and_parts (nat_le 1 width && nat_le width 8 && nat_le decimals 9) (nat_lt decimals (2 * width)) h).0 in
    let b = (and_parts (nat_le 1 width && nat_le width 8) (nat_le decimals 9) a).0 in
    let one = leb-true 1 width (and_parts (nat_le 1 width) (nat_le width 8) b).0 in omega arith
some_width (Date form) width h = let six = eqb-true width 6 h in omega arith

has_place : (field : Field) (place : ℕ) → field.start ≤ place → place < field.start + field.width → has_byte place field ≡ true
has_place field place low high = ap₂ (λ a b. a && b) (le-leb field.start place low) (lt-ltb place (field.start + field.width) high)

-- a byte that two fields share
shared : (one other : Field) → overlap one other ≡ true → (place : ℕ) × (has_byte place one ≡ true) × (has_byte place other ≡ true)
shared one other over =
    let both = and_parts (nat_lt one.start (other.start + other.width)) (nat_lt other.start (one.start + one.width)) over in
    let first = ltb-true one.start (other.start + other.width) both.0 in
    let second = ltb-true other.start (one.start + one.width) both.1 in
    let wide = some_width one.kind one.width one.suits in
    let broad = some_width other.kind other.width other.suits in
    elim (cases_Bool (nat_le one.start other.start)) [
      | inl low ↦ let at = leb-true one.start other.start low in (other.start, has_place one other.start at second, has_place other other.start (omega arith) (omega arith))
      | inr high ↦ let at = leb-false one.start other.start high in (one.start, has_place one one.start (omega arith) (omega arith), has_place other one.start (omega arith) first)
    ]

pub free_beside : (others : List Field) (field : Field) (owners : List ℕ) → AreOwners others owners → IsFree owners field → list_any (λ other. overlap other field) others ≡ false
free_beside others field owners are free = elim (cases_Bool (list_any (λ other. overlap other field) others)) [
  | inl some ↦
      let there = Any-from_list_any (λ other. overlap other field) others some in
      let other : Field = there.1 in
      let place = shared other field there.4 in
      let inside : is_inside others place.0 ≡ true = list_any_at (has_byte place.0) others there.0 other there.2 (ap (has_byte place.0) there.3 ∙ place.1) in
      absurd (cc (are place.0, free place.0 place.2))
  | inr none ↦ none
]

pub clear_free : (columns : List Field) (field : Field) (owners : List ℕ) → AreOwners columns owners → IsFree owners field → is_clear columns field ≡ true
clear_free columns field owners are free = clear_number columns field (free_beside columns field owners are free)

-- ---- fields that are left out
pub one_more_unowned : (owners : List ℕ) (fields : List Field) (i : ℕ) (f : Field) → i < length fields → f ≡ get_or fields i f
    → unowned owners (take (i + 1) fields) ≡ unowned owners (take i fields) ++ cond (not (owns_whole owners f)) (f ∷ []) []
one_more_unowned owners fields i f h is =
    filter_more (λ field. not (owns_whole owners field)) fields i f h
    ∙ ap (λ (g : Field). unowned owners (take i fields) ++ cond (not (owns_whole owners g)) (g ∷ []) []) (sym is)

all_same : (p q : ℕ → Bool) → ((i : ℕ) → p i ≡ q i) → (a n : ℕ) → list_all p (range_with_len a n) ≡ list_all q (range_with_len a n)
all_same p q h a zero = refl
all_same p q h a (suc n) = ap₂ (λ a b. a && b) (h a) (all_same p q h (a + 1) n)

filters_same : (p q : Field → Bool) → ((field : Field) → p field ≡ q field) → (fields : List Field) → filter p fields ≡ filter q fields
filters_same p q h [] = refl
filters_same p q h (x ∷ xs) = ap₂ (λ b rest. cond b (x ∷ rest) rest) (h x) (filters_same p q h xs)

pub unowned_left : (columns fields : List Field) (owners : List ℕ) → AreOwners columns owners → unowned owners fields ≡ left_out columns fields
unowned_left columns fields owners are =
    filters_same (λ field. not (owns_whole owners field)) (λ field. not (is_covered columns field))
    (λ field. ap not (all_same (is_owned owners) (is_inside columns) are field.start field.width)) fields
