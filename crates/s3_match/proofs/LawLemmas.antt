-- The first of the least heads, and heads of one key.
use Rattle.std.proofs.Common.{◌≡◌, ℕ, ◌<◌, ◌==◌, nat_lt, ◌&&◌, ◌||◌, length, map, get_or, List, [], ◌∷◌, Bool, true, false, not, refl, sym, ◌∙◌, ap, subst, zero, suc, arith}
use Rattle.std.specs.Prelude.{Option, Some, None, is_some, ◌↔◌, find, filter, option_map, slice_get, if◌then◌else◌}
use Rattle.std.specs.Option.{option_and_then, option_or}
use Rattle.std.specs.List.{Any, list_all, list_any}
use Rattle.std.proofs.lemmas.Bool.{and_parts, or_parts, or_from, and_right, le-ltb, true≢false}
use Rattle.std.proofs.lemmas.List.Folds.{Any-from_list_any, list_any-from_Any}
use Rattle.s3_cards.proofs.NameLemmas.{same_codes, equal_codes, same_name-self}
use Rattle.s3_cards.specs.Names.{same_name}
use Rattle.s3_lines.specs.declared.sheet.Designation.TheVariants.{Primary, Secondary}
use Rattle.s3_meaning.specs.Source.{is_designated}
use Rattle.s3_meaning.specs.Selection.{Head, Unread, InputFile, Reading, Selected, head_of, selectable, is_unread, vacated, taken, key_of, is_below, is_less, same_key, lesser, least, has_met_end, select_at_end, primary_first, select, is_matched}
use Rattle.s3_match.specs.Inner.Laws.{heads_of, stands_at, IsFirstLeast, HasKey, IsMatchedBySecondary, IsFirst, has_no_key, has_last_key}

-- ---- the first of the least
same_some : {X : Type 0} (a b : X) → Some a ≡ Some b → a ≡ b
same_some a b e = cc

-- a head in front of one with a lower key
in_front : (head : Selected) (heads : List Selected) (selected : Selected) → is_less (key_of selected) (key_of head) ≡ true → IsFirstLeast heads selected → IsFirstLeast (head ∷ heads) selected
in_front head heads selected lower found = record {
  before = head ∷ found.before;
  behind = found.behind;
  stands = ap (λ (xs : List Selected). head ∷ xs) found.stands;
  higher = each;
}
  where
    each : (k : ℕ) (d : Selected) → k < length (head ∷ found.before) → is_less (key_of selected) (key_of (get_or (head ∷ found.before) k d)) ≡ true
    each zero d within = lower
    each (suc k) d within = found.higher k d (omega (arith, within))

alone : (head : Selected) (heads : List Selected) → IsFirstLeast (head ∷ heads) head
alone head heads = record { before = []; behind = heads; stands = refl; higher = λ k d within. absurd (omega (arith, within)) }

pub first_least : (heads : List Selected) (selected : Selected) → least heads ≡ Some selected → IsFirstLeast heads selected
first_least [] selected e = cc
first_least (head ∷ heads) selected e =
    subst (IsFirstLeast (head ∷ heads)) (same_some (lesser head (least heads)) selected e) (by (least heads) (λ other found. first_least heads other found))
  where
    choose : (other : Selected) (b : Bool) → is_less (key_of other) (key_of head) ≡ b → IsFirstLeast heads other → IsFirstLeast (head ∷ heads) (if b then other else head)
    choose other true lower found = in_front head heads other lower found
    choose other false lower found = alone head heads

    by : (rest : Option Selected) → ((other : Selected) → rest ≡ Some other → IsFirstLeast heads other) → IsFirstLeast (head ∷ heads) (lesser head rest)
    by None found = alone head heads
    by (Some other) found = choose other (is_less (key_of other) (key_of head)) refl (found other refl)

none_without : (heads : List Selected) → list_all (λ head. is_some (key_of head)) heads ≡ true → find (λ selected. not (is_some (key_of selected))) heads ≡ None
none_without [] all = refl
none_without (head ∷ heads) all =
    let parts = and_parts (is_some (key_of head)) (list_all (λ head. is_some (key_of head)) heads) all in
    ap (λ (b : Bool). if not b then Some head else find (λ selected. not (is_some (key_of selected))) heads) parts.0 ∙ none_without heads parts.1

pub first_selected : (reading : Reading) (selected : Selected) → has_met_end reading.files ≡ false → list_all (λ head. is_some (key_of head)) (heads_of reading) ≡ true → select reading ≡ Some selected
    → IsFirstLeast (primary_first (heads_of reading)) selected
first_selected reading selected goes_on all e =
    let keyed : option_or (find (λ selected. not (is_some (key_of selected))) (heads_of reading)) (least (primary_first (heads_of reading))) ≡ Some selected =
    sym (ap (λ (b : Bool). if b then select_at_end (heads_of reading) reading.primary_key else option_or (find (λ selected. not (is_some (key_of selected))) (heads_of reading)) (least (primary_first (heads_of reading)))) goes_on) ∙ e in
    first_least (primary_first (heads_of reading)) selected
    (sym (ap (λ (o : Option Selected). option_or o (least (primary_first (heads_of reading)))) (none_without (heads_of reading) all)) ∙ keyed)

-- ---- heads of one key
same_there : (a b : Option (List ℕ)) → same_key a b ≡ true → (key : List ℕ) × (a ≡ Some key) × (b ≡ Some key)
same_there None None h = absurd (true≢false (sym h))
same_there None (Some b) h = absurd (true≢false (sym h))
same_there (Some a) None h = absurd (true≢false (sym h))
same_there (Some a) (Some b) h = (a, refl, ap Some (sym (equal_codes a b h)))

there_same : (a b : Option (List ℕ)) (key : List ℕ) → a ≡ Some key → b ≡ Some key → same_key a b ≡ true
there_same a b key e f = (λ i. same_key (e i) (f i)) ∙ same_codes key

pub secondary_matched : (reading : Reading) (selected : Selected) → is_designated Primary selected.file ≡ false → (is_matched reading selected ≡ true) ↔ HasKey selected reading.primary_key
secondary_matched reading selected other =
    let e : is_matched reading selected ≡ same_key (key_of selected) reading.primary_key =
    ap (λ (b : Bool). if b then list_any (λ other. is_designated Secondary other.file && same_key (key_of other) (key_of selected)) (heads_of reading) else same_key (key_of selected) reading.primary_key) other in
    (λ h. same_there (key_of selected) reading.primary_key (sym e ∙ h), λ h. e ∙ there_same (key_of selected) reading.primary_key h.0 h.1 h.2)

pub primary_matched : (reading : Reading) (selected : Selected) → is_designated Primary selected.file ≡ true → (is_matched reading selected ≡ true) ↔ IsMatchedBySecondary reading selected
primary_matched reading selected own =
    let matches : Selected → Bool = λ other. is_designated Secondary other.file && same_key (key_of other) (key_of selected) in
    let e : is_matched reading selected ≡ list_any (λ other. is_designated Secondary other.file && same_key (key_of other) (key_of selected)) (heads_of reading) =
    ap (λ (b : Bool). if b then list_any (λ other. is_designated Secondary other.file && same_key (key_of other) (key_of selected)) (heads_of reading) else same_key (key_of selected) reading.primary_key) own in (
      λ h. to (Any-from_list_any (λ other. is_designated Secondary other.file && same_key (key_of other) (key_of selected)) (heads_of reading) (sym e ∙ h)),
      λ h. e ∙ list_any-from_Any (λ other. is_designated Secondary other.file && same_key (key_of other) (key_of selected)) (heads_of reading) (from h),
    )
  where
    to : Any (λ other. (is_designated Secondary other.file && same_key (key_of other) (key_of selected)) ≡ true) (heads_of reading) → IsMatchedBySecondary reading selected
    to (k, other, within, here, is) =
        let parts = and_parts (is_designated Secondary other.file) (same_key (key_of other) (key_of selected)) is in
        (k, other, within, here, (parts.0, same_there (key_of other) (key_of selected) parts.1))

    from : IsMatchedBySecondary reading selected → Any (λ other. (is_designated Secondary other.file && same_key (key_of other) (key_of selected)) ≡ true) (heads_of reading)
    from (k, other, within, here, (designated, (key, one, two))) =
        (k, other, within, here, λ i. designated i && there_same (key_of other) (key_of selected) key one two i)

-- ---- a taken head
emptied : (reading : Reading) (inputs : List InputFile) (selected : Selected) (place : ℕ) → option_and_then selectable (slice_get inputs place) ≡ Some selected
    → list_any is_unread (map (vacated selected.file.name) inputs) ≡ true
emptied reading [] selected place e = cc
emptied reading (input ∷ inputs) selected zero e =
    (λ i. is_unread (vacated_here i) || list_any is_unread (map (vacated selected.file.name) inputs))
  where
    own : (o : Option Head) → option_map (λ head. record { file = input.file; head = head }) o ≡ Some selected → input.file ≡ selected.file
    own None h = cc
    own (Some head) h = ap (λ (s : Selected). s.file) (same_some (record { file = input.file; head = head }) selected h)

    vacated_here : vacated selected.file.name input ≡ record input { standing = Unread }
    vacated_here =
        ap (λ (b : Bool). if b then record input { standing = Unread } else input)
        (ap (λ file. same_name input.file.name file.name) (sym (own (head_of input) e)) ∙ same_name-self input.file.name)
emptied reading (input ∷ inputs) selected (suc place) e = either (is_unread (vacated selected.file.name input)) (emptied reading inputs selected place e)
  where
    either : (b : Bool) {c : Bool} → c ≡ true → (b || c) ≡ true
    either true h = refl
    either false h = h

pub taken_missed : (reading : Reading) (selected : Selected) (place : ℕ) → stands_at reading place ≡ Some selected → list_any is_unread (taken reading selected).files ≡ true
taken_missed reading selected place e = emptied reading reading.files selected place e

-- ---- the first head of which a test holds
pub found_first : (test : Selected → Bool) (heads : List Selected) (selected : Selected) → find test heads ≡ Some selected → IsFirst test heads selected
found_first test [] selected e = cc
found_first test (head ∷ heads) selected e = by (test head) refl e (λ h. found_first test heads selected h)
  where
    each : (before : List Selected) → ((k : ℕ) (d : Selected) → k < length before → test (get_or before k d) ≡ false) → test head ≡ false → (k : ℕ) (d : Selected) → k < length (head ∷ before) → test (get_or (head ∷ before) k d) ≡ false
    each before found fails zero d within = fails
    each before found fails (suc k) d within = found k d (omega (arith, within))

    here : test head ≡ true → IsFirst test (head ∷ heads) head
    here holds = record { before = []; behind = heads; stands = refl; holds = holds; none_before = λ k d within. absurd (omega (arith, within)) }

    further : test head ≡ false → IsFirst test heads selected → IsFirst test (head ∷ heads) selected
    further fails found = record {
      before = head ∷ found.before;
      behind = found.behind;
      stands = ap (λ (xs : List Selected). head ∷ xs) found.stands;
      holds = found.holds;
      none_before = each found.before found.none_before fails;
    }

    by : (b : Bool) → test head ≡ b → (if b then Some head else find test heads) ≡ Some selected → (find test heads ≡ Some selected → IsFirst test heads selected) → IsFirst test (head ∷ heads) selected
    by true holds h rest = subst (IsFirst test (head ∷ heads)) (same_some head selected h) (here holds)
    by false fails h rest = further fails (rest h)

none_any : (test : Selected → Bool) (heads : List Selected) → find test heads ≡ None → list_any test heads ≡ false
none_any test [] e = refl
none_any test (head ∷ heads) e = by (test head) refl e (λ h. none_any test heads h)
  where
    by : (b : Bool) → test head ≡ b → (if b then Some head else find test heads) ≡ None → (find test heads ≡ None → list_any test heads ≡ false) → (test head || list_any test heads) ≡ false
    by true holds h rest = cc
    by false fails h rest = or_from (test head) (list_any test heads) fails (rest h)

none_found : (test : Selected → Bool) (heads : List Selected) → list_any test heads ≡ false → find test heads ≡ None
none_found test [] e = refl
none_found test (head ∷ heads) e =
    let parts = or_parts (test head) (list_any test heads) e in
    ap (λ (b : Bool). if b then Some head else find test heads) parts.0 ∙ none_found test heads parts.1

pub first_without : (reading : Reading) (selected : Selected) → has_met_end reading.files ≡ false → list_any has_no_key (heads_of reading) ≡ true → select reading ≡ Some selected → IsFirst has_no_key (heads_of reading) selected
first_without reading selected goes_on some e =
    let keyed : option_or (find has_no_key (heads_of reading)) (least (primary_first (heads_of reading))) ≡ Some selected =
    sym (ap (λ (b : Bool). if b then select_at_end (heads_of reading) reading.primary_key else option_or (find has_no_key (heads_of reading)) (least (primary_first (heads_of reading)))) goes_on) ∙ e in
    by (find has_no_key (heads_of reading)) refl keyed
  where
    by : (found : Option Selected) → find has_no_key (heads_of reading) ≡ found → option_or found (least (primary_first (heads_of reading))) ≡ Some selected → IsFirst has_no_key (heads_of reading) selected
    by None none h = absurd (true≢false (sym some ∙ none_any has_no_key (heads_of reading) none))
    by (Some first) found h = found_first has_no_key (heads_of reading) selected (found ∙ h)

-- ---- the last primary key at the end
-- no key is below itself
below_self : (key : List ℕ) → is_below key key ≡ false
below_self [] = refl
below_self (a ∷ as') = or_from (nat_lt a a) (a == a && is_below as' as') (le-ltb a a (omega arith)) (and_right (a == a) (is_below as' as') (below_self as'))

not_lower : (a b last : Option (List ℕ)) → same_key a last ≡ true → same_key b last ≡ true → is_less a b ≡ false
not_lower a b last one two =
    let first = same_there a last one in
    let second = same_there b last two in
    (λ i. is_less (first.1 i) ((second.1 ∙ sym second.2 ∙ first.2) i)) ∙ below_self first.0

-- of heads with one key the first is the least
least_is_first : (last : Option (List ℕ)) (heads : List Selected) → least (filter (λ head. same_key (key_of head) last) heads) ≡ find (λ head. same_key (key_of head) last) heads
least_is_first last [] = refl
least_is_first last (head ∷ heads) = by (same_key (key_of head) last) refl (least_is_first last heads)
  where
    test : Selected → Bool
    test other = same_key (key_of other) last

    stays : (found : Option Selected) → find test heads ≡ found → same_key (key_of head) last ≡ true → lesser head found ≡ head
    stays None e h = refl
    stays (Some other) e h = ap (λ (b : Bool). if b then other else head) (not_lower (key_of other) (key_of head) last (found_first test heads other e).holds h)

    by : (b : Bool) → same_key (key_of head) last ≡ b → least (filter test heads) ≡ find test heads → least (if b then head ∷ filter test heads else filter test heads) ≡ (if b then Some head else find test heads)
    by true h rest = ap (λ (o : Option Selected). Some (lesser head o)) rest ∙ ap Some (stays (find test heads) refl h)
    by false h rest = rest

at_end : (reading : Reading) → has_met_end reading.files ≡ true → select reading ≡ select_at_end (heads_of reading) reading.primary_key
at_end reading ends = ap (λ (b : Bool). if b then select_at_end (heads_of reading) reading.primary_key else option_or (find has_no_key (heads_of reading)) (least (primary_first (heads_of reading)))) ends

pub primary_left : (reading : Reading) → has_met_end reading.files ≡ true → list_any (λ head. is_designated Primary head.file) (heads_of reading) ≡ true → select reading ≡ None
primary_left reading ends left =
    at_end reading ends ∙ ap (λ (b : Bool). if b then None else least (filter (has_last_key reading) (heads_of reading))) left

-- without a primary head, the first head with the last key
first_at_end : (reading : Reading) → has_met_end reading.files ≡ true → list_any (λ head. is_designated Primary head.file) (heads_of reading) ≡ false → select reading ≡ find (has_last_key reading) (heads_of reading)
first_at_end reading ends none =
    at_end reading ends ∙ ap (λ (b : Bool). if b then None else least (filter (has_last_key reading) (heads_of reading))) none ∙ least_is_first reading.primary_key (heads_of reading)

pub last_key_first : (reading : Reading) (selected : Selected) → has_met_end reading.files ≡ true → list_any (λ head. is_designated Primary head.file) (heads_of reading) ≡ false → select reading ≡ Some selected → IsFirst (has_last_key reading) (heads_of reading) selected
last_key_first reading selected ends none e = found_first (has_last_key reading) (heads_of reading) selected (sym (first_at_end reading ends none) ∙ e)

pub no_last_key : (reading : Reading) → has_met_end reading.files ≡ true → list_any (has_last_key reading) (heads_of reading) ≡ false → select reading ≡ None
no_last_key reading ends none = by (list_any (λ head. is_designated Primary head.file) (heads_of reading)) refl
  where
    by : (b : Bool) → list_any (λ head. is_designated Primary head.file) (heads_of reading) ≡ b → select reading ≡ None
    by true left = primary_left reading ends left
    by false gone = first_at_end reading ends gone ∙ none_found (has_last_key reading) (heads_of reading) none

pub last_key_left : (reading : Reading) → has_met_end reading.files ≡ true → list_any (λ head. is_designated Primary head.file) (heads_of reading) ≡ false → list_any (has_last_key reading) (heads_of reading) ≡ true → is_some (select reading) ≡ true
last_key_left reading ends gone left = ap is_some (first_at_end reading ends gone) ∙ by (find (has_last_key reading) (heads_of reading)) refl
  where
    by : (found : Option Selected) → find (has_last_key reading) (heads_of reading) ≡ found → is_some found ≡ true
    by None none = absurd (true≢false (sym left ∙ none_any (has_last_key reading) (heads_of reading) none))
    by (Some first) e = refl
