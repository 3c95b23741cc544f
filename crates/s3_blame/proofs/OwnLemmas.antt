-- Entries that are marked for what their own cards say.
use Rattle.std.proofs.Common.{◌≡◌, ◌≢◌, ℕ, zero, suc, ◌+◌, ◌-◌, ◌<◌, ◌≤◌, ◌==◌, List, [], ◌∷◌, ◌++◌, Bool, true, false, refl, sym, ◌∙◌, ap, subst, inl, inr, length, get_or, drop, arith}
use Rattle.std.specs.Prelude.{◌&&◌, ◌||◌, ◌⊎◌, IsTrue, map, filter, nat_lt}
use Rattle.std.specs.List.{All, AllByRecursion, list_any}
use Rattle.std.proofs.lemmas.Bool.{cases_Bool, cases_eq, eq-eqb, and_parts, ltb-false, ltb-true}
use Rattle.std.proofs.lemmas.Bool.Decides.{nat_tests}
use Rattle.std.proofs.lemmas.List.{get_or-drop, get_or_default, length-drop}
use Rattle.std.proofs.lemmas.List.Folds.{list_any-append}
use Rattle.s3_lines.specs.declared.diagnostic.Diagnostic.{Diagnostic}
use Rattle.s3_lines.specs.declared.sheet.Line.{Line}
use Rattle.s3_lines.specs.Inner.Ascending.{cards_ascend}
use Rattle.s3_sheets.specs.declared.parts.FaultyEntry.{FaultyEntry}
use Rattle.s3_diagnose.specs.Diagnostics.{precedes}
use Rattle.s3_diagnose.specs.Inner.Order.{AreInOrder}
use Rattle.s3_blame.specs.declared.parts.Part.{Part}
use Rattle.s3_blame.specs.Inner.Changes.{Entry}
use Rattle.s3_blame.specs.Inner.Marks.{span, fails, entry_of}
use Rattle.s3_blame.specs.Inner.Names.{Names}
use Rattle.s3_blame.specs.Inner.OwnMarks.{BeginsAt, HasAllMarks, HasMarks, MarksFirst, PassesLine, are_marked, chosen, is_marked, marks, own_marks}

same : (n : ℕ) → (n == n) ≡ true
same n = eq-eqb n n refl

or_true : (a : Bool) → (a || true) ≡ true
or_true true = refl
or_true false = refl

less_or_not : (a b : ℕ) → (a < b) ⊎ (b ≤ a)
less_or_not a b = elim (cases_Bool (nat_lt a b)) [ inl less ↦ inl (ltb-true a b less) | inr other ↦ inr (ltb-false a b other) ]

drop_length : (xs : List Diagnostic) → drop (length xs) xs ≡ []
drop_length [] = refl
drop_length (x ∷ xs) = drop_length xs

-- ---- parts that are in error are marked
marks_itself : (card number : ℕ) (p : Part) → marks card number (span p) (entry_of card number p) ≡ true
marks_itself card number p = rw (same card, same number, same p.from, same p.to) refl

-- .. beside others
marked_more : (card number : ℕ) (entries : List Entry) (old more : List FaultyEntry) → are_marked card number entries old ≡ true → are_marked card number entries (old ++ more) ≡ true
marked_more card number [] old more of = refl
marked_more card number (entry ∷ entries) old more of =
    let parts = and_parts (is_marked card number old entry) (are_marked card number entries old) of in
    let first : is_marked card number (old ++ more) entry ≡ true = list_any-append (marks card number entry) old more ∙ ap (λ b. b || list_any (marks card number entry) more) parts.0 in
    rw first (marked_more card number entries old more parts.1)

marked_behind : (card number : ℕ) (entries : List Entry) (old more : List FaultyEntry) → are_marked card number entries more ≡ true → are_marked card number entries (old ++ more) ≡ true
marked_behind card number [] old more of = refl
marked_behind card number (entry ∷ entries) old more of =
    let parts = and_parts (is_marked card number more entry) (are_marked card number entries more) of in
    let first : is_marked card number (old ++ more) entry ≡ true =
    list_any-append (marks card number entry) old more ∙ ap (λ b. list_any (marks card number entry) old || b) parts.0 ∙ or_true (list_any (marks card number entry) old) in
    rw first (marked_behind card number entries old more parts.1)

those_marked : (card number : ℕ) (ps : List Part) → are_marked card number (chosen (map fails ps) (map span ps)) (map (entry_of card number) (filter fails ps)) ≡ true
unfolding chosen
those_marked card number [] = refl
those_marked card number (p ∷ ps) =
    let rest = map (entry_of card number) (filter fails ps) in
    let entries = chosen (map fails ps) (map span ps) in
    elim (cases_Bool p.is_at_fault) [
      | inl bad ↦
          let more : are_marked card number entries (entry_of card number p ∷ rest) ≡ true = marked_behind card number entries (entry_of card number p ∷ []) rest (those_marked card number ps) in
          rw (bad, marks_itself card number p) more
      | inr good ↦ rw good (those_marked card number ps)
    ]

pub at_fault_are_marked : (card number : ℕ) (parts : List Part) (found : List FaultyEntry)
    → found ≡ map (entry_of card number) (filter fails parts) → are_marked card number (chosen (map fails parts) (map span parts)) found ≡ true
at_fault_are_marked card number parts found e = ap (are_marked card number (chosen (map fails parts) (map span parts))) e ∙ those_marked card number parts

-- an entry that is marked alone
pub alone : (card number : ℕ) (parts : List Part) (entry : Entry) (found : List FaultyEntry) → map span parts ≡ entry ∷ [] → map fails parts ≡ true ∷ []
    → are_marked card number (chosen (map fails parts) (map span parts)) found ≡ true → are_marked card number (entry ∷ []) found ≡ true
unfolding chosen
alone card number parts entry found spans failing is =
    let both : chosen (map fails parts) (map span parts) ≡ entry ∷ [] = ap (λ fs. chosen fs (map span parts)) failing ∙ ap (chosen (true ∷ [])) spans in
    ap (λ es. are_marked card number es found) (sym both) ∙ is

-- .. among others
pub among : (card number : ℕ) (parts : List Part) (wanted : List Bool) (entries : List Entry) (found : List FaultyEntry) → map span parts ≡ entries → map fails parts ≡ wanted
    → are_marked card number (chosen (map fails parts) (map span parts)) found ≡ true → are_marked card number (chosen wanted entries) found ≡ true
among card number parts wanted entries found spans failing is =
    let both : chosen (map fails parts) (map span parts) ≡ chosen wanted entries = ap (λ fs. chosen fs (map span parts)) failing ∙ ap (chosen wanted) spans in
    ap (λ es. are_marked card number es found) (sym both) ∙ is

-- ---- the diagnostics of a card
has_more : (names : Names) (line : Line) (number : ℕ) (old more : List FaultyEntry) → HasMarks names line old number → HasMarks names line (old ++ more) number
has_more names line number old more is = marked_more line.card number (own_marks names line.card line.sheet number) old more is

has_behind : (names : Names) (line : Line) (number : ℕ) (old more : List FaultyEntry) → HasMarks names line more number → HasMarks names line (old ++ more) number
has_behind names line number old more is = marked_behind line.card number (own_marks names line.card line.sheet number) old more is

-- so many diagnostics have their marks
pub record MarksSoFar (names : Names) (line : Line) (told : List Diagnostic) (count : ℕ) (marked : List FaultyEntry) : Type 0 where
  pub each : (k : ℕ) (d : Diagnostic) → k < count → HasMarks names line marked (get_or told k d).number

pub none_so_far : (names : Names) (line : Line) (told : List Diagnostic) → MarksSoFar names line told 0 []
none_so_far names line told = record { each = λ k d low. absurd (omega (arith, low)) }

pub one_more_so_far : (names : Names) (line : Line) (told : List Diagnostic) (count : ℕ) (diagnostic : Diagnostic) (old more new : List FaultyEntry) → count < length told
    → new ≡ old ++ more → HasMarks names line more (get_or told count diagnostic).number → MarksSoFar names line told count old → MarksSoFar names line told (count + 1) new
one_more_so_far names line told count diagnostic old more new within added has before = record {
  each = λ k d low. subst (λ marked. HasMarks names line marked (get_or told k d).number) (sym added) (elim (cases_eq k count) [
    | inl here ↦
        let one : get_or told k d ≡ get_or told count diagnostic = ap (λ n. get_or told n d) here ∙ get_or_default told count d diagnostic within in
        has_behind names line (get_or told k d).number old more (subst (λ (x : Diagnostic). HasMarks names line more x.number) (sym one) has)
    | inr other ↦ has_more names line (get_or told k d).number old more (before.each k d (omega (arith, low, other)))
  ]);
}

pub ends_at_other : (names : Names) (line : Line) (told : List Diagnostic) (count : ℕ) (diagnostic : Diagnostic) (marked : List FaultyEntry) → count < length told → (get_or told count diagnostic).card ≢ line.card
    → MarksSoFar names line told count marked → MarksFirst names line told marked
ends_at_other names line told count diagnostic marked within other before = record {
  count = count;
  each = before.each;
  end = λ d low same_card. other (ap (λ (x : Diagnostic). x.card) (get_or_default told count diagnostic d within) ∙ same_card);
}

pub ends_with_all : (names : Names) (line : Line) (told : List Diagnostic) (count : ℕ) (marked : List FaultyEntry) → length told ≤ count → MarksSoFar names line told count marked → MarksFirst names line told marked
ends_with_all names line told count marked whole before = record { count = count; each = before.each; end = λ d low same_card. absurd (omega (arith, low, whole)) }

-- ---- where the diagnostics of a card begin
-- so many diagnostics are of cards before this one
pub record AreBefore (card : ℕ) (told : List Diagnostic) (count : ℕ) : Type 0 where
  pub each : (k : ℕ) (d : Diagnostic) → k < count → (get_or told k d).card < card

pub none_before : (card : ℕ) (told : List Diagnostic) → AreBefore card told 0
none_before card told = record { each = λ k d h. absurd (omega (arith, h)) }

pub one_more_before : (card : ℕ) (told : List Diagnostic) (count : ℕ) (diagnostic : Diagnostic) → count < length told → diagnostic ≡ get_or told count diagnostic → (card ≤ diagnostic.card → ⊥) → AreBefore card told count
    → AreBefore card told (count + 1)
one_more_before card told count diagnostic within is less before = record {
  each = λ k d low. elim (cases_eq k count) [
    | inl here ↦
        let one : get_or told k d ≡ diagnostic = ap (λ n. get_or told n d) here ∙ get_or_default told count d diagnostic within ∙ sym is in
        subst (λ (x : Diagnostic). x.card < card) (sym one) (elim (less_or_not diagnostic.card card) [ inl it ↦ it | inr not_less ↦ absurd (less not_less) ])
    | inr other ↦ before.each k d (omega (arith, low, other))
  ];
}

pub begins_here : (card : ℕ) (told : List Diagnostic) (place : ℕ) (diagnostic : Diagnostic) (rest : List Diagnostic) → place < length told → diagnostic ≡ get_or told place diagnostic → card ≤ diagnostic.card → rest ≡ drop place told
    → AreBefore card told place → BeginsAt card told rest
begins_here card told place diagnostic rest within is high all before = record {
  passed = place;
  is = all;
  low = before.each;
  first = λ d low less.
      let one : get_or told place d ≡ diagnostic = get_or_default told place d diagnostic within ∙ sym is in
      let under : diagnostic.card < card = subst (λ (x : Diagnostic). x.card < card) one less in
      omega (arith, under, high);
}

pub begins_nowhere : (card : ℕ) (told : List Diagnostic) (place : ℕ) → length told ≤ place → AreBefore card told place → BeginsAt card told []
begins_nowhere card told place whole before = record {
  passed = length told;
  is = sym (drop_length told);
  low = λ k d h. before.each k d (omega (arith, h, whole));
  first = λ d low less. omega (arith, low);
}

-- ---- orders
ordered_card : (a b c d : ℕ) → IsTrue (nat_lt a b || ((a == b) && nat_lt c d)) → a ≤ b
ordered_card a b c d h = grind (arith, nat_tests, h)

below_all : (diagnostic : Diagnostic) (more : List Diagnostic) → AllByRecursion (λ other. IsTrue (precedes diagnostic other)) more → (j : ℕ) (d : Diagnostic) → j < length more → diagnostic.card ≤ (get_or more j d).card
below_all diagnostic [] all j d h = absurd (omega (arith, h))
below_all diagnostic (x ∷ more) all zero d h = ordered_card diagnostic.card x.card diagnostic.number x.number all.0
below_all diagnostic (x ∷ more) all (suc j) d h = below_all diagnostic more all.1 j d (omega (arith, h))

rises : (told : List Diagnostic) → AreInOrder told → (i j : ℕ) (d : Diagnostic) → i ≤ j → j < length told → (get_or told i d).card ≤ (get_or told j d).card
rises [] order i j d h low = absurd (omega (arith, low))
rises (x ∷ told) order zero zero d h low = omega arith
rises (x ∷ told) order zero (suc j) d h low = below_all x told order.0 j d (omega (arith, low))
rises (x ∷ told) order (suc i) zero d h low = absurd (omega (arith, h))
rises (x ∷ told) order (suc i) (suc j) d h low = rises told order.1 i j d (omega (arith, h)) (omega (arith, low))

above_from : (from low : ℕ) (lines : List Line) → low ≤ from → cards_ascend from lines ≡ true → (j : ℕ) (d : Line) → j < length lines → low < (get_or lines j d).card
unfolding cards_ascend
above_from from low [] under ascend j d h = absurd (omega (arith, h))
above_from from low (line ∷ lines) under ascend zero d h =
    let parts = and_parts (nat_lt from line.card) (cards_ascend line.card lines) ascend in
    grind (arith, nat_tests, under, parts.0)
above_from from low (line ∷ lines) under ascend (suc j) d h =
    let parts = and_parts (nat_lt from line.card) (cards_ascend line.card lines) ascend in
    let above : low < line.card = grind (arith, nat_tests, under, parts.0) in
    above_from line.card low lines (omega (arith, above)) parts.1 j d (omega (arith, h))

ascends : (from : ℕ) (lines : List Line) → cards_ascend from lines ≡ true → (i j : ℕ) (d e : Line) → i < j → j < length lines → (get_or lines i d).card < (get_or lines j e).card
unfolding cards_ascend
ascends from [] ascend i j d e h low = absurd (omega (arith, low))
ascends from (line ∷ lines) ascend zero zero d e h low = absurd (omega (arith, h))
ascends from (line ∷ lines) ascend zero (suc j) d e h low =
    let parts = and_parts (nat_lt from line.card) (cards_ascend line.card lines) ascend in
    above_from line.card line.card lines (omega arith) parts.1 j e (omega (arith, low))
ascends from (line ∷ lines) ascend (suc i) zero d e h low = absurd (omega (arith, h))
ascends from (line ∷ lines) ascend (suc i) (suc j) d e h low =
    let parts = and_parts (nat_lt from line.card) (cards_ascend line.card lines) ascend in
    ascends line.card lines parts.1 i j d e (omega (arith, h)) (omega (arith, low))

-- ---- lines, one after another
-- of the lines before a place each has its marks, and what is left of the diagnostics are all but some of cards before the line there
pub record HasPassed (names : Names) (lines : List Line) (told : List Diagnostic) (place : ℕ) (rest : List Diagnostic) (marked : List FaultyEntry) : Type 0 where
  pub passed : ℕ
  pub is : rest ≡ drop passed told
  pub low : (k : ℕ) (d : Diagnostic) (j : ℕ) (line : Line) → k < passed → place ≤ j → j < length lines → (get_or told k d).card < (get_or lines j line).card
  pub done : (j : ℕ) (line : Line) → j < place → HasAllMarks names told marked (get_or lines j line)

pub none_passed : (names : Names) (lines : List Line) (told : List Diagnostic) → HasPassed names lines told 0 told []
none_passed names lines told = record { passed = 0; is = refl; low = λ k d j line h. absurd (omega (arith, h)); done = λ j line h. absurd (omega (arith, h)) }

drop_nothing : (k : ℕ) → drop {A = Diagnostic} k [] ≡ []
drop_nothing zero = refl
drop_nothing (suc k) = refl

drop_more : (n m : ℕ) (xs : List Diagnostic) → drop m (drop n xs) ≡ drop (n + m) xs
drop_more zero m xs = let e : 0 + m ≡ m = omega arith in ap (λ k. drop k xs) (sym e)
drop_more (suc n) m [] = drop_nothing m ∙ sym (drop_nothing (suc n + m))
drop_more (suc n) m (x ∷ xs) = let e : suc n + m ≡ suc (n + m) = omega arith in rw e (drop_more n m xs)

-- what is left begins with the diagnostics of a card, so that these have their marks
here_marked : (names : Names) (line : Line) (told rest : List Diagnostic) (passed : ℕ) (more : List FaultyEntry) → rest ≡ drop passed told → AreInOrder told → ((k : ℕ) (d : Diagnostic) → k < passed → (get_or told k d).card < line.card)
    → ((d : Diagnostic) → passed < length told → line.card ≤ (get_or told passed d).card) → MarksFirst names line rest more → HasAllMarks names told more line
here_marked names line told rest passed more is order below at first k d low on = elim (less_or_not k passed) [
  | inl before ↦ let less = below k d before in absurd (omega (arith, less, on))
  | inr behind ↦
      let long : length rest ≡ length told - passed = ap length is ∙ length-drop passed told in
      let place : passed + (k - passed) ≡ k = omega (arith, behind) in
      let in_rest : (i : ℕ) → get_or rest i d ≡ get_or told (passed + i) d = λ i. ap (λ xs. get_or xs i d) is ∙ get_or-drop passed told i d in
      let here : get_or rest (k - passed) d ≡ get_or told k d = in_rest (k - passed) ∙ ap (λ i. get_or told i d) place in
      elim (less_or_not (k - passed) first.count) [
        | inl counted ↦ subst (λ (x : Diagnostic). HasMarks names line more x.number) here (first.each (k - passed) d counted)
        | inr over ↦
            let low_end : first.count < length rest = omega (arith, over, long, low, behind) in
            let up : (get_or told (passed + first.count) d).card ≤ (get_or told k d).card = rises told order (passed + first.count) k d (omega (arith, over, behind)) low in
            let start : line.card ≤ (get_or told passed d).card = at d (omega (arith, low, behind)) in
            let from : (get_or told passed d).card ≤ (get_or told (passed + first.count) d).card = rises told order passed (passed + first.count) d (omega arith) (omega (arith, long, low_end)) in
            let same_card : (get_or rest first.count d).card ≡ line.card = ap (λ (x : Diagnostic). x.card) (in_rest first.count) ∙ omega (arith, up, start, from, on) in
            absurd (first.end d low_end same_card)
      ]
]

pub one_more_passed : (names : Names) (from : ℕ) (lines : List Line) (told old_rest rest : List Diagnostic) (place : ℕ) (item : Line) (old new : List FaultyEntry) → place < length lines
    → AreInOrder told → cards_ascend from lines ≡ true → BeginsAt (get_or lines place item).card old_rest rest → PassesLine names lines place rest old new → HasPassed names lines told place old_rest old
    → HasPassed names lines told (place + 1) rest new
one_more_passed names from lines told old_rest rest place item old new within order ascend begins passes before =
    let line : Line = get_or lines place item in
    let is : line ≡ get_or lines place line = get_or_default lines place item line within in
    let n = before.passed in
    let m = begins.passed in
    let whole : rest ≡ drop (n + m) told = begins.is ∙ ap (drop m) before.is ∙ drop_more n m told in
    let first = passes.first line within is in
    let long : length old_rest ≡ length told - n = ap length before.is ∙ length-drop n told in
    let in_old : (k : ℕ) (d : Diagnostic) → get_or old_rest k d ≡ get_or told (n + k) d = λ k d. ap (λ xs. get_or xs k d) before.is ∙ get_or-drop n told k d in
    -- what is passed is of cards before this one
    let below : (k : ℕ) (d : Diagnostic) → k < n + m → (get_or told k d).card < line.card = λ k d h. elim (less_or_not k n) [
      | inl low ↦ subst (λ (l : Line). (get_or told k d).card < l.card) (sym is) (before.low k d place line low (omega arith) within)
      | inr high ↦
          let at : n + (k - n) ≡ k = omega (arith, high) in
          subst (λ i. (get_or told i d).card < line.card) at (subst (λ (x : Diagnostic). x.card < line.card) (in_old (k - n) d) (begins.low (k - n) d (omega (arith, h, high))))
    ] in
    let at : (d : Diagnostic) → n + m < length told → line.card ≤ (get_or told (n + m) d).card = λ d low. elim (less_or_not (get_or told (n + m) d).card line.card) [
      | inl less ↦ absurd (begins.first d (omega (arith, low, long)) (subst (λ (x : Diagnostic). x.card < line.card) (sym (in_old m d)) less))
      | inr not_less ↦ not_less
    ] in
    let here : HasAllMarks names told passes.more line = here_marked names line told rest (n + m) passes.more whole order below at first in
    record {
      passed = n + m;
      is = whole;
      low = λ k d j other h after low.
          let one : (get_or told k d).card < line.card = below k d h in
          let two : (get_or lines place line).card < (get_or lines j other).card = ascends from lines ascend place j line other (omega (arith, after)) low in
          let three : line.card ≡ (get_or lines place line).card = ap (λ (l : Line). l.card) is in
          omega (arith, one, two, three);
      done = λ j other h. elim (cases_eq j place) [
        | inl same_place ↦
            let this : get_or lines j other ≡ line = ap (λ i. get_or lines i other) same_place ∙ get_or_default lines place other line within ∙ sym is in
            subst (HasAllMarks names told new) (sym this) (λ k d low on. subst (λ marked. HasMarks names line marked (get_or told k d).number) (sym passes.added) (has_behind names line (get_or told k d).number old passes.more (here k d low on)))
        | inr earlier ↦ λ k d low on. subst (λ marked. HasMarks names (get_or lines j other) marked (get_or told k d).number) (sym passes.added)
            (has_more names (get_or lines j other) (get_or told k d).number old passes.more (before.done j other (omega (arith, h, earlier)) k d low on))
      ];
    }

pub all_passed : (names : Names) (lines : List Line) (told : List Diagnostic) (place : ℕ) (rest : List Diagnostic) (marked : List FaultyEntry) → length lines ≤ place → HasPassed names lines told place rest marked → All (HasAllMarks names told marked) lines
all_passed names lines told place rest marked whole before = λ k d low. before.done k d (omega (arith, whole, low))

-- ---- what is marked for a number
-- one entry alone
pub alone_at : (marks_of : ℕ → List Entry) (n card number : ℕ) (parts : List Part) (entry : Entry) (found : List FaultyEntry) → number ≡ n → marks_of n ≡ entry ∷ [] → map span parts ≡ entry ∷ [] → map fails parts ≡ true ∷ []
    → are_marked card number (chosen (map fails parts) (map span parts)) found ≡ true → are_marked card number (marks_of number) found ≡ true
alone_at marks_of n card number parts entry found is same spans failing marked =
    ap (λ m. are_marked card number (marks_of m) found) is
    ∙ ap (λ es. are_marked card number es found) same
    ∙ alone card number parts entry found spans failing marked

-- those that fail
pub among_at : (marks_of : ℕ → List Entry) (n card number : ℕ) (parts : List Part) (wanted : List Bool) (entries : List Entry) (found : List FaultyEntry) → number ≡ n → marks_of n ≡ chosen wanted entries → map span parts ≡ entries
    → map fails parts ≡ wanted → are_marked card number (chosen (map fails parts) (map span parts)) found ≡ true → are_marked card number (marks_of number) found ≡ true
among_at marks_of n card number parts wanted entries found is same spans failing marked =
    ap (λ m. are_marked card number (marks_of m) found) is
    ∙ ap (λ es. are_marked card number es found) same
    ∙ among card number parts wanted entries found spans failing marked
