-- Each diagnostic of the walk is among all diagnostics of a source: 12 on the RUN card removes none.
use Rattle.std.proofs.Common.{◌≡◌, ℕ, List, [], ◌∷◌, ◌++◌, Bool, true, false, cond, refl, ◌∙◌, ap, arith, sym}
use Rattle.std.specs.Prelude.{◌==◌, nat_lt, ◌&&◌, ◌||◌, map, filter}
use Rattle.std.specs.List.{list_any}
use Rattle.std.proofs.lemmas.Bool.Decides.{nat_tests}
use Rattle.std.proofs.lemmas.List.Folds.{list_any-append}
use Rattle.s3_lines.specs.declared.diagnostic.Diagnostic.{Diagnostic}
use Rattle.s3_lines.specs.declared.sheet.Line.{Line}
use Rattle.s3_diagnose.specs.Known.{first_standing}
use Rattle.s3_diagnose.specs.Lookups.{known_of}
use Rattle.s3_diagnose.specs.Diagnostics.{diagnostics_from, precedes, placed, has_one_primary, compile_diagnostics}
use Rattle.s3_diagnose.specs.Inner.Whole.{Spot, spots, on_those, those_of, has_number, is_card_of, StandsOnThose}

abbrev on_card : ℕ → ℕ → Diagnostic
on_card card number = record { card = card; number = number }

abbrev is_on : ℕ → Diagnostic → Bool
is_on card diagnostic = diagnostic.card == card

-- ---- 12 on the RUN card
appended : (p : Diagnostic → Bool) (xs ys : List Diagnostic) → filter p (xs ++ ys) ≡ filter p xs ++ filter p ys
appended p [] ys = refl
appended p (x ∷ xs) ys = ap (λ l. cond (p x) (x ∷ l) l) (appended p xs ys) ∙ kept (p x) x (filter p xs) (filter p ys)
  where
    kept : (b : Bool) (x : Diagnostic) (us vs : List Diagnostic) → cond b (x ∷ us ++ vs) (us ++ vs) ≡ cond b (x ∷ us) us ++ vs
    kept true x us vs = refl
    kept false x us vs = refl

-- a card has the number among the elements for which a test holds
kept_any : (card number : ℕ) (b : Bool) (x : Diagnostic) (xs : List Diagnostic)
    → has_number card number (cond b (x ∷ xs) xs) ≡ (((x.number == number) && (b && is_on card x)) || has_number card number xs)
kept_any card number true x xs = own (x.number == number) x xs
  where
    own : (b : Bool) (x : Diagnostic) (xs : List Diagnostic)
        → list_any (is_on card) (cond b (x ∷ those_of number xs) (those_of number xs)) ≡ ((b && (true && is_on card x)) || has_number card number xs)
    own true x xs = refl
    own false x xs = refl
kept_any card number false x xs = own (x.number == number) (has_number card number xs)
  where
    own : (b any : Bool) → any ≡ ((b && false) || any)
    own true any = refl
    own false any = refl

split : (same before behind on one two all : Bool) → (same ≡ true → (before || behind) ≡ true) → (one || two) ≡ all
    → (((same && (before && on)) || one) || ((same && (behind && on)) || two)) ≡ ((same && on) || all)
split false before behind on one two all either h = h
split true true true true one two all either h = refl
split true true true false one two all either h = h
split true true false true one two all either h = refl
split true true false false one two all either h = h
split true false true true true two all either h = refl
split true false true true false two all either h = refl
split true false true false one two all either h = h
split true false false on one two all either h = h ∙ ap (λ b. cond b (on || all) all) (either refl)

first_any : (card number : ℕ) (x : Diagnostic) (xs : List Diagnostic)
    → has_number card number (x ∷ xs) ≡ (((x.number == number) && is_on card x) || has_number card number xs)
first_any card number x xs = kept_any card number true x xs

beside : (run_card card number : ℕ) → nat_lt number 12 ≡ true → (x : Diagnostic) → (x.number == number) ≡ true
    → (precedes x (on_card run_card 12) || precedes (on_card run_card 12) x) ≡ true
beside run_card card number small x same = grind (arith, nat_tests, small, same)

round_it : (run_card card number : ℕ) → nat_lt number 12 ≡ true → (found : List Diagnostic)
    → (has_number card number (filter (λ other. precedes other (on_card run_card 12)) found)
    || has_number card number (filter (λ other. precedes (on_card run_card 12) other) found)) ≡ has_number card number found
round_it run_card card number small [] = refl
round_it run_card card number small (x ∷ xs) =
    let d : Diagnostic = on_card run_card 12 in
    let before : List Diagnostic = filter (λ other. precedes other d) xs in
    let behind : List Diagnostic = filter (λ other. precedes d other) xs in
    ap (λ b. b || has_number card number (cond (precedes d x) (x ∷ behind) behind)) (kept_any card number (precedes x d) x before)
    ∙ (ap (λ b. (((x.number == number) && (precedes x d && is_on card x)) || has_number card number before) || b) (kept_any card number (precedes d x) x behind)
    ∙ (split (x.number == number) (precedes x d) (precedes d x) (is_on card x) (has_number card number before) (has_number card number behind)
    (has_number card number xs) (beside run_card card number small x) (round_it run_card card number small xs)
    ∙ sym (first_any card number x xs)))

other_number : (number : ℕ) → nat_lt number 12 ≡ true → (12 == number) ≡ false
other_number number small = grind (arith, nat_tests, small)

added : (run_card card number : ℕ) → nat_lt number 12 ≡ true → (found : List Diagnostic)
    → has_number card number (placed found (on_card run_card 12)) ≡ has_number card number found
added run_card card number small found =
    let d : Diagnostic = on_card run_card 12 in
    let before : List Diagnostic = filter (λ other. precedes other d) found in
    let behind : List Diagnostic = filter (λ other. precedes d other) found in
    ap (list_any (is_on card)) (appended (λ (x : Diagnostic). x.number == number) before (d ∷ behind))
    ∙ (ap (λ b. list_any (is_on card) (those_of number before ++ cond b (d ∷ those_of number behind) (those_of number behind))) (other_number number small)
    ∙ (list_any-append (is_on card) (those_of number before) (those_of number behind)
    ∙ round_it run_card card number small found))

completes : (run_card card number : ℕ) → nat_lt number 12 ≡ true → (b : Bool) (found : List Diagnostic)
    → has_number card number (cond b found (placed found (on_card run_card 12))) ≡ has_number card number found
completes run_card card number small true found = refl
completes run_card card number small false found = added run_card card number small found

told_as_walked : (run_card card number : ℕ) → nat_lt number 12 ≡ true → (lines : List Line)
    → has_number card number (compile_diagnostics run_card lines) ≡ has_number card number (diagnostics_from (known_of lines) first_standing lines)
unfolding compile_diagnostics
told_as_walked run_card card number small lines =
    completes run_card card number small (has_one_primary lines) (diagnostics_from (known_of lines) first_standing lines)

-- ---- the cards of lines for which a condition holds
cards_of : (card number : ℕ) (holds : Spot → Bool) (some : List Spot)
    → list_any (is_on card) (map (λ (spot : Spot). on_card spot.line.card number) (filter holds some))
    ≡ list_any (λ (spot : Spot). (spot.line.card == card) && holds spot) some
cards_of card number holds [] = refl
cards_of card number holds (spot ∷ some) =
    one (holds spot) spot (filter holds some)
    ∙ ap (λ b. ((spot.line.card == card) && holds spot) || b) (cards_of card number holds some)
  where
    one : (b : Bool) (spot : Spot) (rest : List Spot)
        → list_any (is_on card) (map (λ (s : Spot). on_card s.line.card number) (cond b (spot ∷ rest) rest))
        ≡ (((spot.line.card == card) && b) || list_any (is_on card) (map (λ (s : Spot). on_card s.line.card number) rest))
    one true spot rest = both (spot.line.card == card) (list_any (is_on card) (map (λ (s : Spot). on_card s.line.card number) rest))
      where
        both : (a any : Bool) → (a || any) ≡ ((a && true) || any)
        both true any = refl
        both false any = refl
    one false spot rest = none (spot.line.card == card) (list_any (is_on card) (map (λ (s : Spot). on_card s.line.card number) rest))
      where
        none : (a any : Bool) → any ≡ ((a && false) || any)
        none true any = refl
        none false any = refl

all_same : (number : ℕ) (found : List Diagnostic) (holds : Spot → Bool) (lines : List Line) → those_of number found ≡ on_those number holds lines
    → (card : ℕ) → has_number card number found ≡ is_card_of card holds lines
all_same number found holds lines h card = ap (list_any (is_on card)) h ∙ cards_of card number holds (spots lines)

pub stands : (number : ℕ) → nat_lt number 12 ≡ true → (holds : List Line → Spot → Bool)
    → ((lines : List Line) → those_of number (diagnostics_from (known_of lines) first_standing lines) ≡ on_those number (holds lines) lines)
    → StandsOnThose number holds
stands number small holds walked = record {
  walked = walked;
  told = λ run_card card lines.
      told_as_walked run_card card number small lines
      ∙ all_same number (diagnostics_from (known_of lines) first_standing lines) (holds lines) lines (walked lines) card;
}
