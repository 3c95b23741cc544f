-- The entries in error are exactly those by which a card gets its numbers.
use Rattle.std.proofs.Common.{◌≡◌, ℕ, ◌+◌, ◌<◌, ◌==◌, List, [], ◌∷◌, ◌++◌, Bool, true, false, refl, sym, ◌∙◌, ap, arith, subst, inl, inr, length, take, get_or, add-one}
use Rattle.std.specs.Prelude.{◌||◌, ◌&&◌, ◌-◌, not, map, filter, drop, codes, Option, Some, None, is_some, unwrap_or, nat_le, nat_lt, if◌then◌else◌}
use Rattle.std.specs.List.{list_any}
use Rattle.std.proofs.lemmas.Bool.{cases_Bool}
use Rattle.std.proofs.lemmas.Bool.Decides.{nat_tests}
use Rattle.std.proofs.lemmas.List.{map-append, take_more, take_all, get_or_default}
use Rattle.std.proofs.lemmas.List.Elements.{filter-append}
use Rattle.std.proofs.lemmas.List.Folds.{list_any-append}
use Rattle.s3_entries.specs.declared.calculation.TheConstants as calculation
use Rattle.s3_entries.specs.declared.file.TheConstants as file
use Rattle.s3_entries.specs.declared.input.TheConstants as input
use Rattle.s3_entries.specs.declared.output.TheConstants as output
use Rattle.s3_lines.specs.Files.{is_printer, is_by_cycle}
use Rattle.s3_sheets.specs.Lines.{card_at, file_line, field_line, form_of, key_field, definition_of, has_index, is_addition}
use Rattle.s3_sheets.specs.Kinds.{kind_of}
use Rattle.s3_sheets.specs.Rules.{no_faults, one_fault, rule_faults, allows, fault_of, is_blank_or, Number}
use Rattle.s3_sheets.specs.Rules as spec
use Rattle.s3_sheets.specs.Columns.{column, columns, columns_between, only, number_of, number_between}
use Rattle.s3_sheets.specs.Combinations.{combined_faults, has_stray_entry, has_bad_extent, has_bad_space, has_bad_content, has_bad_positions, has_bad_factor, has_bad_definition, has_bad_addition, has_no_content, has_early_constant, is_with_index, is_key_within, are_filled, is_of_date}
use Rattle.s3_cards.specs.Names.{name_of}
use Rattle.s3_cards.specs.declared.ebcdic.TheConstants.{LETTER_P}
use Rattle.s3_lines.specs.Ranges.{is_between, if_given, shape_in_range, shape_of_positions}
use Rattle.s3_lines.specs.declared.sheet.FieldForm.{FieldForm}
use Rattle.s3_lines.specs.declared.sheet.KeyField.{KeyField}
use Rattle.s3_lines.specs.declared.sheet.Shape.{Shape}
use Rattle.s3_lines.specs.declared.sheet.Shape.TheVariants.{Alphanumeric, Numeric}
use Rattle.s3_sheets.specs.Sheets.{before, lacks_file, exceeds, kind_at, standing_at, card_holds, faults_of, names_position_past, is_outside, length_for}
use Rattle.s3_sheets.specs.Tables.{rules_of, maybe, field_rules, rule, blank}
use Rattle.s3_sheets.specs.Inner.Parts.{fault_number, rule_part, combined_parts, position_parts, standing_parts, parts_with, length_at, parts_at, entry_of, fails, entries_of, entries_below, faulty_entries, has_entry, has_record_length, has_surplus_decimals, has_surplus, IsToldByEntries}
use Rattle.s3_sheets.specs.Inner.RuleViews.{rule_view}
use Rattle.s3_sheets.specs.Inner.Progress.{Kept, nothing_kept, length_named, kept_behind, standing_behind}
use Rattle.s3_sheets.proofs.ProgressLemmas.{IsKept, none_kept, kept_next, standing_same}
use Rattle.s3_sheets.specs.declared.faults.Fault.{Fault}
use Rattle.s3_sheets.specs.declared.faults.Fault.TheVariants.{WrongEntry, WrongName, WrongNumber}
use Rattle.s3_sheets.specs.declared.kind.CardKind.{CardKind}
use Rattle.s3_sheets.specs.declared.kind.CardKind.TheVariants.{Comment, Unknown, Header, File, Record, RecordAnd, RecordOr, Field, Calculation, OutputLine, OutputAnd, OutputOr, OutputField}
use Rattle.s3_sheets.specs.declared.parts.Part.{Part}
use Rattle.s3_sheets.specs.declared.parts.FaultyEntry.{FaultyEntry}
use Rattle.s3_sheets.specs.declared.progress.Standing.{Standing}
use Rattle.s3_sheets.specs.declared.rules.Rule.{Rule}

-- ---- lists of entries
entries-append : (card : ℕ) (xs ys : List Part) → entries_of card (xs ++ ys) ≡ entries_of card xs ++ entries_of card ys
entries-append card xs ys = ap (map (entry_of card)) (filter-append fails xs ys) ∙ map-append (entry_of card) (filter fails xs) (filter fails ys)

append_assoc : {X : Type 0} (xs ys zs : List X) → (xs ++ ys) ++ zs ≡ xs ++ (ys ++ zs)
append_assoc [] ys zs = refl
append_assoc (x ∷ xs) ys zs = ap (λ more. x ∷ more) (append_assoc xs ys zs)

entries_more : (card : ℕ) (old new : List FaultyEntry) (xs ys : List Part) → new ≡ (old ++ entries_of card xs) ++ entries_of card ys
    → new ≡ old ++ entries_of card (xs ++ ys)
entries_more card old new xs ys e =
    e ∙ (append_assoc old (entries_of card xs) (entries_of card ys) ∙ ap (λ more. old ++ more) (sym (entries-append card xs ys)))

-- the entries of a card are added by one kind of part after another
pub all_parts : (number : ℕ) (kind : CardKind) (card : List ℕ) (standing : Standing) (limit : Option ℕ) (rules : List spec.Rule)
    (old a b c d : List FaultyEntry) → rules ≡ rules_of kind
    → a ≡ old ++ entries_of number (standing_parts kind standing)
    → b ≡ a ++ entries_of number (map (rule_part card) rules)
    → c ≡ b ++ entries_of number (combined_parts kind card)
    → d ≡ c ++ entries_of number (position_parts kind card limit)
    → d ≡ old ++ entries_of number (parts_with kind card standing limit)
all_parts number kind card standing limit rules old a b c d r ea eb ec ed =
    let S : List Part = standing_parts kind standing in
    let R : List Part = map (rule_part card) (rules_of kind) in
    let C : List Part = combined_parts kind card in
    let P : List Part = position_parts kind card limit in
    let eb' : b ≡ a ++ entries_of number R = eb ∙ ap (λ (rs : List spec.Rule). a ++ entries_of number (map (rule_part card) rs)) r in
    let tail : entries_of number (R ++ (C ++ P)) ≡ entries_of number R ++ (entries_of number C ++ entries_of number P) =
    entries-append number R (C ++ P) ∙ ap (λ more. entries_of number R ++ more) (entries-append number C P) in
    let whole : entries_of number (S ++ (R ++ (C ++ P))) ≡ entries_of number S ++ (entries_of number R ++ (entries_of number C ++ entries_of number P)) =
    entries-append number S (R ++ (C ++ P)) ∙ ap (λ more. entries_of number S ++ more) tail in
    ed
    ∙ (ap (λ xs. xs ++ entries_of number P) (ec ∙ ap (λ xs. xs ++ entries_of number C) (eb' ∙ ap (λ xs. xs ++ entries_of number R) ea))
    ∙ (append_assoc ((old ++ entries_of number S) ++ entries_of number R) (entries_of number C) (entries_of number P)
    ∙ (append_assoc (old ++ entries_of number S) (entries_of number R) (entries_of number C ++ entries_of number P)
    ∙ (append_assoc old (entries_of number S) (entries_of number R ++ (entries_of number C ++ entries_of number P))
    ∙ ap (λ more. old ++ more) (sym whole)))))

-- one more rule
pub one_more_rule : (number : ℕ) (card : List ℕ) (rules : List Rule) (i : ℕ) (d : Rule) (old found new : List FaultyEntry) (p : Part)
    → found ≡ old ++ entries_of number (map (rule_part card) (map rule_view (take i rules))) → i < length rules
    → p ≡ rule_part card (rule_view (get_or rules i d)) → new ≡ found ++ entries_of number (p ∷ [])
    → new ≡ old ++ entries_of number (map (rule_part card) (map rule_view (take (i + 1) rules)))
one_more_rule number card rules i d old found new p so_far in' by_rule more =
    let one : List Part = rule_part card (rule_view (get_or rules i d)) ∷ [] in
    let before : List Part = map (rule_part card) (map rule_view (take i rules)) in
    let split : map (rule_part card) (map rule_view (take (i + 1) rules)) ≡ before ++ one =
    ap (λ (rs : List Rule). map (rule_part card) (map rule_view rs)) (take_more rules i d in')
    ∙ (ap (map (rule_part card)) (map-append rule_view (take i rules) (get_or rules i d ∷ []))
    ∙ map-append (rule_part card) (map rule_view (take i rules)) (rule_view (get_or rules i d) ∷ [])) in
    let step : new ≡ (old ++ entries_of number before) ++ entries_of number one =
    more ∙ (ap (λ xs. xs ++ entries_of number (p ∷ [])) so_far ∙ ap (λ q. (old ++ entries_of number before) ++ entries_of number (q ∷ [])) by_rule) in
    entries_more number old new before one step ∙ ap (λ (ps : List Part). old ++ entries_of number ps) (sym split)

-- all rules
pub all_rules : (number : ℕ) (card : List ℕ) (rules : List Rule) (i : ℕ) (old found : List FaultyEntry)
    → found ≡ old ++ entries_of number (map (rule_part card) (map rule_view (take i rules))) → i ≡ length rules
    → found ≡ old ++ entries_of number (map (rule_part card) (map rule_view rules))
all_rules number card rules i old found so_far e =
    so_far ∙ ap (λ (rs : List Rule). old ++ entries_of number (map (rule_part card) (map rule_view rs))) (take_all i rules (omega (arith, e)))

-- ---- card by card
pub record FoundSoFar (from : ℕ) (cards : List (List ℕ)) (n : ℕ) (found : List FaultyEntry) (kept : Kept) : Type 0 where
  pub entries : found ≡ entries_below from cards n
  pub progress : IsKept cards n kept

pub none_found : (from : ℕ) (cards : List (List ℕ)) (found : List FaultyEntry) (kept : Kept) → found ≡ [] → kept ≡ nothing_kept → FoundSoFar from cards 0 found kept
none_found from cards found kept none first = record { entries = none; progress = let P : Kept → Type 0 = λ k. IsKept cards 0 k in subst P (sym first) (none_kept cards) }

length_same : (cards : List (List ℕ)) (n : ℕ) (kept : Kept) → IsKept cards n kept
    → length_for (kind_of (card_at cards n)) (length_named kept (card_at cards n)) kept.input_length kept.output_length ≡ length_at cards n
length_same cards n kept so_far = rw (so_far.of_files, so_far.of_input, so_far.of_output) refl

found_next : (from : ℕ) (cards : List (List ℕ)) (n : ℕ) (found found' : List FaultyEntry) (kept : Kept)
    → FoundSoFar from cards n found kept → n < length cards
    → found' ≡ found ++ entries_of (from + n + 1) (parts_with (kind_of (card_at cards n)) (card_at cards n) (standing_behind kept (card_at cards n))
    (length_for (kind_of (card_at cards n)) (length_named kept (card_at cards n)) kept.input_length kept.output_length))
    → FoundSoFar from cards (n + 1) found' (kept_behind kept (card_at cards n))
found_next from cards n found found' kept so_far in' more = record {
  entries =
      more
      ∙ (ap (λ xs. xs ++ entries_of (from + n + 1) (parts_with (kind_of (card_at cards n)) (card_at cards n) (standing_behind kept (card_at cards n))
      (length_for (kind_of (card_at cards n)) (length_named kept (card_at cards n)) kept.input_length kept.output_length))) so_far.entries
      ∙ (ap (λ s. entries_below from cards n ++ entries_of (from + n + 1) (parts_with (kind_of (card_at cards n)) (card_at cards n) s
      (length_for (kind_of (card_at cards n)) (length_named kept (card_at cards n)) kept.input_length kept.output_length)))
      (standing_same cards n kept so_far.progress)
      ∙ (ap (λ l. entries_below from cards n ++ entries_of (from + n + 1) (parts_with (kind_at cards n) (card_at cards n) (standing_at cards n) l))
      (length_same cards n kept so_far.progress)
      ∙ ap (entries_below from cards) (sym (add-one n)))));
  progress = kept_next cards n kept so_far.progress in';
}

-- one more card, in the terms of the code
pub card_found : (from : ℕ) (cards : List (List ℕ)) (n : ℕ) (d : List ℕ) (found found' : List FaultyEntry) (kept kept' : Kept) (standing : Standing)
    (limit : Option ℕ) → FoundSoFar from cards n found kept → n < length cards
    → limit ≡ length_for (kind_of (get_or cards n d)) (length_named kept (get_or cards n d)) kept.input_length kept.output_length
    → standing ≡ standing_behind kept (get_or cards n d) → kept' ≡ kept_behind kept (get_or cards n d)
    → found' ≡ found ++ entries_of (from + n + 1) (parts_with (kind_of (get_or cards n d)) (get_or cards n d) standing limit)
    → FoundSoFar from cards (n + 1) found' kept'
card_found from cards n d found found' kept kept' standing limit so_far in' limits stands keeps more =
    let card : get_or cards n d ≡ card_at cards n = get_or_default cards n d [] in' in
    let more' : found' ≡ found ++ entries_of (from + n + 1) (parts_with (kind_of (card_at cards n)) (card_at cards n) (standing_behind kept (card_at cards n))
    (length_for (kind_of (card_at cards n)) (length_named kept (card_at cards n)) kept.input_length kept.output_length)) =
    more
    ∙ (ap (λ s. found ++ entries_of (from + n + 1) (parts_with (kind_of (get_or cards n d)) (get_or cards n d) s limit)) stands
    ∙ (ap (λ l. found ++ entries_of (from + n + 1) (parts_with (kind_of (get_or cards n d)) (get_or cards n d) (standing_behind kept (get_or cards n d)) l)) limits
    ∙ ap (λ c. found ++ entries_of (from + n + 1) (parts_with (kind_of c) c (standing_behind kept c)
    (length_for (kind_of c) (length_named kept c) kept.input_length kept.output_length))) card)) in
    let keeps' : kept' ≡ kept_behind kept (card_at cards n) = keeps ∙ ap (kept_behind kept) card in
    let next : FoundSoFar from cards (n + 1) found' (kept_behind kept (card_at cards n)) = found_next from cards n found found' kept so_far in' more' in
    record {
      entries = next.entries;
      progress = let P : Kept → Type 0 = λ k. IsKept cards (n + 1) k in subst P (sym keeps') next.progress;
    }

pub all_found : (from : ℕ) (cards : List (List ℕ)) (n : ℕ) (found : List FaultyEntry) (kept : Kept) → FoundSoFar from cards n found kept → n ≡ length cards
    → found ≡ faulty_entries from cards
unfolding faulty_entries
all_found from cards n found kept so_far e = so_far.entries ∙ ap (entries_below from cards) e

-- ---- numbers
or_false : (a : Bool) → (a || false) ≡ a
or_false true = refl
or_false false = refl

or_true : (a : Bool) → (a || true) ≡ true
or_true true = refl
or_true false = refl

or_assoc : (a b c : Bool) → ((a || b) || c) ≡ (a || (b || c))
or_assoc true b c = refl
or_assoc false b c = refl

is_told : ℕ → Part → Bool
is_told number p = (p.number == number) && p.fails

-- conjunction with a false part, and with a true one
and_false : (a : Bool) → (a && false) ≡ false
and_false true = refl
and_false false = refl

and_true : (a : Bool) → (a && true) ≡ a
and_true true = refl
and_true false = refl

told_of : (number card : ℕ) (parts : List Part) → has_entry number (entries_of card parts) ≡ list_any (is_told number) parts
unfolding is_told
told_of number card [] = refl
told_of number card (p ∷ parts) = elim (cases_Bool p.fails) [
  | inl good ↦ rw good (λ i. sym (and_true (p.number == number)) i || told_of number card parts i)
  | inr bad ↦ rw bad (told_of number card parts ∙ sym (ap (λ b. b || list_any (is_told number) parts) (and_false (p.number == number))))
]

told-append : (number : ℕ) (xs ys : List Part) → list_any (is_told number) (xs ++ ys) ≡ (list_any (is_told number) xs || list_any (is_told number) ys)
told-append number xs ys = list_any-append (is_told number) xs ys

-- whether any part of a card gives the number
told_together : (number : ℕ) (kind : CardKind) (card : List ℕ) (standing : Standing) (limit : Option ℕ)
    → list_any (is_told number) (parts_with kind card standing limit)
    ≡ (list_any (is_told number) (standing_parts kind standing)
    || (list_any (is_told number) (map (rule_part card) (rules_of kind))
    || (list_any (is_told number) (combined_parts kind card) || list_any (is_told number) (position_parts kind card limit))))
told_together number kind card standing limit =
    let S : List Part = standing_parts kind standing in
    let R : List Part = map (rule_part card) (rules_of kind) in
    let C : List Part = combined_parts kind card in
    let P : List Part = position_parts kind card limit in
    told-append number S (R ++ (C ++ P))
    ∙ ap (λ b. list_any (is_told number) S || b)
    (told-append number R (C ++ P) ∙ ap (λ b. list_any (is_told number) R || b) (told-append number C P))

-- ---- the rules
told_by_fault : (number : ℕ) → Fault → Bool → Bool
told_by_fault number fault allowed = (fault_number fault == number) && not allowed

entry_by_fault : (fault : Fault) (allowed : Bool) → told_by_fault 2 fault allowed ≡ (if allowed then no_faults else one_fault fault).entry
unfolding told_by_fault
entry_by_fault WrongEntry true = refl
entry_by_fault WrongEntry false = refl
entry_by_fault WrongName true = refl
entry_by_fault WrongName false = refl
entry_by_fault WrongNumber true = refl
entry_by_fault WrongNumber false = refl

name_by_fault : (fault : Fault) (allowed : Bool) → told_by_fault 3 fault allowed ≡ (if allowed then no_faults else one_fault fault).name
unfolding told_by_fault
name_by_fault WrongEntry true = refl
name_by_fault WrongEntry false = refl
name_by_fault WrongName true = refl
name_by_fault WrongName false = refl
name_by_fault WrongNumber true = refl
name_by_fault WrongNumber false = refl

number_by_fault : (fault : Fault) (allowed : Bool) → told_by_fault 4 fault allowed ≡ (if allowed then no_faults else one_fault fault).number
unfolding told_by_fault
number_by_fault WrongEntry true = refl
number_by_fault WrongEntry false = refl
number_by_fault WrongName true = refl
number_by_fault WrongName false = refl
number_by_fault WrongNumber true = refl
number_by_fault WrongNumber false = refl

none_by_fault : (number : ℕ) (fault : Fault) (allowed : Bool) → (fault_number fault == number) ≡ false → told_by_fault number fault allowed ≡ false
unfolding told_by_fault
none_by_fault number fault allowed other = ap (λ b. b && not allowed) other

not_1 : (fault : Fault) → (fault_number fault == 1) ≡ false
not_1 WrongEntry = refl
not_1 WrongName = refl
not_1 WrongNumber = refl

not_13 : (fault : Fault) → (fault_number fault == 13) ≡ false
not_13 WrongEntry = refl
not_13 WrongName = refl
not_13 WrongNumber = refl

-- if a rule's part and its error agree for each rule, they agree for all rules
rules_told : (number : ℕ) (card : List ℕ) (says : spec.Rule → Bool)
    → ((rule : spec.Rule) → told_by_fault number (fault_of rule.entry) (allows rule.entry (columns_between card rule.from rule.to)) ≡ says rule)
    → (rules : List spec.Rule) → list_any (is_told number) (map (rule_part card) rules) ≡ list_any says rules
unfolding is_told told_by_fault
rules_told number card says same [] = refl
rules_told number card says same (rule ∷ rules) = λ i. same rule i || rules_told number card says same rules i

none_says : (rules : List spec.Rule) → list_any (λ (rule : spec.Rule). false) rules ≡ false
none_says [] = refl
none_says (rule ∷ rules) = none_says rules

rules_told_2 : (card : List ℕ) (rules : List spec.Rule) → list_any (is_told 2) (map (rule_part card) rules) ≡ list_any (λ rule. (rule_faults card rule).entry) rules
unfolding rule_faults
rules_told_2 card rules =
    rules_told 2 card (λ rule. (rule_faults card rule).entry) (λ rule. entry_by_fault (fault_of rule.entry) (allows rule.entry (columns_between card rule.from rule.to))) rules

rules_told_3 : (card : List ℕ) (rules : List spec.Rule) → list_any (is_told 3) (map (rule_part card) rules) ≡ list_any (λ rule. (rule_faults card rule).name) rules
unfolding rule_faults
rules_told_3 card rules =
    rules_told 3 card (λ rule. (rule_faults card rule).name) (λ rule. name_by_fault (fault_of rule.entry) (allows rule.entry (columns_between card rule.from rule.to))) rules

rules_told_4 : (card : List ℕ) (rules : List spec.Rule) → list_any (is_told 4) (map (rule_part card) rules) ≡ list_any (λ rule. (rule_faults card rule).number) rules
unfolding rule_faults
rules_told_4 card rules =
    rules_told 4 card (λ rule. (rule_faults card rule).number) (λ rule. number_by_fault (fault_of rule.entry) (allows rule.entry (columns_between card rule.from rule.to))) rules

rules_told_1 : (card : List ℕ) (rules : List spec.Rule) → list_any (is_told 1) (map (rule_part card) rules) ≡ false
rules_told_1 card rules =
    rules_told 1 card (λ rule. false) (λ rule. none_by_fault 1 (fault_of rule.entry) (allows rule.entry (columns_between card rule.from rule.to)) (not_1 (fault_of rule.entry))) rules
    ∙ none_says rules

rules_told_13 : (card : List ℕ) (rules : List spec.Rule) → list_any (is_told 13) (map (rule_part card) rules) ≡ false
rules_told_13 card rules =
    rules_told 13 card (λ rule. false) (λ rule. none_by_fault 13 (fault_of rule.entry) (allows rule.entry (columns_between card rule.from rule.to)) (not_13 (fault_of rule.entry))) rules
    ∙ none_says rules

-- ---- columns together
stray : (e w k l o : Bool) → (e || ((w && k) || ((w && l) || (o || false)))) ≡ ((e || (w && (k || l))) || o)
stray true w k l o = refl
stray false true true l o = refl
stray false true false true o = refl
stray false true false false o = or_false o
stray false false k l o = or_false o

-- the key that is read: of an indexed file with a known length and start
key_read : Bool → Option ℕ → Option ℕ → Option KeyField
key_read indexed size start = if indexed then key_field size start else None

twice : (x : Bool) → (x || (x || false)) ≡ x
twice true = refl
twice false = refl

-- the record length is wrong, or the key is missing or ends after the record
extent : (l w : Bool) (n : ℕ) (size start : Option ℕ)
    → (not l
    || (((w && not (is_some size)) || (l && (is_some (key_read w size start) && not (is_key_within n (key_read w size start)))))
    || (((w && not (is_some start)) || (l && (is_some (key_read w size start) && not (is_key_within n (key_read w size start))))) || false)))
    ≡ (not l || (w && not (is_key_within n (key_read w size start))))
unfolding key_read
extent false w n size start = refl
extent true false n size start = refl
extent true true n None start = refl
extent true true n (Some size) None = refl
extent true true n (Some size) (Some start) = twice (not (is_key_within n (key_field (Some size) (Some start))))

-- if decimals exceed digits, the shape is out of range
surplus_digits : (a b c : Bool) → (not (a && b && c) || (a && not c)) ≡ not (a && b && c)
surplus_digits true true true = refl
surplus_digits true true false = refl
surplus_digits true false c = refl
surplus_digits false b c = refl

surplus : (shape : Shape) → (not (shape_in_range shape) || has_surplus_decimals shape) ≡ not (shape_in_range shape)
surplus (Alphanumeric size) = or_false (not (is_between 1 256 size))
surplus (Numeric digits decimals) = surplus_digits (is_between 1 15 digits) (nat_le decimals 9) (nat_le decimals digits)

defined_surplus : (defined : Option Shape) → (not (if_given shape_in_range defined) || (has_surplus defined || false)) ≡ not (if_given shape_in_range defined)
defined_surplus None = refl
defined_surplus (Some shape) = ap (λ b. not (shape_in_range shape) || b) (or_false (has_surplus_decimals shape)) ∙ surplus shape

-- From or To is after the end of the record exactly if To is, when they are in order
past_ends : (limit first last : ℕ) → (not (nat_le first last) || (nat_lt limit first || nat_lt limit last)) ≡ (not (nat_le first last) || nat_lt limit last)
past_ends limit first last = grind (arith, nat_tests)

-- the parts of a field with known positions: order, range, decimals and positions after the end of the record
measured : (o s d a b : Bool) → (not s || d) ≡ not s → (not o || (a || b)) ≡ (not o || b)
    → ((not (o && s) || ((o && d) || false)) || (a || (b || false))) ≡ (not (o && s) || b)
measured false s d a b few ends = refl
measured true false d a b few ends = refl
measured true true d a b few ends = (λ i. (few i || false) || (a || or_false b i)) ∙ ends

-- the parts of a field with known positions, if the record length isn't known
measured_alone : (o s d : Bool) → (not s || d) ≡ not s → ((not (o && s) || ((o && d) || false)) || false) ≡ (not (o && s) || false)
measured_alone o s d few = measured o s d false false few refl

fields_measured : (first last : ℕ) (form : FieldForm) (limit : Option ℕ)
    → ((not (nat_le first last && shape_in_range (shape_of_positions form (last + 1 - first)))
    || ((nat_le first last && has_surplus_decimals (shape_of_positions form (last + 1 - first))) || false))
    || (exceeds (Some first) limit || (exceeds (Some last) limit || false)))
    ≡ (not (nat_le first last && shape_in_range (shape_of_positions form (last + 1 - first))) || exceeds (Some last) limit)
fields_measured first last form None =
    measured_alone (nat_le first last) (shape_in_range (shape_of_positions form (last + 1 - first)))
    (has_surplus_decimals (shape_of_positions form (last + 1 - first))) (surplus (shape_of_positions form (last + 1 - first)))
fields_measured first last form (Some limit) =
    measured (nat_le first last) (shape_in_range (shape_of_positions form (last + 1 - first)))
    (has_surplus_decimals (shape_of_positions form (last + 1 - first))) (nat_lt limit first) (nat_lt limit last)
    (surplus (shape_of_positions form (last + 1 - first))) (past_ends limit first last)

-- a position, if it is in range
position : Option ℕ → Option ℕ
position entry = only (is_between 1 9999) entry

field_known : (first last : Option ℕ) → Bool
field_known first last = is_some (position first) && is_some (position last)

field_bad : (first last : ℕ) (form : FieldForm) → Bool
field_bad first last form = not (nat_le first last && shape_in_range (shape_of_positions form (last + 1 - first)))

field_surplus : (first last : ℕ) (form : FieldForm) → Bool
field_surplus first last form = nat_le first last && has_surplus_decimals (shape_of_positions form (last + 1 - first))

-- `r` is true if a rule finds that a position isn't known
field_told : (r : Bool) (first last : Option ℕ) (form : FieldForm) (limit : Option ℕ)
    → (is_some (position first) ≡ false → r ≡ true) → (is_some (position last) ≡ false → r ≡ true)
    → (r || (((field_known first last && field_bad (unwrap_or (position first) 1) (unwrap_or (position last) 1) form)
    || ((field_known first last && field_surplus (unwrap_or (position first) 1) (unwrap_or (position last) 1) form) || false))
    || (exceeds first limit || (exceeds last limit || false))))
    ≡ (r || (field_bad (unwrap_or (position first) 1) (unwrap_or (position last) 1) form || exceeds last limit))
unfolding position field_known field_bad field_surplus
field_told r None last form limit no_first no_last = rw (no_first refl) refl
field_told r (Some first) None form limit no_first no_last = rw (no_last refl) refl
field_told r (Some first) (Some last) form limit no_first no_last = elim (cases_Bool (is_between 1 9999 first)) [
  | inl good ↦ elim (cases_Bool (is_between 1 9999 last)) [
    | inl fine ↦ rw (good, fine) (ap (λ b. r || b) (fields_measured first last form limit))
    | inr bad ↦ let all : r ≡ true = no_last (ap (λ b. is_some (if b then Some last else None)) bad) in rw all refl
  ]
  | inr bad ↦ let all : r ≡ true = no_first (ap (λ b. is_some (if b then Some first else None)) bad) in rw all refl
]

-- the rules of a field line fail if a position isn't known
or_third : (a b c d : Bool) → c ≡ true → (a || (b || (c || d))) ≡ true
or_third true b c d is = refl
or_third false true c d is = refl
or_third false false c d is = ap (λ x. x || d) is

or_fourth : (a b c d e : Bool) → d ≡ true → (a || (b || (c || (d || e)))) ≡ true
or_fourth true b c d e is = refl
or_fourth false true c d e is = refl
or_fourth false false true d e is = refl
or_fourth false false false d e is = ap (λ x. x || e) is

number_at_fault : (allowed : Bool) → allowed ≡ false → (if allowed then no_faults else one_fault WrongNumber).number ≡ true
number_at_fault allowed bad = ap (λ b. (if b then no_faults else one_fault WrongNumber).number) bad

first_told : (card : List ℕ) → is_some (number_between 1 9999 (columns card input.FROM)) ≡ false
    → list_any (λ rule. (rule_faults card rule).number) field_rules ≡ true
unfolding field_rules rule_faults
first_told card unknown =
    or_third ((rule_faults card (blank 7 42)).number) ((rule_faults card (rule input.PACKED (maybe (codes "P")))).number) ((rule_faults card (rule input.FROM (Number 1 9999))).number)
    (list_any (λ rule. (rule_faults card rule).number) (drop 3 field_rules))
    (number_at_fault (is_some (number_between 1 9999 (columns card input.FROM))) unknown)

last_told : (card : List ℕ) → is_some (number_between 1 9999 (columns card input.TO)) ≡ false
    → list_any (λ rule. (rule_faults card rule).number) field_rules ≡ true
unfolding field_rules rule_faults
last_told card unknown =
    or_fourth ((rule_faults card (blank 7 42)).number) ((rule_faults card (rule input.PACKED (maybe (codes "P")))).number) ((rule_faults card (rule input.FROM (Number 1 9999))).number)
    ((rule_faults card (rule input.TO (Number 1 9999))).number) (list_any (λ rule. (rule_faults card rule).number) (drop 4 field_rules))
    (number_at_fault (is_some (number_between 1 9999 (columns card input.TO))) unknown)

spaces : (n x y : Bool) → ((n && x) || ((n && y) || false)) ≡ (n && (x || y))
spaces true true y = refl
spaces true false y = or_false y
spaces false x y = refl

content : (c f e b p d : Bool)
    → ((c && f) || ((c && f) || (((c && e) || (f && e && p)) || (((c && b) || (b && d)) || (((c && p) || (f && e && p)) || false)))))
    ≡ ((c && (f || e || b || p)) || (f && e && p) || (b && d))
content true true e b p d = refl
content true false true b p d = refl
content true false false true p d = refl
content true false false false p d = refl
content false true true true true d = refl
content false true true true false true = refl
content false true true true false false = refl
content false true true false true d = refl
content false true true false false d = refl
content false true false true true true = refl
content false true false true true false = refl
content false true false true false true = refl
content false true false true false false = refl
content false true false false p d = refl
content false false true true true true = refl
content false false true true true false = refl
content false false true true false true = refl
content false false true true false false = refl
content false false true false p d = refl
content false false false true true true = refl
content false false false true true false = refl
content false false false true false true = refl
content false false false true false false = refl
content false false false false p d = refl

three_positions : (a b c : Bool) → (a || (b || (c || false))) ≡ (a || b || c)
three_positions true b c = refl
three_positions false true c = refl
three_positions false false c = or_false c

combined_told_2 : (kind : CardKind) (card : List ℕ) → list_any (is_told 2) (combined_parts kind card) ≡ (combined_faults kind card).entry
unfolding is_told has_stray_entry has_bad_content
combined_told_2 Comment card = refl
combined_told_2 Unknown card = refl
combined_told_2 Header card = refl
combined_told_2 File card = stray ((file_line card).ends_job && not (is_by_cycle (file_line card).designation)) (not (is_with_index (file_line card))) (are_filled card file.KEY_LENGTH) (are_filled card file.KEY_START) (are_filled card file.OVERFLOW && not (is_printer (file_line card).device))
combined_told_2 Record card = refl
combined_told_2 RecordAnd card = refl
combined_told_2 RecordOr card = refl
combined_told_2 Field card = refl
combined_told_2 Calculation card = refl
combined_told_2 OutputLine card = or_false (has_bad_addition card)
combined_told_2 OutputAnd card = refl
combined_told_2 OutputOr card = refl
combined_told_2 OutputField card = content (are_filled card output.CONSTANT) (are_filled card output.FIELD_NAME) (are_filled card output.EDIT_CODE) (are_filled card output.BLANK_AFTER) (are_filled card output.PACKED) (is_of_date (name_of (columns card output.FIELD_NAME)))

combined_told_3 : (kind : CardKind) (card : List ℕ) → list_any (is_told 3) (combined_parts kind card) ≡ (combined_faults kind card).name
unfolding is_told
combined_told_3 Comment card = refl
combined_told_3 Unknown card = refl
combined_told_3 Header card = refl
combined_told_3 File card = refl
combined_told_3 Record card = refl
combined_told_3 RecordAnd card = refl
combined_told_3 RecordOr card = refl
combined_told_3 Field card = refl
combined_told_3 Calculation card = or_false (has_bad_factor card)
combined_told_3 OutputLine card = refl
combined_told_3 OutputAnd card = refl
combined_told_3 OutputOr card = refl
combined_told_3 OutputField card = or_false (has_no_content card)

combined_told_1 : (kind : CardKind) (card : List ℕ) → list_any (is_told 1) (combined_parts kind card) ≡ false
unfolding is_told
combined_told_1 Comment card = refl
combined_told_1 Unknown card = refl
combined_told_1 Header card = refl
combined_told_1 File card = refl
combined_told_1 Record card = refl
combined_told_1 RecordAnd card = refl
combined_told_1 RecordOr card = refl
combined_told_1 Field card = refl
combined_told_1 Calculation card = refl
combined_told_1 OutputLine card = refl
combined_told_1 OutputAnd card = refl
combined_told_1 OutputOr card = refl
combined_told_1 OutputField card = refl

combined_told_13 : (kind : CardKind) (card : List ℕ) → list_any (is_told 13) (combined_parts kind card) ≡ false
unfolding is_told
combined_told_13 Comment card = refl
combined_told_13 Unknown card = refl
combined_told_13 Header card = refl
combined_told_13 File card = refl
combined_told_13 Record card = refl
combined_told_13 RecordAnd card = refl
combined_told_13 RecordOr card = refl
combined_told_13 Field card = refl
combined_told_13 Calculation card = refl
combined_told_13 OutputLine card = refl
combined_told_13 OutputAnd card = refl
combined_told_13 OutputOr card = refl
combined_told_13 OutputField card = refl

-- ---- positions
-- An entry may be in error by several parts: rules, columns together and positions.
told_by_all_4 : (kind : CardKind) (card : List ℕ) (limit : Option ℕ)
    → (list_any (λ rule. (rule_faults card rule).number) (rules_of kind)
    || (list_any (is_told 4) (combined_parts kind card) || list_any (is_told 4) (position_parts kind card limit)))
    ≡ (list_any (λ rule. (rule_faults card rule).number) (rules_of kind) || ((combined_faults kind card).number || names_position_past kind card limit))
unfolding is_told has_bad_extent has_bad_space has_bad_positions has_bad_definition file_line field_line number_between key_read position field_known field_bad field_surplus
told_by_all_4 Comment card limit = refl
told_by_all_4 Unknown card limit = refl
told_by_all_4 Header card limit = refl
told_by_all_4 File card limit =
    ap (λ b. list_any (λ rule. (rule_faults card rule).number) (rules_of File) || (b || false))
    (extent (has_record_length (file_line card)) (has_index card) (file_line card).record_length
    (number_between 1 29 (columns card file.KEY_LENGTH)) (number_between 1 9999 (columns card file.KEY_START)))
told_by_all_4 Record card limit =
    ap (λ b. list_any (λ rule. (rule_faults card rule).number) (rules_of Record) || b)
    (three_positions (exceeds (number_of (columns card input.POSITION_1)) limit) (exceeds (number_of (columns card input.POSITION_2)) limit) (exceeds (number_of (columns card input.POSITION_3)) limit))
told_by_all_4 RecordAnd card limit =
    ap (λ b. list_any (λ rule. (rule_faults card rule).number) (rules_of RecordAnd) || b)
    (three_positions (exceeds (number_of (columns card input.POSITION_1)) limit) (exceeds (number_of (columns card input.POSITION_2)) limit) (exceeds (number_of (columns card input.POSITION_3)) limit))
told_by_all_4 RecordOr card limit =
    ap (λ b. list_any (λ rule. (rule_faults card rule).number) (rules_of RecordOr) || b)
    (three_positions (exceeds (number_of (columns card input.POSITION_1)) limit) (exceeds (number_of (columns card input.POSITION_2)) limit) (exceeds (number_of (columns card input.POSITION_3)) limit))
told_by_all_4 Field card limit =
    field_told (list_any (λ rule. (rule_faults card rule).number) (rules_of Field))
    (number_of (columns card input.FROM)) (number_of (columns card input.TO)) (form_of (column card input.PACKED == LETTER_P) (columns card input.DECIMALS)) limit
    (first_told card) (last_told card)
told_by_all_4 Calculation card limit =
    ap (λ b. list_any (λ rule. (rule_faults card rule).number) (rules_of Calculation) || (b || false)) (defined_surplus (definition_of (columns card calculation.LENGTH) (columns card calculation.DECIMALS)))
told_by_all_4 OutputLine card limit =
    ap (λ b. list_any (λ rule. (rule_faults card rule).number) (rules_of OutputLine) || (b || false))
    (spaces (not (is_addition card)) (not (is_blank_or (number_between 0 3) (columns card output.SPACE_BEFORE))) (not (is_blank_or (number_between 0 3) (columns card output.SPACE_AFTER))))
told_by_all_4 OutputAnd card limit = refl
told_by_all_4 OutputOr card limit = refl
told_by_all_4 OutputField card limit =
    (λ i. list_any (λ rule. (rule_faults card rule).number) (rules_of OutputField) || (or_false (has_early_constant card) i || or_false (exceeds (number_of (columns card output.END_POSITION)) limit) i))

positions_told_1 : (kind : CardKind) (card : List ℕ) (limit : Option ℕ) → list_any (is_told 1) (position_parts kind card limit) ≡ false
unfolding is_told
positions_told_1 Comment card limit = refl
positions_told_1 Unknown card limit = refl
positions_told_1 Header card limit = refl
positions_told_1 File card limit = refl
positions_told_1 Record card limit = refl
positions_told_1 RecordAnd card limit = refl
positions_told_1 RecordOr card limit = refl
positions_told_1 Field card limit = refl
positions_told_1 Calculation card limit = refl
positions_told_1 OutputLine card limit = refl
positions_told_1 OutputAnd card limit = refl
positions_told_1 OutputOr card limit = refl
positions_told_1 OutputField card limit = refl

positions_told_2 : (kind : CardKind) (card : List ℕ) (limit : Option ℕ) → list_any (is_told 2) (position_parts kind card limit) ≡ false
unfolding is_told
positions_told_2 Comment card limit = refl
positions_told_2 Unknown card limit = refl
positions_told_2 Header card limit = refl
positions_told_2 File card limit = refl
positions_told_2 Record card limit = refl
positions_told_2 RecordAnd card limit = refl
positions_told_2 RecordOr card limit = refl
positions_told_2 Field card limit = refl
positions_told_2 Calculation card limit = refl
positions_told_2 OutputLine card limit = refl
positions_told_2 OutputAnd card limit = refl
positions_told_2 OutputOr card limit = refl
positions_told_2 OutputField card limit = refl

positions_told_3 : (kind : CardKind) (card : List ℕ) (limit : Option ℕ) → list_any (is_told 3) (position_parts kind card limit) ≡ false
unfolding is_told
positions_told_3 Comment card limit = refl
positions_told_3 Unknown card limit = refl
positions_told_3 Header card limit = refl
positions_told_3 File card limit = refl
positions_told_3 Record card limit = refl
positions_told_3 RecordAnd card limit = refl
positions_told_3 RecordOr card limit = refl
positions_told_3 Field card limit = refl
positions_told_3 Calculation card limit = refl
positions_told_3 OutputLine card limit = refl
positions_told_3 OutputAnd card limit = refl
positions_told_3 OutputOr card limit = refl
positions_told_3 OutputField card limit = refl

positions_told_13 : (kind : CardKind) (card : List ℕ) (limit : Option ℕ) → list_any (is_told 13) (position_parts kind card limit) ≡ false
unfolding is_told
positions_told_13 Comment card limit = refl
positions_told_13 Unknown card limit = refl
positions_told_13 Header card limit = refl
positions_told_13 File card limit = refl
positions_told_13 Record card limit = refl
positions_told_13 RecordAnd card limit = refl
positions_told_13 RecordOr card limit = refl
positions_told_13 Field card limit = refl
positions_told_13 Calculation card limit = refl
positions_told_13 OutputLine card limit = refl
positions_told_13 OutputAnd card limit = refl
positions_told_13 OutputOr card limit = refl
positions_told_13 OutputField card limit = refl

-- ---- the whole
swapped : (l r c : Bool) → (l || (r || (c || false))) ≡ ((r || c) || l)
swapped l true c = or_true l
swapped l false true = or_true l
swapped true false false = refl
swapped false false false = refl

standing_told_1 : (kind : CardKind) (standing : Standing) → list_any (is_told 1) (standing_parts kind standing) ≡ standing.is_misplaced
unfolding is_told
standing_told_1 kind standing = or_false standing.is_misplaced

standing_told_2 : (kind : CardKind) (standing : Standing) → list_any (is_told 2) (standing_parts kind standing) ≡ false
unfolding is_told
standing_told_2 kind standing = refl

standing_told_3 : (kind : CardKind) (standing : Standing) → list_any (is_told 3) (standing_parts kind standing) ≡ standing.lacks_file
unfolding is_told
standing_told_3 kind standing = or_false standing.lacks_file

standing_told_4 : (kind : CardKind) (standing : Standing) → list_any (is_told 4) (standing_parts kind standing) ≡ false
unfolding is_told
standing_told_4 kind standing = refl

standing_told_13 : (kind : CardKind) (standing : Standing) → list_any (is_told 13) (standing_parts kind standing) ≡ standing.is_too_many
unfolding is_told
standing_told_13 kind standing = or_false standing.is_too_many

pub told_1 : IsToldByEntries 1
unfolding card_holds faults_of is_outside
told_1 card cards i =
    told_of 1 card (parts_at cards i)
    ∙ (told_together 1 (kind_at cards i) (card_at cards i) (standing_at cards i) (length_at cards i)
    ∙ ((λ j. standing_told_1 (kind_at cards i) (standing_at cards i) j || (rules_told_1 (card_at cards i) (rules_of (kind_at cards i)) j || (combined_told_1 (kind_at cards i) (card_at cards i) j || positions_told_1 (kind_at cards i) (card_at cards i) (length_at cards i) j)))
    ∙ or_false ((standing_at cards i).is_misplaced)))

pub told_2 : IsToldByEntries 2
unfolding card_holds faults_of is_outside
told_2 card cards i =
    told_of 2 card (parts_at cards i)
    ∙ (told_together 2 (kind_at cards i) (card_at cards i) (standing_at cards i) (length_at cards i)
    ∙ ((λ j. standing_told_2 (kind_at cards i) (standing_at cards i) j || (rules_told_2 (card_at cards i) (rules_of (kind_at cards i)) j || (combined_told_2 (kind_at cards i) (card_at cards i) j || positions_told_2 (kind_at cards i) (card_at cards i) (length_at cards i) j)))
    ∙ ap (λ b. (list_any (λ rule. (rule_faults (card_at cards i) rule).entry) (rules_of (kind_at cards i))) || b) (or_false ((combined_faults (kind_at cards i) (card_at cards i)).entry))))

pub told_3 : IsToldByEntries 3
unfolding card_holds faults_of is_outside
told_3 card cards i =
    told_of 3 card (parts_at cards i)
    ∙ (told_together 3 (kind_at cards i) (card_at cards i) (standing_at cards i) (length_at cards i)
    ∙ ((λ j. standing_told_3 (kind_at cards i) (standing_at cards i) j || (rules_told_3 (card_at cards i) (rules_of (kind_at cards i)) j || (combined_told_3 (kind_at cards i) (card_at cards i) j || positions_told_3 (kind_at cards i) (card_at cards i) (length_at cards i) j)))
    ∙ swapped (lacks_file (kind_at cards i) (before cards i) (card_at cards i)) (list_any (λ rule. (rule_faults (card_at cards i) rule).name) (rules_of (kind_at cards i))) ((combined_faults (kind_at cards i) (card_at cards i)).name)))

pub told_4 : IsToldByEntries 4
unfolding card_holds faults_of is_outside
told_4 card cards i =
    told_of 4 card (parts_at cards i)
    ∙ (told_together 4 (kind_at cards i) (card_at cards i) (standing_at cards i) (length_at cards i)
    ∙ ((λ j. standing_told_4 (kind_at cards i) (standing_at cards i) j || (rules_told_4 (card_at cards i) (rules_of (kind_at cards i)) j || (list_any (is_told 4) (combined_parts (kind_at cards i) (card_at cards i)) || list_any (is_told 4) (position_parts (kind_at cards i) (card_at cards i) (length_at cards i)))))
    ∙ (told_by_all_4 (kind_at cards i) (card_at cards i) (length_at cards i)
    ∙ sym (or_assoc (list_any (λ rule. (rule_faults (card_at cards i) rule).number) (rules_of (kind_at cards i))) ((combined_faults (kind_at cards i) (card_at cards i)).number) (is_outside cards i)))))

pub told_13 : IsToldByEntries 13
unfolding card_holds faults_of is_outside
told_13 card cards i =
    told_of 13 card (parts_at cards i)
    ∙ (told_together 13 (kind_at cards i) (card_at cards i) (standing_at cards i) (length_at cards i)
    ∙ ((λ j. standing_told_13 (kind_at cards i) (standing_at cards i) j || (rules_told_13 (card_at cards i) (rules_of (kind_at cards i)) j || (combined_told_13 (kind_at cards i) (card_at cards i) j || positions_told_13 (kind_at cards i) (card_at cards i) (length_at cards i) j)))
    ∙ or_false ((standing_at cards i).is_too_many)))
