-- The types of a file, gathered line by line.
use Rattle.std.proofs.Common.{◌≡◌, ℕ, ◌+◌, ◌<◌, ◌≤◌, ◌++◌, length, drop, get_or, suc, Bool, true, false, List, [], ◌∷◌, map, filter, refl, sym, ◌∙◌, ap, arith, drop-cons, if◌then◌else◌}
use Rattle.std.specs.Prelude.{Option, Some, None, filter_map, option_to_list}
use Rattle.std.specs.List.{cons_option}
use Rattle.std.proofs.lemmas.List.{append_assoc, append-nil, map-append}
use Rattle.s3_cards.specs.Names.{same_name}
use Rattle.s3_cards.specs.declared.name.Name.{Name}
use Rattle.s3_lines.specs.declared.indicator.Indicator.{Indicator}
use Rattle.s3_lines.specs.declared.sheet.InputLine.{InputLine}
use Rattle.s3_lines.specs.declared.sheet.InputLine.TheVariants.{Record, And, Or, Field}
use Rattle.s3_lines.specs.declared.sheet.RecordCode.{RecordCode}
use Rattle.s3_meaning.specs.Names.{entries}
use Rattle.s3_meaning.specs.RecordTypes.{RecordType, further_codes, type_from, types_from}
use Rattle.s3_record_types.specs.declared.kind.RecordKind.{RecordKind}
use Rattle.s3_layout.specs.Inner.Kinds.{begun, coded, coded_type, file_at, further, kinds_in}
use Rattle.s3_layout.proofs.WalkLemmas.{walk_ended, walk_next}

-- ---- what is gathered of each element
cons_listed : {Y : Type 0} (one : Option Y) (ys : List Y) → cons_option one ys ≡ option_to_list one ++ ys
cons_listed (Some y) ys = refl
cons_listed None ys = refl

pub picked_next : {X Y : Type 0} (pick : X → Option Y) (all old new : List Y) (xs : List X) (i : ℕ) (d : X) → i < length xs → new ≡ old ++ option_to_list (pick (get_or xs i d)) → all ≡ old ++ filter_map pick (drop i xs)
    → all ≡ new ++ filter_map pick (drop (i + 1) xs)
picked_next pick all old new xs i d within pushed kept =
    walk_next {A = ℕ} (λ _ x. option_to_list (pick x)) (λ at _. at) (λ _ xs. filter_map pick xs) (λ _ x xs. cons_listed (pick x) (filter_map pick xs)) all old new 0 0 xs i d within refl pushed kept

-- ---- the codes of a type
further_step : (line : InputLine Name) (lines : List (InputLine Name)) (codes : List (Option RecordCode)) → further line ≡ Some codes → further_codes (line ∷ lines) ≡ entries codes ++ further_codes lines
further_step (And found) lines codes h = ap (λ c. entries c ++ further_codes lines) (some_same found codes h)
  where
    some_same : (a b : List (Option RecordCode)) → Some a ≡ Some b → a ≡ b
    some_same a b e = cc
further_step (Record file indicator found) lines codes h = absurd cc
further_step (Or indicator found) lines codes h = absurd cc
further_step (Field field) lines codes h = absurd cc

further_none : (line : InputLine Name) (lines : List (InputLine Name)) → further line ≡ None → further_codes (line ∷ lines) ≡ []
further_none (And found) lines h = absurd cc
further_none (Record file indicator found) lines h = refl
further_none (Or indicator found) lines h = refl
further_none (Field field) lines h = refl

dropped_at : {X : Type 0} (xs : List X) (i : ℕ) (d : X) → i < length xs → drop i xs ≡ get_or xs i d ∷ drop (i + 1) xs
dropped_at xs i d within =
    let further : suc i ≡ i + 1 = omega arith in
    drop-cons xs i d within ∙ ap (λ n. get_or xs i d ∷ drop n xs) further

pub further_next : (all old new : List RecordCode) (lines : List (InputLine Name)) (i : ℕ) (d : InputLine Name) (codes : List (Option RecordCode)) → i < length lines → further (get_or lines i d) ≡ Some codes
    → new ≡ old ++ entries codes → all ≡ old ++ further_codes (drop i lines) → all ≡ new ++ further_codes (drop (i + 1) lines)
further_next all old new lines i d codes within is pushed kept =
    let rest = drop (i + 1) lines in
    kept ∙ ap (λ r. old ++ further_codes r) (dropped_at lines i d within) ∙ ap (λ r. old ++ r) (further_step (get_or lines i d) rest codes is)
    ∙ sym (append_assoc old (entries codes) (further_codes rest)) ∙ ap (λ n. n ++ further_codes rest) (sym pushed)

pub further_ended : (all old : List RecordCode) (lines : List (InputLine Name)) (i : ℕ) (d : InputLine Name) → i < length lines → further (get_or lines i d) ≡ None → all ≡ old ++ further_codes (drop i lines) → old ≡ all
further_ended all old lines i d within is kept =
    sym (kept ∙ ap (λ r. old ++ further_codes r) (dropped_at lines i d within) ∙ ap (λ r. old ++ r) (further_none (get_or lines i d) (drop (i + 1) lines) is) ∙ append-nil old)

pub further_all : (all old : List RecordCode) (lines : List (InputLine Name)) (i : ℕ) → length lines ≤ i → all ≡ old ++ further_codes (drop i lines) → old ≡ all
further_all all old lines i past kept = walk_ended {A = ℕ} (λ _. further_codes) (λ at. refl) all old 0 lines i past kept

-- ---- the types of a file
split_type : (is_own : Bool) (kind : RecordType) (kinds : List RecordType) → map coded_type (if is_own then kind ∷ kinds else kinds) ≡ (if is_own then coded_type kind ∷ [] else []) ++ map coded_type kinds
split_type true kind kinds = refl
split_type false kind kinds = refl

none_either : {X : Type 0} (b : Bool) (xs : List X) → xs ≡ (if b then [] else []) ++ xs
none_either true xs = refl
none_either false xs = refl

kind_step : (file current : Name) (line : InputLine Name) (lines : List (InputLine Name))
    → kinds_in file (types_from current (line ∷ lines)) ≡ begun file (file_at current line) line lines ++ kinds_in file (types_from (file_at current line) lines)
kind_step file current (Record next indicator codes) lines =
    split_type (same_name next file) (type_from next indicator codes lines) (filter (λ (kind : RecordType). same_name kind.file file) (types_from next lines))
kind_step file current (Or indicator codes) lines =
    split_type (same_name current file) (type_from current indicator codes lines) (filter (λ (kind : RecordType). same_name kind.file file) (types_from current lines))
kind_step file current (And codes) lines = none_either (same_name current file) (kinds_in file (types_from current lines))
kind_step file current (Field field) lines = none_either (same_name current file) (kinds_in file (types_from current lines))

pub kind_next : (file : Name) (all old new : List (Indicator × List RecordCode)) (at next : Name) (lines : List (InputLine Name)) (i : ℕ) (line : InputLine Name) → i < length lines → line ≡ get_or lines i line → next ≡ file_at at line
    → new ≡ old ++ begun file next line (drop (i + 1) lines) → all ≡ old ++ kinds_in file (types_from at (drop i lines)) → all ≡ new ++ kinds_in file (types_from next (drop (i + 1) lines))
kind_next file all old new at next lines i line within here is pushed kept =
    let rest = drop (i + 1) lines in
    let split : drop i lines ≡ line ∷ rest = dropped_at lines i line within ∙ ap (λ l. l ∷ rest) (sym here) in
    kept ∙ ap (λ r. old ++ kinds_in file (types_from at r)) split ∙ ap (λ r. old ++ r) (kind_step file at line rest)
    ∙ ap (λ n. old ++ (begun file n line rest ++ kinds_in file (types_from n rest))) (sym is)
    ∙ sym (append_assoc old (begun file next line rest) (kinds_in file (types_from next rest))) ∙ ap (λ n. n ++ kinds_in file (types_from next rest)) (sym pushed)

pub kinds_ended : (file : Name) (all old : List (Indicator × List RecordCode)) (at : Name) (lines : List (InputLine Name)) (i : ℕ) → length lines ≤ i → all ≡ old ++ kinds_in file (types_from at (drop i lines)) → old ≡ all
kinds_ended file all old at lines i past kept = walk_ended (λ n ls. kinds_in file (types_from n ls)) (λ n. refl) all old at lines i past kept

pub one_more_kind : (old new : List RecordKind) (kind : RecordKind) (codes : List RecordCode) → new ≡ old ++ kind ∷ [] → kind.codes.items ≡ codes → map coded new ≡ map coded old ++ (kind.indicator, codes) ∷ []
one_more_kind old new kind codes added is =
    ap (map coded) added ∙ map-append coded old (kind ∷ []) ∙ ap (λ c. map coded old ++ (kind.indicator, c) ∷ []) is
