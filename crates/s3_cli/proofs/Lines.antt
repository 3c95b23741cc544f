-- The lines of a text, one after the other.
use Rattle.std.proofs.Common.{◌≡◌, ◌<◌, ◌≤◌, ◌+◌, ◌++◌, ℕ, Bool, true, false, List, [], ◌∷◌, length, take, drop, slice_index, refl, arith, suc, zero, ◌==◌, sym, ◌∙◌, ap, subst, append_assoc, append-nil, take_all, drop-drop, length-drop, take-append-drop, length-take-le, get_or-take, ◌-◌, if◌then◌else◌}
use Rattle.std.proofs.lemmas.Grind.{flat_map-append}
use Rattle.std.proofs.lemmas.List.Folds.{list_any-append}
use Rattle.std.proofs.lemmas.Bool.{false_from_ne_true, or_parts}
use Rattle.std.proofs.Math.Seq.{take-add}
use Rattle.std.specs.List.{list_any}
use Rattle.std.specs.Prelude.{cond}
use Rattle.std.specs.Cmp.Lexicographic.{same_text}
use Rattle.std.specs.Str.Lines.{strip_carriage_return}
use Rattle.s3_cli.specs.Parts.{content_of, onto_first, whole_lines, text_of, is_marker, before_marker, after_marker}

-- up to the first LF, and after it
pub whole_lines_first : (text : List ℕ) (end : ℕ) → end < length text → (slice_index text end == 10) ≡ true
    → ((k : ℕ) → k < end → ((slice_index text k == 10) ≡ true) → ⊥)
    → whole_lines text ≡ take (suc end) text ∷ whole_lines (drop (suc end) text)
whole_lines_first [] end within found before = absurd (omega arith)
whole_lines_first (byte ∷ bytes) zero within found before =
    let this : (byte == 10) ≡ true = found in
    rw this refl
whole_lines_first (byte ∷ bytes) (suc end) within found before =
    let this : (byte == 10) ≡ false = false_from_ne_true (byte == 10) (before 0 (omega arith)) in
    let rest = whole_lines_first bytes end (omega arith) found (λ k h. before (suc k) (omega arith)) in
    rw (this, rest) refl

-- with no LF
pub whole_lines_last : (text : List ℕ) → 0 < length text → ((k : ℕ) → k < length text → ((slice_index text k == 10) ≡ true) → ⊥)
    → whole_lines text ≡ text ∷ []
whole_lines_last [] some none = absurd (omega arith)
whole_lines_last (byte ∷ []) some none =
    let this : (byte == 10) ≡ false = false_from_ne_true (byte == 10) (none 0 (omega arith)) in
    rw this refl
whole_lines_last (byte ∷ next ∷ bytes) some none =
    let this : (byte == 10) ≡ false = false_from_ne_true (byte == 10) (none 0 (omega arith)) in
    let rest = whole_lines_last (next ∷ bytes) (omega arith) (λ k h. none (suc k) (omega arith)) in
    rw (this, rest) refl

-- The text up to a place is of whole lines none of which is the marker.
pub record PassesOver (word text : List ℕ) (start : ℕ) : Type 0 where
  pub within : start ≤ length text
  pub passed : List (List ℕ)
  pub whole : whole_lines text ≡ passed ++ whole_lines (drop start text)
  pub so_far : text_of passed ≡ take start text
  pub plain : list_any (is_marker word) passed ≡ false

-- the lines of a text make it up
pub text_of_lines : (text : List ℕ) → text_of (whole_lines text) ≡ text
text_of_lines [] = refl
text_of_lines (byte ∷ bytes) = by_test (byte == 10) (whole_lines bytes) (text_of_lines bytes)
  where
    onto : (lines : List (List ℕ)) → text_of (onto_first byte lines) ≡ byte ∷ text_of lines
    onto [] = refl
    onto (line ∷ lines) = refl

    by_test : (ends : Bool) (lines : List (List ℕ)) → text_of lines ≡ bytes
        → text_of (if ends then (byte ∷ []) ∷ lines else onto_first byte lines) ≡ byte ∷ bytes
    by_test true lines same = ap (λ rest. byte ∷ rest) same
    by_test false lines same = onto lines ∙ ap (λ rest. byte ∷ rest) same

-- where no line so far is the marker, it comes later
pub before_later : (word : List ℕ) (passed lines : List (List ℕ)) → list_any (is_marker word) passed ≡ false
    → before_marker word (passed ++ lines) ≡ passed ++ before_marker word lines
before_later word [] lines plain = refl
before_later word (line ∷ passed) lines plain =
    let parts = or_parts (is_marker word line) (list_any (is_marker word) passed) plain in
    let this : is_marker word line ≡ false = parts.0 in
    let rest = before_later word passed lines parts.1 in
    rw (this, rest) refl

pub after_later : (word : List ℕ) (passed lines : List (List ℕ)) → list_any (is_marker word) passed ≡ false
    → after_marker word (passed ++ lines) ≡ after_marker word lines
after_later word [] lines plain = refl
after_later word (line ∷ passed) lines plain =
    let parts = or_parts (is_marker word line) (list_any (is_marker word) passed) plain in
    let this : is_marker word line ≡ false = parts.0 in
    let rest = after_later word passed lines parts.1 in
    rw (this, rest) refl

-- a byte that a marker begins with
abbrev pub is_colon : ℕ → Bool
is_colon byte = byte == 58

-- with no colon at any place
pub no_colon : (text : List ℕ) → ((k : ℕ) → k < length text → (slice_index text k == 58) ≡ true → ⊥) → list_any is_colon text ≡ false
no_colon [] none = refl
no_colon (byte ∷ bytes) none =
    let this : (byte == 58) ≡ false = false_from_ne_true (byte == 58) (none 0 (omega arith)) in
    let rest = no_colon bytes (λ k h. none (suc k) (omega arith)) in
    rw (this, rest) refl

first_of_take : (n : ℕ) (text : List ℕ) → slice_index (take n text) 0 ≡ 58 → slice_index text 0 ≡ 58
first_of_take zero text first = cc
first_of_take (suc n) [] first = first
first_of_take (suc n) (byte ∷ bytes) first = first

-- the text of a line begins as the line does
first_of_content : (line : List ℕ) → slice_index (content_of line) 0 ≡ 58 → slice_index line 0 ≡ 58
first_of_content line = either (slice_index line (length line - 1) == 10) (strip_carriage_return (take (length line - 1) line)) line (stripped (take (length line - 1) line) (first_of_take (length line - 1) line)) (λ first. first)
  where
    either : (b : Bool) (x y : List ℕ) → (slice_index x 0 ≡ 58 → slice_index line 0 ≡ 58) → (slice_index y 0 ≡ 58 → slice_index line 0 ≡ 58)
        → slice_index (cond b x y) 0 ≡ 58 → slice_index line 0 ≡ 58
    either true x y left right = left
    either false x y left right = right

    stripped : (front : List ℕ) → (slice_index front 0 ≡ 58 → slice_index line 0 ≡ 58) → slice_index (strip_carriage_return front) 0 ≡ 58 → slice_index line 0 ≡ 58
    stripped front goes_on = either (slice_index front (length front - 1) == 13) (take (length front - 1) front) front (λ first. goes_on (first_of_take (length front - 1) front first)) goes_on

colon_first : (line : List ℕ) → slice_index line 0 ≡ 58 → list_any is_colon line ≡ false → ⊥
colon_first [] first none = cc
colon_first (byte ∷ bytes) first none =
    let here : (byte == 58) ≡ true = rw first refl in
    let parts = or_parts (byte == 58) (list_any is_colon bytes) none in
    let not_here : (byte == 58) ≡ false = parts.0 in
    let both : true ≡ false = sym here ∙ not_here in
    cc

-- a line without a colon is no marker
plain_line : (word line : List ℕ) → slice_index word 0 ≡ 58 → list_any is_colon line ≡ false → is_marker word line ≡ false
plain_line word line begins none =
    false_from_ne_true (is_marker word line) (λ marks.
    let same : content_of line ≡ word = same_text (content_of line) word (sym marks) in
    let first : slice_index (content_of line) 0 ≡ 58 = rw same begins in
    colon_first line (first_of_content line first) none)

-- the lines have a colon where the text has one
colon_in_lines : (text : List ℕ) → list_any is_colon text ≡ false → list_any (list_any is_colon) (whole_lines text) ≡ false
colon_in_lines [] none = refl
colon_in_lines (byte ∷ bytes) none =
    let parts = or_parts (byte == 58) (list_any is_colon bytes) none in
    by_test (byte == 10) (whole_lines bytes) parts.0 (colon_in_lines bytes parts.1)
  where
    onto : (lines : List (List ℕ)) → (byte == 58) ≡ false → list_any (list_any is_colon) lines ≡ false → list_any (list_any is_colon) (onto_first byte lines) ≡ false
    onto [] this rest = rw this refl
    onto (line ∷ lines) this rest =
        let parts = or_parts (list_any is_colon line) (list_any (list_any is_colon) lines) rest in
        let first : list_any is_colon line ≡ false = parts.0 in
        let others : list_any (list_any is_colon) lines ≡ false = parts.1 in
        rw (this, first, others) refl

    by_test : (ends : Bool) (lines : List (List ℕ)) → (byte == 58) ≡ false → list_any (list_any is_colon) lines ≡ false
        → list_any (list_any is_colon) (if ends then (byte ∷ []) ∷ lines else onto_first byte lines) ≡ false
    by_test true lines this rest = rw (this, rest) refl
    by_test false lines this rest = onto lines this rest

plain_lines : (word : List ℕ) (lines : List (List ℕ)) → slice_index word 0 ≡ 58 → list_any (list_any is_colon) lines ≡ false → list_any (is_marker word) lines ≡ false
plain_lines word [] begins none = refl
plain_lines word (line ∷ lines) begins none =
    let parts = or_parts (list_any is_colon line) (list_any (list_any is_colon) lines) none in
    let this : is_marker word line ≡ false = plain_line word line begins parts.0 in
    let rest : list_any (is_marker word) lines ≡ false = plain_lines word lines begins parts.1 in
    rw (this, rest) refl

-- the lines of a text without a colon
pub plain_text : (word text : List ℕ) → slice_index word 0 ≡ 58 → list_any is_colon text ≡ false → list_any (is_marker word) (whole_lines text) ≡ false
plain_text word text begins none = plain_lines word (whole_lines text) begins (colon_in_lines text none)

some_line : (text : List ℕ) → 0 < length text → 0 < length (whole_lines text)
some_line [] some = absurd (omega arith)
some_line (byte ∷ bytes) some = by_test (byte == 10) (whole_lines bytes)
  where
    onto : (lines : List (List ℕ)) → 0 < length (onto_first byte lines)
    onto [] = omega arith
    onto (line ∷ lines) = omega arith

    by_test : (ends : Bool) (lines : List (List ℕ)) → 0 < length (if ends then (byte ∷ []) ∷ lines else onto_first byte lines)
    by_test true lines = omega arith
    by_test false lines = onto lines

onto_first-append : (byte : ℕ) (lines more : List (List ℕ)) → 0 < length lines → onto_first byte (lines ++ more) ≡ onto_first byte lines ++ more
onto_first-append byte [] more some = absurd (omega arith)
onto_first-append byte (line ∷ lines) more some = refl

-- a text that ends in LF, and another text after it
whole_lines-append : (n : ℕ) (front back : List ℕ) → length front ≡ suc n → slice_index front n ≡ 10 → whole_lines (front ++ back) ≡ whole_lines front ++ whole_lines back
whole_lines-append n [] back long ends = absurd (omega arith)
whole_lines-append zero (byte ∷ []) back long ends = let this : (byte == 10) ≡ true = rw ends refl in rw this refl
whole_lines-append zero (byte ∷ next ∷ bytes) back long ends = absurd (omega arith)
whole_lines-append (suc n) (byte ∷ bytes) back long ends =
    let short : length bytes ≡ suc n = omega arith in
    by_test (byte == 10) (whole_lines-append n bytes back short ends) (some_line bytes (omega arith))
  where
    by_test : (stops : Bool) → whole_lines (bytes ++ back) ≡ whole_lines bytes ++ whole_lines back → 0 < length (whole_lines bytes)
        → (if stops then (byte ∷ []) ∷ whole_lines (bytes ++ back) else onto_first byte (whole_lines (bytes ++ back)))
        ≡ (if stops then (byte ∷ []) ∷ whole_lines bytes else onto_first byte (whole_lines bytes)) ++ whole_lines back
    by_test true same some = ap (λ lines. (byte ∷ []) ∷ lines) same
    by_test false same some = ap (onto_first byte) same ∙ onto_first-append byte (whole_lines bytes) (whole_lines back) some

-- whether an LF ends a text, if there is one
abbrev pub EndsWhole : List ℕ → ℕ → Type 0
EndsWhole text n = 0 < n → slice_index text (n - 1) ≡ 10

split_whole : (n : ℕ) (text : List ℕ) → n ≤ length text → EndsWhole text n → whole_lines text ≡ whole_lines (take n text) ++ whole_lines (drop n text)
split_whole zero text within ends = refl
split_whole (suc n) text within ends =
    let last : suc n - 1 ≡ n = omega arith in
    let long : length (take (suc n) text) ≡ suc n = length-take-le (suc n) text within in
    let same : slice_index (take (suc n) text) n ≡ slice_index text n = get_or-take (suc n) text n 0 (omega arith) in
    let ends_there : slice_index text n ≡ 10 = subst (λ k. slice_index text k ≡ 10) last (ends (omega arith)) in
    ap whole_lines (sym (take-append-drop (suc n) text)) ∙ whole_lines-append n (take (suc n) text) (drop (suc n) text) long (same ∙ ends_there)

-- whole lines without a colon, all at once
pub passes_plain : (word text : List ℕ) (start n : ℕ) → PassesOver word text start → slice_index word 0 ≡ 58 → start + n ≤ length text
    → list_any is_colon (take n (drop start text)) ≡ false → EndsWhole (drop start text) n → PassesOver word text (start + n)
passes_plain word text start n so_far begins within none ends =
    let lines : List (List ℕ) = whole_lines (take n (drop start text)) in
    let more : whole_lines (drop start text) ≡ lines ++ whole_lines (drop (start + n) text) =
    split_whole n (drop start text) (omega (arith, length-drop start text)) ends ∙ ap (λ rest. lines ++ whole_lines rest) (drop-drop n start text) in
    record {
      within = within;
      passed = so_far.passed ++ lines;
      whole = so_far.whole ∙ ap (λ rest. so_far.passed ++ rest) more ∙ sym (append_assoc so_far.passed lines (whole_lines (drop (start + n) text)));
      so_far = flat_map-append (λ line. line) so_far.passed lines ∙ rw (so_far.so_far, text_of_lines (take n (drop start text))) (sym (take-add start n text));
      plain = list_any-append (is_marker word) so_far.passed lines ∙ rw (so_far.plain, plain_text word (take n (drop start text)) begins none) refl;
    }

-- no marker in the rest
pub passes_all : (word text : List ℕ) (start : ℕ) → PassesOver word text start → slice_index word 0 ≡ 58
    → list_any is_colon (drop start text) ≡ false → list_any (is_marker word) (whole_lines text) ≡ false
passes_all word text start so_far begins none =
    ap (list_any (is_marker word)) so_far.whole ∙ (list_any-append (is_marker word) so_far.passed (whole_lines (drop start text)) ∙ rw (so_far.plain, plain_text word (drop start text) begins none) refl)

-- one line more
pub passes_line : (word text line : List ℕ) (start n : ℕ) → PassesOver word text start
    → whole_lines (drop start text) ≡ line ∷ whole_lines (drop (start + n) text)
    → line ≡ take n (drop start text) → start + n ≤ length text → is_marker word line ≡ false
    → PassesOver word text (start + n)
passes_line word text line start n so_far next same within plain =
    record {
      within = within;
      passed = so_far.passed ++ line ∷ [];
      whole = so_far.whole ∙ ap (λ lines. so_far.passed ++ lines) next ∙ sym (append_assoc so_far.passed (line ∷ []) (whole_lines (drop (start + n) text)));
      so_far = flat_map-append (λ line. line) so_far.passed (line ∷ []) ∙ rw (so_far.so_far, append-nil line, same) (sym (take-add start n text));
      plain = list_any-append (is_marker word) so_far.passed (line ∷ []) ∙ rw (so_far.plain, plain) refl;
    }

-- the marker
pub finds_marker : (word text line : List ℕ) (start n : ℕ) → PassesOver word text start
    → whole_lines (drop start text) ≡ line ∷ whole_lines (drop (start + n) text)
    → is_marker word line ≡ true
    → (take start text ≡ text_of (before_marker word (whole_lines text)))
    × (whole_lines (drop (start + n) text) ≡ after_marker word (whole_lines text))
    × (drop (start + n) text ≡ text_of (after_marker word (whole_lines text)))
finds_marker word text line start n so_far next marks =
    let lines : List (List ℕ) = whole_lines (drop (start + n) text) in
    let all : whole_lines text ≡ so_far.passed ++ (line ∷ lines) = so_far.whole ∙ ap (λ lines. so_far.passed ++ lines) next in
    let before : before_marker word (whole_lines text) ≡ so_far.passed =
    ap (before_marker word) all ∙ before_later word so_far.passed (line ∷ lines) so_far.plain ∙ rw (marks, append-nil so_far.passed) refl in
    let after : after_marker word (whole_lines text) ≡ lines =
    ap (after_marker word) all ∙ after_later word so_far.passed (line ∷ lines) so_far.plain ∙ rw marks refl in
    (sym so_far.so_far ∙ ap text_of (sym before), sym after, sym (text_of_lines (drop (start + n) text)) ∙ ap text_of (sym after))

-- the rest of a text from a place on
pub rest_is : (text : List ℕ) (start : ℕ) → take (length text - start) (drop start text) ≡ drop start text
rest_is text start = take_all (length text - start) (drop start text) (at_most (length-drop start text))
  where
    at_most : length (drop start text) ≡ length text - start → length (drop start text) ≤ length text - start
    at_most same = omega arith

-- the line that begins at a place
pub next_line : (text : List ℕ) (start n : ℕ)
    → (let rest : List ℕ = take (length text - start) (drop start text) in whole_lines rest ≡ take n rest ∷ whole_lines (drop n rest))
    → whole_lines (drop start text) ≡ take n (drop start text) ∷ whole_lines (drop (start + n) text)
next_line text start n given =
    subst (λ rest. whole_lines rest ≡ take n rest ∷ whole_lines (drop n rest)) (rest_is text start) given
    ∙ ap (λ rest. take n (drop start text) ∷ whole_lines rest) (drop-drop n start text)

pub line_is : (text : List ℕ) (start n : ℕ) → take (start + n - start) (drop start text) ≡ take n (drop start text)
line_is text start n = ap (λ k. take k (drop start text)) (same start n)
  where
    same : (a b : ℕ) → a + b - a ≡ b
    same a b = omega arith

-- up to the line that has the next colon
pub to_line : (word text : List ℕ) (passed colon n : ℕ) → PassesOver word text passed → slice_index word 0 ≡ 58
    → (let rest : List ℕ = take (length text - passed) (drop passed text) in (colon < length rest) × ((k : ℕ) → k < colon → (slice_index rest k == 58) ≡ true → ⊥))
    → (let part : List ℕ = take (passed + colon - passed) (drop passed text) in (n ≤ length part) × (0 < n → slice_index part (n - 1) ≡ 10))
    → PassesOver word text (passed + n)
to_line word text passed colon n so_far begins found behind =
    let rest : List ℕ = drop passed text in
    let found_in : (colon < length rest) × ((k : ℕ) → k < colon → (slice_index rest k == 58) ≡ true → ⊥) =
    subst (λ xs. (colon < length xs) × ((k : ℕ) → k < colon → (slice_index xs k == 58) ≡ true → ⊥)) (rest_is text passed) found in
    let behind_in : (n ≤ length (take colon rest)) × (0 < n → slice_index (take colon rest) (n - 1) ≡ 10) =
    subst (λ xs. (n ≤ length xs) × (0 < n → slice_index xs (n - 1) ≡ 10)) (line_is text passed colon) behind in
    let long : length (take colon rest) ≡ colon = length-take-le colon rest (omega (arith, found_in.0)) in
    let few : n ≤ colon = omega (arith, behind_in.0, long) in
    let whole : length (take n rest) ≡ n = length-take-le n rest (omega (arith, few, found_in.0)) in
    let within : passed + n ≤ length text = omega (arith, few, found_in.0, length-drop passed text, so_far.within) in
    let none : list_any is_colon (take n rest) ≡ false =
    no_colon (take n rest) (λ k h hit. found_in.1 k (omega (arith, h, whole, few)) (subst (λ byte. (byte == 58) ≡ true) (get_or-take n rest k 0 (omega (arith, h, whole))) hit)) in
    let ends : EndsWhole rest n = (λ some. sym (get_or-take colon rest (n - 1) 0 (omega (arith, some, few))) ∙ behind_in.1 some) in
    passes_plain word text passed n so_far begins within none ends

-- where no colon is left
pub no_more : (word text : List ℕ) (passed : ℕ) → PassesOver word text passed → slice_index word 0 ≡ 58
    → (let rest : List ℕ = take (length text - passed) (drop passed text) in (k : ℕ) → k < length rest → (slice_index rest k == 58) ≡ true → ⊥)
    → list_any (is_marker word) (whole_lines text) ≡ false
no_more word text passed so_far begins none =
    let none_in : (k : ℕ) → k < length (drop passed text) → (slice_index (drop passed text) k == 58) ≡ true → ⊥ =
    subst (λ xs. (k : ℕ) → k < length xs → (slice_index xs k == 58) ≡ true → ⊥) (rest_is text passed) none in
    passes_all word text passed so_far begins (no_colon (drop passed text) none_in)

-- a marker after the lines so far
pub has_it : (word text line : List ℕ) (more : List (List ℕ)) (start : ℕ) → PassesOver word text start → whole_lines (drop start text) ≡ line ∷ more → is_marker word line ≡ true
    → list_any (is_marker word) (whole_lines text) ≡ true
has_it word text line more start so_far next marks =
    ap (list_any (is_marker word)) so_far.whole
    ∙ (list_any-append (is_marker word) so_far.passed (whole_lines (drop start text)) ∙ rw (so_far.plain, next, marks) refl)
