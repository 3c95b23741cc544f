-- Texts without the blanks at their end, and their codes.
use Rattle.std.proofs.Common.{◌≡◌, ℕ, ◌+◌, ◌-◌, ◌<◌, ◌≤◌, refl, arith, sym, ◌∙◌, ap, true, false, ◌&&◌, cond, suc, zero, List, [], ◌∷◌, ◌++◌, map, length, take, drop, set, get_or, replicate, subst}
use Rattle.std.specs.Prelude.{unwrap_or, is_some}
use Rattle.std.specs.Bool.{◌==◌}
use Rattle.std.proofs.Math.ListN.{length-set}
use Rattle.std.specs.List.{list_all}
use Rattle.std.proofs.Common.{inl, inr}
use Rattle.std.proofs.lemmas.Bool.{cases_Bool, ne_eqb}
use Rattle.std.proofs.lemmas.List.{drop-replicate, drop-set-lt, take_more, take_more_set, take_all, map-append, length-append}
use Rattle.std.proofs.lemmas.List.Folds.{list_all_more, list_all_at}
use Rattle.s3_cards.specs.Codes.{ebcdic, ebcdic_of, host_of}
use Rattle.s3_cards.specs.declared.ebcdic.TheConstants.{BLANK}
use Rattle.s3_cells.specs.Inner.Texts.{has_character, trimmed}

pub some_length : (x : ℕ) (xs : List ℕ) → (length (x ∷ xs) == 0) ≡ false
some_length x xs = ne_eqb (length (x ∷ xs)) 0 (λ e. absurd (omega arith))

-- ---- blanks at the end
pub blank_dropped : (xs : List ℕ) → trimmed (xs ++ 32 ∷ []) ≡ trimmed xs
unfolding trimmed
blank_dropped [] = refl
blank_dropped (x ∷ xs) = rw (blank_dropped xs) refl

trimmed_cons : (x : ℕ) (xs t : List ℕ) → trimmed xs ≡ t → (length t == 0) ≡ false → trimmed (x ∷ xs) ≡ x ∷ t
unfolding trimmed
trimmed_cons x xs t e n = rw (e, n) (elim (x == 32) as (λ b. cond (b && false) [] (x ∷ t) ≡ x ∷ t) [ true ↦ refl | false ↦ refl ])

not_empty : (xs : List ℕ) (y : ℕ) → (length (xs ++ y ∷ []) == 0) ≡ false
not_empty [] y = some_length y []
not_empty (x ∷ xs) y = some_length x (xs ++ y ∷ [])

mark_alone : (y : ℕ) → (y == 32) ≡ false → trimmed (y ∷ []) ≡ y ∷ []
unfolding trimmed
mark_alone y h = rw h refl

pub mark_kept : (xs : List ℕ) (y : ℕ) → (y == 32) ≡ false → trimmed (xs ++ y ∷ []) ≡ xs ++ y ∷ []
mark_kept [] y h = mark_alone y h
mark_kept (x ∷ xs) y h = trimmed_cons x (xs ++ y ∷ []) (xs ++ y ∷ []) (mark_kept xs y h) (not_empty xs y)

pub trimmed_nothing : trimmed [] ≡ []
unfolding trimmed
trimmed_nothing = refl

-- a blank in front of which the text is looked at
pub blank_before : (text : List ℕ) (n k : ℕ) → n ≡ k + 1 → n ≤ length text → get_or text k 0 ≡ 32 → trimmed (take k text) ≡ trimmed (take n text)
blank_before text n k e h is =
    let some : k < length text = omega arith in
    sym (ap (λ i. trimmed (take i text)) e ∙ ap trimmed (take_more text k 0 some) ∙ ap (λ y. trimmed (take k text ++ y ∷ [])) is ∙ blank_dropped (take k text))

-- a mark behind which all are blanks
pub mark_before : (text : List ℕ) (n k : ℕ) → n ≡ k + 1 → n ≤ length text → (get_or text k 0 == 32) ≡ false → trimmed (take n text) ≡ trimmed text → take n text ≡ trimmed text
mark_before text n k e h is same =
    let some : k < length text = omega arith in
    let last : take n text ≡ take k text ++ get_or text k 0 ∷ [] = ap (λ i. take i text) e ∙ take_more text k 0 some in
    last ∙ sym (mark_kept (take k text) (get_or text k 0) is) ∙ sym (ap trimmed last) ∙ same

pub nothing_left : (text : List ℕ) (n : ℕ) → n ≡ 0 → trimmed (take n text) ≡ trimmed text → take n text ≡ trimmed text
nothing_left text n e same = ap (λ i. take i text) e ∙ sym trimmed_nothing ∙ sym (ap (λ i. trimmed (take i text)) e) ∙ same

trimmed_of : (x : ℕ) (t : List ℕ) → trimmed t ≡ t → trimmed (cond ((x == 32) && (length t == 0)) [] (x ∷ t)) ≡ cond ((x == 32) && (length t == 0)) [] (x ∷ t)
trimmed_of x [] e = elim (cases_Bool (x == 32)) [ inl is ↦ rw is trimmed_nothing | inr other ↦ rw other (mark_alone x other) ]
trimmed_of x (y ∷ t) e = elim (cases_Bool (x == 32)) [ inl is ↦ rw (is, some_length y t) (trimmed_cons x (y ∷ t) (y ∷ t) e (some_length y t)) | inr other ↦ rw other (trimmed_cons x (y ∷ t) (y ∷ t) e (some_length y t)) ]

pub trimmed_is : (x : ℕ) (xs : List ℕ) → trimmed (x ∷ xs) ≡ cond ((x == 32) && (length (trimmed xs) == 0)) [] (x ∷ trimmed xs)
unfolding trimmed
trimmed_is x xs = refl

pub trimmed_twice : (text : List ℕ) → trimmed (trimmed text) ≡ trimmed text
trimmed_twice [] = ap trimmed trimmed_nothing
trimmed_twice (x ∷ xs) = ap trimmed (trimmed_is x xs) ∙ trimmed_of x (trimmed xs) (trimmed_twice xs) ∙ sym (trimmed_is x xs)

pub take_behind : (xs ys : List ℕ) (n k : ℕ) → k ≡ length xs + n → take k (xs ++ ys) ≡ xs ++ take n ys
take_behind [] ys n k e = ap (λ i. take i ys) (e ∙ omega arith)
take_behind (x ∷ xs) ys n k e =
    let more : k ≡ suc (length xs + n) = omega arith in
    ap (λ i. take i ((x ∷ xs) ++ ys)) more ∙ ap (λ l. x ∷ l) (take_behind xs ys n (length xs + n) refl)

pub drop_behind : (xs ys : List ℕ) (n k : ℕ) → k ≡ length xs + n → drop k (xs ++ ys) ≡ drop n ys
drop_behind [] ys n k e = ap (λ i. drop i ys) (e ∙ omega arith)
drop_behind (x ∷ xs) ys n k e =
    let more : k ≡ suc (length xs + n) = omega arith in
    ap (λ i. drop i ((x ∷ xs) ++ ys)) more ∙ drop_behind xs ys n (length xs + n) refl

-- what is appended and then cut is the text without its blanks
pub kept_text : (before characters : List ℕ) (n k : ℕ) → k ≡ length before + n → take n characters ≡ trimmed characters → take k (before ++ characters) ≡ before ++ trimmed characters
kept_text before characters n k is e = take_behind before characters n k is ∙ ap (λ xs. before ++ xs) e

-- ---- codes without a character
pub none_hidden : (codes : List ℕ) (i : ℕ) → i < length codes → list_all has_character (take i codes) ≡ true → is_some (host_of (get_or codes i 0)) ≡ true → list_all has_character (take (i + 1) codes) ≡ true
none_hidden codes i h all one = list_all_more has_character codes i 0 h ∙ rw (all, one) refl

pub one_hidden : (codes : List ℕ) (i : ℕ) → i < length codes → is_some (host_of (get_or codes i 0)) ≡ false → list_all has_character codes ≡ false
one_hidden codes i h one = list_all_at has_character codes i 0 h one

-- ---- codes of characters
pub one_more_code : (text bytes : List ℕ) (i : ℕ) → i < length text → i < length bytes → take i bytes ≡ ebcdic (take i text) → take (i + 1) (set bytes i (unwrap_or (ebcdic_of (get_or text i 0)) 0)) ≡ ebcdic (take (i + 1) text)
unfolding ebcdic
one_more_code text bytes i h k e =
    take_more_set bytes i _ k ∙ ap (λ xs. xs ++ unwrap_or (ebcdic_of (get_or text i 0)) 0 ∷ []) e
    ∙ sym (ap (map (λ character. unwrap_or (ebcdic_of character) 0)) (take_more text i 0 h) ∙ map-append (λ character. unwrap_or (ebcdic_of character) 0) (take i text) (get_or text i 0 ∷ []))

drop_again : (i : ℕ) (xs : List ℕ) → drop (i + 1) xs ≡ drop 1 (drop i xs)
drop_again zero xs = let e : zero + 1 ≡ 1 = omega arith in ap (λ n. drop n xs) e
drop_again (suc i) [] = let e : suc i + 1 ≡ suc (i + 1) = omega arith in ap (λ n. drop n []) e
drop_again (suc i) (x ∷ xs) = let e : suc i + 1 ≡ suc (i + 1) = omega arith in ap (λ n. drop n (x ∷ xs)) e ∙ drop_again i xs

-- blanks follow
pub blanks_left : (bytes : List ℕ) (i v : ℕ) → i < length bytes → drop i bytes ≡ replicate (length bytes - i) BLANK → drop (i + 1) (set bytes i v) ≡ replicate (length (set bytes i v) - (i + 1)) BLANK
blanks_left bytes i v h e =
    let past : i < i + 1 = omega arith in
    let fewer : length bytes - i - 1 ≡ length (set bytes i v) - (i + 1) = omega (arith, length-set {A = ℕ}) in
    drop-set-lt (i + 1) bytes i v past ∙ drop_again i bytes ∙ ap (drop 1) e ∙ drop-replicate 1 (length bytes - i) BLANK ∙ ap (λ n. replicate n BLANK) fewer

-- what is appended and then cut, in the form of the code
pub kept_after : (items before_items characters cut : List ℕ) (before n kept k : ℕ) → take kept cut ≡ trimmed cut → cut ≡ take n (drop before items) → items ≡ before_items ++ characters → before ≡ length before_items → n ≡ length items - before → k ≡ before + kept
    → take k items ≡ before_items ++ trimmed characters
kept_after items before_items characters cut before n kept k value is all start long sum =
    let behind : drop before items ≡ characters = ap (drop before) all ∙ drop_behind before_items characters 0 before (start ∙ omega arith) in
    let long_is : length items ≡ length before_items + length characters = ap length all ∙ length-append before_items characters in
    let whole : length characters ≤ n = omega arith in
    let same : cut ≡ characters = is ∙ ap (take n) behind ∙ take_all n characters whole in
    ap (take k) all ∙ kept_text before_items characters kept k (sum ∙ ap (λ b. b + kept) start) (subst (λ t. take kept t ≡ trimmed t) same value)
