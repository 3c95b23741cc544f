-- Steps of the loops over a deck's lines, and places after a map.
use Rattle.std.proofs.Common.{◌≡◌, ℕ, ◌+◌, ◌<◌, List, [], ◌∷◌, ◌++◌, Bool, true, false, not, cond, Option, Some, length, map, take, drop, get_or, length-drop, drop-cons, add-one, append_assoc, refl, sym, ap, ◌∙◌, arith, zero, suc, if◌then◌else◌}
use Rattle.std.proofs.lemmas.List.{length-map, append-nil, get_or-map, length-take-le, map-append, take-append-drop, take_more}
use Rattle.std.proofs.lemmas.List.Elements.{filter-append}
use Rattle.std.proofs.lemmas.List.Concat.{flat_map-append}
use Rattle.std.specs.Borrow.{Bor}
use Rattle.std.specs.Option.{option_map}
use Rattle.std.specs.List.{enumerate_from, filter, position_from, range_with_len}
use Rattle.s3_decks.specs.declared.deck_text.CardRange.{CardRange}
use Rattle.s3_decks.specs.declared.place.FilePlace.{FilePlace}
use Rattle.s3_decks.specs.Inner.Decks.{FileLine, card_of, is_line, first_lines, is_left_out, joined, kept, line_seen}

-- the first place at which a test passes, of a list that is seen as another
pub seen_place : {X Y : Type 0} (test : Y → Bool) (seen : X → Y) (n : ℕ) (xs : List X) → position_from test n (map seen xs) ≡ position_from (λ x. test (seen x)) n xs
seen_place test seen n [] = refl
seen_place test seen n (x ∷ xs) = ap (λ more. cond (test (seen x)) (Some n) more) (seen_place test seen (n + 1) xs)

-- the number of the card at the first place that is a line of a file
pub card_seen : (named : Option (Bor (List ℕ))) (file : Bor (List ℕ)) (line : ℕ) (text : List ℕ) (places : List FilePlace) (place : ℕ) → named ≡ Some file → Some place ≡ position_from (λ x. is_line file.now line (line_seen x)) 0 places → Some (place + 1) ≡ card_of (option_map (λ f. f.now) named) line (record { text = text; places = map line_seen places })
card_seen named file line text places place is found =
    rw is (ap (option_map (λ x. x + 1)) (found ∙ sym (seen_place (is_line file.now line) line_seen 0 places)))

numbers_snoc : (n count : ℕ) → range_with_len n (suc count) ≡ range_with_len n count ++ (n + count) ∷ []
numbers_snoc n zero = ap (λ last. last ∷ []) (omega arith)
numbers_snoc n (suc count) = ap (λ more. n ∷ more) (numbers_snoc (n + 1) count ∙ ap (λ last. range_with_len (n + 1) count ++ last ∷ []) (omega arith))

-- a file's first lines with one more
one_line_more : (file : List ℕ) (count : ℕ) → first_lines file (count + 1) ≡ first_lines file count ++ (file, count + 1) ∷ []
one_line_more file count =
    ap (first_lines file) (add-one count)
    ∙ ap (λ numbers. map (λ number. (file, number)) numbers) (numbers_snoc 1 count)
    ∙ map-append (λ number. (file, number)) (range_with_len 1 count) ((1 + count) ∷ [])
    ∙ ap (λ number. first_lines file count ++ (file, number) ∷ []) (omega arith)

-- the places of a file's first lines, with one more at the end
pub pushed : (file : List ℕ) (before : List FileLine) (items : List FilePlace) (x : FilePlace) (count : ℕ) → map line_seen items ≡ before ++ first_lines file count → line_seen x ≡ (file, count + 1) → map line_seen (items ++ x ∷ []) ≡ before ++ first_lines file (count + 1)
pushed file before items x count so_far is =
    map-append line_seen items (x ∷ [])
    ∙ ap (λ front. front ++ line_seen x ∷ []) so_far
    ∙ ap (λ line. (before ++ first_lines file count) ++ line ∷ []) is
    ∙ append_assoc before (first_lines file count) ((file, count + 1) ∷ [])
    ∙ ap (λ more. before ++ more) (sym (one_line_more file count))

entries_snoc : {X : Type 0} (n : ℕ) (xs : List X) (x : X) → enumerate_from n (xs ++ x ∷ []) ≡ enumerate_from n xs ++ (n + length xs, x) ∷ []
entries_snoc n [] x = ap (λ place. (place, x) ∷ []) (omega arith)
entries_snoc n (y ∷ ys) x = ap (λ more. (n, y) ∷ more) (entries_snoc (n + 1) ys x ∙ ap (λ place. enumerate_from (n + 1) ys ++ (place, x) ∷ []) (omega arith))

only : {X : Type 0} (place : ℕ) (x : X) (out : Bool) → map {A = ℕ × X} (λ entry. entry.1) (cond (not out) ((place, x) ∷ []) []) ≡ cond out [] (x ∷ [])
only place x true = refl
only place x false = refl

kept_snoc : {X : Type 0} (ranges : List CardRange) (xs : List X) (x : X) → kept ranges (xs ++ x ∷ []) ≡ kept ranges xs ++ cond (is_left_out ranges (0 + length xs)) [] (x ∷ [])
kept_snoc {X} ranges xs x =
    ap (λ entries. map {A = ℕ × X} (λ entry. entry.1) (filter (λ entry. not (is_left_out ranges entry.0)) entries)) (entries_snoc 0 xs x)
    ∙ ap (map {A = ℕ × X} (λ entry. entry.1)) (filter-append (λ entry. not (is_left_out ranges entry.0)) (enumerate_from 0 xs) ((0 + length xs, x) ∷ []))
    ∙ map-append {A = ℕ × X} (λ entry. entry.1) (filter (λ entry. not (is_left_out ranges entry.0)) (enumerate_from 0 xs)) (filter (λ entry. not (is_left_out ranges entry.0)) ((0 + length xs, x) ∷ []))
    ∙ ap (λ more. kept ranges xs ++ more) (only (0 + length xs) x (is_left_out ranges (0 + length xs)))

-- what is kept of a list's front that is longer by one
kept_more : {X : Type 0} (ranges : List CardRange) (xs : List X) (n : ℕ) (d : X) → n < length xs → kept ranges (take (n + 1) xs) ≡ kept ranges (take n xs) ++ cond (is_left_out ranges n) [] (get_or xs n d ∷ [])
kept_more ranges xs n d within =
    ap (kept ranges) (take_more xs n d within)
    ∙ kept_snoc ranges (take n xs) (get_or xs n d)
    ∙ ap (λ place. kept ranges (take n xs) ++ cond (is_left_out ranges place) [] (get_or xs n d ∷ [])) (ap (λ place. 0 + place) (length-take-le n xs (omega (arith, within))) ∙ omega arith)

-- the places that are kept with one more
pub place_more : (ranges : List CardRange) (found : List FileLine) (places : List FilePlace) (n : ℕ) (d : FilePlace) → found ≡ kept ranges (take n (map line_seen places)) → n < length places → (out : Bool) → out ≡ is_left_out ranges n → found ++ (if out then [] else line_seen (get_or places n d) ∷ []) ≡ kept ranges (take (n + 1) (map line_seen places))
place_more ranges found places n d so_far within out is =
    ap (λ test. found ++ (if test then [] else line_seen (get_or places n d) ∷ [])) is
    ∙ ap (λ front. front ++ (if is_left_out ranges n then [] else line_seen (get_or places n d) ∷ [])) so_far
    ∙ ap (λ line. kept ranges (take n (map line_seen places)) ++ (if is_left_out ranges n then [] else line ∷ [])) (sym (get_or-map line_seen places n d (line_seen d) within))
    ∙ sym (kept_more ranges (map line_seen places) n (line_seen d) (omega (arith, within, length-map places line_seen)))

-- the first of the lines that are left
next_line : (all : List (List ℕ)) (n : ℕ) (line : List ℕ) (more : List (List ℕ)) → drop n all ≡ line ∷ more → (n < length all) × (get_or all n [] ≡ line) × (more ≡ drop (n + 1) all)
next_line all n line more left =
    let within : n < length all = omega (arith, ap length left, length-drop n all) in
    let both : get_or all n [] ∷ drop (n + 1) all ≡ line ∷ more = rw (add-one n) (sym (drop-cons all n [] within) ∙ left) in
    (within, grind (arith, both), grind (arith, both))

-- the text that is kept with one line more, and the lines after it
pub line_more : (ranges : List CardRange) (found : List ℕ) (all : List (List ℕ)) (n : ℕ) (line : List ℕ) (more : List (List ℕ)) (out : Bool) → found ≡ joined (kept ranges (take n all)) → drop n all ≡ line ∷ more → out ≡ is_left_out ranges n → (found ++ joined (if out then [] else line ∷ []) ≡ joined (kept ranges (take (n + 1) all))) × (more ≡ drop (n + 1) all)
line_more ranges found all n line more out so_far left is =
    let next = next_line all n line more left in rw is (
      ap (λ front. front ++ joined (if is_left_out ranges n then [] else line ∷ [])) so_far
          ∙ sym (flat_map-append (λ x. x ++ 10 ∷ []) (kept ranges (take n all)) (if is_left_out ranges n then [] else line ∷ []))
          ∙ ap (λ last. joined (kept ranges (take n all) ++ (if is_left_out ranges n then [] else last ∷ []))) (sym next.1)
          ∙ ap joined (sym (kept_more ranges all n [] next.0)),
      next.2,
    )

-- all lines are read where none is left
pub all_read : (all : List (List ℕ)) (n : ℕ) → drop n all ≡ [] → take n all ≡ all
all_read all n none = sym (append-nil (take n all)) ∙ ap (λ rest. take n all ++ rest) (sym none) ∙ take-append-drop n all
