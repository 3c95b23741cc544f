-- Tables begin with no byte order mark.
use Rattle.std.proofs.Common.{◌≡◌, ℕ, ◌<◌, refl, arith, ap, Bool, true, false, ◌==◌, ◌&&◌, cond, List, [], ◌∷◌, ◌++◌, length, map, take, get_or, nat_lt}
use Rattle.std.specs.Prelude.{Some, find, unwrap_or}
use Rattle.std.specs.List.{list_all, prefix_len}
use Rattle.std.specs.Option.{option_map}
use Rattle.std.proofs.lemmas.Bool.{and_parts, ltb-true}
use Rattle.csv.specs.Reading.{strip_bom}
use Rattle.csv.specs.Writing.{by_style, end_text, fields_text, is_blank, needs_quotes, quoted, row_text}
use Rattle.s3_cards.specs.Codes.{code_page, shown_byte}
use Rattle.s3_cards.specs.Names.{is_mark}
use Rattle.s3_cells.specs.declared.field.Field.{Field}
use Rattle.s3_unload.specs.Inner.Tables.{comma, heading, name_text, rows_text, setup, table_text}

unmarked : (a b c : ℕ) (rest : List ℕ) → a < 239 → strip_bom (a ∷ b ∷ c ∷ rest) ≡ a ∷ b ∷ c ∷ rest
unfolding strip_bom
unmarked a b c rest low =
    let other : (a == 0xEF) ≡ false = grind (arith, low) in
    ap (λ x. cond ((x && (b == 0xBB)) && (c == 0xBF)) rest (a ∷ b ∷ c ∷ rest)) other

whole_text : (text : List ℕ) → get_or text 0 0 < 239 → strip_bom text ≡ text
unfolding strip_bom
whole_text [] low = refl
whole_text (a ∷ []) low = refl
whole_text (a ∷ b ∷ []) low = refl
whole_text (a ∷ b ∷ c ∷ rest) low = unmarked a b c rest low

-- ---- characters
abbrev is_ascii : ℕ × ℕ → Bool
is_ascii entry = nat_lt entry.1 128

page_is_ascii : list_all is_ascii code_page ≡ true
unfolding code_page
page_is_ascii = refl

shown_below : (p : ℕ × ℕ → Bool) (page : List (ℕ × ℕ)) → list_all is_ascii page ≡ true → unwrap_or (option_map (λ entry. entry.1) (find p page)) 0x3f < 239
shown_below p [] h = omega arith
shown_below p (x ∷ xs) h =
    let both = and_parts (is_ascii x) (list_all is_ascii xs) h in
    let low = ltb-true x.1 128 both.0 in
    let small : x.1 < 239 = omega (arith, low) in
    elim (p x) as (λ b. unwrap_or (option_map (λ (entry : ℕ × ℕ). entry.1) (cond b (Some x) (find p xs))) 0x3f < 239) [ true ↦ small | false ↦ shown_below p xs both.1 ]

first_below : (codes : List ℕ) → get_or (map shown_byte codes) 0 0 < 239
first_below [] = omega arith
first_below (code ∷ codes) = shown_below (λ entry. entry.0 == code) code_page page_is_ascii

-- ---- rows
row_below : (cell : List ℕ) (cells : List (List ℕ)) (more : List ℕ) → get_or cell 0 0 < 239 → get_or (row_text (setup comma) (cell ∷ cells) ++ more) 0 0 < 239
unfolding fields_text is_blank
row_below [] [] more low = let quote : get_or (row_text (setup comma) ([] ∷ []) ++ more) 0 0 ≡ 34 = refl in omega (arith, quote)
row_below [] (c ∷ cells) more low = let delimiter : get_or (row_text (setup comma) ([] ∷ c ∷ cells) ++ more) 0 0 ≡ 44 = refl in omega (arith, delimiter)
row_below (x ∷ xs) [] more low =
    elim (by_style (setup comma).style (needs_quotes (setup comma) (x ∷ xs))) as (λ b. get_or (((cond b (quoted (setup comma) (x ∷ xs)) (x ∷ xs) ++ []) ++ ((cond (length (cond b (quoted (setup comma) (x ∷ xs)) (x ∷ xs)) == 0) (34 ∷ 34 ∷ []) []) ++ end_text (setup comma).terminator)) ++ more) 0 0 < 239) [
      | true ↦ omega arith
      | false ↦ low
    ]
row_below (x ∷ xs) (c ∷ cells) more low =
    elim (by_style (setup comma).style (needs_quotes (setup comma) (x ∷ xs))) as (λ b. get_or (((cond b (quoted (setup comma) (x ∷ xs)) (x ∷ xs) ++ fields_text (setup comma) (c ∷ cells)) ++ ([] ++ end_text (setup comma).terminator)) ++ more) 0 0 < 239) [
      | true ↦ omega arith
      | false ↦ low
    ]

pub table_unmarked : (field : Field) (fields : List Field) (records : List (List ℕ)) → strip_bom (table_text comma (field ∷ fields) records) ≡ table_text comma (field ∷ fields) records
table_unmarked field fields records =
    whole_text (table_text comma (field ∷ fields) records) (row_below (name_text field.name) (heading fields) (rows_text comma (field ∷ fields) records) (first_below (take (prefix_len is_mark field.name.codes) field.name.codes)))
