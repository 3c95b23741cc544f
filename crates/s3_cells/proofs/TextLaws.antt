-- What texts and their codes make of each other.
use Rattle.std.proofs.Common.{◌≡◌, ℕ, ◌-◌, ◌≤◌, refl, arith, sym, ◌∙◌, ap, ap₂, Bool, true, false, ◌&&◌, cond, suc, zero, List, [], ◌∷◌, ◌++◌, map, length, replicate, append_assoc, nat_le}
use Rattle.std.specs.Prelude.{unwrap_or, is_some, Option, Some, None}
use Rattle.std.specs.Bool.{◌==◌}
use Rattle.std.specs.List.{list_all}
use Rattle.std.proofs.lemmas.Bool.{and_parts, eqb-true, le-leb}
use Rattle.std.proofs.lemmas.List.{append-nil, map-append, length-map}
use Rattle.std.proofs.lemmas.List.Folds.{list_all-append}
use Rattle.s3_cards.specs.Codes.{code_page, ebcdic, ebcdic_of, host_of, shown_byte}
use Rattle.s3_cards.proofs.CodeLemmas.{both_ways}
use Rattle.s3_cells.specs.Inner.Texts.{has_character, has_code, text_bytes, trimmed}
use Rattle.s3_cells.proofs.TextLemmas.{blank_dropped, some_length, trimmed_is, trimmed_nothing}

blank_character : host_of 64 ≡ Some 32
unfolding code_page
blank_character = refl

blank_code : ebcdic_of 32 ≡ Some 64
unfolding code_page
blank_code = refl

some_of : (o : Option ℕ) → is_some o ≡ true → (n : ℕ) × (o ≡ Some n)
some_of None h = absurd cc
some_of (Some n) h = (n, refl)

-- ---- a code and its character
pub code_shown : (character : ℕ) → has_code character ≡ true → (has_character (unwrap_or (ebcdic_of character) 0) ≡ true) × (shown_byte (unwrap_or (ebcdic_of character) 0) ≡ character)
code_shown character h =
    let some = some_of (ebcdic_of character) h in
    let shown : host_of some.0 ≡ Some character = (both_ways character some.0).0 some.1 in
    (ap (λ o. is_some (host_of (unwrap_or o 0))) some.1 ∙ ap is_some shown, ap (λ o. unwrap_or (host_of (unwrap_or o 0)) 63) some.1 ∙ ap (λ o. unwrap_or o 63) shown)

pub character_coded : (code : ℕ) → has_character code ≡ true → ebcdic_of (shown_byte code) ≡ Some code
character_coded code h =
    let some = some_of (host_of code) h in
    ap (λ o. ebcdic_of (unwrap_or o 63)) some.1 ∙ (both_ways some.0 code).1 some.1

-- ---- from a text to its codes and back
codes_shown : (text : List ℕ) → list_all has_code text ≡ true → list_all has_character (ebcdic text) ≡ true
unfolding ebcdic
codes_shown [] h = refl
codes_shown (x ∷ xs) h =
    let parts = and_parts (has_code x) (list_all has_code xs) h in
    ap₂ (λ a b. a && b) (code_shown x parts.0).0 (codes_shown xs parts.1)

pub codes_back : (text : List ℕ) → list_all has_code text ≡ true → map shown_byte (ebcdic text) ≡ text
unfolding ebcdic
codes_back [] h = refl
codes_back (x ∷ xs) h =
    let parts = and_parts (has_code x) (list_all has_code xs) h in
    ap₂ (λ a b. a ∷ b) (code_shown x parts.0).1 (codes_back xs parts.1)

blanks_shown : (n : ℕ) → list_all has_character (replicate n 64) ≡ true
blanks_shown zero = refl
blanks_shown (suc n) = ap₂ (λ a b. a && b) (ap is_some blank_character) (blanks_shown n)

blanks_back : (n : ℕ) → map shown_byte (replicate n 64) ≡ replicate n 32
blanks_back zero = refl
blanks_back (suc n) = ap₂ (λ a b. a ∷ b) (ap (λ o. unwrap_or o 63) blank_character) (blanks_back n)

blanks_dropped : (n : ℕ) (text : List ℕ) → trimmed (text ++ replicate n 32) ≡ trimmed text
blanks_dropped zero text = ap trimmed (append-nil text)
blanks_dropped (suc n) text =
    ap trimmed (sym (append_assoc text (32 ∷ []) (replicate n 32))) ∙ blanks_dropped n (text ++ 32 ∷ []) ∙ blank_dropped text

pub text_shown : (width : ℕ) (text : List ℕ) → list_all has_code text ≡ true → list_all has_character (text_bytes width text) ≡ true
text_shown width text h =
    list_all-append has_character (ebcdic text) (replicate (width - length text) 64) ∙ ap₂ (λ a b. a && b) (codes_shown text h) (blanks_shown (width - length text))

pub text_back : (width : ℕ) (text : List ℕ) → list_all has_code text ≡ true → trimmed text ≡ text → trimmed (map shown_byte (text_bytes width text)) ≡ text
text_back width text h tidy =
    ap trimmed (map-append shown_byte (ebcdic text) (replicate (width - length text) 64) ∙ ap₂ (λ a b. a ++ b) (codes_back text h) (blanks_back (width - length text)))
    ∙ blanks_dropped (width - length text) text ∙ tidy

-- ---- from codes to their text and back
cond_length : (b : Bool) (x : ℕ) (t : List ℕ) (n : ℕ) → length t ≤ n → length (cond b [] (x ∷ t)) ≤ suc n
cond_length true x t n h = omega arith
cond_length false x t n h = omega arith

trimmed_short : (xs : List ℕ) → length (trimmed xs) ≤ length xs
trimmed_short [] = rw trimmed_nothing (omega arith)
trimmed_short (x ∷ xs) = rw (trimmed_is x xs) (cond_length ((x == 32) && (length (trimmed xs) == 0)) x (trimmed xs) (length xs) (trimmed_short xs))

cond_all : (p : ℕ → Bool) (b : Bool) (x : ℕ) (t : List ℕ) → p x ≡ true → list_all p t ≡ true → list_all p (cond b [] (x ∷ t)) ≡ true
cond_all p true x t h k = refl
cond_all p false x t h k = ap₂ (λ a b. a && b) h k

trimmed_all : (p : ℕ → Bool) (xs : List ℕ) → list_all p xs ≡ true → list_all p (trimmed xs) ≡ true
trimmed_all p [] h = ap (list_all p) trimmed_nothing
trimmed_all p (x ∷ xs) h =
    let parts = and_parts (p x) (list_all p xs) h in
    ap (list_all p) (trimmed_is x xs) ∙ cond_all p ((x == 32) && (length (trimmed xs) == 0)) x (trimmed xs) parts.0 (trimmed_all p xs parts.1)

characters_coded : (bytes : List ℕ) → list_all has_character bytes ≡ true → list_all has_code (map shown_byte bytes) ≡ true
characters_coded [] h = refl
characters_coded (b ∷ bs) h =
    let parts = and_parts (has_character b) (list_all has_character bs) h in
    ap₂ (λ a b. a && b) (ap is_some (character_coded b parts.0)) (characters_coded bs parts.1)

pub text_held : (bytes : List ℕ) → list_all has_character bytes ≡ true → (nat_le (length (trimmed (map shown_byte bytes))) (length bytes) && list_all has_code (trimmed (map shown_byte bytes))) ≡ true
text_held bytes h =
    let short : length (trimmed (map shown_byte bytes)) ≤ length bytes = omega (arith, trimmed_short (map shown_byte bytes), length-map bytes shown_byte) in
    ap₂ (λ a b. a && b) (le-leb (length (trimmed (map shown_byte bytes))) (length bytes) short) (trimmed_all has_code (map shown_byte bytes) (characters_coded bytes h))

empty_of : (xs : List ℕ) → (length xs == 0) ≡ true → xs ≡ []
empty_of [] h = refl
empty_of (x ∷ xs) h = let none : true ≡ false = sym h ∙ some_length x xs in absurd cc

some_same : (a b : ℕ) → Some a ≡ Some b → a ≡ b
some_same a b h = cc

-- one byte more in front
byte_again : (width b x : ℕ) (bs t : List ℕ) (blank : Bool) → ((x == 32) && (length t == 0)) ≡ blank → ebcdic_of x ≡ Some b → width ≡ length bs → text_bytes width t ≡ bs → text_bytes (suc width) (cond blank [] (x ∷ t)) ≡ b ∷ bs
unfolding ebcdic
byte_again width b x bs t true is code long same =
    let parts = and_parts (x == 32) (length t == 0) is in
    let none : t ≡ [] = empty_of t parts.1 in
    let blank : b ≡ 64 = some_same b 64 (sym code ∙ ap ebcdic_of (eqb-true x 32 parts.0) ∙ blank_code) in
    let all : suc width - 0 ≡ suc width = omega arith in
    let rest : width - 0 ≡ width = omega arith in
    ap (λ n. replicate n 64) all ∙ ap₂ (λ a l. a ∷ l) (sym blank) (sym (ap (λ n. replicate n 64) rest) ∙ sym (ap (text_bytes width) none) ∙ same)
byte_again width b x bs t false is code long same =
    let left : suc width - length (x ∷ t) ≡ width - length t = omega arith in
    ap (λ n. ebcdic (x ∷ t) ++ replicate n 64) left ∙ ap₂ (λ a l. a ∷ l) (ap (λ o. unwrap_or o 0) code) same

pub text_again : (bytes : List ℕ) → list_all has_character bytes ≡ true → text_bytes (length bytes) (trimmed (map shown_byte bytes)) ≡ bytes
unfolding ebcdic
text_again [] h = ap (text_bytes 0) trimmed_nothing
text_again (b ∷ bs) h =
    let parts = and_parts (has_character b) (list_all has_character bs) h in
    ap (text_bytes (suc (length bs))) (trimmed_is (shown_byte b) (map shown_byte bs))
    ∙ byte_again (length bs) b (shown_byte b) bs (trimmed (map shown_byte bs)) ((shown_byte b == 32) && (length (trimmed (map shown_byte bs)) == 0)) refl (character_coded b parts.0) refl (text_again bs parts.1)
