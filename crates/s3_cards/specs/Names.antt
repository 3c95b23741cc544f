-- Names, and the kinds of codes in them.
use Rattle.std.specs.Prelude.{ℕ, ◌-◌, List, [], ◌∷◌, ◌++◌, Bool, false, not, ◌==◌, ◌&&◌, ◌||◌, length, take, drop, replicate, nat_eq, nat_le}
use Rattle.std.specs.List.{list_all, prefix_len}
use Rattle.std.specs.Cmp.Lexicographic.{pointwise}
use Rattle.s3_cards.specs.declared.ebcdic.TheConstants.{BLANK, DOLLAR, NUMBER_SIGN, AT_SIGN, LETTER_A, LETTER_I, LETTER_J, LETTER_R, LETTER_S, LETTER_Z, DIGIT_0, DIGIT_9}
use Rattle.s3_cards.specs.declared.name.Name.{Name}

abbrev pub is_blank : ℕ → Bool
is_blank code = code == BLANK

-- a code that isn't blank
abbrev pub is_mark : ℕ → Bool
is_mark code = not (is_blank code)

abbrev pub is_within : ℕ → ℕ → ℕ → Bool
is_within low high code = nat_le low code && nat_le code high

-- 0 to 9
abbrev pub is_digit : ℕ → Bool
is_digit code = is_within DIGIT_0 DIGIT_9 code

-- A to Z, in three runs of codes
abbrev pub is_letter : ℕ → Bool
is_letter code = is_within LETTER_A LETTER_I code || is_within LETTER_J LETTER_R code || is_within LETTER_S LETTER_Z code

-- what a name may begin with: a letter, $, # or @
abbrev pub begins_name : ℕ → Bool
begins_name code = is_letter code || (code == DOLLAR) || (code == NUMBER_SIGN) || (code == AT_SIGN)

-- the codes that may follow the first one of a name
abbrev pub goes_on_in_name : ℕ → Bool
goes_on_in_name code = begins_name code || is_digit code

-- a letter, $, # or @, followed by these or digits
unfoldable pub is_word : List ℕ → Bool
is_word [] = false
is_word (code ∷ codes) = begins_name code && list_all goes_on_in_name codes

-- a word from the left, followed by blanks
abbrev pub is_name : List ℕ → Bool
is_name codes =
    let end : ℕ = prefix_len is_mark codes in
    is_word (take end codes) && list_all is_blank (drop end codes)

-- at most eight codes as a name, followed by blanks
abbrev pub name_of : List ℕ → Name
name_of codes = record { codes = codes ++ replicate (8 - length codes) BLANK }

-- eight blanks, for an entry without a name
abbrev pub no_name : Name
no_name = record { codes = replicate 8 BLANK }

abbrev pub same_name : Name → Name → Bool
same_name a b = pointwise nat_eq a.codes b.codes
