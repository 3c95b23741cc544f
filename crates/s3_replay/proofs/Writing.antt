-- A script is written line by line, and reads back.
use Rattle.std.proofs.Common.{◌≡◌, ◌<◌, ◌≤◌, ◌+◌, ◌-◌, ◌*◌, ◌/◌, ◌%◌, ◌^◌, ◌==◌, ◌&&◌, ℕ, zero, suc, nat_lt, nat_le, Bool, true, false, List, [], ◌∷◌, ◌++◌, append_assoc, length, map, replicate, get_or, set, take, if◌then◌else◌, Result, Ok, Err, Option, Some, None, refl, sym, ap, ap₂, subst, ◌∙◌, arith}
use Rattle.std.specs.Prelude.{cond, decimal}
use Rattle.std.specs.Char.{is_ascii_digit}
use Rattle.std.specs.List.{list_all, onto_first, slice_split}
use Rattle.std.specs.Int.Digits.{number_from_digits}
use Rattle.std.specs.Str.Lines.{lines, lines_of_parts, strip_carriage_return}
use Rattle.std.proofs.lemmas.Bool.{and_parts}
use Rattle.std.proofs.lemmas.Bool.Decides.{nat_tests}
use Rattle.std.proofs.lemmas.Fmt.{decimal_by_steps, length-decimal-le}
use Rattle.std.proofs.lemmas.Int.Digits.{number_push}
use Rattle.std.proofs.lemmas.List.{append-nil, map-append, replicate-append-replicate, take_all, take_more}
use Rattle.std.proofs.lemmas.Grind.{flat_map-append}
use Rattle.std.proofs.lemmas.List.Folds.{list_all-append}
use Rattle.std.proofs.lemmas.List.Splits.{length-slice_split}
use Rattle.s3_cards.specs.Numbers.{is_digit_from, number_of}
use Rattle.s3_cards.specs.declared.levels.LevelId.{LevelId}
use Rattle.s3_cards.specs.declared.levels.LevelId.TheVariants.{One, Two}
use Rattle.s3_solo.specs.declared.action.Action.{Action}
use Rattle.s3_solo.specs.declared.action.Action.TheVariants.{Turn, Reply, Drain}
use Rattle.s3_bureau.specs.declared.entry.Entry.{Entry}
use Rattle.s3_bureau.specs.declared.script.Command.{Command}
use Rattle.s3_bureau.specs.Script.{command_of, count_of, entries_by, entries_from, entries_of, many, reply, times_of, with_command, with_line}
use Rattle.s3_replay.specs.declared.performed.Repeated.{Repeated}
use Rattle.s3_replay.specs.Inner.Written.{Says, before_those, behind, count_behind, entries_in, is_part_writable, is_writable, letter_of, level_digit, line_of, most_in_line}

-- ---- lines
-- a character of a line: neither a line feed nor a carriage return
abbrev is_plain : ℕ → Bool
is_plain code = nat_lt 31 code

split_line : (x rest : List ℕ) → list_all is_plain x ≡ true → slice_split (λ b. b == 10) (x ++ 10 ∷ rest) ≡ x ∷ slice_split (λ b. b == 10) rest
split_line [] rest plain = refl
split_line (c ∷ x) rest plain =
    let parts = and_parts (is_plain c) (list_all is_plain x) plain in
    let other : (c == 10) ≡ false = not_ten c parts.0 in
    ap (λ (b : Bool). cond b ([] ∷ slice_split (λ b. b == 10) (x ++ 10 ∷ rest)) (onto_first c (slice_split (λ b. b == 10) (x ++ 10 ∷ rest)))) other
    ∙ ap (onto_first c) (split_line x rest parts.1)
  where
    not_ten : (c : ℕ) → is_plain c ≡ true → (c == 10) ≡ false
    not_ten c plain = grind (arith, nat_tests)

-- a part that others follow is a line
before_parts : (x : List ℕ) (parts : List (List ℕ)) → 0 < length parts → lines_of_parts (x ∷ parts) ≡ strip_carriage_return x ∷ lines_of_parts parts
before_parts x [] some = absurd (omega arith)
before_parts x (part ∷ parts) some = refl

plain_at : (x : List ℕ) (i : ℕ) → list_all is_plain x ≡ true → i < length x → is_plain (get_or x i 0) ≡ true
plain_at [] i plain within = absurd (omega arith)
plain_at (c ∷ x) zero plain within = (and_parts (is_plain c) (list_all is_plain x) plain).0
plain_at (c ∷ x) (suc i) plain within = plain_at x i (and_parts (is_plain c) (list_all is_plain x) plain).1 (omega arith)

not_stripped : (x : List ℕ) → list_all is_plain x ≡ true → 0 < length x → strip_carriage_return x ≡ x
not_stripped x plain some = ap (λ (b : Bool). if b then take (length x - 1) x else x) (other (get_or x (length x - 1) 0) (plain_at x (length x - 1) plain (omega arith)))
  where
    other : (c : ℕ) → is_plain c ≡ true → (c == 13) ≡ false
    other c plain = grind (arith, nat_tests)

one_line : (x rest : List ℕ) → list_all is_plain x ≡ true → 0 < length x → lines (x ++ 10 ∷ rest) ≡ x ∷ lines rest
one_line x rest plain some =
    ap lines_of_parts (split_line x rest plain)
    ∙ (before_parts x (slice_split (λ b. b == 10) rest) (omega (arith, length-slice_split (λ b. b == 10) rest))
    ∙ ap (λ line. line ∷ lines rest) (not_stripped x plain some))

-- ---- numbers
abbrev Reads : ℕ → List ℕ → Type 0
Reads n digits = (list_all (is_digit_from 48) digits ≡ true) × (number_of 48 digits ≡ n)

reads_decimal : (n : ℕ) → n < 2 ^ 64 → Reads n (decimal n)
reads_decimal = decimal_by_steps Reads one more
  where
    digit : (n : ℕ) → n < 10 → is_digit_from 48 (48 + n) && true ≡ true
    digit n few = grind (arith, nat_tests)

    one : (n : ℕ) → n < 10 → Reads n ((48 + n) ∷ [])
    one n few = (digit n few, omega arith)

    more : (n : ℕ) (digits : List ℕ) → 10 ≤ n → Reads (n / 10) digits → Reads n (digits ++ ((48 + n % 10) ∷ []))
    more n digits many reads =
        let value : number_from_digits 10 (map (λ code. code - 48) digits) ≡ n / 10 = reads.1 in
        let joined : number_of 48 (digits ++ ((48 + n % 10) ∷ [])) ≡ number_from_digits 10 (map (λ code. code - 48) digits) * 10 + (48 + n % 10 - 48) =
        ap (number_from_digits 10) (map-append (λ code. code - 48) digits ((48 + n % 10) ∷ [])) ∙ number_push 10 (map (λ code. code - 48) digits) (48 + n % 10 - 48) in (
          list_all-append (is_digit_from 48) digits ((48 + n % 10) ∷ []) ∙ ap₂ (λ (a b : Bool). a && b) reads.0 (digit (n % 10) (omega arith)),
          joined ∙ omega (arith, value),
        )

-- ---- counts
plain_digits : (digits : List ℕ) → list_all (is_digit_from 48) digits ≡ true → list_all is_plain digits ≡ true
plain_digits [] all = refl
plain_digits (c ∷ digits) all =
    let parts = and_parts (is_digit_from 48 c) (list_all (is_digit_from 48) digits) all in
    ap₂ (λ (a b : Bool). a && b) (plain c parts.0) (plain_digits digits parts.1)
  where
    plain : (c : ℕ) → is_digit_from 48 c ≡ true → is_plain c ≡ true
    plain c digit = grind (arith, nat_tests)

counted : (n : ℕ) → 1 ≤ n → n ≤ 9999 → count_of (decimal n) ≡ Some n
counted n some few =
    let reads = reads_decimal n (omega arith) in
    let short : nat_le (length (decimal n)) 4 ≡ true = le (length (decimal n)) 4 (length-decimal-le 4 n (omega arith) (omega arith) (omega arith)) in
    let positive : nat_lt 0 (number_of 48 (decimal n)) ≡ true = ap (nat_lt 0) reads.1 ∙ lt 0 n some in
    ap₂ (λ (b : Bool) (m : ℕ). if b then Some m else None) (ap₂ (λ (a b : Bool). a && b) (ap₂ (λ (a b : Bool). a && b) short reads.0) positive) reads.1
  where
    le : (a b : ℕ) → a ≤ b → nat_le a b ≡ true
    le a b fits = grind (arith, nat_tests)

    lt : (a b : ℕ) → a < b → nat_lt a b ≡ true
    lt a b fits = grind (arith, nat_tests)

times_counted : (n : ℕ) → 1 ≤ n → n ≤ 9999 → times_of (count_behind n) ≡ Some n
times_counted n some few = by (n == 1) refl
  where
    one : (n : ℕ) → (n == 1) ≡ true → Some 1 ≡ Some n
    one n is = grind (arith, nat_tests)

    by : (b : Bool) → (n == 1) ≡ b → times_of (if b then [] else 32 ∷ decimal n) ≡ Some n
    by true is = one n is
    by false is = counted n some few

plain_count : (n : ℕ) → n ≤ 9999 → list_all is_plain (count_behind n) ≡ true
plain_count n few = by (n == 1)
  where
    by : (b : Bool) → list_all is_plain (if b then [] else 32 ∷ decimal n) ≡ true
    by true = refl
    by false = plain_digits (decimal n) (reads_decimal n (omega arith)).0

-- ---- commands
behind_plain : (action : Action) (n : ℕ) → is_writable action ≡ true → n ≤ 9999 → list_all is_plain (behind action n) ≡ true
behind_plain Turn n fits few = plain_count n few
behind_plain Drain n fits few = plain_count n few
behind_plain (Reply digit) n fits few = plain digit fits
  where
    plain : (digit : ℕ) → nat_lt digit 10 ≡ true → (is_plain (48 + digit) && true) ≡ true
    plain digit fits = grind (arith, nat_tests)

letter_plain : (action : Action) → is_plain (letter_of action) ≡ true
letter_plain Turn = refl
letter_plain (Reply digit) = refl
letter_plain Drain = refl

level_plain : (level : LevelId) → is_plain (level_digit level) ≡ true
level_plain One = refl
level_plain Two = refl

line_plain : (entry : Entry) (n : ℕ) → is_writable entry.action ≡ true → n ≤ 9999 → list_all is_plain (line_of entry n) ≡ true
line_plain entry n fits few =
    ap₂ (λ (a b : Bool). a && b) (letter_plain entry.action) (ap₂ (λ (a b : Bool). a && b) (level_plain entry.level) (behind_plain entry.action n fits few))

abbrev command : Entry → ℕ → Command
command entry n = record { entry = entry; count = n }

digit_read : (digit : ℕ) → nat_lt digit 10 ≡ true → (if is_ascii_digit (48 + digit) then Some (48 + digit - 48) else None) ≡ Some digit
digit_read digit fits = ap (λ (b : Bool). if b then Some (48 + digit - 48) else None) (is digit fits) ∙ ap (λ n. Some n) (omega arith)
  where
    is : (digit : ℕ) → nat_lt digit 10 ≡ true → is_ascii_digit (48 + digit) ≡ true
    is digit fits = grind (arith, nat_tests)

asks : (entry : Entry) (n : ℕ) → is_writable entry.action ≡ true → 1 ≤ n → n ≤ most_in_line entry.action → command_of (line_of entry n) ≡ Some (command entry n)
unfolding command_of
asks entry n fits some few = by entry.level entry.action fits few
  where
    by : (level : LevelId) (action : Action) → is_writable action ≡ true → n ≤ most_in_line action
        → command_of (line_of (record { level = level; action = action }) n) ≡ Some (command (record { level = level; action = action }) n)
    by One Turn fits few = ap (many One Turn) (times_counted n some few)
    by Two Turn fits few = ap (many Two Turn) (times_counted n some few)
    by One Drain fits few = ap (many One Drain) (times_counted n some few)
    by Two Drain fits few = ap (many Two Drain) (times_counted n some few)
    by One (Reply digit) fits few = ap (reply One) (digit_read digit fits) ∙ ap (λ k. Some (command (record { level = One; action = Reply digit }) k)) (omega (arith, few, some))
    by Two (Reply digit) fits few = ap (reply Two) (digit_read digit fits) ∙ ap (λ k. Some (command (record { level = Two; action = Reply digit }) k)) (omega (arith, few, some))

-- ---- texts
-- a line with a command, before the lines after it
line_before : (n : ℕ) (line : List ℕ) (command : Command) (meant : Result (List Entry) ℕ) → command_of line ≡ Some command → with_line n line meant ≡ before_those (entries_by command) meant
unfolding command_of
line_before n [] command meant is = absurd cc
line_before n (letter ∷ line) command meant is = ap (λ (o : Option Command). with_command n o meant) is ∙ by meant
  where
    by : (meant : Result (List Entry) ℕ) → with_command n (Some command) meant ≡ before_those (entries_by command) meant
    by (Ok entries) = refl
    by (Err line) = refl

joined : (one other : List Entry) (meant : Result (List Entry) ℕ) → before_those one (before_those other meant) ≡ before_those (one ++ other) meant
joined one other (Ok entries) = ap (λ es. Ok es) (sym (append_assoc one other entries))
joined one other (Err line) = refl

pub says_nothing : Says [] []
says_nothing = record { count = 0; said = λ n later. by (entries_from n (lines later)) ∙ ap (λ k. before_those [] (entries_from k (lines later))) (omega arith) }
  where
    by : (meant : Result (List Entry) ℕ) → meant ≡ before_those [] meant
    by (Ok entries) = refl
    by (Err line) = refl

-- one line more
pub says_line : (text new : List ℕ) (entries : List Entry) (entry : Entry) (n : ℕ) → Says text entries → is_writable entry.action ≡ true → 1 ≤ n → n ≤ most_in_line entry.action
    → new ≡ text ++ (line_of entry n ++ 10 ∷ []) → Says new (entries ++ replicate n entry)
says_line text new entries entry n says fits some few is = subst (λ (t : List ℕ). Says t (entries ++ replicate n entry)) (sym is) (record { count = suc says.count; said = said })
  where
    most : (action : Action) → n ≤ most_in_line action → n ≤ 9999
    most Turn few = few
    most Drain few = few
    most (Reply digit) few = omega (arith, few)

    said : (k : ℕ) (later : List ℕ) → entries_from k (lines ((text ++ (line_of entry n ++ 10 ∷ [])) ++ later)) ≡ before_those (entries ++ replicate n entry) (entries_from (k + suc says.count) (lines later))
    said k later =
        let line : List ℕ = line_of entry n in
        let places : k + says.count + 1 ≡ k + suc says.count = omega arith in
        ap (λ t. entries_from k (lines t)) (append_assoc text (line ++ 10 ∷ []) later ∙ ap (λ t. text ++ t) (append_assoc line (10 ∷ []) later))
        ∙ (says.said k (line ++ 10 ∷ later)
        ∙ (ap (λ ls. before_those entries (entries_from (k + says.count) ls)) (one_line line later (line_plain entry n fits (most entry.action few)) (omega arith))
        ∙ (ap (before_those entries) (line_before (k + says.count) line (command entry n) (entries_from (k + says.count + 1) (lines later)) (asks entry n fits some few))
        ∙ (joined entries (replicate n entry) (entries_from (k + says.count + 1) (lines later))
        ∙ ap (λ m. before_those (entries ++ replicate n entry) (entries_from m (lines later))) places))))

-- so many lines more
pub says_more : (text new : List ℕ) (entries : List Entry) (entry : Entry) (n count all : ℕ) → Says text (entries ++ replicate n entry) → is_writable entry.action ≡ true → 1 ≤ count → count ≤ most_in_line entry.action
    → new ≡ text ++ (line_of entry count ++ 10 ∷ []) → n + count ≡ all → Says new (entries ++ replicate all entry)
says_more text new entries entry n count all says fits some few is sum =
    subst (Says new)
    (append_assoc entries (replicate n entry) (replicate count entry) ∙ ap (λ es. entries ++ es) (replicate-append-replicate n count entry ∙ ap (λ k. replicate k entry) sum))
    (says_line text new (entries ++ replicate n entry) entry count says fits some few is)

-- a text is the script of what it says
pub says_all : (text : List ℕ) (entries : List Entry) → Says text entries → entries_of text ≡ Ok entries
unfolding entries_of
says_all text entries says =
    ap (λ t. entries_from 1 (lines t)) (sym (append-nil text)) ∙ (says.said 1 [] ∙ ap (λ es. Ok es) (append-nil entries))

pub most_some : (action : Action) → 1 ≤ most_in_line action
most_some Turn = omega arith
most_some (Reply digit) = omega arith
most_some Drain = omega arith

-- ---- entries that are noted
more_times : (entry : Entry) (n more : ℕ) → replicate (n + more) entry ≡ replicate n entry ++ replicate more entry
more_times entry n more = sym (replicate-append-replicate n more entry)

-- the last one comes again
pub last_again : (parts : List Repeated) (i : ℕ) (last : Repeated) (entry : Entry) (more all : ℕ) → length parts ≡ suc i → last ≡ get_or parts i last → last.entry ≡ entry → all ≡ last.times + more
    → entries_in (set parts i (record last { times = all })) ≡ entries_in parts ++ replicate more entry
last_again [] i last entry more all size is same sum = absurd (omega (arith, size))
last_again (part ∷ []) zero last entry more all size is same sum =
    append-nil (replicate all last.entry)
    ∙ (ap (λ n. replicate n last.entry) sum
    ∙ (more_times last.entry last.times more
    ∙ ap₂ (λ (xs ys : List Entry). xs ++ ys) (sym (append-nil (replicate last.times last.entry)) ∙ ap (λ (p : Repeated). entries_in (p ∷ [])) is) (ap (replicate more) same)))
last_again (part ∷ []) (suc i) last entry more all size is same sum = absurd (omega (arith, size))
last_again (part ∷ next ∷ parts) zero last entry more all size is same sum = absurd (omega (arith, size))
last_again (part ∷ next ∷ parts) (suc i) last entry more all size is same sum =
    ap (λ es. replicate part.times part.entry ++ es) (last_again (next ∷ parts) i last entry more all (omega (arith, size)) is same sum)
    ∙ sym (append_assoc (replicate part.times part.entry) (entries_in (next ∷ parts)) (replicate more entry))

pub last_writable : (parts : List Repeated) (i : ℕ) (last : Repeated) (all : ℕ) → is_writable last.entry.action ≡ true → list_all is_part_writable parts ≡ true
    → list_all is_part_writable (set parts i (record last { times = all })) ≡ true
last_writable [] i last all one are = refl
last_writable (part ∷ parts) zero last all one are = ap₂ (λ (a b : Bool). a && b) one (and_parts (is_part_writable part) (list_all is_part_writable parts) are).1
last_writable (part ∷ parts) (suc i) last all one are =
    let rest = and_parts (is_part_writable part) (list_all is_part_writable parts) are in
    ap₂ (λ (a b : Bool). a && b) rest.0 (last_writable parts i last all one rest.1)

pub one_part : (parts : List Repeated) (part : Repeated) → entries_in (parts ++ part ∷ []) ≡ entries_in parts ++ replicate part.times part.entry
one_part parts part = flat_map-append (λ (p : Repeated). replicate p.times p.entry) parts (part ∷ []) ∙ ap (λ es. entries_in parts ++ es) (append-nil (replicate part.times part.entry))

-- ---- the whole script
-- the text says the first of them
pub script_more : (text new : List ℕ) (all : List Repeated) (n : ℕ) (d : Repeated) → n < length all → Says text (entries_in (take n all))
    → ((entries : List Entry) → Says text entries → Says new (entries ++ replicate (get_or all n d).times (get_or all n d).entry)) → Says new (entries_in (take (n + 1) all))
script_more text new all n d within says more =
    subst (Says new) (sym (ap entries_in (take_more all n d within) ∙ one_part (take n all) (get_or all n d))) (more (entries_in (take n all)) says)

-- what two reads of one place give
pub same_at : (parts : List Repeated) (i : ℕ) (one other : Repeated) → i < length parts → one ≡ get_or parts i one → other ≡ get_or parts i other → one ≡ other
same_at [] i one other within is also = absurd (omega (arith, within))
same_at (part ∷ parts) zero one other within is also = is ∙ sym also
same_at (part ∷ parts) (suc i) one other within is also = same_at parts i one other (omega (arith, within)) is also

pub script_whole : (text : List ℕ) (all : List Repeated) (n : ℕ) → length all ≤ n → Says text (entries_in (take n all)) → entries_of text ≡ Ok (entries_in all)
script_whole text all n past says = says_all text (entries_in all) (subst (λ (parts : List Repeated). Says text (entries_in parts)) (take_all n all past) says)
