-- The values of FILE and DATE statements are in range.
use Rattle.std.proofs.Common.{◌≡◌, ℕ, ◌+◌, ◌-◌, ◌^◌, ◌<◌, ◌≤◌, List, [], ◌∷◌, ◌++◌, Bool, true, false, cond, refl, ◌∙◌, ap, subst, arith, length, take, drop, replicate, zero, suc, eqb-true, lit<, lit≤}
use Rattle.std.specs.Prelude.{Option, Some, None, Result, Ok, Err, ◌==◌, ◌&&◌, not, find, nat_le, slice_index, unwrap_or, option_and_then, IfOk, if◌then◌else◌}
use Rattle.std.specs.List.{list_all, prefix_len, position_or_len, cons_option}
use Rattle.std.proofs.lemmas.Bool.Decides.{nat_tests}
use Rattle.std.proofs.lemmas.Option.{cond_some}
use Rattle.std.proofs.lemmas.List.Folds.{list_all-append}
use Rattle.std.proofs.Math.Nat.{pow-le-pow_right}
use Rattle.std.proofs.Math.Seq.{drop-append_seam, take-append_seam}
use Rattle.s3_cards.specs.declared.name.Name.{Name}
use Rattle.s3_ocl.specs.declared.values.Value.{Value}
use Rattle.s3_ocl.specs.declared.values.Value.TheVariants.{Named, Count, Kept, Dated, Set, Checked}
use Rattle.s3_ocl.specs.declared.parameters.Parameter.{Parameter}
use Rattle.s3_ocl.specs.declared.parameters.Parameter.TheVariants as parameter
use Rattle.s3_ocl.specs.declared.parameters.Entry.{Entry}
use Rattle.s3_ocl.specs.declared.parameters.Entry.TheVariants.{Empty, Unknown, Surplus, Missing, Wrong, Right}
use Rattle.s3_ocl.specs.declared.parameters.Verb.{Verb}
use Rattle.s3_ocl.specs.declared.parameters.Verb.TheVariants as verb
use Rattle.s3_ocl.specs.declared.statements.Piece.{Piece}
use Rattle.s3_ocl.specs.Signs.{is_hyphen}
use Rattle.s3_cards.specs.Names.{is_blank, is_digit, begins_name, goes_on_in_name, is_word, name_of, is_mark}
use Rattle.s3_cards.specs.declared.ebcdic.TheConstants.{SLASH}
use Rattle.s3_ocl.specs.Values.{name_value, count_value, date_value, dated, is_date, two_digits, without_slashes}
use Rattle.s3_ocl.specs.Parameters.{value_of, given_by, given, given_key, keyed, entry_at, entry_of, parameter_of, parts_of, verb_of}
use Rattle.s3_ocl.specs.Cards.{first_word, is_statement}
use Rattle.s3_ocl.specs.Statements.{pieces_in, pieces_from, pieces_of, texts_of, statement_at, statements_within, is_verb}
use Rattle.s3_ocl.specs.declared.contents.FileStatement.{FileStatement}
use Rattle.s3_ocl.specs.declared.faults.Mark.{Mark}
use Rattle.s3_ocl.specs.declared.jobs.OclFault.{OclFault}
use Rattle.s3_ocl.specs.Jobs.{Job, job_at, job_or_fault, job_with, heading_at, cards_of}
use Rattle.s3_ocl.specs.Inner.Jobs.{Gives}
use Rattle.std.specs.Option.{option_map, option_or}
use Rattle.s3_ocl.specs.Contents.{rank, is_parameter, stands_at, gives, right_value, value_in, named, count, dated as value_date, name_in, count_in, date_in, date_of, first_in, size_of, file_with, files_of}
use Rattle.s3_ocl.specs.Inner.Sound.{is_padded_name, is_between, is_size, is_sound_date, is_sound_file}
use Rattle.s3_cards.specs.Numbers.{number_of}
use Rattle.s3_cards.proofs.NumberLemmas.{number_below}

both_true : (a b : Bool) → (a && b) ≡ true → (a ≡ true) × (b ≡ true)
both_true true b h = (refl, h)
both_true false b h = cc

letter_is_mark : (code : ℕ) → begins_name code ≡ true → is_mark code ≡ true
letter_is_mark code h = go (code == 0x40) refl
  where
    go : (t : Bool) → (code == 0x40) ≡ t → not t ≡ true
    go true e = absurd (let s : code ≡ 0x40 = eqb-true code 0x40 e in let f : begins_name 0x40 ≡ true = subst (λ (n : ℕ). begins_name n ≡ true) s h in cc)
    go false e = refl

name_code_is_mark : (code : ℕ) → goes_on_in_name code ≡ true → is_mark code ≡ true
name_code_is_mark code h = go (code == 0x40) refl
  where
    go : (t : Bool) → (code == 0x40) ≡ t → not t ≡ true
    go true e = absurd (let s : code ≡ 0x40 = eqb-true code 0x40 e in let f : goes_on_in_name 0x40 ≡ true = subst (λ (n : ℕ). goes_on_in_name n ≡ true) s h in cc)
    go false e = refl

all_marks : (codes : List ℕ) → list_all goes_on_in_name codes ≡ true → list_all is_mark codes ≡ true
all_marks [] h = refl
all_marks (code ∷ codes) h =
    let both = both_true (goes_on_in_name code) (list_all goes_on_in_name codes) h in
    rw (name_code_is_mark code both.0) (all_marks codes both.1)

name_marks : (text : List ℕ) → is_word text ≡ true → list_all is_mark text ≡ true
unfolding is_word
name_marks [] h = cc
name_marks (code ∷ codes) h =
    let both = both_true (begins_name code) (list_all goes_on_in_name codes) h in
    rw (letter_is_mark code both.0) (all_marks codes both.1)

prefix_all : (p : ℕ → Bool) (xs ys : List ℕ) → list_all p xs ≡ true → prefix_len p ys ≡ 0 → prefix_len p (xs ++ ys) ≡ length xs
prefix_all p [] ys h e = e
prefix_all p (x ∷ xs) ys h e =
    let both = both_true (p x) (list_all p xs) h in
    rw both.0 (let ih = prefix_all p xs ys both.1 e in omega (arith, ih))

no_marks : (n : ℕ) → prefix_len is_mark (replicate n 0x40) ≡ 0
no_marks zero = refl
no_marks (suc n) = refl

all_blanks : (n : ℕ) → list_all is_blank (replicate n 0x40) ≡ true
all_blanks zero = refl
all_blanks (suc n) = all_blanks n

padded : (text : List ℕ) → is_word text ≡ true → is_padded_name (name_of text) ≡ true
padded text h =
    let blanks : List ℕ = replicate (8 - length text) 0x40 in
    let end : prefix_len is_mark (text ++ blanks) ≡ length text = prefix_all is_mark text blanks (name_marks text h) (no_marks (8 - length text)) in
    ap (λ (n : ℕ). is_word (take n (text ++ blanks)) && list_all is_blank (drop n (text ++ blanks))) end
    ∙ (rw (take-append_seam text blanks, drop-append_seam text blanks, h) (all_blanks (8 - length text)))

-- the range of a name
abbrev is_sound_name : Value → Bool
is_sound_name (Named name) = is_padded_name name
is_sound_name (Count n) = true
is_sound_name (Kept r) = true
is_sound_name (Dated d) = true
is_sound_name (Set s) = true
is_sound_name Checked = true

abbrev is_sound_count : ℕ → Value → Bool
is_sound_count limit (Named name) = true
is_sound_count limit (Count n) = is_between 1 limit n
is_sound_count limit (Kept r) = true
is_sound_count limit (Dated d) = true
is_sound_count limit (Set s) = true
is_sound_count limit Checked = true

name_sound : (limit : ℕ) (text : List ℕ) (value : Value) → name_value limit text ≡ Some value → is_sound_name value ≡ true
name_sound limit text value h =
    let both = cond_some (nat_le (length text) limit && is_word text) (Named (name_of text)) value h in
    subst (λ (v : Value). is_sound_name v ≡ true) both.1 (padded text (both_true (nat_le (length text) limit) (is_word text) both.0).1)

between : (low high n : ℕ) → low ≤ n → n ≤ high → is_between low high n ≡ true
between low high n p q = grind (arith, nat_tests)

below_limit : (n power high len limit : ℕ) → n < 10 ^ len → len ≤ limit → 10 ^ limit ≤ high + 1 → n ≤ high
below_limit n power high len limit below short room =
    omega (arith, below, room, pow-le-pow_right {n = 10} (lit< tt) {i = len} {j = limit} short)

at_most : (a b : ℕ) → nat_le a b ≡ true → a ≤ b
at_most a b h = grind (arith, nat_tests)

count_sound : (limit high : ℕ) (text : List ℕ) (value : Value) → 10 ^ limit ≤ high + 1 → count_value limit text ≡ Some value → is_sound_count high value ≡ true
unfolding count_value
count_sound limit high text value room h =
    let both = cond_some (nat_le (length text) limit && list_all is_digit text && nat_le 1 (number_of 0xf0 text)) (Count (number_of 0xf0 text)) value h in
    let outer = both_true (nat_le (length text) limit && list_all is_digit text) (nat_le 1 (number_of 0xf0 text)) both.0 in
    let inner = both_true (nat_le (length text) limit) (list_all is_digit text) outer.0 in
    subst (λ (v : Value). is_sound_count high v ≡ true) both.1
    (between 1 high (number_of 0xf0 text) (at_most 1 (number_of 0xf0 text) outer.1)
    (below_limit (number_of 0xf0 text) 0 high (length text) limit (number_below 0xf0 text inner.1) (at_most (length text) limit inner.0) room))

abbrev is_dated_soundly : Value → Bool
is_dated_soundly (Named name) = true
is_dated_soundly (Count n) = true
is_dated_soundly (Kept r) = true
is_dated_soundly (Dated digits) = list_all is_digit digits
is_dated_soundly (Set s) = true
is_dated_soundly Checked = true

dated_by : (digits : List ℕ) (value : Value) → dated digits ≡ Some value → is_dated_soundly value ≡ true
dated_by digits value h =
    let both = cond_some (is_date digits) (Dated digits) value h in
    let first = both_true _ (nat_le (two_digits digits 2) 31) both.0 in
    let second = both_true _ (nat_le 1 (two_digits digits 2)) first.0 in
    let third = both_true _ (nat_le (two_digits digits 0) 12) second.0 in
    let fourth = both_true (list_all is_digit digits) (nat_le 1 (two_digits digits 0)) third.0 in
    subst (λ (v : Value). is_dated_soundly v ≡ true) both.1 fourth.0

date_sound : (text : List ℕ) (value : Value) → date_value text ≡ Some value → is_dated_soundly value ≡ true
unfolding date_value
date_sound text value h = by (length text == 6) ((length text == 8) && (slice_index text 2 == SLASH) && (slice_index text 5 == SLASH)) h
  where
    by : (t u : Bool) → (if t then dated text else if u then dated (without_slashes text) else None) ≡ Some value → is_dated_soundly value ≡ true
    by true u e = dated_by text value e
    by false true e = dated_by (without_slashes text) value e
    by false false e = cc

-- the range of a value by the number of its parameter: FileName, Label, Records, Tracks and Date
abbrev is_sound_ranked : ℕ → Value → Bool
is_sound_ranked n value =
    if n == 2 then is_sound_name value
    else if n == 4 then is_sound_name value
    else if n == 5 then is_sound_count 999999 value
    else if n == 6 then is_sound_count 999 value
    else if n == 8 then is_dated_soundly value
    else true

abbrev is_sound_value : Parameter → Value → Bool
is_sound_value given value = is_sound_ranked (rank given) value

value_sound : (given : Parameter) (text : List ℕ) (value : Value) → value_of given text ≡ Some value → is_sound_value given value ≡ true
value_sound parameter.Program text value h = refl
value_sound parameter.Unit text value h = refl
value_sound parameter.FileName text value h = name_sound 8 text value h
value_sound parameter.Pack text value h = refl
value_sound parameter.Label text value h = name_sound 8 text value h
value_sound parameter.Records text value h = count_sound 6 999999 text value (lit≤ tt) h
value_sound parameter.Tracks text value h = count_sound 3 999 text value (lit≤ tt) h
value_sound parameter.Retain text value h = refl
value_sound parameter.Date text value h = date_sound text value h
value_sound parameter.Switches text value h = refl

abbrev is_sound_entry : Entry → Bool
is_sound_entry Empty = true
is_sound_entry Unknown = true
is_sound_entry Surplus = true
is_sound_entry (Missing given) = true
is_sound_entry (Wrong given) = true
is_sound_entry (Right given value) = is_sound_value given value

sound_if : (t : Bool) (a b : Entry) → is_sound_entry a ≡ true → is_sound_entry b ≡ true → is_sound_entry (cond t a b) ≡ true
sound_if true a b p q = p
sound_if false a b p q = q

sound_by : (one : Parameter) (text : List ℕ) (o : Option Value) → value_of one text ≡ o → is_sound_entry (given_by one o) ≡ true
sound_by one text None e = refl
sound_by one text (Some value) e = value_sound one text value e

sound_given : (one : Parameter) (text : List ℕ) → is_sound_entry (given one text) ≡ true
sound_given one text = sound_if (length text == 0) (Missing one) (given_by one (value_of one text)) refl (sound_by one text (value_of one text) refl)

sound_key : (o : Option Parameter) (text : List ℕ) → is_sound_entry (given_key o text) ≡ true
sound_key None text = refl
sound_key (Some one) text = sound_given one text

sound_keyed : (text : List ℕ) → is_sound_entry (keyed text) ≡ true
sound_keyed text =
    let end : ℕ = position_or_len is_hyphen text in
    sound_if (end == length text) Unknown (given_key (parameter_of (take end text)) (drop (end + 1) text)) refl
    (sound_key (parameter_of (take end text)) (drop (end + 1) text))

sound_at : (known : Verb) (place : ℕ) (text : List ℕ) → is_sound_entry (entry_at known place text) ≡ true
sound_at verb.Load place text =
    sound_if (place == 0) (given parameter.Program text) (cond (place == 1) (given parameter.Unit text) Surplus) (sound_given parameter.Program text)
    (sound_if (place == 1) (given parameter.Unit text) Surplus (sound_given parameter.Unit text) refl)
sound_at verb.File place text = sound_keyed text
sound_at verb.Date place text = sound_if (place == 0) (given parameter.Date text) Surplus (sound_given parameter.Date text) refl
sound_at verb.Switch place text = sound_if (place == 0) (given parameter.Switches text) Surplus (sound_given parameter.Switches text) refl
sound_at verb.Run place text = refl

sound_entry : (known : Verb) (place : ℕ) (text : List ℕ) → is_sound_entry (entry_of known place text) ≡ true
sound_entry known place text = sound_if (length text == 0) Empty (entry_at known place text) refl (sound_at known place text)

abbrev is_sound_piece : Piece → Bool
is_sound_piece piece = is_sound_entry piece.entry

sound_in : (known : Verb) (number place : ℕ) (parts : List (List ℕ)) → list_all is_sound_piece (pieces_in known number place parts) ≡ true
unfolding pieces_in
sound_in known number place [] = refl
sound_in known number place (part ∷ parts) = rw (sound_entry known place part) (sound_in known number (place + 1) parts)

sound_from : (known : Verb) (number place : ℕ) (texts : List (List ℕ)) → list_all is_sound_piece (pieces_from known number place texts) ≡ true
unfolding pieces_from
sound_from known number place [] = refl
sound_from known number place (text ∷ texts) =
    list_all-append is_sound_piece (pieces_in known number place (parts_of text)) (pieces_from known (number + 1) (place + length (parts_of text)) texts)
    ∙ (rw (sound_in known number place (parts_of text)) (sound_from known (number + 1) (place + length (parts_of text)) texts))

sound_pieces : (known : Option Verb) (number : ℕ) (texts : List (List ℕ)) → list_all is_sound_piece (pieces_of known number texts) ≡ true
sound_pieces None number texts = refl
sound_pieces (Some known) number texts = sound_from known number 0 texts

sound_statement : (number : ℕ) (card : List ℕ) (cards : List (List ℕ)) → list_all is_sound_piece (statement_at number card cards).pieces ≡ true
unfolding statement_at
sound_statement number card cards = sound_pieces (verb_of (first_word card)) number (texts_of card cards)

found_sound : (test : Piece → Bool) (pieces : List Piece) (piece : Piece) → list_all is_sound_piece pieces ≡ true → find test pieces ≡ Some piece
    → (is_sound_piece piece ≡ true) × (test piece ≡ true)
found_sound test [] piece all h = cc
found_sound test (x ∷ pieces) piece all h = go (test x) refl h (both_true (is_sound_piece x) (list_all is_sound_piece pieces) all) (found_sound test pieces piece)
  where
    go : (t : Bool) → test x ≡ t → cond t (Some x) (find test pieces) ≡ Some piece → (is_sound_piece x ≡ true) × (list_all is_sound_piece pieces ≡ true)
        → (list_all is_sound_piece pieces ≡ true → find test pieces ≡ Some piece → (is_sound_piece piece ≡ true) × (test piece ≡ true))
        → (is_sound_piece piece ≡ true) × (test piece ≡ true)
    go true e f both more =
        let same : x ≡ piece = (let g : Some x ≡ Some piece = f in cc) in
        (subst (λ (y : Piece). is_sound_piece y ≡ true) same both.0, subst (λ (y : Piece). test y ≡ true) same e)
    go false e f both more = more both.1 f

entry_value : (one : Parameter) (entry : Entry) (value : Value) → is_sound_entry entry ≡ true → is_parameter one (stands_at entry) ≡ true → right_value entry ≡ Some value
    → is_sound_value one value ≡ true
entry_value one Empty value sound is h = cc
entry_value one Unknown value sound is h = cc
entry_value one Surplus value sound is h = cc
entry_value one (Missing given) value sound is h = cc
entry_value one (Wrong given) value sound is h = cc
entry_value one (Right given given_value) value sound is h =
    let same : rank given ≡ rank one = eqb-true (rank given) (rank one) is in
    let w : given_value ≡ value = cc in
    subst (λ (v : Value). is_sound_value one v ≡ true) w (subst (λ (n : ℕ). is_sound_ranked n given_value ≡ true) same sound)

then_some : {X Y : Type 0} (f : X → Option Y) (o : Option X) (y : Y) → option_and_then f o ≡ Some y → (x : X) × (o ≡ Some x) × (f x ≡ Some y)
then_some f None y h = cc
then_some f (Some x) y h = (x, refl, h)

value_in_sound : (one : Parameter) (pieces : List Piece) (value : Value) → list_all is_sound_piece pieces ≡ true → value_in one pieces ≡ Some value → is_sound_value one value ≡ true
value_in_sound one pieces value all h =
    let found = then_some (λ (piece : Piece). right_value piece.entry) (find (gives one) pieces) value h in
    let piece = found_sound (gives one) pieces found.0 all found.1 in
    entry_value one found.0.entry value piece.0 piece.1 found.2

named_sound : (value : Value) (name : Name) → is_sound_name value ≡ true → named value ≡ Some name → is_padded_name name ≡ true
named_sound (Named other) name sound h = (let same : other ≡ name = cc in subst (λ (n : Name). is_padded_name n ≡ true) same sound)
named_sound (Count n) name sound h = cc
named_sound (Kept r) name sound h = cc
named_sound (Dated d) name sound h = cc
named_sound (Set s) name sound h = cc
named_sound Checked name sound h = cc

counted_sound : (limit : ℕ) (value : Value) (n : ℕ) → is_sound_count limit value ≡ true → count value ≡ Some n → is_between 1 limit n ≡ true
counted_sound limit (Named other) n sound h = cc
counted_sound limit (Count m) n sound h = (let same : m ≡ n = cc in subst (λ (k : ℕ). is_between 1 limit k ≡ true) same sound)
counted_sound limit (Kept r) n sound h = cc
counted_sound limit (Dated d) n sound h = cc
counted_sound limit (Set s) n sound h = cc
counted_sound limit Checked n sound h = cc

dated_sound : (value : Value) (digits : List ℕ) → is_dated_soundly value ≡ true → value_date value ≡ Some digits → list_all is_digit digits ≡ true
dated_sound (Named other) digits sound h = cc
dated_sound (Count m) digits sound h = cc
dated_sound (Kept r) digits sound h = cc
dated_sound (Dated others) digits sound h = (let same : others ≡ digits = cc in subst (λ (l : List ℕ). list_all is_digit l ≡ true) same sound)
dated_sound (Set s) digits sound h = cc
dated_sound Checked digits sound h = cc

date_in_sound : (pieces : List Piece) → list_all is_sound_piece pieces ≡ true → is_sound_date (date_in pieces) ≡ true
date_in_sound pieces all = by (date_in pieces) refl
  where
    by : (o : Option (List ℕ)) → date_in pieces ≡ o → is_sound_date o ≡ true
    by None e = refl
    by (Some digits) e =
        let v = then_some value_date (value_in parameter.Date pieces) digits e in
        dated_sound v.0 digits (value_in_sound parameter.Date pieces v.0 all v.1) v.2

file_name_sound : (pieces : List Piece) (name : Name) → list_all is_sound_piece pieces ≡ true → name_in parameter.FileName pieces ≡ Some name → is_padded_name name ≡ true
file_name_sound pieces name all h =
    let v = then_some named (value_in parameter.FileName pieces) name h in
    named_sound v.0 name (value_in_sound parameter.FileName pieces v.0 all v.1) v.2

label_sound : (pieces : List Piece) (name : Name) (o : Option Name) → list_all is_sound_piece pieces ≡ true → is_padded_name name ≡ true → name_in parameter.Label pieces ≡ o
    → is_padded_name (unwrap_or o name) ≡ true
label_sound pieces name None all sound e = sound
label_sound pieces name (Some label) all sound e =
    let v = then_some named (value_in parameter.Label pieces) label e in
    named_sound v.0 label (value_in_sound parameter.Label pieces v.0 all v.1) v.2

size_sound : (pieces : List Piece) (records tracks : Option ℕ) → list_all is_sound_piece pieces ≡ true → count_in parameter.Records pieces ≡ records → count_in parameter.Tracks pieces ≡ tracks
    → is_size (size_of records tracks) ≡ true
size_sound pieces (Some records) tracks all e f =
    let v = then_some count (value_in parameter.Records pieces) records e in
    counted_sound 999999 v.0 records (value_in_sound parameter.Records pieces v.0 all v.1) v.2
size_sound pieces None (Some tracks) all e f =
    let v = then_some count (value_in parameter.Tracks pieces) tracks f in
    counted_sound 999 v.0 tracks (value_in_sound parameter.Tracks pieces v.0 all v.1) v.2
size_sound pieces None None all e f = refl

file_sound : (pieces : List Piece) (name : Name) → list_all is_sound_piece pieces ≡ true → is_padded_name name ≡ true → is_sound_file (file_with pieces name) ≡ true
file_sound pieces name all sound =
    rw (sound, label_sound pieces name (name_in parameter.Label pieces) all sound refl)
    (size_sound pieces (count_in parameter.Records pieces) (count_in parameter.Tracks pieces) all refl refl)

one_file : (pieces : List Piece) (o : Option Name) (files : List FileStatement) → list_all is_sound_piece pieces ≡ true → name_in parameter.FileName pieces ≡ o
    → list_all is_sound_file files ≡ true → list_all is_sound_file (cons_option (option_map (file_with pieces) o) files) ≡ true
one_file pieces None files all e more = more
one_file pieces (Some name) files all e more = rw (file_sound pieces name all (file_name_sound pieces name all e)) more

sound_files : (turns number : ℕ) (cards : List (List ℕ)) → list_all is_sound_file (files_of (statements_within turns number cards)) ≡ true
unfolding statements_within
sound_files zero number cards = refl
sound_files (suc turns) number [] = refl
sound_files (suc turns) number (card ∷ cards) =
    go (is_statement card) (is_verb verb.Run (statement_at number card cards).verb)
    (sound_files turns (number + (statement_at number card cards).cards) (drop (statement_at number card cards).cards (card ∷ cards)))
  where
    go : (t r : Bool) → list_all is_sound_file (files_of (statements_within turns (number + (statement_at number card cards).cards) (drop (statement_at number card cards).cards (card ∷ cards)))) ≡ true
        → list_all is_sound_file (files_of (cond t (statement_at number card cards ∷ cond r [] (statements_within turns (number + (statement_at number card cards).cards) (drop (statement_at number card cards).cards (card ∷ cards)))) [])) ≡ true
    go false r more = refl
    go true true more = one_file (statement_at number card cards).pieces (name_in parameter.FileName (statement_at number card cards).pieces) [] (sound_statement number card cards) refl refl
    go true false more = one_file (statement_at number card cards).pieces (name_in parameter.FileName (statement_at number card cards).pieces) _ (sound_statement number card cards) refl more

first_date : (one rest : Option (List ℕ)) → is_sound_date one ≡ true → is_sound_date rest ≡ true → is_sound_date (option_or one rest) ≡ true
first_date None rest sound more = more
first_date (Some digits) rest sound more = sound

sound_dates : (turns number : ℕ) (cards : List (List ℕ)) → is_sound_date (date_of (statements_within turns number cards)) ≡ true
unfolding statements_within first_in
sound_dates zero number cards = refl
sound_dates (suc turns) number [] = refl
sound_dates (suc turns) number (card ∷ cards) =
    go (is_statement card) (is_verb verb.Run (statement_at number card cards).verb)
    (sound_dates turns (number + (statement_at number card cards).cards) (drop (statement_at number card cards).cards (card ∷ cards)))
  where
    here : is_sound_date (date_in (statement_at number card cards).pieces) ≡ true
    here = date_in_sound (statement_at number card cards).pieces (sound_statement number card cards)

    go : (t r : Bool) → is_sound_date (date_of (statements_within turns (number + (statement_at number card cards).cards) (drop (statement_at number card cards).cards (card ∷ cards)))) ≡ true
        → is_sound_date (date_of (cond t (statement_at number card cards ∷ cond r [] (statements_within turns (number + (statement_at number card cards).cards) (drop (statement_at number card cards).cards (card ∷ cards)))) [])) ≡ true
    go false r more = refl
    go true true more = first_date (date_in (statement_at number card cards).pieces) None here refl
    go true false more = first_date (date_in (statement_at number card cards).pieces) _ here more

-- the date of a job without errors is in range
dated_job : (cards : List (List ℕ)) (place : ℕ) (job : Job) → job_at cards place ≡ Ok job → is_sound_date job.date ≡ true
unfolding job_at
dated_job cards place job h = go _ h
  where
    go : (o : Option Mark) → job_or_fault cards (heading_at cards place) (place + cards_of (heading_at cards place)) o ≡ Ok job → is_sound_date job.date ≡ true
    go None e =
        let same : job_with cards (heading_at cards place) (place + cards_of (heading_at cards place)) ≡ job = cc in
        subst (λ (j : Job). is_sound_date j.date ≡ true) same (sound_dates (length (drop place cards)) (place + 1) (drop place cards))
    go (Some mark) e = cc

-- the date of a job that a call returned is in range
pub dated_result : (cards : List (List ℕ)) (place : ℕ) (result : Result Job OclFault) → Gives result (job_at cards place)
    → IfOk result (λ job. is_sound_date job.date ≡ true)
dated_result cards place (Ok job) gives = dated_job cards place job gives
dated_result cards place (Err fault) gives = tt

-- the files of a job without errors are in range
sound_job : (cards : List (List ℕ)) (place : ℕ) (job : Job) → job_at cards place ≡ Ok job → list_all is_sound_file job.files ≡ true
unfolding job_at
sound_job cards place job h = go _ h
  where
    go : (o : Option Mark) → job_or_fault cards (heading_at cards place) (place + cards_of (heading_at cards place)) o ≡ Ok job → list_all is_sound_file job.files ≡ true
    go None e =
        let same : job_with cards (heading_at cards place) (place + cards_of (heading_at cards place)) ≡ job = cc in
        subst (λ (j : Job). list_all is_sound_file j.files ≡ true) same (sound_files (length (drop place cards)) (place + 1) (drop place cards))
    go (Some mark) e = cc

-- the files of a job that a call returned are in range
pub sound_result : (cards : List (List ℕ)) (place : ℕ) (result : Result Job OclFault) → Gives result (job_at cards place)
    → IfOk result (λ job. list_all is_sound_file job.files ≡ true)
sound_result cards place (Ok job) gives = sound_job cards place job gives
sound_result cards place (Err fault) gives = tt
