-- Lines of a dump are read as the bytes from which they were written.
use Rattle.std.proofs.Common.{◌≡◌, ◌≢◌, ℕ, ◌+◌, ◌-◌, ◌*◌, ◌/◌, ◌%◌, ◌<◌, ◌≤◌, ◌^◌, refl, arith, sym, ◌∙◌, ap, subst, Bool, true, false, cond, ◌==◌, ◌&&◌, List, [], ◌∷◌, ◌++◌, length, take, drop, get_or, replicate, inl, inr}
use Rattle.std.specs.Prelude.{Some, None, nat_le, decimal, min}
use Rattle.std.specs.List.{fold}
use Rattle.std.proofs.Math.Seq.{take-add}
use Rattle.std.proofs.lemmas.Bool.{and_from, cases_Bool, le-leb, leb-true, lt-ltb, ne_eqb}
use Rattle.std.proofs.lemmas.Fmt.{decimal_by_steps}
use Rattle.std.proofs.lemmas.List.{append-nil, append_assoc, drop_all, drop_more, length-append, length-drop, length-replicate, length-take-le, replicate-append-replicate, take-append-drop, take_all, take_more}
use Rattle.std.proofs.lemmas.List.Sums.{fold-append}
use Rattle.s3_cards.specs.Codes.{code_page, ebcdic_of}
use Rattle.s3_dump.specs.Inner.Dumps.{begun, hex_value, in_codes, in_index, in_zeros, most_number, most_zeros, moved_on, no_numbers, restored, step, whole, with_high, with_index, with_low, with_number}
use Rattle.s3_dump.specs.Inner.Indexes.{index_of}
use Rattle.s3_dump.specs.Inner.Writing.{AddsBytes, AddsFirst, AddsIndex, AddsLines, AddsNext, IsIndexAt, IsIndexOf, IsUpTo, Keeps, StandsFor, reads}
use Rattle.s3_dump.specs.declared.index.IndexLine.{IndexLine}
use Rattle.s3_dump.specs.declared.reading.Mode.{Mode}
use Rattle.s3_dump.specs.declared.reading.Mode.TheVariants.{Start, Note, Zeros, Codes, High, Low, End, Index}
use Rattle.s3_dump.specs.declared.writing.Writer.{Writer}

leb_false : (a b : ℕ) → b < a → nat_le a b ≡ false
leb_false a b more = elim (cases_Bool (nat_le a b)) [ inl is ↦ absurd (let e = leb-true a b is in omega (arith, e, more)) | inr other ↦ other ]

and_false : (a b : Bool) → b ≡ false → (a && b) ≡ false
and_false true b h = h
and_false false b h = refl

-- ---- texts that go on
reads_on : (text more : List ℕ) (mode next : Mode) (bytes after : List ℕ) → reads text mode bytes → fold step (Some (record { mode = mode; bytes = bytes })) more ≡ Some (record { mode = next; bytes = after }) → reads (text ++ more) next after
reads_on text more mode next bytes after before on = fold-append step (Some begun) text more ∙ ap (λ s. fold step s more) before ∙ on

pub adds_nothing : (text : List ℕ) → AddsLines text text []
adds_nothing text = λ before read. subst (reads text Start) (sym (append-nil before)) read

adds_then : (old mid new one other : List ℕ) → AddsLines old mid one → AddsLines mid new other → AddsLines old new (one ++ other)
adds_then old mid new one other first second = λ before read. subst (reads new Start) (append_assoc before one other) (second (before ++ one) (first before read))

-- ---- notes
pub note_begun : (text first second : List ℕ) → first ≡ text ++ 35 ∷ [] → second ≡ first ++ 32 ∷ [] → (before : List ℕ) → reads text Start before → reads second Note before
note_begun text first second a b before read =
    subst (λ t. reads t Note before) (sym b) (reads_on first (32 ∷ []) Note Note before before (subst (λ t. reads t Note before) (sym a) (reads_on text (35 ∷ []) Start Note before before read refl)) refl)

pub one_more_noted : (text more : List ℕ) (c : ℕ) (before : List ℕ) → c ≢ 10 → more ≡ text ++ c ∷ [] → reads text Note before → reads more Note before
one_more_noted text more c before other is read =
    subst (λ t. reads t Note before) (sym is) (reads_on text (c ∷ []) Note Note before before read (ap (λ b. cond b (Some (record { mode = Start; bytes = before })) (Some (record { mode = Note; bytes = before }))) (ne_eqb c 10 other)))

note_ended : (text more before : List ℕ) → more ≡ text ++ 10 ∷ [] → reads text Note before → reads more Start before
note_ended text more before is read = subst (λ t. reads t Start before) (sym is) (reads_on text (10 ∷ []) Note Start before before read refl)

pub note_read : (old text new : List ℕ) → ((before : List ℕ) → reads old Start before → reads text Note before) → new ≡ text ++ 10 ∷ [] → AddsLines old new []
note_read old text new noted is = λ before read. subst (reads new Start) (sym (append-nil before)) (note_ended text new before is (noted before read))

-- ---- codes
no_end : ebcdic_of 93 ≡ None
unfolding code_page
no_end = refl

no_escape : ebcdic_of 92 ≡ None
unfolding code_page
no_escape = refl

not_of : (c code d : ℕ) → ebcdic_of c ≡ Some code → ebcdic_of d ≡ None → (c == d) ≡ false
not_of c code d is none = ne_eqb c d (λ same. absurd (let e : Some code ≡ None = sym is ∙ ap ebcdic_of same ∙ none in cc))

character_step : (c code : ℕ) (bytes : List ℕ) → ebcdic_of c ≡ Some code → in_codes c bytes ≡ Some (record { mode = Codes; bytes = bytes ++ code ∷ [] })
character_step c code bytes is = rw (not_of c code 93 is no_end, not_of c code 92 is no_escape, is) refl

pub character_read : (text more : List ℕ) (c code : ℕ) → ebcdic_of c ≡ Some code → more ≡ text ++ c ∷ [] → (before : List ℕ) → reads text Codes before → reads more Codes (before ++ code ∷ [])
character_read text more c code known is before read =
    subst (λ t. reads t Codes (before ++ code ∷ [])) (sym is) (reads_on text (c ∷ []) Codes Codes before (before ++ code ∷ []) read (character_step c code before known))

pub low_digit : (n c : ℕ) → n < 10 → c ≡ 48 + n → hex_value c ≡ Some n
low_digit n c few is =
    let within : (nat_le 48 c && nat_le c 57) ≡ true = and_from (nat_le 48 c) (nat_le c 57) (le-leb 48 c (omega (arith, is))) (le-leb c 57 (omega (arith, is, few))) in
    let value : c - 48 ≡ n = omega (arith, is) in
    rw (within, value) refl

pub high_digit : (n c : ℕ) → 10 ≤ n → n < 16 → c ≡ 65 + (n - 10) → hex_value c ≡ Some n
high_digit n c some few is =
    let past : nat_le c 57 ≡ false = leb_false c 57 (omega (arith, is)) in
    let not_low : (nat_le 48 c && nat_le c 57) ≡ false = and_false (nat_le 48 c) (nat_le c 57) past in
    let within : (nat_le 65 c && nat_le c 70) ≡ true = and_from (nat_le 65 c) (nat_le c 70) (le-leb 65 c (omega (arith, is))) (le-leb c 70 (omega (arith, is, few, some))) in
    let value : c - 55 ≡ n = omega (arith, is, some) in
    rw (not_low, within, value) refl

high_step : (c high : ℕ) (bytes : List ℕ) → hex_value c ≡ Some high → step (Some (record { mode = High; bytes = bytes })) c ≡ Some (record { mode = Low high; bytes = bytes })
high_step c high bytes is = ap (λ v. with_high v bytes) is

low_step : (c high low byte : ℕ) (bytes : List ℕ) → high < 16 → hex_value c ≡ Some low → byte ≡ high * 16 + low → step (Some (record { mode = Low high; bytes = bytes })) c ≡ Some (record { mode = Codes; bytes = bytes ++ byte ∷ [] })
low_step c high low byte bytes few is sum =
    ap (λ v. with_low high v bytes) is ∙ ap (λ b. cond b (Some (record { mode = Codes; bytes = bytes ++ (high * 16 + low) ∷ [] })) None) (lt-ltb high 16 few)
    ∙ ap (λ n. Some (record { mode = Codes; bytes = bytes ++ n ∷ [] })) (sym sum)

pub digits_read : (text one two three : List ℕ) (first second byte : ℕ) → byte < 256 → hex_value first ≡ Some (byte / 16) → hex_value second ≡ Some (byte % 16) → one ≡ text ++ 92 ∷ [] → two ≡ one ++ first ∷ [] → three ≡ two ++ second ∷ []
    → (before : List ℕ) → reads text Codes before → reads three Codes (before ++ byte ∷ [])
digits_read text one two three first second byte small is_high is_low a b c before read =
    let begun_here = subst (λ t. reads t High before) (sym a) (reads_on text (92 ∷ []) Codes High before before read refl) in
    let half = subst (λ t. reads t (Low (byte / 16)) before) (sym b) (reads_on one (first ∷ []) High (Low (byte / 16)) before before begun_here (high_step first (byte / 16) before is_high)) in
    subst (λ t. reads t Codes (before ++ byte ∷ [])) (sym c) (reads_on two (second ∷ []) (Low (byte / 16)) Codes before (before ++ byte ∷ []) half (low_step second (byte / 16) (byte % 16) byte before (omega arith) is_low (omega arith)))

-- so many codes of a line are written
abbrev pub CodesTo : (old text bytes : List ℕ) (count : ℕ) → Type 0
CodesTo old text bytes count = (before : List ℕ) → reads old Start before → reads text Codes (before ++ take count bytes)

pub codes_begun : (old text bytes : List ℕ) → text ≡ old ++ 91 ∷ [] → CodesTo old text bytes 0
codes_begun old text bytes is = λ before read. subst (reads text Codes) (sym (append-nil before)) (subst (λ t. reads t Codes before) (sym is) (reads_on old (91 ∷ []) Start Codes before before read refl))

pub one_more_code : (old text more bytes : List ℕ) (i code : ℕ) → i < length bytes → code ≡ get_or bytes i code → CodesTo old text bytes i → ((before : List ℕ) → reads text Codes before → reads more Codes (before ++ code ∷ [])) → CodesTo old more bytes (i + 1)
one_more_code old text more bytes i code h is to one = λ before read.
    subst (reads more Codes) (append_assoc before (take i bytes) (code ∷ []) ∙ ap (λ l. before ++ l) (ap (λ c. take i bytes ++ c ∷ []) is ∙ sym (take_more bytes i code h))) (one (before ++ take i bytes) (to before read))

pub codes_ended : (old text first new bytes : List ℕ) (i : ℕ) → length bytes ≤ i → CodesTo old text bytes i → first ≡ text ++ 93 ∷ [] → new ≡ first ++ 10 ∷ [] → AddsLines old new bytes
codes_ended old text first new bytes i h to a b = λ before read.
    let all = subst (λ l. reads text Codes (before ++ l)) (take_all i bytes h) (to before read) in
    let ended = subst (λ t. reads t End (before ++ bytes)) (sym a) (reads_on text (93 ∷ []) Codes End (before ++ bytes) (before ++ bytes) all refl) in
    subst (λ t. reads t Start (before ++ bytes)) (sym b) (reads_on first (10 ∷ []) End Start (before ++ bytes) (before ++ bytes) ended refl)

-- ---- zeros
zeros_step : (count d c : ℕ) (bytes : List ℕ) → d < 10 → c ≡ 48 + d → count * 10 + d ≤ most_zeros → in_zeros count c bytes ≡ Some (record { mode = Zeros (count * 10 + d); bytes = bytes })
zeros_step count d c bytes few is most =
    let other : (c == 10) ≡ false = ne_eqb c 10 (λ e. absurd (omega (arith, is, e))) in
    let value : c - 48 ≡ d = omega (arith, is) in
    let digit_is = and_from (nat_le 48 c) (nat_le c 57) (le-leb 48 c (omega (arith, is))) (le-leb c 57 (omega (arith, is, few))) in
    let short = and_from (nat_le 48 c && nat_le c 57) (nat_le count most_zeros) digit_is (le-leb count most_zeros (omega (arith, most))) in
    let all = and_from (nat_le 48 c && nat_le c 57 && nat_le count most_zeros) (nat_le (count * 10 + (c - 48)) most_zeros) short (le-leb (count * 10 + (c - 48)) most_zeros (omega (arith, most, value))) in
    rw (other, all, value) refl

abbrev ReadAs : ℕ → List ℕ → Type 0
ReadAs n digits = (bytes : List ℕ) → n ≤ most_zeros → fold step (Some (record { mode = Zeros 0; bytes = bytes })) digits ≡ Some (record { mode = Zeros n; bytes = bytes })

one_digit : (n : ℕ) → n < 10 → ReadAs n ((48 + n) ∷ [])
one_digit n few = λ bytes most. let all : 0 * 10 + n ≡ n = omega arith in zeros_step 0 n (48 + n) bytes few refl (omega (arith, most)) ∙ ap (λ k. Some (record { mode = Zeros k; bytes = bytes })) all

more_digits : (n : ℕ) (digits : List ℕ) → 10 ≤ n → ReadAs (n / 10) digits → ReadAs n (digits ++ ((48 + n % 10) ∷ []))
more_digits n digits some before = λ bytes most.
    let all : n / 10 * 10 + n % 10 ≡ n = omega arith in
    fold-append step (Some (record { mode = Zeros 0; bytes = bytes })) digits ((48 + n % 10) ∷ []) ∙ ap (λ s. step s (48 + n % 10)) (before bytes (omega (arith, most)))
    ∙ zeros_step (n / 10) (n % 10) (48 + n % 10) bytes (omega arith) refl (omega (arith, all, most)) ∙ ap (λ k. Some (record { mode = Zeros k; bytes = bytes })) all

number_read : (n : ℕ) → n ≤ most_zeros → ReadAs n (decimal n)
number_read n most = decimal_by_steps ReadAs one_digit more_digits n (omega (arith, most))

pub run_read : (old first second new : List ℕ) (count : ℕ) → count ≤ most_zeros → first ≡ old ++ 42 ∷ [] → second ≡ first ++ decimal count → new ≡ second ++ 10 ∷ [] → AddsLines old new (replicate count 0)
run_read old first second new count most a b c = λ before read.
    let star = subst (λ t. reads t (Zeros 0) before) (sym a) (reads_on old (42 ∷ []) Start (Zeros 0) before before read refl) in
    let counted = subst (λ t. reads t (Zeros count) before) (sym b) (reads_on first (decimal count) (Zeros 0) (Zeros count) before before star (number_read count most before most)) in
    subst (λ t. reads t Start (before ++ replicate count 0)) (sym c) (reads_on second (10 ∷ []) (Zeros count) Start before (before ++ replicate count 0) counted refl)

-- ---- an index
index_step : (blanks number d c : ℕ) (line : IndexLine) (bytes : List ℕ) → d < 10 → c ≡ 48 + d → number * 10 + d ≤ most_number → in_index blanks (with_number line number) c bytes ≡ Some (record { mode = Index blanks (with_number line (number * 10 + d)); bytes = bytes })
index_step blanks number d c line bytes few is most =
    let other : (c == 10) ≡ false = ne_eqb c 10 (λ e. absurd (omega (arith, is, e))) in
    let no_blank : (c == 32) ≡ false = ne_eqb c 32 (λ e. absurd (omega (arith, is, e))) in
    let value : c - 48 ≡ d = omega (arith, is) in
    let digit_is = and_from (nat_le 48 c) (nat_le c 57) (le-leb 48 c (omega (arith, is))) (le-leb c 57 (omega (arith, is, few))) in
    let short = and_from (nat_le 48 c && nat_le c 57) (nat_le number most_number) digit_is (le-leb number most_number (omega (arith, most))) in
    let all = and_from (nat_le 48 c && nat_le c 57 && nat_le number most_number) (nat_le (number * 10 + (c - 48)) most_number) short (le-leb (number * 10 + (c - 48)) most_number (omega (arith, most, value))) in
    rw (other, no_blank, all, value) refl

abbrev CountedAs : ℕ → List ℕ → Type 0
CountedAs n digits = (blanks : ℕ) (line : IndexLine) (bytes : List ℕ) → n ≤ most_number → fold step (Some (record { mode = Index blanks (with_number line 0); bytes = bytes })) digits ≡ Some (record { mode = Index blanks (with_number line n); bytes = bytes })

first_digit : (n : ℕ) → n < 10 → CountedAs n ((48 + n) ∷ [])
first_digit n few = λ blanks line bytes most.
    let all : 0 * 10 + n ≡ n = omega arith in
    index_step blanks 0 n (48 + n) line bytes few refl (omega (arith, most)) ∙ ap (λ k. Some (record { mode = Index blanks (with_number line k); bytes = bytes })) all

later_digit : (n : ℕ) (digits : List ℕ) → 10 ≤ n → CountedAs (n / 10) digits → CountedAs n (digits ++ ((48 + n % 10) ∷ []))
later_digit n digits some before = λ blanks line bytes most.
    let all : n / 10 * 10 + n % 10 ≡ n = omega arith in
    fold-append step (Some (record { mode = Index blanks (with_number line 0); bytes = bytes })) digits ((48 + n % 10) ∷ []) ∙ ap (λ s. step s (48 + n % 10)) (before blanks line bytes (omega (arith, most)))
    ∙ index_step blanks (n / 10) (n % 10) (48 + n % 10) line bytes (omega arith) refl (omega (arith, all, most)) ∙ ap (λ k. Some (record { mode = Index blanks (with_number line k); bytes = bytes })) all

counted : (n : ℕ) → n ≤ most_number → CountedAs n (decimal n)
counted n most = decimal_by_steps CountedAs first_digit later_digit n (omega (arith, most))

pub first_read : (old mid new : List ℕ) (number wide : ℕ) → number ≤ most_number → wide ≡ number → mid ≡ old ++ 61 ∷ [] → new ≡ mid ++ decimal wide → AddsFirst number old new
first_read old mid new number wide most same a is = λ before read.
    let b : new ≡ mid ++ decimal number = is ∙ ap (λ n. mid ++ decimal n) same in
    let begins = subst (λ t. reads t (Index 0 no_numbers) before) (sym a) (reads_on old (61 ∷ []) Start (Index 0 no_numbers) before before read refl) in
    subst (λ t. reads t (Index 0 (with_number no_numbers number)) before) (sym b)
    (reads_on mid (decimal number) (Index 0 no_numbers) (Index 0 (with_number no_numbers number)) before before begins (counted number most 0 no_numbers before most))

pub next_read : (old mid new : List ℕ) (number wide : ℕ) → number ≤ most_number → wide ≡ number → mid ≡ old ++ 32 ∷ [] → new ≡ mid ++ decimal wide → AddsNext number old new
next_read old mid new number wide most same a is = λ blanks line before few read.
    let b : new ≡ mid ++ decimal number = is ∙ ap (λ n. mid ++ decimal n) same in
    let moves : in_index blanks line 32 before ≡ Some (record { mode = Index (blanks + 1) (moved_on line); bytes = before }) =
    ap (λ t. cond t (Some (record { mode = Index (blanks + 1) (moved_on line); bytes = before })) None) (lt-ltb blanks 4 few) in
    let begins = subst (λ t. reads t (Index (blanks + 1) (moved_on line)) before) (sym a) (reads_on old (32 ∷ []) (Index blanks line) (Index (blanks + 1) (moved_on line)) before before read moves) in
    subst (λ t. reads t (Index (blanks + 1) (with_number (moved_on line) number)) before) (sym b)
    (reads_on mid (decimal number) (Index (blanks + 1) (moved_on line)) (Index (blanks + 1) (with_number (moved_on line) number)) before before begins (counted number most (blanks + 1) (moved_on line) before most))

pub index_read : (line : IndexLine) (old one two three four five new : List ℕ) → AddsFirst line.count old one → AddsNext line.record_length one two → AddsNext line.sectors two three → AddsNext line.key_start three four → AddsNext line.key_length four five
    → new ≡ five ++ 10 ∷ [] → AddsIndex line old new
index_read line old one two three four five new first second third fourth fifth ended = λ before index is read.
    let first_line = with_number no_numbers line.count in
    let second_line = with_number (moved_on first_line) line.record_length in
    let third_line = with_number (moved_on second_line) line.sectors in
    let fourth_line = with_number (moved_on third_line) line.key_start in
    let all : reads five (Index 4 line) before = fifth 3 fourth_line before (omega arith) (fourth 2 third_line before (omega arith) (third 1 second_line before (omega arith) (second 0 first_line before (omega arith) (first before read)))) in
    let ends : in_index 4 line 10 before ≡ Some (record { mode = Start; bytes = before ++ index }) = ap (λ i. with_index i before) is in
    subst (λ t. reads t Start (before ++ index)) (sym ended) (reads_on five (10 ∷ []) (Index 4 line) Start before (before ++ index) all ends)

-- runs of all but so many zeros are written
abbrev pub ZerosTo : (old text : List ℕ) (run left : ℕ) → Type 0
ZerosTo old text run left = AddsLines old text (replicate (run - left) 0)

pub no_run : (old : List ℕ) (run : ℕ) → ZerosTo old old run run
no_run old run = let none : 0 ≡ run - run = omega arith in subst (λ n. AddsLines old old (replicate n 0)) none (adds_nothing old)

pub one_more_run : (old text more : List ℕ) (run left count : ℕ) → left ≤ run → count ≤ left → ZerosTo old text run left → AddsLines text more (replicate count 0) → ZerosTo old more run (left - count)
one_more_run old text more run left count few some before one =
    let sum : run - left + count ≡ run - (left - count) = omega (arith, few, some) in
    subst (λ l. AddsLines old more l) (replicate-append-replicate (run - left) count 0 ∙ ap (λ n. replicate n 0) sum) (adds_then old text more (replicate (run - left) 0) (replicate count 0) before one)

pub all_runs : (old text : List ℕ) (run left : ℕ) → left ≡ 0 → ZerosTo old text run left → AddsLines old text (replicate run 0)
all_runs old text run left none to = let all : run - left ≡ run = omega (arith, none) in subst (λ n. AddsLines old text (replicate n 0)) all to

-- ---- the bytes of a pack
pub none_taken : (pack : List ℕ) (place : ℕ) → take (place + 0) pack ≡ take place pack ++ []
none_taken pack place = let same : place + 0 ≡ place = omega arith in ap (λ n. take n pack) same ∙ sym (append-nil (take place pack))

pub part_taken : (pack bytes : List ℕ) (place end : ℕ) → place < end → end ≤ length pack → bytes ≡ take (end - place) (drop place pack) → take (place + length bytes) pack ≡ take place pack ++ bytes
part_taken pack bytes place end some within is =
    let long : length bytes ≡ end - place = ap length is ∙ length-take-le (end - place) (drop place pack) (omega (arith, length-drop place pack, within)) in
    ap (λ n. take (place + n) pack) long ∙ take-add place (end - place) pack ∙ ap (λ l. take place pack ++ l) (sym is)

pub no_zeros : (bytes : List ℕ) → drop (length bytes) bytes ≡ replicate (length bytes - length bytes) 0
no_zeros bytes = let none : 0 ≡ length bytes - length bytes = omega arith in drop_all (length bytes) bytes (omega arith) ∙ ap (λ n. replicate n 0) none

pub one_more_zero : (bytes : List ℕ) (used : ℕ) → 0 < used → used ≤ length bytes → get_or bytes (used - 1) 0 ≡ 0 → drop used bytes ≡ replicate (length bytes - used) 0 → drop (used - 1) bytes ≡ replicate (length bytes - (used - 1)) 0
one_more_zero bytes used some within zero before =
    let next : used - 1 + 1 ≡ used = omega (arith, some) in
    let longer : 1 + (length bytes - used) ≡ length bytes - (used - 1) = omega (arith, some, within) in
    drop_more bytes (used - 1) 0 (omega (arith, some, within)) ∙ ap (λ b. b ∷ drop (used - 1 + 1) bytes) zero ∙ ap (λ n. 0 ∷ drop n bytes) next ∙ ap (λ l. 0 ∷ l) before
    ∙ replicate-append-replicate 1 (length bytes - used) 0 ∙ ap (λ n. replicate n 0) longer

-- ---- the writer
pub nothing_yet : (pack : List ℕ) (writer : Writer) → writer.pack.now ≡ pack → writer.place ≡ 0 → writer.zeros ≡ 0 → writer.text.items ≡ [] → IsUpTo pack writer
nothing_yet pack writer of_pack place run text = record {
  of_pack = of_pack;
  within = omega (arith, place);
  stands = record { before = []; lines = subst (λ t. reads t Start []) (sym text) refl; all = ap (λ n. replicate n 0) run ∙ ap (λ n. take n pack) (sym place) };
}

-- lines of the zeros that had none
stands_now : (old mid : List ℕ) (run : ℕ) (bytes : List ℕ) → AddsLines old mid (replicate run 0) → StandsFor old run bytes → reads mid Start bytes
stands_now old mid run bytes adds stands = subst (reads mid Start) stands.all (adds stands.before stands.lines)

stands_alone : (text bytes : List ℕ) (run : ℕ) → run ≡ 0 → reads text Start bytes → StandsFor text run bytes
stands_alone text bytes run none read = record { before = bytes; lines = read; all = ap (λ n. bytes ++ replicate n 0) none ∙ append-nil bytes }

pub no_codes_added : (writer : Writer) → AddsBytes writer writer []
no_codes_added writer = record { of_pack = refl; place = refl; stands = λ before few stands. subst (StandsFor writer.text.items writer.zeros) (sym (append-nil before)) stands }

pub codes_added : (old new : Writer) (first second codes : List ℕ) → new.pack.now ≡ old.pack.now → new.place ≡ old.place → new.zeros ≡ 0
    → AddsLines old.text.items first (replicate old.zeros 0) → AddsLines first second [] → AddsLines second new.text.items codes → AddsBytes old new codes
codes_added old new first second codes of_pack place none run note line = record {
  of_pack = of_pack;
  place = place;
  stands = λ before few stands.
      let noted : reads second Start before = subst (reads second Start) (append-nil before) (note before (stands_now old.text.items first old.zeros before run stands)) in
      stands_alone new.text.items (before ++ codes) new.zeros none (line before noted);
}

zeros_fit : (before bytes : List ℕ) (run : ℕ) → before ++ replicate run 0 ≡ bytes → run ≤ length bytes
zeros_fit before bytes run all = omega (arith, ap length all, length-append before (replicate run 0), length-replicate {A = ℕ} run 0)

pub zeros_added : (old new : Writer) (count : ℕ) → new.pack.now ≡ old.pack.now → new.place ≡ old.place → new.text.items ≡ old.text.items → new.zeros ≡ min (old.zeros + count) (2 ^ 64 - 1) → AddsBytes old new (replicate count 0)
zeros_added old new count of_pack place text sum = record {
  of_pack = of_pack;
  place = place;
  stands = λ before few stands.
      let fit = zeros_fit stands.before before old.zeros stands.all in
      let exact : old.zeros + count ≡ new.zeros = omega (arith, sum, few, fit, length-replicate {A = ℕ} count 0) in
      record {
        before = stands.before;
        lines = subst (λ t. reads t Start stands.before) (sym text) stands.lines;
        all = sym (ap (λ n. stands.before ++ replicate n 0) exact) ∙ ap (λ l. stands.before ++ l) (sym (replicate-append-replicate old.zeros count 0))
            ∙ sym (append_assoc stands.before (replicate old.zeros 0) (replicate count 0)) ∙ ap (λ l. l ++ replicate count 0) stands.all;
      };
}

pub note_kept : (old new : Writer) (first : List ℕ) → new.pack.now ≡ old.pack.now → new.place ≡ old.place → new.zeros ≡ 0 → AddsLines old.text.items first (replicate old.zeros 0) → AddsLines first new.text.items [] → Keeps old new
note_kept old new first of_pack place none run note = λ pack is. record {
  of_pack = of_pack ∙ is.of_pack;
  within = subst (λ n. n ≤ length pack) (sym place) is.within;
  stands = subst (λ n. StandsFor new.text.items new.zeros (take n pack)) (sym place)
      (stands_alone new.text.items (take old.place pack) new.zeros none (subst (reads new.text.items Start) (append-nil (take old.place pack)) (note (take old.place pack) (stands_now old.text.items first old.zeros (take old.place pack) run is.stands))));
}

-- ---- the index at a place
pub index_here : (pack front index there : List ℕ) (place : ℕ) (line : IndexLine) → front ≡ take (min place (length pack)) pack → Some index ≡ index_of line front → index ≡ there
    → take (place + length there) pack ≡ take place pack ++ there → (place ≤ length pack → place + length there ≤ length pack) → length pack < 2 ^ 64 → IsIndexAt pack place line (length there)
index_here pack front index there place line prefix is same taken within short = λ inside.
    let all : min place (length pack) ≡ place = omega (arith, inside) in
    record {
      index = there;
      is = ap (index_of line) (ap (λ n. take n pack) (sym all) ∙ sym prefix) ∙ sym is ∙ ap Some same;
      there = taken;
      within = within inside;
      short = short;
    }

index_in : (one pack : List ℕ) (place long : ℕ) (line : IndexLine) → one ≡ pack → place ≤ length pack → IsIndexAt one place line long → IsIndexOf pack place line long
index_in one pack place long line same inside at = subst (λ p. IsIndexAt p place line long) same at inside

pub index_kept : (old new : Writer) (first second : List ℕ) (line : IndexLine) (long : ℕ) → new.pack.now ≡ old.pack.now → new.zeros ≡ 0 → new.place ≡ min (old.place + long) (2 ^ 64 - 1) → AddsLines old.text.items first (replicate old.zeros 0)
    → AddsLines first second [] → AddsIndex line second new.text.items → IsIndexAt old.pack.now old.place line long → Keeps old new
index_kept old new first second line long of_pack none place run note adds at = λ pack is.
    let here = index_in old.pack.now pack old.place long line is.of_pack is.within at in
    let exact : new.place ≡ old.place + long = omega (arith, place, here.within, here.short) in
    let noted : reads second Start (take old.place pack) = subst (reads second Start) (append-nil (take old.place pack)) (note (take old.place pack) (stands_now old.text.items first old.zeros (take old.place pack) run is.stands)) in
    let lines : reads new.text.items Start (take old.place pack ++ here.index) = adds (take old.place pack) here.index here.is noted in
    record {
      of_pack = of_pack ∙ is.of_pack;
      within = omega (arith, exact, here.within);
      stands = subst (λ n. StandsFor new.text.items new.zeros (take n pack)) (sym exact) (subst (StandsFor new.text.items new.zeros) (sym here.there) (stands_alone new.text.items (take old.place pack ++ here.index) new.zeros none lines));
    }

pub keeps_at : (old new : Writer) (line : IndexLine) (long : ℕ) → (IsIndexAt old.pack.now old.place line long → Keeps old new) → IsIndexAt old.pack.now old.place line long → Keeps old new
keeps_at old new line long keeps at = keeps at

-- bytes that are taken of a pack are added, and the place is after them
pub record IsTaken (pack : List ℕ) (place : ℕ) (bytes : List ℕ) : Type 0 where
  pub bytes_are : take (place + length bytes) pack ≡ take place pack ++ bytes
  pub within : place ≤ length pack → place + length bytes ≤ length pack

taken_here : (one pack : List ℕ) (place : ℕ) (bytes : List ℕ) → one ≡ pack → IsTaken one place bytes → IsTaken pack place bytes
taken_here one pack place bytes same taken = subst (λ p. IsTaken p place bytes) same taken

pub bytes_kept : (old mid new : Writer) (bytes : List ℕ) → length old.pack.now < 2 ^ 64 → IsTaken old.pack.now old.place bytes → AddsBytes old mid bytes
    → new.pack.now ≡ mid.pack.now → new.text.items ≡ mid.text.items → new.zeros ≡ mid.zeros → new.place ≡ min (mid.place + length bytes) (2 ^ 64 - 1) → Keeps old new
bytes_kept old mid new bytes short taken_old adds of_pack text run place = λ pack is.
    let taken = taken_here old.pack.now pack old.place bytes is.of_pack taken_old in
    let fits = taken.within is.within in
    let long : length pack < 2 ^ 64 = subst (λ (p : List ℕ). length p < 2 ^ 64) is.of_pack short in
    let exact : new.place ≡ old.place + length bytes = omega (arith, place, adds.place, fits, long) in
    let front : length (take old.place pack) ≡ old.place = length-take-le old.place pack is.within in
    let stands = adds.stands (take old.place pack) (omega (arith, front, fits, long)) is.stands in
    record {
      of_pack = of_pack ∙ adds.of_pack ∙ is.of_pack;
      within = omega (arith, exact, fits);
      stands = subst (λ n. StandsFor new.text.items new.zeros (take n pack)) (sym exact) (subst (StandsFor new.text.items new.zeros) (sym taken.bytes_are)
          (subst (λ t. StandsFor t new.zeros (take old.place pack ++ bytes)) (sym text) (subst (λ n. StandsFor mid.text.items n (take old.place pack ++ bytes)) (sym run) stands)));
    }

-- codes and the zeros after them
pub part_added : (old mid last : Writer) (bytes : List ℕ) (used : ℕ) → used ≤ length bytes → drop used bytes ≡ replicate (length bytes - used) 0 → AddsBytes old mid (take used bytes) → AddsBytes mid last (replicate (length bytes - used) 0) → AddsBytes old last bytes
part_added old mid last bytes used within rest first second =
    let all : take used bytes ++ replicate (length bytes - used) 0 ≡ bytes = ap (λ l. take used bytes ++ l) (sym rest) ∙ take-append-drop used bytes in
    let front = length-take-le used bytes within in
    let behind = length-replicate {A = ℕ} (length bytes - used) 0 in
    record {
      of_pack = second.of_pack ∙ first.of_pack;
      place = second.place ∙ first.place;
      stands = λ before few stands.
          let some : length before + length (take used bytes) < 2 ^ 64 = omega (arith, few, front, within) in
          let both : length (before ++ take used bytes) + length (replicate (length bytes - used) 0) < 2 ^ 64 = omega (arith, few, front, within, behind, length-append before (take used bytes)) in
          subst (StandsFor last.text.items last.zeros) (append_assoc before (take used bytes) (replicate (length bytes - used) 0) ∙ ap (λ l. before ++ l) all)
          (second.stands (before ++ take used bytes) both (first.stands before some stands));
    }

pub all_written : (writer : Writer) (first second bytes : List ℕ) → AddsLines writer.text.items first (replicate writer.zeros 0) → AddsLines first second bytes
    → take (writer.place + length bytes) writer.pack.now ≡ take writer.place writer.pack.now ++ bytes → (writer.place ≤ length writer.pack.now → length writer.pack.now ≤ length writer.pack.now → writer.place + length bytes ≡ length writer.pack.now)
    → (pack : List ℕ) → IsUpTo pack writer → restored second ≡ Some pack
all_written writer first second bytes run line taken whole_pack pack is =
    let here = is.of_pack in
    let end : writer.place + length bytes ≡ length pack = subst (λ (p : List ℕ). writer.place ≤ length p → length p ≤ length p → writer.place + length bytes ≡ length p) here whole_pack is.within (omega arith) in
    let all : take writer.place pack ++ bytes ≡ pack = sym (subst (λ (p : List ℕ). take (writer.place + length bytes) p ≡ take writer.place p ++ bytes) here taken) ∙ take_all (writer.place + length bytes) pack (omega (arith, end)) in
    ap whole (subst (reads second Start) all (line (take writer.place pack) (stands_now writer.text.items first writer.zeros (take writer.place pack) run is.stands)))

pub keeps_all : (writer : Writer) → Keeps writer writer
keeps_all writer = λ pack is. is

pub keeps_then : (old mid new : Writer) → Keeps old mid → Keeps mid new → Keeps old new
keeps_then old mid new first second = λ pack is. second pack (first pack is)

pub keeps_on : (old new : Writer) (pack : List ℕ) → Keeps old new → IsUpTo pack old → IsUpTo pack new
keeps_on old new pack keeps is = keeps pack is
