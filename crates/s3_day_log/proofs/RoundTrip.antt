-- A line that is written of an event is read as that event, and so are the lines of a log.
use Rattle.std.proofs.Common.{◌≡◌, ℕ, zero, suc, ◌^◌, ◌<◌, ◌≤◌, nat_le, Bool, true, false, ◌&&◌, List, [], ◌∷◌, ◌++◌, append_assoc, Option, Some, None, Ok, option_and_then, option_map, map, find, length, get_or, subst, refl, ap, sym, ◌∙◌, arith}
use Rattle.std.specs.Prelude.{decimal, codes, ⊤}
use Rattle.std.specs.Option.{ok_or}
use Rattle.std.specs.List.{list_all}
use Rattle.std.specs.Str.Parse.{without_leading_plus}
use Rattle.std.proofs.lemmas.Bool.{true≢false, and_parts, leb-true}
use Rattle.std.proofs.lemmas.Fmt.{parse-decimal}
use Rattle.json.specs.Json.{Json, string, object}
use Rattle.json.specs.Find.{as_str, as_object}
use Rattle.json.specs.Print.{print}
use Rattle.json.specs.Tree.{json_tokens, depth, items_depth, members_depth}
use Rattle.json.proofs.Printed.Trees.{document-print}
use Rattle.s3_cards.specs.declared.levels.LevelId.{LevelId}
use Rattle.s3_cards.specs.declared.levels.LevelId.TheVariants.{One, Two}
use Rattle.s3_cards.specs.Inner.Levels.{level_number}
use Rattle.s3_operator.specs.declared.halt_code.HaltCode.{HaltCode}
use Rattle.s3_operator.specs.declared.halt_code.HaltCode.TheVariants.{HaltIndicator, UnidentifiedRecord, ZeroDivisor, BadDigit, NoRecordFound, DuplicateKey, OutOfSequence, KeyChanged, NothingToUpdate, FileFull, KeyNotAscending, FaultyJob, NoProgram, FaultySource, NoLabel, DamagedLabel, MasterForUpdate, NoSpace, RetainedFile, DuplicateLabel, LabelMismatch, BadIndex}
use Rattle.s3_operator.specs.Table.{letters_of}
use Rattle.s3_operator.specs.Inner.Codes.{IsCodeOf, has_letters, is_shown}
use Rattle.s3_cards.proofs.NameLemmas.{equal_codes}
use Rattle.s3_day_log.specs.declared.event.JobEnd.{JobEnd}
use Rattle.s3_day_log.specs.declared.event.JobEnd.TheVariants.{Ended, Replied, PassedOver}
use Rattle.s3_day_log.specs.declared.event.JobKind.{JobKind}
use Rattle.s3_day_log.specs.declared.event.JobKind.TheVariants.{Compile, Run, Faulty}
use Rattle.s3_day_log.specs.declared.event.Replier.{Replier}
use Rattle.s3_day_log.specs.declared.event.Replier.TheVariants as by
use Rattle.s3_day_log.specs.Inner.Events.{File, Said, begins, job_begins, job_ends, halts, replies, is_cut, stops, is_left, declines, saves, ends, is_refused}
use Rattle.s3_day_log.specs.Inner.Members.{below, halt_of, level_of, number_up_to, only_or_none, or_none, read_each, shown_halts, up_to, whole_number}
use Rattle.s3_day_log.specs.Inner.Lines.{Pairs, byte_most, short_most, long_most, day_in, day_pairs, end_named, end_word, file_at, file_if_any, file_or_null, file_tree, files_tree, is_time, job_kind_if_any, job_kind_named, job_kind_or_null, job_kind_word, line_of, members_of, pairs_of, replier_named, replier_word, said_in, said_on, text_or_null, texts_tree, tree_of, whole, whole_or_null}
use Rattle.s3_day_log.specs.Inner.Logged.{ReadsBack, can_be_read, card_fits, events_in, fits, lines_ended, text_of}
use Rattle.s3_day_log.proofs.MemberLemmas.{below_parses}
use Rattle.s3_day_log.proofs.LogLemmas.{lines_of_line, lines_of_rest}
use Rattle.s3_day_log.proofs.TextLemmas.{HasDecimals, ItemsHaveDecimals, MembersHaveDecimals, numbers_of_decimals, print_inside}

-- ---- numbers
some_of : (x : Option ℕ) (e : List ℕ) (n : ℕ) → ok_or x e ≡ Ok n → x ≡ Some n
some_of None e n is = absurd cc
some_of (Some m) e n is = let same : m ≡ n = cc in ap Some same

whole_back : (n : ℕ) → n < 2 ^ 64 → whole_number (whole n) ≡ Some n
whole_back n small = some_of (below (2 ^ 64) (without_leading_plus (decimal n))) (decimal n) n (parse-decimal 64 n (decimal n) _ small small refl (below_parses (decimal n)))

up_to_back : (most n : ℕ) → nat_le n most ≡ true → most < 2 ^ 64 → option_and_then (up_to most) (whole_number (whole n)) ≡ Some n
up_to_back most n fit small = let under = leb-true n most fit in let less : n < 2 ^ 64 = omega arith in rw (whole_back n less, fit) refl

short_back : (n : ℕ) → nat_le n short_most ≡ true → option_and_then (up_to short_most) (whole_number (whole n)) ≡ Some n
short_back n fit = up_to_back short_most n fit (omega arith)

byte_back : (n : ℕ) → nat_le n byte_most ≡ true → option_and_then (up_to byte_most) (whole_number (whole n)) ≡ Some n
byte_back n fit = up_to_back byte_most n fit (omega arith)

long_back : (n : ℕ) → nat_le n long_most ≡ true → whole_number (whole n) ≡ Some n
long_back n fit = let under = leb-true n long_most fit in whole_back n (omega arith)

level_back : (level : LevelId) → option_and_then level_of (whole_number (whole (level_number level))) ≡ Some level
level_back One = rw (whole_back 1 (omega arith)) refl
level_back Two = rw (whole_back 2 (omega arith)) refl

card_back : (card : Option ℕ) → card_fits card ≡ true → option_and_then (or_none (number_up_to short_most)) (only_or_none (whole_or_null card ∷ [])) ≡ Some card
card_back None fit = refl
card_back (Some n) fit = ap (option_map Some) (short_back n fit)

-- ---- words
end_back : (over : JobEnd) → end_named (end_word over) ≡ Some over
end_back Ended = refl
end_back Replied = refl
end_back PassedOver = refl

replier_back : (who : Replier) → replier_named (replier_word who) ≡ Some who
replier_back by.Rule = refl
replier_back by.Line = refl
replier_back by.Operator = refl
replier_back by.Log = refl

job_kind_back : (what : JobKind) → job_kind_named (job_kind_word what) ≡ Some what
job_kind_back Compile = refl
job_kind_back Run = refl
job_kind_back Faulty = refl

kind_back : (what : Option JobKind) → option_and_then job_kind_if_any (option_and_then (or_none as_str) (only_or_none (job_kind_or_null what ∷ []))) ≡ Some what
kind_back None = refl
kind_back (Some what) = ap (option_map Some) (job_kind_back what)

program_back : (program : Option (List ℕ)) → option_and_then (or_none as_str) (only_or_none (text_or_null program ∷ [])) ≡ Some program
program_back None = refl
program_back (Some text) = refl

indicator_back : (n : ℕ) → (nat_le 1 n && nat_le n 9) ≡ true → halt_of (letters_of (HaltIndicator n)) ≡ Some (HaltIndicator n)
indicator_back zero shown = absurd (true≢false (sym shown))
indicator_back (suc zero) shown = refl
indicator_back (suc (suc zero)) shown = refl
indicator_back (suc (suc (suc zero))) shown = refl
indicator_back (suc (suc (suc (suc zero)))) shown = refl
indicator_back (suc (suc (suc (suc (suc zero))))) shown = refl
indicator_back (suc (suc (suc (suc (suc (suc zero)))))) shown = refl
indicator_back (suc (suc (suc (suc (suc (suc (suc zero))))))) shown = refl
indicator_back (suc (suc (suc (suc (suc (suc (suc (suc zero)))))))) shown = refl
indicator_back (suc (suc (suc (suc (suc (suc (suc (suc (suc zero))))))))) shown = refl
indicator_back (suc (suc (suc (suc (suc (suc (suc (suc (suc (suc n)))))))))) shown =
    let few = leb-true (suc (suc (suc (suc (suc (suc (suc (suc (suc (suc n)))))))))) 9 (and_parts (nat_le 1 (suc (suc (suc (suc (suc (suc (suc (suc (suc (suc n))))))))))) (nat_le (suc (suc (suc (suc (suc (suc (suc (suc (suc (suc n)))))))))) 9) shown).1 in absurd (omega arith)

pub code_back : (code : HaltCode) → is_shown code ≡ true → halt_of (letters_of code) ≡ Some code
code_back (HaltIndicator n) shown = indicator_back n shown
code_back UnidentifiedRecord shown = refl
code_back ZeroDivisor shown = refl
code_back BadDigit shown = refl
code_back NoRecordFound shown = refl
code_back DuplicateKey shown = refl
code_back OutOfSequence shown = refl
code_back KeyChanged shown = refl
code_back NothingToUpdate shown = refl
code_back FileFull shown = refl
code_back KeyNotAscending shown = refl
code_back FaultyJob shown = refl
code_back NoProgram shown = refl
code_back FaultySource shown = refl
code_back NoLabel shown = refl
code_back DamagedLabel shown = refl
code_back MasterForUpdate shown = refl
code_back NoSpace shown = refl
code_back RetainedFile shown = refl
code_back DuplicateLabel shown = refl
code_back LabelMismatch shown = refl
code_back BadIndex shown = refl

-- ---- files and lists
file_back : (file : Option File) → option_and_then file_if_any (option_and_then (or_none as_object) (only_or_none (file_or_null file ∷ []))) ≡ Some file
file_back None = refl
file_back (Some file) = refl

files_back : (files : List File) → read_each file_at (files_tree files) ≡ Some files
files_back [] = refl
files_back (file ∷ files) = rw (files_back files) refl

texts_back : (texts : List (List ℕ)) → read_each as_str (texts_tree texts) ≡ Some texts
texts_back [] = refl
texts_back (text ∷ texts) = rw (texts_back texts) refl

day_back : (words : List (List ℕ)) (pack : Option File) (deck1 deck2 : List File)
    → day_in (members_of (day_pairs (record { words = words; pack = pack; deck1 = deck1; deck2 = deck2 }))) ≡ Some (record { words = words; pack = pack; deck1 = deck1; deck2 = deck2 })
day_back words None deck1 deck2 = rw (texts_back words, files_back deck1, files_back deck2) refl
day_back words (Some pack) deck1 deck2 = rw (texts_back words, files_back deck1, files_back deck2) refl

-- ---- an event
read_back : (at : List ℕ) (said : Said) → is_time at ≡ true → fits said ≡ true → said_in (members_of ((codes "at", string at) ∷ pairs_of said)) ≡ Some said
read_back at (begins day) timed fit = rw (timed, day_back day.words day.pack day.deck1 day.deck2) refl
read_back at (job_begins job) timed fit =
    let parts = and_parts (nat_le job.job short_most) (nat_le job.card short_most) fit in
    rw (timed, level_back job.level, short_back job.job parts.0, kind_back job.kind, short_back job.card parts.1, program_back job.program) refl
read_back at (job_ends job) timed fit =
    let parts = and_parts (nat_le job.job short_most) (nat_le job.lines long_most) fit in
    rw (timed, level_back job.level, short_back job.job parts.0, long_back job.lines parts.1, end_back job.end) refl
read_back at (halts halt) timed fit =
    let outer = and_parts (nat_le halt.job short_most && is_shown halt.code) (card_fits halt.card) fit in
    let parts = and_parts (nat_le halt.job short_most) (is_shown halt.code) outer.0 in
    rw (timed, level_back halt.level, short_back halt.job parts.0, code_back halt.code parts.1, card_back halt.card outer.1) refl
read_back at (replies reply) timed fit =
    let parts = and_parts (is_shown reply.code) (nat_le reply.digit byte_most) fit in
    rw (timed, level_back reply.level, code_back reply.code parts.0, byte_back reply.digit parts.1, replier_back reply.by) refl
read_back at (is_cut level) timed fit = rw (timed, level_back level) refl
read_back at stops timed fit = rw timed refl
read_back at (is_left left) timed fit = rw (timed, level_back left.level, card_back left.job fit, program_back left.from) refl
read_back at declines timed fit = rw timed refl
read_back at (saves file) timed fit = rw timed refl
read_back at (ends status saved) timed fit = rw (timed, byte_back status fit, file_back saved) refl
read_back at (is_refused status line) timed fit = rw (timed, byte_back status fit) refl

-- ---- its numbers are such, and it is not deep
abbrev Fine : Json → Type 0
Fine j = HasDecimals j × (depth j ≤ 3)

abbrev AreFine : Pairs → Type 0
AreFine [] = ⊤
AreFine (p ∷ ps) = Fine p.1 × AreFine ps

text_fine : Fine (string [])
text_fine = (tt, omega arith)

whole_fine : (n : ℕ) → n < 2 ^ 64 → Fine (whole n)
whole_fine n small = ((n, small, refl), omega arith)

level_fine : (level : LevelId) → Fine (whole (level_number level))
level_fine One = whole_fine 1 (omega arith)
level_fine Two = whole_fine 2 (omega arith)

short_fine : (n : ℕ) → nat_le n short_most ≡ true → Fine (whole n)
short_fine n fit = let under = leb-true n short_most fit in whole_fine n (omega arith)

byte_fine : (n : ℕ) → nat_le n byte_most ≡ true → Fine (whole n)
byte_fine n fit = let under = leb-true n byte_most fit in whole_fine n (omega arith)

long_fine : (n : ℕ) → nat_le n long_most ≡ true → Fine (whole n)
long_fine n fit = let under = leb-true n long_most fit in whole_fine n (omega arith)

card_fine : (card : Option ℕ) → card_fits card ≡ true → Fine (whole_or_null card)
card_fine None fit = (tt, omega arith)
card_fine (Some n) fit = short_fine n fit

kind_fine : (what : Option JobKind) → Fine (job_kind_or_null what)
kind_fine None = (tt, omega arith)
kind_fine (Some what) = (tt, omega arith)

program_fine : (program : Option (List ℕ)) → Fine (text_or_null program)
program_fine None = (tt, omega arith)
program_fine (Some text) = (tt, omega arith)

file_tree_fine : (file : File) → Fine (file_tree file)
file_tree_fine file = ((tt, (tt, tt)), omega arith)

file_fine : (file : Option File) → Fine (file_or_null file)
file_fine None = (tt, omega arith)
file_fine (Some file) = file_tree_fine file

files_fine : (files : List File) → ItemsHaveDecimals (files_tree files) × (items_depth (files_tree files) ≤ 1)
files_fine [] = (tt, omega arith)
files_fine (file ∷ files) = let more = files_fine files in (((tt, (tt, tt)), more.0), omega (arith, more.1))

texts_fine : (texts : List (List ℕ)) → ItemsHaveDecimals (texts_tree texts) × (items_depth (texts_tree texts) ≤ 1)
texts_fine [] = (tt, omega arith)
texts_fine (text ∷ texts) = let more = texts_fine texts in ((tt, more.0), omega (arith, more.1))

day_fine : (words : List (List ℕ)) (pack : Option File) (deck1 deck2 : List File)
    → Fine (object (members_of (day_pairs (record { words = words; pack = pack; deck1 = deck1; deck2 = deck2 }))))
day_fine words None deck1 deck2 =
    let w = texts_fine words in let one = files_fine deck1 in let two = files_fine deck2 in
    ((w.0, (one.0, (two.0, tt))), omega (arith, w.1, one.1, two.1))
day_fine words (Some pack) deck1 deck2 =
    let w = texts_fine words in let one = files_fine deck1 in let two = files_fine deck2 in
    ((w.0, ((tt, (tt, tt)), (one.0, (two.0, tt)))), omega (arith, w.1, one.1, two.1))

pairs_fine : (said : Said) → fits said ≡ true → AreFine (pairs_of said)
pairs_fine (begins day) fit = (text_fine, (day_fine day.words day.pack day.deck1 day.deck2, tt))
pairs_fine (job_begins job) fit =
    let parts = and_parts (nat_le job.job short_most) (nat_le job.card short_most) fit in
    (text_fine, (level_fine job.level, (short_fine job.job parts.0, (kind_fine job.kind, (program_fine job.program, (short_fine job.card parts.1, tt))))))
pairs_fine (job_ends job) fit =
    let parts = and_parts (nat_le job.job short_most) (nat_le job.lines long_most) fit in
    (text_fine, (level_fine job.level, (short_fine job.job parts.0, (long_fine job.lines parts.1, (text_fine, tt)))))
pairs_fine (halts halt) fit =
    let outer = and_parts (nat_le halt.job short_most && is_shown halt.code) (card_fits halt.card) fit in
    let parts = and_parts (nat_le halt.job short_most) (is_shown halt.code) outer.0 in
    (text_fine, (level_fine halt.level, (short_fine halt.job parts.0, (text_fine, (card_fine halt.card outer.1, tt)))))
pairs_fine (replies reply) fit =
    let parts = and_parts (is_shown reply.code) (nat_le reply.digit byte_most) fit in
    (text_fine, (level_fine reply.level, (text_fine, (byte_fine reply.digit parts.1, (text_fine, tt)))))
pairs_fine (is_cut level) fit = (text_fine, (level_fine level, tt))
pairs_fine stops fit = (text_fine, tt)
pairs_fine (is_left left) fit = (text_fine, (level_fine left.level, (card_fine left.job fit, (program_fine left.from, tt))))
pairs_fine declines fit = (text_fine, tt)
pairs_fine (saves file) fit = (text_fine, (file_tree_fine file, tt))
pairs_fine (ends status saved) fit = (text_fine, (byte_fine status fit, (file_fine saved, tt)))
pairs_fine (is_refused status line) fit = (text_fine, (byte_fine status fit, (text_fine, tt)))

members_fine : (ps : Pairs) → AreFine ps → MembersHaveDecimals (members_of ps) × (members_depth (members_of ps) ≤ 3)
members_fine [] all = (tt, omega arith)
members_fine (p ∷ ps) all = let more = members_fine ps all.1 in ((all.0.0, more.0), omega (arith, all.0.1, more.1))

pub tree_fine : (at : List ℕ) (said : Said) → fits said ≡ true → HasDecimals (tree_of at said) × (depth (tree_of at said) ≤ 4)
unfolding tree_of
tree_fine at said fit =
    let more = members_fine ((codes "at", string at) ∷ pairs_of said) (text_fine, pairs_fine said fit) in
    (more.0, omega (arith, more.1))

-- ---- a line, and a log
pub line_back : (at : List ℕ) (said : Said) → is_time at ≡ true → fits said ≡ true → said_on (print (json_tokens (tree_of at said))) ≡ Some said
unfolding said_on tree_of
line_back at said timed fit =
    let fine = tree_fine at said fit in
    ap (λ j. option_and_then said_in (option_and_then as_object j)) (document-print (tree_of at said) (numbers_of_decimals (tree_of at said) fine.0) (omega (arith, fine.1)))
    ∙ read_back at said timed fit

pub lines_back : (at : List ℕ) (said : Said) (rest begun : List ℕ) → fits said ≡ true
    → lines_ended ((line_of at said ++ rest) ++ begun) ≡ print (json_tokens (tree_of at said)) ∷ lines_ended (rest ++ begun)
unfolding line_of
lines_back at said rest begun fit =
    let text = print (json_tokens (tree_of at said)) in
    ap lines_ended (append_assoc (text ++ 10 ∷ []) rest begun ∙ append_assoc text (10 ∷ []) (rest ++ begun))
    ∙ lines_of_line text (rest ++ begun) (print_inside (tree_of at said) (tree_fine at said fit).0)

pub reads_back : ReadsBack
reads_back [] begun all none = ap (map said_on) (lines_of_rest begun none)
reads_back (event ∷ rest) begun all none =
    let split = and_parts (can_be_read event) (list_all can_be_read rest) all in
    let parts = and_parts (is_time event.at) (fits event.said) split.0 in
    ap (map said_on) (lines_back event.at event.said (text_of rest) begun parts.1)
    ∙ (ap (λ said. said ∷ events_in (text_of rest ++ begun)) (line_back event.at event.said parts.0 parts.1)
    ∙ ap (λ more. Some event.said ∷ more) (reads_back rest begun split.1 none))

-- ---- letters that are read
equal_letters : (letters : List ℕ) (code : HaltCode) → (letters_of code ≡ letters → ⊥) → has_letters letters code ≡ false
equal_letters letters code isnt = by (has_letters letters code) refl
  where
    by : (b : Bool) → has_letters letters code ≡ b → b ≡ false
    by true is = absurd (isnt (equal_codes (letters_of code) letters is))
    by false is = refl

none_found : (letters : List ℕ) (codes_left : List HaltCode) → list_all is_shown codes_left ≡ true → ((code : HaltCode) → is_shown code ≡ true → letters_of code ≡ letters → ⊥) → find (has_letters letters) codes_left ≡ None
none_found letters [] shown isnt = refl
none_found letters (code ∷ codes_left) shown isnt =
    let parts = and_parts (is_shown code) (list_all is_shown codes_left) shown in
    rw (equal_letters letters code (isnt code parts.0)) (none_found letters codes_left parts.1 isnt)

two_letters : (letters : List ℕ) → 2 ≤ length letters → length letters < 3 → get_or letters 0 0 ∷ get_or letters 1 0 ∷ [] ≡ letters
two_letters [] two few = absurd (omega (arith, two))
two_letters (a ∷ []) two few = absurd (omega (arith, two))
two_letters (a ∷ b ∷ []) two few = refl
two_letters (a ∷ b ∷ c ∷ more) two few = absurd (omega (arith, few))

find_in_two : (a b : ℕ) (code : Option HaltCode) → IsCodeOf (a ∷ b ∷ []) code → code ≡ halt_of (a ∷ b ∷ [])
find_in_two a b None isnt = sym (none_found (a ∷ b ∷ []) shown_halts refl isnt)
find_in_two a b (Some code) (is, shown) = sym (subst (λ letters. halt_of letters ≡ Some code) is (code_back code shown))

pub halt_read : (letters : List ℕ) (code : Option HaltCode) → 2 ≤ length letters → length letters < 3 → IsCodeOf (get_or letters 0 0 ∷ get_or letters 1 0 ∷ []) code → code ≡ halt_of letters
halt_read letters code two few is = find_in_two (get_or letters 0 0) (get_or letters 1 0) code is ∙ ap halt_of (two_letters letters two few)
