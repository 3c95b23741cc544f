-- The lines of a text, and the days of lines that follow one another.
use Rattle.std.proofs.Common.{◌≡◌, ◌⊎◌, inl, inr, ℕ, zero, suc, ◌+◌, ◌-◌, ◌<◌, ◌≤◌, Bool, true, false, List, [], ◌∷◌, ◌++◌, append_assoc, length, get_or, Option, Some, None, Result, Ok, Err, map, option_and_then, option_map, refl, ap, sym, subst, ◌∙◌, arith, rules}
use Rattle.std.specs.Borrow.{Bor}
use Rattle.std.specs.List.{All, list_all, slice_split, onto_first, position_or_len, before_first, after_first}
use Rattle.std.specs.Prelude.{not, reverse}
use Rattle.std.proofs.lemmas.Bool.{true≢false, and_parts}
use Rattle.std.proofs.lemmas.List.{append-nil, reverse-reverse}
use Rattle.std.proofs.lemmas.List.Splits.{length-slice_split, slice_split_first, slice_split_none}
use Rattle.std.proofs.lemmas.List.Sums.{fails_before_first}
use Rattle.std.proofs.lemmas.Str.Pattern.{IsSplitOnceResult, split_once_first}
use Rattle.json.specs.Json.{document}
use Rattle.json.specs.Find.{as_object}
use Rattle.json.specs.declared.value.Value.{Value}
use Rattle.json.specs.declared.error.Error.{Error}
use Rattle.json.specs.declared.error.Error.TheVariants as json_error
use Rattle.s3_journal.specs.declared.day.PostedDay.{PostedDay}
use Rattle.s3_journal.specs.declared.reading.Lines.{Lines}
use Rattle.s3_journal.specs.declared.reading.JournalFault.{JournalFault}
use Rattle.s3_journal.specs.declared.reading.JournalFault.TheVariants.{NoMemory, Line, Chain, Changed}
use Rattle.s3_journal.specs.Inner.Days.{Day, day_of}
use Rattle.s3_journal.specs.Inner.Lines.{said_in, said_on}
use Rattle.s3_journal.specs.Inner.Journals.{Reads, Takes, all_but_last, chained, days_from, days_in, is_line_end, last_of, line_begun, lines_ended}

-- ---- the parts between line ends
kept : {X : Type 0} (x : X) (xs : List X) → 0 < length xs → all_but_last (x ∷ xs) ≡ x ∷ all_but_last xs
kept x [] some = absurd (omega arith)
kept x (y ∷ ys) some = let less : suc (suc (length ys)) - 1 ≡ suc (suc (length ys) - 1) = omega arith in rw less refl

last_kept : (x : List ℕ) (xs : List (List ℕ)) → 0 < length xs → last_of (x ∷ xs) ≡ last_of xs
last_kept x [] some = absurd (omega arith)
last_kept x (y ∷ ys) some = refl

some_part : (text : List ℕ) → 0 < length (slice_split is_line_end text)
some_part text = omega (arith, length-slice_split is_line_end text)

lines_some : (text : List ℕ) → position_or_len is_line_end text < length text
    → lines_ended text ≡ before_first is_line_end text ∷ lines_ended (after_first is_line_end text)
unfolding lines_ended
lines_some text found = ap all_but_last (slice_split_first is_line_end text 0 found) ∙ kept (before_first is_line_end text) _ (some_part (after_first is_line_end text))

begun_some : (text : List ℕ) → position_or_len is_line_end text < length text → line_begun text ≡ line_begun (after_first is_line_end text)
unfolding line_begun
begun_some text found = ap last_of (slice_split_first is_line_end text 0 found) ∙ last_kept (before_first is_line_end text) _ (some_part (after_first is_line_end text))

no_part_more : (text : List ℕ) → All (λ x. is_line_end x ≡ false) text → lines_ended text ≡ []
unfolding lines_ended
no_part_more text none = rw (slice_split_none is_line_end text none) refl

all_begun : (text : List ℕ) → All (λ x. is_line_end x ≡ false) text → line_begun text ≡ text
unfolding line_begun
all_begun text none = rw (slice_split_none is_line_end text none) refl

lines_none : (text : List ℕ) → position_or_len is_line_end text ≡ length text → lines_ended text ≡ []
lines_none text none = no_part_more text (λ k d l. fails_before_first is_line_end text k d (omega arith))

begun_none : (text : List ℕ) → position_or_len is_line_end text ≡ length text → line_begun text ≡ text
begun_none text none = all_begun text (λ k d l. fails_before_first is_line_end text k d (omega arith))

-- ---- a text that is cut at its first line end
cut_lines : (text : List ℕ) (x : Bor (List ℕ) × Bor (List ℕ)) → IsSplitOnceResult 10 text (Some x) → lines_ended text ≡ x.0.now ∷ lines_ended x.1.now
cut_lines text x cut =
    let parts = split_once_first 10 text (Some x) cut (omega arith) in
    rw (lines_some text parts.0, parts.1, parts.2) refl

cut_begun : (text : List ℕ) (x : Bor (List ℕ) × Bor (List ℕ)) → IsSplitOnceResult 10 text (Some x) → line_begun text ≡ line_begun x.1.now
cut_begun text x cut =
    let parts = split_once_first 10 text (Some x) cut (omega arith) in
    rw (begun_some text parts.0, parts.2) refl

-- ---- lines that are put together
inside : (e : Bool) → not e ≡ true → e ≡ false
inside true isnt = absurd (true≢false (sym isnt))
inside false isnt = refl

parts_of_line : (line rest : List ℕ) → list_all (λ byte. not (is_line_end byte)) line ≡ true → slice_split is_line_end (line ++ 10 ∷ rest) ≡ line ∷ slice_split is_line_end rest
parts_of_line [] rest none = refl
parts_of_line (b ∷ line) rest none =
    let parts = and_parts (not (is_line_end b)) (list_all (λ byte. not (is_line_end byte)) line) none in
    rw (inside (is_line_end b) parts.0) (ap (onto_first b) (parts_of_line line rest parts.1))

pub lines_of_line : (line rest : List ℕ) → list_all (λ byte. not (is_line_end byte)) line ≡ true → lines_ended (line ++ 10 ∷ rest) ≡ line ∷ lines_ended rest
unfolding lines_ended
lines_of_line line rest none = ap all_but_last (parts_of_line line rest none) ∙ kept line _ (some_part rest)

at_each : (b : ℕ) (line : List ℕ) → is_line_end b ≡ false → All (λ x. is_line_end x ≡ false) line → (k d : ℕ) → k < length (b ∷ line) → is_line_end (get_or (b ∷ line) k d) ≡ false
at_each b line first more zero d l = first
at_each b line first more (suc k) d l = more k d (omega arith)

none_ends : (line : List ℕ) → list_all (λ byte. not (is_line_end byte)) line ≡ true → All (λ x. is_line_end x ≡ false) line
none_ends [] none = λ k d l. absurd (omega arith)
none_ends (b ∷ line) none =
    let parts = and_parts (not (is_line_end b)) (list_all (λ byte. not (is_line_end byte)) line) none in
    at_each b line (inside (is_line_end b) parts.0) (none_ends line parts.1)

pub lines_of_rest : (line : List ℕ) → list_all (λ byte. not (is_line_end byte)) line ≡ true → lines_ended line ≡ []
lines_of_rest line none = no_part_more line (none_ends line none)

-- ---- a text that is read line by line: the days so far, and those of the lines that are left
pub record Followed (text rest last : List ℕ) (days : List Day) : Type 0 where
  pub so_far : option_map (λ more. days ++ more) (days_from last (lines_ended rest)) ≡ days_in text
  pub begun : line_begun rest ≡ line_begun text

same_days : (days : Option (List Day)) → option_map (λ more. [] ++ more) days ≡ days
same_days None = refl
same_days (Some days) = refl

pub followed_none : (text : List ℕ) → Followed text text [] []
followed_none text = record { so_far = same_days (days_in text); begun = refl }

day_more : (last line : List ℕ) (lines : List (List ℕ)) (day : Day) → chained last (said_on line) ≡ Some day → days_from last (line ∷ lines) ≡ option_map (λ days. day ∷ days) (days_from line lines)
unfolding days_from
day_more last line lines day is = rw is refl

day_none : (last line : List ℕ) (lines : List (List ℕ)) → chained last (said_on line) ≡ None → days_from last (line ∷ lines) ≡ None
unfolding days_from
day_none last line lines is = rw is refl

days_end : (last : List ℕ) → days_from last [] ≡ Some []
unfolding days_from
days_end last = refl

pushed : (days : List Day) (day : Day) (more : Option (List Day)) → option_map (λ xs. (days ++ day ∷ []) ++ xs) more ≡ option_map (λ xs. days ++ xs) (option_map (λ xs. day ∷ xs) more)
pushed days day None = refl
pushed days day (Some more) = ap Some (append_assoc days (day ∷ []) more)

pub followed_more : (text rest last : List ℕ) (days : List Day) (line after : Bor (List ℕ)) (day : Day) → Followed text rest last days → IsSplitOnceResult 10 rest (Some (line, after))
    → chained last (said_on line.now) ≡ Some day → Followed text after.now line.now (days ++ day ∷ [])
followed_more text rest last days line after day before cut taken = record {
  so_far =
      pushed days day (days_from line.now (lines_ended after.now))
      ∙ (ap (option_map (λ more. days ++ more)) (sym (day_more last line.now (lines_ended after.now) day taken) ∙ ap (days_from last) (sym (cut_lines rest (line, after) cut))) ∙ before.so_far);
  begun = sym (cut_begun rest (line, after) cut) ∙ before.begun;
}

pub followed_refused : (text rest last : List ℕ) (days : List Day) (line after : Bor (List ℕ)) → Followed text rest last days → IsSplitOnceResult 10 rest (Some (line, after))
    → chained last (said_on line.now) ≡ None → days_in text ≡ None
followed_refused text rest last days line after before cut refused =
    sym before.so_far ∙ ap (option_map (λ more. days ++ more)) (ap (days_from last) (cut_lines rest (line, after) cut) ∙ day_none last line.now (lines_ended after.now) refused)

pub followed_end : (text rest last : List ℕ) (days : List Day) → Followed text rest last days → IsSplitOnceResult 10 rest None → days_in text ≡ Some days
followed_end text rest last days before cut =
    sym before.so_far ∙ (ap (λ lines. option_map (λ more. days ++ more) (days_from last lines)) (lines_none rest (split_once_first 10 rest None cut (omega arith)))
    ∙ (ap (option_map (λ more. days ++ more)) (days_end last) ∙ ap Some (append-nil days)))

pub begun_end : (text rest last : List ℕ) (days : List Day) → Followed text rest last days → IsSplitOnceResult 10 rest None → line_begun text ≡ rest
begun_end text rest last days before cut = sym before.begun ∙ begun_none rest (split_once_first 10 rest None cut (omega arith))

-- ---- a line that is read
pub said_of_document : {A : Type 0} (line : List ℕ) (parsed : Result (Value A) Error) (fault : Error) → parsed ≡ Err fault → (parsed ≡ Err json_error.Invalid → document line ≡ None) → (parsed ≡ Err json_error.TooLong → ⊥)
    → (parsed ≡ Err json_error.DuplicateKey → ⊥) → (fault ≡ json_error.OutOfMemory → ⊥) → said_on line ≡ None
unfolding said_on
said_of_document line parsed json_error.Invalid is invalid too_long twice memory = ap (λ json. option_and_then said_in (option_and_then as_object json)) (invalid is)
said_of_document line parsed json_error.OutOfMemory is invalid too_long twice memory = absurd (memory refl)
said_of_document line parsed json_error.TooLong is invalid too_long twice memory = absurd (too_long is)
said_of_document line parsed json_error.DuplicateKey is invalid too_long twice memory = absurd (twice is)

-- ---- the steps of the code
pub followed_first : (text last : List ℕ) (days : List PostedDay) → last ≡ [] → days ≡ [] → Followed text text last (map day_of days)
followed_first text last days none no_days = rw (none, no_days) (followed_none text)

pub followed_taken : (text rest last : List ℕ) (days next : List Day) (line after new_last : Bor (List ℕ)) → Followed text rest last days → IsSplitOnceResult 10 rest (Some (line, after))
    → Takes (chained last (said_on line.now)) days next (Ok tt) → new_last ≡ line → Followed text after.now new_last.now next
followed_taken text rest last days next line after new_last before cut (day, taken, more) is =
    rw (is, more) (followed_more text rest last days line after day before cut taken)

pub refused_at : (text rest : List ℕ) (old now new : Lines) (line after : Bor (List ℕ)) (fault : JournalFault) (result : Result (Bor (List ℕ)) JournalFault)
    → (old.last.now ≡ [] → old.days.items ≡ [] → Followed text rest now.last.now (map day_of now.days.items)) → IsSplitOnceResult 10 rest (Some (line, after))
    → Takes (chained now.last.now (said_on line.now)) (map day_of now.days.items) (map day_of new.days.items) (Err fault) → result ≡ Err fault → Reads old new text result
refused_at text rest old now new line after NoMemory result before cut refused is = rw is tt
refused_at text rest old now new line after (Line number) result before cut refused is =
    rw is (λ none no_days. followed_refused text rest now.last.now (map day_of now.days.items) line after (before none no_days) cut refused)
refused_at text rest old now new line after (Chain number) result before cut refused is =
    rw is (λ none no_days. followed_refused text rest now.last.now (map day_of now.days.items) line after (before none no_days) cut refused)
refused_at text rest old now new line after (Changed number) result before cut refused is =
    rw is (λ none no_days. followed_refused text rest now.last.now (map day_of now.days.items) line after (before none no_days) cut refused)
