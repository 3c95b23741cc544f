-- The lines of a text, and the events that follow one another.
use Rattle.std.proofs.Common.{◌≡◌, ℕ, zero, suc, ◌+◌, ◌-◌, ◌<◌, ◌≤◌, length-drop, Bool, true, false, cond, List, [], ◌∷◌, ◌++◌, length, get_or, Option, Some, None, Result, Ok, Err, ◌&&◌, map, option_and_then, refl, ap, sym, ◌∙◌, arith}
use Rattle.std.specs.Borrow.{Bor}
use Rattle.std.specs.Result.{is_ok, result_map_both}
use Rattle.std.specs.List.{All, list_all, slice_split, onto_first, position_or_len, before_first, after_first}
use Rattle.std.specs.Prelude.{not}
use Rattle.std.proofs.lemmas.Bool.{true≢false, and_parts}
use Rattle.std.proofs.lemmas.List.Splits.{length-slice_split, slice_split_first, slice_split_none}
use Rattle.std.proofs.lemmas.List.Sums.{fails_before_first}
use Rattle.std.proofs.lemmas.Str.Pattern.{IsSplitOnceResult, split_once_first}
use Rattle.json.specs.Json.{document}
use Rattle.json.specs.Find.{as_object}
use Rattle.json.specs.declared.value.Value.{Value}
use Rattle.json.specs.declared.error.Error.{Error}
use Rattle.json.specs.declared.error.Error.TheVariants as json_error
use Rattle.s3_day_log.specs.declared.day_log.DayLog.{DayLog}
use Rattle.s3_day_log.specs.declared.day_log.LogFault.{LogFault}
use Rattle.s3_day_log.specs.declared.day_log.LogFault.TheVariants.{NoMemory, Line}
use Rattle.s3_day_log.specs.declared.event.Begun.{Begun}
use Rattle.s3_day_log.specs.declared.event.Event.{Event}
use Rattle.s3_day_log.specs.declared.event.Event.TheVariants as event
use Rattle.s3_day_log.specs.declared.event.NamedFile.{NamedFile}
use Rattle.s3_day_log.specs.Inner.Events.{Day, Said, begins, file_of, said_of}
use Rattle.s3_day_log.specs.Inner.Lines.{said_in, said_on}
use Rattle.s3_day_log.specs.Inner.Logged.{Follows, IsRead, IsReadAfter, Log, Takes, all_but_last, begun_by, events_in, follow, from_day, has_checksum, is_line_end, is_sound, lines_ended, log_in, log_of, started, taken_if_said}

kept : {X : Type 0} (x : X) (xs : List X) → 0 < length xs → all_but_last (x ∷ xs) ≡ x ∷ all_but_last xs
kept x [] some = absurd (omega arith)
kept x (y ∷ ys) some = let less : suc (suc (length ys)) - 1 ≡ suc (suc (length ys) - 1) = omega arith in rw less refl

some_part : (text : List ℕ) → 0 < length (slice_split is_line_end text)
some_part text = omega (arith, length-slice_split is_line_end text)

lines_some : (text : List ℕ) → position_or_len is_line_end text < length text
    → lines_ended text ≡ before_first is_line_end text ∷ lines_ended (after_first is_line_end text)
unfolding lines_ended
lines_some text found = ap all_but_last (slice_split_first is_line_end text 0 found) ∙ kept (before_first is_line_end text) _ (some_part (after_first is_line_end text))

no_part_more : (text : List ℕ) → All (λ x. is_line_end x ≡ false) text → lines_ended text ≡ []
unfolding lines_ended
no_part_more text none = rw (slice_split_none is_line_end text none) refl

lines_none : (text : List ℕ) → position_or_len is_line_end text ≡ length text → lines_ended text ≡ []
lines_none text none = no_part_more text (λ k d l. fails_before_first is_line_end text k d (omega arith))

-- ---- a text that is cut at its first line end
pub cut_some : (text : List ℕ) (x : Bor (List ℕ) × Bor (List ℕ)) → IsSplitOnceResult 10 text (Some x) → events_in text ≡ said_on x.0.now ∷ events_in x.1.now
cut_some text x cut =
    let parts = split_once_first 10 text (Some x) cut (omega arith) in
    rw (lines_some text parts.0, parts.1, parts.2) refl

pub cut_none : (text : List ℕ) → IsSplitOnceResult 10 text None → events_in text ≡ []
cut_none text cut = rw (lines_none text (split_once_first 10 text None cut (omega arith))) refl

-- ---- one event more
pub follow_some : (number : ℕ) (said : Option Said) (rest : List (Option Said)) (log after : Log) → taken_if_said said log ≡ Some after
    → follow number (said ∷ rest) log ≡ follow (number + 1) rest after
unfolding follow
follow_some number said rest log after is = rw is refl

pub follow_none : (number : ℕ) (said : Option Said) (rest : List (Option Said)) (log : Log) → taken_if_said said log ≡ None
    → follow number (said ∷ rest) log ≡ Err number
unfolding follow
follow_none number said rest log is = rw is refl

pub follow_end : (number : ℕ) (log : Log) → follow number [] log ≡ Ok log
unfolding follow
follow_end number log = refl

-- ---- lines that are put together
inside : (e : Bool) → not e ≡ true → e ≡ false
inside true isnt = absurd (true≢false (sym isnt))
inside false isnt = refl

parts_of_line : (line rest : List ℕ) → list_all (λ byte. not (is_line_end byte)) line ≡ true → slice_split is_line_end (line ++ 10 ∷ rest) ≡ line ∷ slice_split is_line_end rest
parts_of_line [] rest none = refl
parts_of_line (b ∷ line) rest none =
    let parts = and_parts (not (is_line_end b)) (list_all (λ byte. not (is_line_end byte)) line) none in
    rw (inside (is_line_end b) parts.0) (ap (onto_first b) (parts_of_line line rest parts.1))

pub lines_of_line : (line rest : List ℕ) → list_all (λ byte. not (is_line_end byte)) line ≡ true → lines_ended (line ++ 10 ∷ rest) ≡ line ∷ lines_ended rest
unfolding lines_ended
lines_of_line line rest none = ap all_but_last (parts_of_line line rest none) ∙ kept line _ (some_part rest)

at_each : (b : ℕ) (line : List ℕ) → is_line_end b ≡ false → All (λ x. is_line_end x ≡ false) line → (k d : ℕ) → k < length (b ∷ line) → is_line_end (get_or (b ∷ line) k d) ≡ false
at_each b line first more zero d l = first
at_each b line first more (suc k) d l = more k d (omega arith)

none_ends : (line : List ℕ) → list_all (λ byte. not (is_line_end byte)) line ≡ true → All (λ x. is_line_end x ≡ false) line
none_ends [] none = λ k d l. absurd (omega arith)
none_ends (b ∷ line) none =
    let parts = and_parts (not (is_line_end b)) (list_all (λ byte. not (is_line_end byte)) line) none in
    at_each b line (inside (is_line_end b) parts.0) (none_ends line parts.1)

pub lines_of_rest : (line : List ℕ) → list_all (λ byte. not (is_line_end byte)) line ≡ true → lines_ended line ≡ []
lines_of_rest line none = no_part_more line (none_ends line none)

-- ---- a text that is read line by line
pub record Followed (text rest : List ℕ) (first now : Log) (number : ℕ) : Type 0 where
  pub within : number + length rest ≤ length text + 1
  pub so_far : follow (number + 1) (events_in rest) now ≡ follow 2 (events_in text) first

pub followed_none : (text : List ℕ) (first : Log) → Followed text text first first 1
followed_none text first = record { within = omega arith; so_far = refl }

shorter : (text : List ℕ) (x : Bor (List ℕ) × Bor (List ℕ)) → IsSplitOnceResult 10 text (Some x) → length x.1.now + 1 ≤ length text
shorter text x cut =
    let parts = split_once_first 10 text (Some x) cut (omega arith) in
    rw parts.2 (omega (arith, parts.0, length-drop (position_or_len is_line_end text + 1) text))

pub followed_more : (text rest : List ℕ) (first now next : Log) (number : ℕ) (line after : Bor (List ℕ)) → Followed text rest first now number → IsSplitOnceResult 10 rest (Some (line, after))
    → taken_if_said (said_on line.now) now ≡ Some next → Followed text after.now first next (number + 1)
followed_more text rest first now next number line after before cut taken = record {
  within = omega (arith, before.within, shorter rest (line, after) cut);
  so_far =
      sym (follow_some (number + 1) (said_on line.now) (events_in after.now) now next taken)
      ∙ (ap (λ events. follow (number + 1) events now) (sym (cut_some rest (line, after) cut)) ∙ before.so_far);
}

pub followed_refused : (text rest : List ℕ) (first now : Log) (number : ℕ) (line after : Bor (List ℕ)) → Followed text rest first now number → IsSplitOnceResult 10 rest (Some (line, after))
    → taken_if_said (said_on line.now) now ≡ None → follow 2 (events_in text) first ≡ Err (number + 1)
followed_refused text rest first now number line after before cut refused =
    sym before.so_far ∙ (ap (λ events. follow (number + 1) events now) (cut_some rest (line, after) cut) ∙ follow_none (number + 1) (said_on line.now) (events_in after.now) now refused)

pub followed_end : (text rest : List ℕ) (first now : Log) (number : ℕ) → Followed text rest first now number → IsSplitOnceResult 10 rest None → follow 2 (events_in text) first ≡ Ok now
followed_end text rest first now number before cut =
    sym before.so_far ∙ (ap (λ events. follow (number + 1) events now) (cut_none rest cut) ∙ follow_end (number + 1) now)

-- ---- a line that is read
-- what is read is read whether or not what it says is looked at
pub both_ok : {T U E D : Type 0} (f : T → U) (g : E → D) (r : Result T E) (s : Result U D) → result_map_both f g r ≡ s → is_ok r ≡ is_ok s
both_ok f g (Ok x) s is = ap is_ok is
both_ok f g (Err e) s is = ap is_ok is

pub said_of_document : {A : Type 0} (line : List ℕ) (parsed : Result (Value A) Error) (fault : Error) → parsed ≡ Err fault → (parsed ≡ Err json_error.Invalid → document line ≡ None) → (parsed ≡ Err json_error.TooLong → ⊥)
    → (parsed ≡ Err json_error.DuplicateKey → ⊥) → (fault ≡ json_error.OutOfMemory → ⊥) → said_on line ≡ None
unfolding said_on
said_of_document line parsed json_error.Invalid is invalid too_long twice memory = ap (λ json. option_and_then said_in (option_and_then as_object json)) (invalid is)
said_of_document line parsed json_error.OutOfMemory is invalid too_long twice memory = absurd (memory refl)
said_of_document line parsed json_error.TooLong is invalid too_long twice memory = absurd (too_long is)
said_of_document line parsed json_error.DuplicateKey is invalid too_long twice memory = absurd (twice is)

-- ---- the first line
pub none_begun : (text : List ℕ) → IsSplitOnceResult 10 text None → log_of (events_in text) ≡ Err 1
none_begun text cut = ap log_of (cut_none text cut)

pub other_begun : (text : List ℕ) (x : Bor (List ℕ) × Bor (List ℕ)) → IsSplitOnceResult 10 text (Some x) → begun_by (said_on x.0.now) ≡ None → log_of (events_in text) ≡ Err 1
other_begun text x cut none = ap log_of (cut_some text x cut) ∙ ap (λ day. from_day day (events_in x.1.now)) none

pub day_begun : (text : List ℕ) (x : Bor (List ℕ) × Bor (List ℕ)) (day : Day) → IsSplitOnceResult 10 text (Some x) → begun_by (said_on x.0.now) ≡ Some day → log_of (events_in text) ≡ follow 2 (events_in x.1.now) (started day)
day_begun text x day cut begun = ap log_of (cut_some text x cut) ∙ ap (λ d. from_day d (events_in x.1.now)) begun

pub not_begun : (said : Event) → ((day : Begun) → said ≡ event.Begin day → ⊥) → begun_by (Some (said_of said)) ≡ None
not_begun (event.Begin day) isnt = absurd (isnt day refl)
not_begun (event.JobBegins job) isnt = refl
not_begun (event.JobEnds job) isnt = refl
not_begun (event.Halt halt) isnt = refl
not_begun (event.Reply reply) isnt = refl
not_begun (event.Cut level) isnt = refl
not_begun event.Stop isnt = refl
not_begun (event.Left left) isnt = refl
not_begun event.Declined isnt = refl
not_begun (event.Saving pack) isnt = refl
not_begun (event.End day) isnt = refl
not_begun (event.Refused day) isnt = refl

pub sound_or_none : (day : Day) (b : Bool) → is_sound day ≡ b → begun_by (Some (begins day)) ≡ cond b (Some day) None
sound_or_none day b is = ap (λ v. cond v (Some day) None) is

pub read_after_day : (text rest : List ℕ) (day : Day) (result : Result DayLog LogFault) → log_of (events_in text) ≡ follow 2 (events_in rest) (started day) → IsReadAfter day rest result → IsRead text result
read_after_day text rest day (Ok log) is after = is ∙ after
read_after_day text rest day (Err NoMemory) is after = tt
read_after_day text rest day (Err (Line number)) is after = is ∙ after

-- a line that is refused ends the reading
pub refused_at : (text rest : List ℕ) (first now new : DayLog) (number : ℕ) (line after : Bor (List ℕ)) (fault : LogFault) (result : Result (Unit {0}) LogFault) → Followed text rest (log_in first) (log_in now) number
    → IsSplitOnceResult 10 rest (Some (line, after)) → Takes (number + 1) (taken_if_said (said_on line.now) (log_in now)) new (Err fault) → result ≡ Err fault → Follows 2 (events_in text) first new result
refused_at text rest first now new number line after NoMemory result before cut refused is = rw is tt
refused_at text rest first now new number line after (Line at) result before cut refused is =
    rw is (followed_refused text rest (log_in first) (log_in now) number line after before cut refused.0 ∙ ap Err (sym refused.1))

-- ---- checksums
pub all_checksums : (files : List NamedFile) → list_all (λ file. has_checksum (file_of file)) files ≡ list_all has_checksum (map file_of files)
all_checksums [] = refl
all_checksums (file ∷ files) = ap (λ b. has_checksum (file_of file) && b) (all_checksums files)
