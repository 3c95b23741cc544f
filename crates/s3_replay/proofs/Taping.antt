-- What is on the tape.
use Rattle.std.proofs.Common.{◌≡◌, ◌<◌, ◌≤◌, ◌-◌, ◌+◌, ◌^◌, ℕ, min, max, Bool, true, false, List, [], ◌∷◌, ◌++◌, append_assoc, length, drop, take, inl, inr, refl, sym, ap, ap₂, subst, ◌∙◌, arith}
use Rattle.std.specs.Prelude.{Option, Some, None, is_some, slice_range, MatchOption, ⊤}
use Rattle.std.specs.List.{list_all, list_any}
use Rattle.std.specs.Option.{option_and_then}
use Rattle.std.specs.Io.KnownBytes.{Appends, Keeps}
use Rattle.std.proofs.lemmas.Bool.{cases_lt, or_from, or_parts}
use Rattle.std.proofs.lemmas.List.{append-nil, drop-append-le, drop-drop, length-append, length-drop, length-take, take-append-drop}
use Rattle.std.proofs.lemmas.List.Folds.{list_any-append}
use Rattle.std.proofs.Math.Seq.{take-add}
use Rattle.std.proofs.lemmas.Grind.{flat_map-append}
use Rattle.s3_bureau.specs.declared.entry.Entry.{Entry}
use Rattle.s3_replay.specs.declared.performed.Repeated.{Repeated}
use Rattle.s3_replay.specs.Inner.Taped.{AreKnown, AreRepliesWritten, BeganWith, EndsWith, HasScript, HasText, IsOnTape, KeepsFirst, Tapes, counted_bytes, is_reply_part}
use Rattle.s3_replay.specs.Inner.Written.{entries_in, is_part_writable, part_lines, text_of}

pub kept : (old between new : Option (List ℕ)) (bytes : List ℕ) → Appends old between bytes → Keeps between new → Appends old new bytes
kept None between new bytes more same = tt
kept (Some x) None new bytes more same = absurd more
kept (Some x) (Some y) None bytes more same = absurd same
kept (Some x) (Some y) (Some z) bytes more same = same ∙ more

-- ---- a text at the end
drop_all : (xs : List ℕ) → drop (length xs) xs ≡ []
drop_all [] = refl
drop_all (x ∷ xs) = drop_all xs

drop_none : (xs : List ℕ) → drop (length xs - 0) xs ≡ []
drop_none xs = let same : length xs - 0 ≡ length xs = omega arith in ap (λ n. drop n xs) same ∙ drop_all xs

-- a text more
longer : (bytes more text : List ℕ) → EndsWith bytes text → EndsWith (bytes ++ more) (text ++ more)
longer bytes more text ends =
    let one : length (bytes ++ more) ≡ length bytes + length more = length-append bytes more in
    let two : length (text ++ more) ≡ length text + length more = length-append text more in
    let same : length (bytes ++ more) - length (text ++ more) ≡ length bytes - length text = omega (arith, one, two) in
    ap (λ n. drop n (bytes ++ more)) same
    ∙ drop-append-le (length bytes - length text) bytes more (omega arith)
    ∙ ap (λ (t : List ℕ). t ++ more) ends

more_parts : (parts next : List Repeated) (bytes : List ℕ) → EndsWith bytes (text_of parts) → EndsWith (bytes ++ text_of next) (text_of (parts ++ next))
more_parts parts next bytes ends =
    subst (EndsWith (bytes ++ text_of next)) (sym (flat_map-append part_lines parts next)) (longer bytes (text_of next) (text_of parts) ends)

-- ---- what is on the tape
-- nothing is written after a failure
pub after_failure : {F E : Type 0} (contents : F → Option (List ℕ)) (file : Option F) (failure : Option E) (parts : List Repeated) → is_some failure ≡ true
    → IsOnTape contents file failure parts
after_failure contents file None parts failed known none bytes is = cc
after_failure contents file (Some e) parts failed known none bytes is = cc

pub no_file : {F E : Type 0} (contents : F → Option (List ℕ)) (file : Option F) (failure : Option E) (parts : List Repeated) → file ≡ None
    → IsOnTape contents file failure parts
no_file contents None failure parts gone known none bytes is = cc
no_file contents (Some f) failure parts gone known none bytes is = cc

pub nothing_yet : {F E : Type 0} (contents : F → Option (List ℕ)) (file : Option F) (failure : Option E) (parts : List Repeated) → parts ≡ []
    → IsOnTape contents file failure parts
nothing_yet contents file failure parts nothing known none bytes is =
    subst (λ (ps : List Repeated). EndsWith bytes (text_of ps)) (sym nothing) (drop_none bytes)

some_of : (known : Option (List ℕ)) → is_some known ≡ true → (bytes : List ℕ) × (known ≡ Some bytes)
some_of None is = cc
some_of (Some bytes) is = (bytes, refl)

appended : (one two : Option (List ℕ)) (xs ys text : List ℕ) → one ≡ Some xs → two ≡ Some ys → Appends one two text → ys ≡ xs ++ text
appended None two xs ys text first second more = cc
appended (Some x) None xs ys text first second more = absurd more
appended (Some x) (Some y) xs ys text first second more = cc

-- parts more, or a failure
pub one_more : {F E : Type 0} (contents : F → Option (List ℕ)) (old now : Option F) (failure after : Option E) (parts next all : List Repeated) (text : List ℕ)
    → is_some failure ≡ false → text ≡ text_of next → all ≡ parts ++ next → is_some now ≡ is_some old
    → MatchOption after (Appends (option_and_then contents old) (option_and_then contents now) text) (λ _. ⊤)
    → IsOnTape contents old failure parts → IsOnTape contents now after all
one_more contents old now failure (Some e) parts next all text works is joined same more written known none bytes has = cc
one_more contents old None failure None parts next all text works is joined same more written known none bytes has = cc
one_more contents None (Some g) failure None parts next all text works is joined same more written known none bytes has = cc
one_more contents (Some f) (Some g) (Some e) None parts next all text works is joined same more written known none bytes has = cc
one_more contents (Some f) (Some g) None None parts next all text works is joined same more written known none bytes has =
    let before : (xs : List ℕ) × (contents f ≡ Some xs) = some_of (contents f) (known f) in
    let ends : EndsWith before.0 (text_of parts) = written known refl before.0 before.1 in
    let now_is : bytes ≡ before.0 ++ text_of next = appended (contents f) (contents g) before.0 bytes text before.1 has more ∙ ap (λ (t : List ℕ). before.0 ++ t) is in
    subst (λ (ps : List Repeated). EndsWith bytes (text_of ps)) (sym joined)
    (subst (λ (bs : List ℕ). EndsWith bs (text_of (parts ++ next))) (sym now_is) (more_parts parts next before.0 ends))

-- ---- what a file began with
began_more : (one two : Option (List ℕ)) (first before next text : List ℕ) → one ≡ Some (first ++ before) → Appends one two text → text ≡ next → two ≡ Some (first ++ (before ++ next))
began_more None two first before next text has more is = cc
began_more (Some x) None first before next text has more is = absurd more
began_more (Some x) (Some y) first before next text has more is =
    let was : x ≡ first ++ before = cc in
    ap (λ (bs : List ℕ). Some bs) (more ∙ ap (λ (bs : List ℕ). bs ++ text) was ∙ ap (λ (bs : List ℕ). (first ++ before) ++ bs) is ∙ append_assoc first before next)

pub keeps_more : {F E : Type 0} (contents : F → Option (List ℕ)) (old new : Option F) (failure after : Option E) (before next all : List Repeated) (text : List ℕ)
    → is_some failure ≡ false → text ≡ text_of next → all ≡ before ++ next → is_some new ≡ is_some old
    → MatchOption after (Appends (option_and_then contents old) (option_and_then contents new) text) (λ _. ⊤) → KeepsFirst contents old new failure after before all
keeps_more {F} {E} contents old new failure after before next all text works is joined same more = record { keeps = λ first began. by old new failure after first works same more began }
  where
    by : (old new : Option F) (failure after : Option E) (first : List ℕ) → is_some failure ≡ false → is_some new ≡ is_some old
        → MatchOption after (Appends (option_and_then contents old) (option_and_then contents new) text) (λ _. ⊤) → BeganWith contents old failure before first → BeganWith contents new after all first
    by old new failure (Some e) first works same more began none g there = cc
    by old new (Some e) None first works same more began none g there = cc
    by old None None None first works same more began none g there = cc
    by None (Some f) None None first works same more began none g there = cc
    by (Some f) (Some h) None None first works same more began none g there =
        let one : h ≡ g = cc in
        subst (λ of. contents of ≡ Some (first ++ text_of all)) one
        (began_more (contents f) (contents h) first (text_of before) (text_of next) text (began refl f refl) more is
        ∙ ap (λ (bs : List ℕ). Some (first ++ bs)) (sym (flat_map-append part_lines before next) ∙ ap text_of (sym joined)))

-- nothing is said after a failure
pub keeps_failed : {F E : Type 0} (contents : F → Option (List ℕ)) (old new : Option F) (failure after : Option E) (before all : List Repeated) → is_some after ≡ true
    → KeepsFirst contents old new failure after before all
keeps_failed {F} {E} contents old new failure after before all failed = record { keeps = λ first began. by after failed first }
  where
    by : (after : Option E) → is_some after ≡ true → (first : List ℕ) → BeganWith contents new after all first
    by None failed first none = cc
    by (Some e) failed first none = cc

pub keeps_same : {F E : Type 0} (contents : F → Option (List ℕ)) (file : Option F) (failure : Option E) (parts : List Repeated) → KeepsFirst contents file file failure failure parts parts
keeps_same contents file failure parts = record { keeps = λ first began. began }

-- at first
pub begins : {F E : Type 0} (contents : F → Option (List ℕ)) (given file : Option F) (failure : Option E) (parts : List Repeated) (first : List ℕ) → file ≡ given → parts ≡ [] → option_and_then contents given ≡ Some first
    → BeganWith contents file failure parts first
begins contents None file failure parts first is none has works f there = cc
begins contents (Some g) file failure parts first is none has works f there =
    let same : g ≡ f = cc in
    subst (λ of. contents of ≡ Some (first ++ text_of parts)) same
    (has ∙ ap (λ (bs : List ℕ). Some bs) (sym (append-nil first) ∙ ap (λ (ps : List Repeated). first ++ text_of ps) (sym none)))

-- ---- the script of all that was performed
-- what bytes that end with a text begin with
abbrev front_of : (bytes text : List ℕ) → List ℕ
front_of bytes text = take (length bytes - length text) bytes

front_is : (bytes text : List ℕ) → EndsWith bytes text → bytes ≡ front_of bytes text ++ text
front_is bytes text ends = sym (take-append-drop (length bytes - length text) bytes) ∙ ap (λ (bs : List ℕ). front_of bytes text ++ bs) ends

has_text : {F E : Type 0} (contents : F → Option (List ℕ)) (old new : Option F) (failure after : Option E) (before all : List Repeated) → AreKnown contents
    → IsOnTape contents old failure before → is_some new ≡ is_some old → (is_some failure ≡ true → is_some after ≡ true) → KeepsFirst contents old new failure after before all
    → HasText (BeganWith contents old failure before) (option_and_then contents new) (is_some after) (text_of all)
has_text contents old new failure (Some e) before all known tape same fails keeps = tt
has_text contents old None failure None before all known tape same fails keeps = tt
has_text contents None (Some g) failure None before all known tape same fails keeps = cc
has_text contents (Some f) (Some g) (Some e) None before all known tape same fails keeps = let no = fails refl in cc
has_text {F} {E} contents (Some f) (Some g) None None before all known tape same fails keeps =
    let bytes : (xs : List ℕ) × (contents f ≡ Some xs) = some_of (contents f) (known f) in
    let first : List ℕ = front_of bytes.0 (text_of before) in
    let was : contents f ≡ Some (first ++ text_of before) = bytes.1 ∙ ap (λ (bs : List ℕ). Some bs) (front_is bytes.0 (text_of before) (tape known refl bytes.0 bytes.1)) in
    let is : contents g ≡ Some (first ++ text_of all) = keeps.keeps first (began_as first was) refl g refl in
    subst (λ (now : Option (List ℕ)). HasText (BeganWith {E = E} contents (Some f) None before) now false (text_of all)) (sym is) (first, began_as first was, refl)
  where
    began_as : (first : List ℕ) → contents f ≡ Some (first ++ text_of before) → BeganWith {E = E} contents (Some f) None before first
    began_as first was none h there = let same : f ≡ h = cc in subst (λ of. contents of ≡ Some (first ++ text_of before)) same was

pub has_script : {F E : Type 0} (contents : F → Option (List ℕ)) (old new : Option F) (failure after : Option E) (entries : List Entry) (parts before rest all : List Repeated)
    → before ++ rest ≡ parts → all ≡ before ++ rest → list_all is_part_writable parts ≡ true → entries_in parts ≡ entries → IsOnTape contents old failure before → is_some new ≡ is_some old
    → (is_some failure ≡ true → is_some after ≡ true) → KeepsFirst contents old new failure after before all
    → AreKnown contents → HasScript (BeganWith contents old failure before) (option_and_then contents new) (is_some after) entries
has_script contents old new failure after entries parts before rest all whole joined writable ask tape same fails keeps known =
    record {
      parts = parts;
      are_writable = writable;
      ask = ask;
      written = subst (λ (ps : List Repeated). HasText (BeganWith contents old failure before) (option_and_then contents new) (is_some after) (text_of ps)) (joined ∙ whole)
          (has_text contents old new failure after before all known tape same fails keeps);
    }

-- .. after a failure
pub has_failed : {F E : Type 0} (contents : F → Option (List ℕ)) (Began : List ℕ → Type 0) (file : Option F) (failure : Option E) (entries : List Entry) (parts : List Repeated)
    → is_some failure ≡ true → list_all is_part_writable parts ≡ true → entries_in parts ≡ entries
    → AreKnown contents → HasScript Began (option_and_then contents file) (is_some failure) entries
has_failed contents Began file failure entries parts failed writable ask known =
    record {
      parts = parts;
      are_writable = writable;
      ask = ask;
      written = subst (λ (b : Bool). HasText Began (option_and_then contents file) b (text_of parts)) (sym failed) tt;
    }

-- ---- what a call appends
no_parts : (parts : List Repeated) → parts ≡ parts ++ []
no_parts [] = refl
no_parts (part ∷ parts) = ap (λ (ps : List Repeated). part ∷ ps) (no_parts parts)

no_bytes : (bytes : List ℕ) → bytes ≡ bytes ++ []
no_bytes [] = refl
no_bytes (byte ∷ bytes) = ap (λ (bs : List ℕ). byte ∷ bs) (no_bytes bytes)

no_more : (known : Option (List ℕ)) → Appends known known []
no_more None = tt
no_more (Some bytes) = no_bytes bytes

pub tapes_nothing : {F E : Type 0} (contents : F → Option (List ℕ)) (file : Option F) (failure : Option E) (parts : List Repeated) → Tapes contents file file failure parts parts
tapes_nothing contents file failure parts = record { more = []; written = no_parts parts; appended = λ works. no_more (option_and_then contents file) }

-- a text is written, or that fails
pub tapes_more : {F E : Type 0} (contents : F → Option (List ℕ)) (old new : Option F) (failure : Option E) (parts next all : List Repeated) (text : List ℕ) → text ≡ text_of next → all ≡ parts ++ next
    → MatchOption failure (Appends (option_and_then contents old) (option_and_then contents new) text) (λ _. ⊤) → Tapes contents old new failure parts all
tapes_more contents old new None parts next all text is joined written =
    record { more = next; written = joined; appended = λ works. subst (Appends (option_and_then contents old) (option_and_then contents new)) is written }
tapes_more contents old new (Some e) parts next all text is joined written = record { more = next; written = joined; appended = λ works. cc }

-- nothing is written after a failure
pub tapes_failed : {F E : Type 0} (contents : F → Option (List ℕ)) (old new : Option F) (failure : Option E) (parts next all : List Repeated) → is_some failure ≡ true → all ≡ parts ++ next → Tapes contents old new failure parts all
tapes_failed contents old new failure parts next all failed joined = record { more = next; written = joined; appended = λ works. let no : true ≡ false = sym failed ∙ works in absurd cc }

-- ---- how many bytes are written
pub counted_more : (bytes size now : ℕ) (written next all : List Repeated) (text : List ℕ) → bytes ≡ counted_bytes written → size ≡ length text → text ≡ text_of next → all ≡ written ++ next
    → now ≡ min (bytes + size) (2 ^ 64 - 1) → now ≡ counted_bytes all
counted_more bytes size now written next all text so_far long is joined sum =
    let parts : length (text_of all) ≡ length (text_of written) + length (text_of next) =
    ap (λ (ps : List Repeated). length (text_of ps)) joined ∙ ap length (flat_map-append part_lines written next) ∙ length-append (text_of written) (text_of next) in
    let more : size ≡ length (text_of next) = long ∙ ap length is in
    omega (arith, parts, more, sum, so_far)

-- ---- replies
abbrev none_of : List Repeated → Type 0
none_of parts = list_any is_reply_part parts ≡ false

-- none among fewer parts, and among more
none_fewer : (n m : ℕ) (parts : List Repeated) → n ≤ m → none_of (take m parts) → none_of (take n parts)
none_fewer n m parts few none =
    let all : m ≡ n + (m - n) = omega (arith, few) in
    let split : take m parts ≡ take n parts ++ take (m - n) (drop n parts) = ap (λ (k : ℕ). take k parts) all ∙ take-add n (m - n) parts in
    (or_parts (list_any is_reply_part (take n parts)) (list_any is_reply_part (take (m - n) (drop n parts)))
    (sym (list_any-append is_reply_part (take n parts) (take (m - n) (drop n parts))) ∙ ap (list_any is_reply_part) (sym split) ∙ none)).0

none_more : (n m : ℕ) (parts : List Repeated) → n ≤ m → none_of (take n parts) → none_of (take (m - n) (drop n parts)) → none_of (take m parts)
none_more n m parts few none other =
    let all : m ≡ n + (m - n) = omega (arith, few) in
    let split : take m parts ≡ take n parts ++ take (m - n) (drop n parts) = ap (λ (k : ℕ). take k parts) all ∙ take-add n (m - n) parts in
    ap (list_any is_reply_part) split ∙ list_any-append is_reply_part (take n parts) (take (m - n) (drop n parts))
    ∙ or_from (list_any is_reply_part (take n parts)) (list_any is_reply_part (take (m - n) (drop n parts))) none other

-- all that counts is written, or was looked at before
pub are_written : (written parts : List Repeated) (n : ℕ) → n ≤ length written → AreRepliesWritten written n parts
are_written written parts n few =
    let none : n - length written ≡ 0 = omega (arith, few) in
    ap (λ (k : ℕ). list_any is_reply_part (take k (drop (length written) parts))) none ∙ nothing (drop (length written) parts)
  where
    nothing : (ps : List Repeated) → none_of (take 0 ps)
    nothing [] = refl
    nothing (p ∷ ps) = refl

pub were_looked_at : (written parts : List Repeated) (seen n : ℕ) → n ≤ seen → AreRepliesWritten written seen parts → AreRepliesWritten written n parts
were_looked_at written parts seen n few none = none_fewer (n - length written) (seen - length written) (drop (length written) parts) (omega (arith, few)) none

-- there is nothing to look at
pub nothing_new : (written parts : List Repeated) (seen from whole : ℕ) → from ≡ max seen (length written) → whole ≤ from → AreRepliesWritten written seen parts → AreRepliesWritten written whole parts
nothing_new written parts seen from whole is few none = elim (cases_lt (length written) whole) [
  | inl some ↦ were_looked_at written parts seen whole (omega (arith, is, few, some)) none
  | inr all ↦ are_written written parts whole (omega (arith, all))
]

-- no reply is among the parts that are looked at
pub none_new : (written parts : List Repeated) (seen from whole : ℕ) → from ≡ max seen (length written) → from < whole → none_of (slice_range parts from whole)
    → AreRepliesWritten written seen parts → AreRepliesWritten written whole parts
none_new written parts seen from whole is few none before = elim (cases_lt (length written) seen) [
  | inl past ↦
      let at : from ≡ seen = omega (arith, is, past) in
      let place : length written + (seen - length written) ≡ from = omega (arith, at, past) in
      let size : (whole - length written) - (seen - length written) ≡ whole - from = omega (arith, at, past, few) in
      none_more (seen - length written) (whole - length written) (drop (length written) parts) (omega (arith, at, few)) before
      (ap₂ (λ (k : ℕ) (ps : List Repeated). list_any is_reply_part (take k ps)) size
      (drop-drop (seen - length written) (length written) parts ∙ ap (λ (k : ℕ). drop k parts) place) ∙ none)
  | inr within ↦
      let at : from ≡ length written = omega (arith, is, within) in
      subst (λ (k : ℕ). none_of (slice_range parts k whole)) at none
]

-- the parts up to the last one are written
pub all_written : (written next all parts : List Repeated) (whole : ℕ) → next ≡ slice_range parts (length written) whole → all ≡ written ++ next → length written ≤ whole → whole ≤ length parts
    → AreRepliesWritten all whole parts
all_written written next all parts whole is joined within few =
    let size : length next ≡ whole - length written =
    ap length is ∙ length-take (whole - length written) (drop (length written) parts) ∙ ap (λ (n : ℕ). min (whole - length written) n) (length-drop (length written) parts) ∙ omega (arith, few, within) in
    let total : length all ≡ length written + length next = ap length joined ∙ length-append written next in
    are_written all parts whole (omega (arith, size, total, within))
