-- Dumps that are read character by character.
use Rattle.std.proofs.Common.{◌≡◌, ℕ, ◌+◌, ◌<◌, ◌≤◌, refl, sym, ◌∙◌, ap, subst, arith, true, false, cond, ◌==◌, if◌then◌else◌, List, [], ◌∷◌, length, take, drop, get_or}
use Rattle.std.specs.Prelude.{Some, None}
use Rattle.std.specs.List.{fold}
use Rattle.std.proofs.lemmas.List.{drop_all, drop_more, take-append-drop, take_all}
use Rattle.std.proofs.lemmas.List.Sums.{fold-append, fold_more}
use Rattle.s3_dump.specs.Inner.Dumps.{IsNoDump, Stops, begun, is_start, line_after, line_end, next_line, restored, step, step_by, whole}
use Rattle.s3_dump.specs.Inner.Writing.{reads}
use Rattle.s3_dump.specs.declared.reading.Mode.{Mode}

pub one_more_read : (text : List ℕ) (i c : ℕ) (mode next : Mode) (old new : List ℕ) → i < length text → c ≡ get_or text i c → reads (take i text) mode old → step_by mode c old ≡ Some (record { mode = next; bytes = new }) → reads (take (i + 1) text) next new
one_more_read text i c mode next old new h is before one =
    fold_more step (Some begun) text i c h ∙ ap (λ s. step s (get_or text i c)) before ∙ ap (λ d. step_by mode d old) (sym is) ∙ one

none_stays : (text : List ℕ) → fold step None text ≡ None
none_stays [] = refl
none_stays (c ∷ text) = none_stays text

none_restored : (text : List ℕ) (i c : ℕ) (mode : Mode) (old : List ℕ) → i < length text → c ≡ get_or text i c → reads (take i text) mode old → step_by mode c old ≡ None → restored text ≡ None
none_restored text i c mode old h is before one =
    let last : fold step (Some begun) (take (i + 1) text) ≡ None = fold_more step (Some begun) text i c h ∙ ap (λ s. step s (get_or text i c)) before ∙ ap (λ d. step_by mode d old) (sym is) ∙ one in
    let all : fold step (Some begun) text ≡ None =
    ap (fold step (Some begun)) (sym (take-append-drop (i + 1) text)) ∙ fold-append step (Some begun) (take (i + 1) text) (drop (i + 1) text) ∙ ap (λ s. fold step s (drop (i + 1) text)) last ∙ none_stays (drop (i + 1) text) in
    ap whole all

stops_here : (text : List ℕ) (i c : ℕ) (mode : Mode) (old : List ℕ) → i < length text → c ≡ get_or text i c → step_by mode c old ≡ None → Stops (record { mode = mode; bytes = old }) (drop i text)
stops_here text i c mode old h is one =
    subst (Stops (record { mode = mode; bytes = old })) (sym (drop_more text i c h)) (ap (λ d. step_by mode d old) (sym is) ∙ one)

pub refused_here : (text : List ℕ) (i c line : ℕ) (mode : Mode) (old : List ℕ) → i < length text → c ≡ get_or text i c → reads (take i text) mode old → step_by mode c old ≡ None → line ≡ line_after (take i text) → IsNoDump text line
refused_here text i c line mode old h is before one counted = record {
  none = none_restored text i c mode old h is before one;
  place = record { place = i; state = record { mode = mode; bytes = old }; begins = before; stops = stops_here text i c mode old h is one; line_is = counted };
}

all_read : (text : List ℕ) (i : ℕ) (mode : Mode) (bytes : List ℕ) → length text ≤ i → reads (take i text) mode bytes → restored text ≡ cond (is_start mode) (Some bytes) None
all_read text i mode bytes h before = ap (λ t. whole (fold step (Some begun) t)) (sym (take_all i text h)) ∙ ap whole before

pub whole_read : (text : List ℕ) (i : ℕ) (mode : Mode) (bytes : List ℕ) → length text ≤ i → reads (take i text) mode bytes → is_start mode ≡ true → restored text ≡ Some bytes
whole_read text i mode bytes h before start = all_read text i mode bytes h before ∙ ap (λ b. cond b (Some bytes) None) start

stops_at_end : (text : List ℕ) (mode : Mode) (bytes : List ℕ) → is_start mode ≡ false → Stops (record { mode = mode; bytes = bytes }) (drop (length text) text)
stops_at_end text mode bytes other = subst (Stops (record { mode = mode; bytes = bytes })) (sym (drop_all (length text) text (omega arith))) other

pub not_whole : (text : List ℕ) (i line : ℕ) (mode : Mode) (bytes : List ℕ) → length text ≤ i → reads (take i text) mode bytes → is_start mode ≡ false → line ≡ line_after text → IsNoDump text line
not_whole text i line mode bytes h before other counted =
    let whole_text : take (length text) text ≡ text = take_all (length text) text (omega arith) in
    let all : reads text mode bytes = subst (λ t. reads t mode bytes) (take_all i text h) before in
    record {
      none = all_read text i mode bytes h before ∙ ap (λ b. cond b (Some bytes) None) other;
      place = record {
        place = length text;
        state = record { mode = mode; bytes = bytes };
        begins = subst (λ t. reads t mode bytes) (sym whole_text) all;
        stops = stops_at_end text mode bytes other;
        line_is = counted ∙ ap line_after (sym whole_text);
      };
    }

-- one character more in the count of lines
line_more : (text : List ℕ) (i c : ℕ) → i < length text → c ≡ get_or text i c → line_after (take (i + 1) text) ≡ (if c == line_end then line_after (take i text) + 1 else line_after (take i text))
line_more text i c h is = fold_more next_line 1 text i c h ∙ ap (λ d. next_line (line_after (take i text)) d) (sym is)

pub one_line_more : (text : List ℕ) (i c line : ℕ) → i < length text → c ≡ get_or text i c → c ≡ line_end → line ≡ line_after (take i text) → line + 1 ≡ line_after (take (i + 1) text)
one_line_more text i c line h is ends before = ap (λ n. n + 1) before ∙ sym (line_more text i c h is ∙ ap (λ d. next_line (line_after (take i text)) d) ends)

pub no_line_more : (text : List ℕ) (i c line : ℕ) → i < length text → c ≡ get_or text i c → (c == line_end) ≡ false → line ≡ line_after (take i text) → line ≡ line_after (take (i + 1) text)
no_line_more text i c line h is other before = before ∙ sym (line_more text i c h is ∙ ap (λ b. cond b (line_after (take i text) + 1) (line_after (take i text))) other)
