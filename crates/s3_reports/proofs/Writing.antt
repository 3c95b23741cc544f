-- What is written, piece by piece.
use Rattle.std.proofs.Common.{◌≡◌, ◌==◌, ℕ, Bool, true, false, List, [], ◌∷◌, ◌++◌, append_assoc, length, take, Option, Some, None, refl, sym, ap, ◌∙◌, subst, arith}
use Rattle.std.specs.Io.KnownBytes.{Appends, Keeps}
use Rattle.std.proofs.KnownBytes.{Appends-nil, Appends-trans}
use Rattle.std.proofs.lemmas.Bool.{eqb-true}
use Rattle.std.proofs.lemmas.List.{append-nil}
use Rattle.s3_cards.specs.Printed.{Printed}
use Rattle.s3_bureau.specs.Texts.{report_of}
use Rattle.s3_reports.specs.Inner.Written.{Adds, HasWritten, LeavesBytes, Moves}

-- ---- one write
kept_known : (before now new : Option (List ℕ)) (bytes : List ℕ) → Appends before now bytes → Keeps now new → Appends before new bytes
kept_known None now new bytes more same = tt
kept_known (Some x) None new bytes more same = absurd more
kept_known (Some x) (Some y) None bytes more same = absurd same
kept_known (Some x) (Some y) (Some z) bytes more same = same ∙ more

-- none was taken
pub leaves_all : (was now : Option (List ℕ)) (bytes : List ℕ) → Keeps was now → LeavesBytes was now bytes bytes
leaves_all was now bytes same = ([], (kept_known was was now [] (Appends-nil was) same, refl))

pub leaves_none_taken : (was now : Option (List ℕ)) (bytes : List ℕ) → Appends was now (take 0 bytes) → LeavesBytes was now bytes bytes
leaves_none_taken was now [] more = ([], (more, refl))
leaves_none_taken was now (byte ∷ bytes) more = ([], (more, refl))

-- some were
pub leaves_rest : (was now : Option (List ℕ)) (bytes front left : List ℕ) (count : ℕ) → Appends was now (take count bytes) → front ≡ take count bytes → bytes ≡ front ++ left → LeavesBytes was now bytes left
leaves_rest was now bytes front left count more is whole = (front, (subst (Appends was now) (sym is) more, whole))

-- ---- one write after another
pub leaves_before : (was : Option (List ℕ)) (bytes : List ℕ) → LeavesBytes was was bytes bytes
leaves_before was bytes = ([], (Appends-nil was, refl))

pub leaves_then : (was between now : Option (List ℕ)) (bytes rest left : List ℕ) → LeavesBytes was between bytes rest → LeavesBytes between now rest left → LeavesBytes was now bytes left
leaves_then was between now bytes rest left one two =
    (one.0 ++ two.0, (Appends-trans was between now one.0 two.0 one.1.0 two.1.0, one.1.1 ∙ (ap (λ l. one.0 ++ l) two.1.1 ∙ sym (append_assoc one.0 two.0 left))))

pub all_written : (was now : Option (List ℕ)) (bytes left : List ℕ) → LeavesBytes was now bytes left → left ≡ [] → HasWritten was now false bytes
all_written was now bytes left leaves none = record { front = leaves.0; rest = left; wrote = leaves.1.0; whole = leaves.1.1; all = λ works. none }

pub front_written : (was now : Option (List ℕ)) (bytes left : List ℕ) → LeavesBytes was now bytes left → HasWritten was now true bytes
front_written was now bytes left leaves = record { front = leaves.0; rest = left; wrote = leaves.1.0; whole = leaves.1.1; all = λ works. absurd cc }

-- ---- a text
pub nothing_written : (before : Option (List ℕ)) → HasWritten before before false []
nothing_written before = record { front = []; rest = []; wrote = Appends-nil before; whole = refl; all = λ works. refl }

-- more of a text after all that came before
pub more_written : (now new : Option (List ℕ)) (has_failed : Bool) (bytes : List ℕ) → HasWritten now new has_failed bytes → Adds now new false has_failed bytes
more_written now new has_failed bytes more text before so_far =
    let all : text ≡ so_far.front = so_far.whole ∙ (ap (λ l. so_far.front ++ l) (so_far.all refl) ∙ append-nil so_far.front) in
    record {
      front = so_far.front ++ more.front;
      rest = more.rest;
      wrote = Appends-trans before now new so_far.front more.front so_far.wrote more.wrote;
      whole = ap (λ l. l ++ bytes) all ∙ (ap (λ l. so_far.front ++ l) more.whole ∙ sym (append_assoc so_far.front more.front more.rest));
      all = more.all;
    }

-- nothing more after a failure
pub none_written : (now : Option (List ℕ)) (bytes : List ℕ) → Adds now now true true bytes
none_written now bytes text before so_far = record {
  front = so_far.front;
  rest = so_far.rest ++ bytes;
  wrote = so_far.wrote;
  whole = ap (λ l. l ++ bytes) so_far.whole ∙ append_assoc so_far.front so_far.rest bytes;
  all = λ works. absurd cc;
}

-- what is flushed stays
pub still_written : (now new : Option (List ℕ)) (has_failed : Bool) (text : List ℕ) → Keeps now new → Moves now new false has_failed text text
still_written now new has_failed text same before so_far = record {
  front = so_far.front;
  rest = so_far.rest;
  wrote = kept_known before now new so_far.front so_far.wrote same;
  whole = so_far.whole;
  all = λ works. so_far.all refl;
}

-- ---- the report of some lines, piece by piece
pub adds_none : (was : Option (List ℕ)) (has_failed : Bool) → Adds was was has_failed has_failed []
adds_none was has_failed text before so_far = subst (HasWritten before was has_failed) (sym (append-nil text)) so_far

pub adds_then : (was between now : Option (List ℕ)) (first second third : Bool) (xs ys : List ℕ) → Adds was between first second xs → Adds between now second third ys → Adds was now first third (xs ++ ys)
adds_then was between now first second third xs ys one two text before so_far = subst (HasWritten before now third) (append_assoc text xs ys) (two (text ++ xs) before (one text before so_far))

pub no_report : (lines : List Printed) → true ≡ (length lines == 0) → report_of lines ≡ []
no_report [] none = refl
no_report (line ∷ lines) none = let no_line : length (line ∷ lines) ≡ 0 = eqb-true (length (line ∷ lines)) 0 (sym none) in absurd (omega (arith, no_line))

-- all of it, and it has left the program
pub adds_all : (was between now : Option (List ℕ)) (first second third : Bool) (front rest whole : List ℕ) → Adds was between first second front → front ++ rest ≡ whole → rest ≡ []
    → ((text : List ℕ) → Moves between now second third text text) → Adds was now first third whole
adds_all was between now first second third front rest whole adds is none flushed text before so_far =
    let all : front ≡ whole = sym (append-nil front) ∙ (ap (λ l. front ++ l) (sym none) ∙ is) in
    subst (λ l. HasWritten before now third (text ++ l)) all (flushed (text ++ front) before (adds text before so_far))
