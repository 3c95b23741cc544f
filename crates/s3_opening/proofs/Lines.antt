-- The tests of all lines of a job, one after another.
use Rattle.std.proofs.Common.{◌≡◌, ◌≤◌, ◌<◌, ◌+◌, slice_index_or, ℕ, zero, suc, Bool, true, List, [], ◌∷◌, map, drop, length, arith, refl, ap, ap₂, sym, ◌∙◌, subst}
use Rattle.std.proofs.lemmas.Bool.{and_parts}
use Rattle.std.specs.Prelude.{Some, Ok, Err, slice_get}
use Rattle.std.specs.List.{list_all}
use Rattle.s3_cards.specs.declared.levels.LevelId.{LevelId}
use Rattle.s3_lines.specs.declared.sheet.FileLine.{FileLine}
use Rattle.s3_store.specs.Inner.State.{PoolState}
use Rattle.s3_labels.specs.Inner.Areas.{Areas}
use Rattle.s3_job_files.specs.Inner.Holds.{seen}
use Rattle.s3_opening.specs.declared.fault.OpeningFault.{OpeningFault}
use Rattle.s3_opening.specs.declared.starts.Start.{Start}
use Rattle.s3_opening.specs.Opening.{Settings}
use Rattle.s3_opening.specs.Inner.Starts.{step_in, AreRight, ReadsPack, TestsTo}
use Rattle.s3_opening.specs.Inner.Tests.{passed, tested_lines}
use Rattle.s3_opening.proofs.Readings.{reads_ok, reads_then}
use Rattle.s3_opening.proofs.Steps.{lines_first, lines_refused}

-- the first i lines are tested, and nothing has changed
pub record IsTesting (level : LevelId) (settings : Settings) (lines : List FileLine) (areas now : Areas) (s t : PoolState) (old starts : List Start) (i : ℕ) : Type 0 where
  pub rest : tested_lines level (seen areas s.contents) settings (drop i lines) (map step_in starts) ≡ tested_lines level (seen areas s.contents) settings lines (map step_in old)
  pub reads : ReadsPack (Ok (tt {0})) areas now s t
  pub right : AreRight level (seen areas s.contents) starts

drop_at : (lines : List FileLine) (i : ℕ) (line : FileLine) → slice_get lines i ≡ Some line → drop i lines ≡ line ∷ drop (i + 1) lines
drop_at [] i line h = absurd cc
drop_at (first ∷ lines) zero line h = let same : first ≡ line = cc in rw same refl
drop_at (first ∷ lines) (suc i) line h = let e : suc i + 1 ≡ suc (i + 1) = omega arith in rw e (drop_at lines i line h)

same_seen : (areas now : Areas) (s t : PoolState) → ReadsPack (Ok (tt {0})) areas now s t → seen now t.contents ≡ seen areas s.contents
same_seen areas now s t reads = ap₂ seen reads.areas reads.keeps.contents

pub testing_on : {done : Unit {0}} (level : LevelId) (settings : Settings) (lines : List FileLine) (areas now after : Areas) (s t u : PoolState) (old starts more : List Start) (i : ℕ) (line : FileLine)
    → IsTesting level settings lines areas now s t old starts i → slice_get lines i ≡ Some line → tested_lines level (seen now t.contents) settings (line ∷ []) (map step_in starts) ≡ passed (map step_in more)
    → AreRight level (seen now t.contents) more → ReadsPack (Ok done) now after t u → IsTesting level settings lines areas after s u old more (i + 1)
testing_on level settings lines areas now after s t u old starts more i line so here first right reads =
    let at : seen now t.contents ≡ seen areas s.contents = same_seen areas now s t so.reads in record {
      rest = sym (lines_first level (seen areas s.contents) settings line (drop (i + 1) lines) (map step_in starts) (map step_in more) (subst (λ one. tested_lines level one settings (line ∷ []) (map step_in starts) ≡ passed (map step_in more)) at first))
          ∙ sym (ap (λ list. tested_lines level (seen areas s.contents) settings list (map step_in starts)) (drop_at lines i line here)) ∙ so.rest;
      reads = reads_ok tt (reads_then so.reads reads);
      right = subst (λ one. AreRight level one more) at right;
    }

pub testing_fails : (T : Type 0) (level : LevelId) (settings : Settings) (lines : List FileLine) (areas now : Areas) (s t : PoolState) (old starts more : List Start) (i : ℕ) (line : FileLine) (fault : OpeningFault)
    → IsTesting level settings lines areas now s t old starts i → slice_get lines i ≡ Some line
    → TestsTo {T = T} (tested_lines level (seen now t.contents) settings (line ∷ []) (map step_in starts)) (map step_in more) (Err fault)
    → TestsTo {T = T} (tested_lines level (seen areas s.contents) settings lines (map step_in old)) (map step_in more) (Err fault)
testing_fails T level settings lines areas now s t old starts more i line fault so here first =
    subst (λ meant. TestsTo {T = T} meant (map step_in more) (Err fault)) (sym (ap (λ list. tested_lines level (seen areas s.contents) settings list (map step_in starts)) (drop_at lines i line here)) ∙ so.rest)
    (lines_refused T level (seen areas s.contents) settings line (drop (i + 1) lines) (map step_in starts) (map step_in more) fault
    (subst (λ one. TestsTo {T = T} (tested_lines level one settings (line ∷ []) (map step_in starts)) (map step_in more) (Err fault)) (same_seen areas now s t so.reads) first))

drop_all : (xs : List FileLine) (i : ℕ) → length xs ≤ i → drop i xs ≡ []
drop_all [] zero h = refl
drop_all [] (suc i) h = refl
drop_all (x ∷ xs) zero h = absurd (omega (arith, h))
drop_all (x ∷ xs) (suc i) h = drop_all xs i (omega (arith, h))

pub testing_end : (level : LevelId) (settings : Settings) (lines : List FileLine) (areas now : Areas) (s t : PoolState) (old starts : List Start) (i : ℕ) → length lines ≤ i
    → IsTesting level settings lines areas now s t old starts i → tested_lines level (seen areas s.contents) settings lines (map step_in old) ≡ passed (map step_in starts)
unfolding tested_lines
testing_end level settings lines areas now s t old starts i all so =
    sym so.rest ∙ ap (λ list. tested_lines level (seen areas s.contents) settings list (map step_in starts)) (drop_all lines i all)

pub line_there : (lines : List FileLine) (i : ℕ) (line : FileLine) (test : FileLine → Bool) → list_all test lines ≡ true → slice_get lines i ≡ Some line → test line ≡ true
line_there [] i line test all here = absurd cc
line_there (first ∷ lines) zero line test all here = let same : first ≡ line = cc in sym (ap test same) ∙ (and_parts _ _ all).0
line_there (first ∷ lines) (suc i) line test all here = line_there lines i line test (and_parts _ _ all).1 here

pub here_at : (lines : List FileLine) (i : ℕ) (d : FileLine) → i < length lines → slice_get lines i ≡ Some (slice_index_or lines i d)
here_at [] i d lt = absurd (omega (arith, lt))
here_at (first ∷ lines) zero d lt = refl
here_at (first ∷ lines) (suc i) d lt = here_at lines i d (omega (arith, lt))
