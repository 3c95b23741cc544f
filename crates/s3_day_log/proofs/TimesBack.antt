-- The lines of a log are read with their times.
use Rattle.std.proofs.Common.{◌≡◌, ℕ, true, List, [], ◌∷◌, ◌++◌, Option, Some, option_and_then, map, ap, refl, ◌∙◌, arith}
use Rattle.std.specs.Prelude.{ℤ, codes, is_ok}
use Rattle.std.specs.List.{list_all}
use Rattle.std.proofs.lemmas.Bool.{and_parts}
use Rattle.json.specs.Json.{string}
use Rattle.json.specs.Find.{as_object}
use Rattle.json.specs.Print.{print}
use Rattle.json.specs.Tree.{json_tokens}
use Rattle.json.proofs.Printed.Trees.{document-print}
use Rattle.jiff.specs.Words.{parse_timestamp}
use Rattle.s3_day_log.specs.Inner.Events.{Said, begins, job_begins, job_ends, halts, replies, is_cut, stops, is_left, declines, saves, ends, is_refused}
use Rattle.s3_day_log.specs.Inner.Lines.{is_time, members_of, pairs_of, said_on, tree_of}
use Rattle.s3_day_log.specs.Inner.Logged.{events_in, fits, lines_ended}
use Rattle.s3_day_log.specs.Inner.Times.{IsLineAt, IsTimeAt, LogReadsBack, Noted, if_read, instant_at, instant_in, instant_on, instants_in}
use Rattle.s3_day_log.proofs.LogLemmas.{lines_of_rest}
use Rattle.s3_day_log.proofs.RoundTrip.{line_back, lines_back, tree_fine}
use Rattle.s3_day_log.proofs.TextLemmas.{numbers_of_decimals}

is_a_time : (second : ℕ) (at : List ℕ) → IsTimeAt second at → is_time at ≡ true
unfolding is_time
is_a_time second at reads = ap is_ok reads

at_back : (at : List ℕ) (said : Said) → instant_in (members_of ((codes "at", string at) ∷ pairs_of said)) ≡ if_read (parse_timestamp at)
at_back at (begins day) = refl
at_back at (job_begins job) = refl
at_back at (job_ends job) = refl
at_back at (halts halt) = refl
at_back at (replies reply) = refl
at_back at (is_cut level) = refl
at_back at stops = refl
at_back at (is_left left) = refl
at_back at declines = refl
at_back at (saves file) = refl
at_back at (ends status saved) = refl
at_back at (is_refused status line) = refl

instant_back : (at : List ℕ) (said : Said) → fits said ≡ true → instant_on (print (json_tokens (tree_of at said))) ≡ if_read (parse_timestamp at)
unfolding instant_on tree_of
instant_back at said fit =
    let fine = tree_fine at said fit in
    ap (λ j. option_and_then instant_in (option_and_then as_object j)) (document-print (tree_of at said) (numbers_of_decimals (tree_of at said) fine.0) (omega (arith, fine.1)))
    ∙ at_back at said

-- one line, and the lines after it
line_first : (noted : Noted) (line text begun : List ℕ) → IsLineAt noted line → fits noted.said ≡ true
    → (events_in ((line ++ text) ++ begun) ≡ Some noted.said ∷ events_in (text ++ begun)) × (instants_in ((line ++ text) ++ begun) ≡ Some (instant_at noted.second) ∷ instants_in (text ++ begun))
line_first noted line text begun is fit =
    let first = ap (λ (l : List ℕ). lines_ended ((l ++ text) ++ begun)) is.is_line ∙ lines_back is.at noted.said text begun fit in (
      ap (map said_on) first ∙ ap (λ said. said ∷ events_in (text ++ begun)) (line_back is.at noted.said (is_a_time noted.second is.at is.is_time) fit),
      ap (map instant_on) first ∙ ap (λ (instant : Option ℤ). instant ∷ instants_in (text ++ begun)) (instant_back is.at noted.said fit ∙ ap if_read is.is_time),
    )

pub times_back : LogReadsBack
times_back [] text begun are all rest =
    let nothing : text ++ begun ≡ begun = ap (λ (t : List ℕ). t ++ begun) are in
    record {
      said = ap events_in nothing ∙ ap (map said_on) (lines_of_rest begun rest);
      instants = ap instants_in nothing ∙ ap (map instant_on) (lines_of_rest begun rest);
    }
times_back (noted ∷ events) text begun (line, more, is, are, joined) all rest =
    let split = and_parts (fits noted.said) (list_all (λ each. fits each.said) events) all in
    let whole : text ++ begun ≡ (line ++ more) ++ begun = ap (λ (t : List ℕ). t ++ begun) joined in
    let first = line_first noted line more begun is split.0 in
    let after = times_back events more begun are split.1 rest in
    record {
      said = ap events_in whole ∙ first.0 ∙ ap (λ said. Some noted.said ∷ said) after.said;
      instants = ap instants_in whole ∙ first.1 ∙ ap (λ (instants : List (Option ℤ)). Some (instant_at noted.second) ∷ instants) after.instants;
    }
