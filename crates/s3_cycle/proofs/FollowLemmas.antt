-- The theorem of a suspended run: its pending request, and its continuation after an answer.
use Rattle.std.proofs.Common.{◌≡◌, ◌≤◌, Bool, ℕ, Some, unwrap_or, List, [], ◌∷◌, ◌++◌, Option, refl, sym, ap, ◌∙◌, subst, append-nil, append_assoc}
use Rattle.std.specs.Prelude.{slice_get}
use Rattle.std.proofs.lemmas.List.{length-map}
use Rattle.s3_lines.specs.declared.sheet.FileLine.{FileLine}
use Rattle.s3_meaning.specs.Source.{Source}
use Rattle.s3_meaning.specs.Requests as Meant
use Rattle.s3_meaning.specs.Requests.{Answer}
use Rattle.s3_meaning.specs.Output.{filled}
use Rattle.s3_match.specs.Inner.Heads.{no_file}
use Rattle.s3_match.specs.Inner.Types.{name_of_file}
use Rattle.s3_operator.specs.declared.halt_code.HaltCode.{HaltCode}
use Rattle.s3_meaning.specs.Runs.{Run, ask}
use Rattle.s3_meaning.specs.Cycle.{Req}
use Rattle.s3_program.specs.declared.program.Program.{Program}
use Rattle.s3_program.specs.Inner.Stands.{Stands, source_named}
use Rattle.s3_program.specs.Inner.Valid.{named}
use Rattle.s3_cycle.specs.declared.request.Answer as Code
use Rattle.s3_cycle.specs.declared.request.FileCall.{FileCall}
use Rattle.s3_cycle.specs.declared.request.Request.{Request}
use Rattle.s3_cycle.specs.declared.request.Request.TheVariants as asks
use Rattle.s3_cycle.specs.declared.stepper.Stepper.{Stepper}
use Rattle.s3_cycle.specs.Inner.Requests.{Allows, FitsFile, IsDiskFile, IsLine, answer_of, request_of, request_to}
use Rattle.s3_cycle.specs.Inner.Rest.{rest, answered}
use Rattle.s3_cycle.specs.Inner.Following.{Follows, Resumes, StandsFor, asked, files, put, waits}
use Rattle.s3_cycle.specs.Inner.Going.{own, held_by, here, GoesOn}
use Rattle.s3_cycle.specs.Inner.Starting.{Starts}
use Rattle.s3_cycle.proofs.PrintLemmas.{file_name}

pub waits_first : (c : Stepper) (source : Source) → waits c ≡ rest source c []
unfolding waits rest ask
waits_first c source = refl

pub begins : (program : Program) (switches : ℕ) (date : List ℕ) (c : Stepper) → Starts program switches date c
    → (source : Source) → Stands program source → StandsFor c source × ((answers : List Answer) → rest source c answers ≡ Req source switches date answers)
unfolding StandsFor
begins program switches date c starts source stands =
    (ap source_named starts.same ∙ stands, λ answers. ap (λ (run : Run). run answers) (ap (λ (s : Source). rest s c) (sym stands) ∙ (starts.runs ∙ ap (λ (s : Source). Req s switches date) stands)))

-- the run after an answer
answered_on : (c : Stepper) (answer : Code.Answer) (source : Source) (answers : List Answer) → answered source c.program c.progress c.point (answer_of answer) (held_by c) answers ≡ rest source c (answer_of answer ∷ answers)
unfolding rest ask
answered_on c answer source answers = refl

pub resumes : (old inside new : Stepper) (answer : Code.Answer) → inside ≡ old
    → GoesOn inside new (here inside (λ source program progress. answered source program progress inside.point (answer_of answer)))
    → (source : Source) → StandsFor old source → StandsFor new source × ((answers : List Answer) → rest source new answers ≡ rest source old (answer_of answer ∷ answers))
unfolding StandsFor
resumes old inside new answer same goes source stands =
    let P : Stepper → Type 0 = λ k. GoesOn k new (here k (λ source program progress. answered source program progress k.point (answer_of answer))) in
    let along : GoesOn old new (here old (λ source program progress. answered source program progress old.point (answer_of answer))) = subst P same goes in
    let stands_new : own new ≡ source = ap source_named along.program ∙ stands in (
      stands_new,
      λ answers. ap (λ (run : Run). run answers)
          (ap (λ (s : Source). rest s new) (sym stands_new) ∙ (along.runs ∙ ap (λ (s : Source). answered s old.program old.progress old.point (answer_of answer) (held_by old)) stands))
          ∙ answered_on old answer source answers,
    )

-- ---- a run that follows the semantics
-- a run that follows the semantics still follows it after one more answer
pub follows_on : (source : Source) (switches : ℕ) (date : List ℕ) (past : List Answer) (old new : Stepper) (answer : Answer)
    → Follows source switches date past old → Resumes old new answer → Follows source switches date (past ++ answer ∷ []) new
follows_on source switches date past old new answer follows goes =
    let next = goes source follows.stands in
    record {
      stands = next.0;
      runs = λ answers. next.1 answers ∙ (follows.runs (answer ∷ answers) ∙ ap (Req source switches date) (sym (append_assoc past (answer ∷ []) answers)));
    }

-- a run that follows the semantics has its pending request
pub waits_as : (source : Source) (switches : ℕ) (date : List ℕ) (past : List Answer) (c : Stepper) → Follows source switches date past c → waits c ≡ Req source switches date past
waits_as source switches date past c follows = waits_first c source ∙ (follows.runs [] ∙ ap (Req source switches date) (append-nil past))

-- ---- the pending request in the terms of the semantics
as_asked : (c : Stepper) (request : Request) → asked c ≡ request → waits c ≡ request_of c.program c.composition request
unfolding waits asked
as_asked c request is = ap (request_of c.program c.composition) is

pub waits_card : (c : Stepper) → asked c ≡ asks.Card → waits c ≡ Meant.Card
unfolding request_of
waits_card c is = as_asked c asks.Card is

pub waits_file : (c : Stepper) (file : ℕ) (call : FileCall) → asked c ≡ asks.File file call → waits c ≡ request_to (name_of_file c.program file) (put c) call
unfolding request_of put
waits_file c file call is = as_asked c (asks.File file call) is

pub waits_print : (c : Stepper) (page line : ℕ) → asked c ≡ asks.Print page line → waits c ≡ Meant.Print page line (filled (put c))
unfolding request_of put
waits_print c page line is = as_asked c (asks.Print page line) is

pub waits_jump : (c : Stepper) → asked c ≡ asks.Jump → waits c ≡ Meant.Jump
unfolding request_of
waits_jump c is = as_asked c asks.Jump is

pub waits_ask : (c : Stepper) (code : HaltCode) → asked c ≡ asks.Ask code → waits c ≡ Meant.Ask code
unfolding request_of
waits_ask c code is = as_asked c (asks.Ask code) is

pub waits_end : (c : Stepper) (at_once : Bool) → asked c ≡ asks.End at_once → waits c ≡ Meant.End at_once
unfolding request_of
waits_end c at_once is = as_asked c (asks.End at_once) is

-- a written line is as long as its positions
pub line_filled : (request : Request) (positions : List (Option ℕ)) → IsLine request positions → IsLine request (filled positions)
line_filled (asks.Print page line) positions is =
    let P : ℕ → Type 0 = λ n. (1 ≤ n) × (n ≤ 132) in
    subst P (sym (length-map positions (λ position. unwrap_or position 0x40))) is
line_filled asks.Card positions is = tt
line_filled (asks.File file call) positions is = tt
line_filled asks.Jump positions is = tt
line_filled (asks.Ask code) positions is = tt
line_filled (asks.End at_once) positions is = tt

-- ---- the files of requests
pub slot_named : (c : Stepper) (slot : ℕ) (line : FileLine) → slice_get (files c) slot ≡ Some line → name_of_file c.program slot ≡ line.name
unfolding files
slot_named c slot line there = file_name c.program slot ∙ ap (λ o. (unwrap_or o no_file).name) there

-- the files are those of the source, so no answer changes them
pub files_stand : (c : Stepper) (source : Source) → StandsFor c source → files c ≡ source.files
unfolding StandsFor files named
files_stand c source stands = ap (λ (s : Source). s.files) stands

pub files_stay : (old new : Stepper) → ((source : Source) → StandsFor old source → StandsFor new source) → files new ≡ files old
unfolding StandsFor
files_stay old new stays = files_stand new (own old) (stays (own old) refl) ∙ sym (files_stand old (own old) refl)

-- a written record is as long as its positions
pub file_filled : (files_of : List FileLine) (request : Request) (positions : List (Option ℕ)) → FitsFile files_of request positions → FitsFile files_of request (filled positions)
file_filled files_of (asks.File file call) positions is =
    let P : ℕ → Type 0 = λ n. IsDiskFile files_of file (Allows call n) in
    subst P (sym (length-map positions (λ position. unwrap_or position 0x40))) is
file_filled files_of asks.Card positions is = tt
file_filled files_of (asks.Print page line) positions is = tt
file_filled files_of asks.Jump positions is = tt
file_filled files_of (asks.Ask code) positions is = tt
file_filled files_of (asks.End at_once) positions is = tt
