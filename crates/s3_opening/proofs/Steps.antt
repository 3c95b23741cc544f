-- The steps of a job's files, one behind another.
use Rattle.std.proofs.Common.{◌≡◌, inl, inr, Bool, true, false, ◌||◌, List, [], ◌∷◌, ◌++◌, map, refl, ap, sym, ◌∙◌, subst}
use Rattle.std.proofs.lemmas.Bool.{and_parts}
use Rattle.std.specs.Prelude.{Option, Some, None, Result, Ok, Err, slice_get, find, if◌then◌else◌}
use Rattle.std.specs.List.{list_all, list_any}
use Rattle.s3_cards.specs.declared.levels.LevelId.{LevelId}
use Rattle.s3_cards.specs.declared.name.Name.{Name}
use Rattle.s3_cards.specs.Names.{same_name}
use Rattle.s3_lines.specs.declared.sheet.FileLine.{FileLine}
use Rattle.s3_ocl.specs.declared.contents.FileStatement.{FileStatement}
use Rattle.s3_ocl.specs.Inner.Sound.{is_sound_file}
use Rattle.s3_job_files.specs.Files.{JobFile}
use Rattle.s3_job_files.specs.Inner.Holds.{Seen, job_file_of}
use Rattle.s3_job_files.specs.declared.file.OpenFile.{OpenFile}
use Rattle.s3_opening.specs.declared.starts.Start.{Start}
use Rattle.s3_opening.specs.Opening.{Settings, statement_of}
use Rattle.s3_opening.specs.declared.fault.OpeningFault.{OpeningFault}
use Rattle.s3_opening.specs.declared.fault.OpeningFault.TheVariants.{Halted, Sectors}
use Rattle.s3_opening.specs.Asked.{is_new, is_used, new_file}
use Rattle.s3_opening.specs.Inner.Starts.{step_in, Gives, TestsTo, IsRight, AreRight}
use Rattle.s3_opening.specs.Inner.Tests.{Step, Makes, Tested, step_stated, opening, tested_file, label_of, is_label_of, behind, passed, refused_at, step_of, tested_lines}
use Rattle.s3_operator.specs.declared.halt_code.HaltCode.{HaltCode}
use Rattle.s3_operator.specs.declared.halt_code.HaltCode.TheVariants.{DuplicateLabel, NoLabel}
use Rattle.s3_slots.specs.declared.making.NewFile.{NewFile}
use Rattle.s3_slots.proofs.Keeping.{push_cases}
use Rattle.std.proofs.lemmas.List.{map-append}

pub list_any_mapped : {X Y : Type 0} (f : X → Y) (test : Y → Bool) (xs : List X) → list_any test (map f xs) ≡ list_any (λ x. test (f x)) xs
list_any_mapped f test [] = refl
list_any_mapped f test (x ∷ xs) = ap (λ b. test (f x) || b) (list_any_mapped f test xs)

pub any_mapped : (label : Name) (starts : List Start) → is_label_of label (map step_in starts) ≡ list_any (λ start. same_name (label_of (step_in start)) label) starts
any_mapped label starts = list_any_mapped step_in (λ step. same_name (label_of step) label) starts

-- a statement that is found is sound where all are
found_passes : (test : FileStatement → Bool) (sound : FileStatement → Bool) (statements : List FileStatement) (statement : FileStatement) → list_all sound statements ≡ true
    → find test statements ≡ Some statement → sound statement ≡ true
found_passes test sound [] statement all h = absurd cc
found_passes test sound (first ∷ more) statement all h = by (test first) (and_parts _ _ all) h (found_passes test sound more statement)
  where
    by : (b : Bool) → (sound first ≡ true) × (list_all sound more ≡ true) → (if b then Some first else find test more) ≡ Some statement
        → (list_all sound more ≡ true → find test more ≡ Some statement → sound statement ≡ true) → sound statement ≡ true
    by true parts e go = let same : first ≡ statement = cc in sym (ap sound same) ∙ parts.0
    by false parts e go = go parts.1 e

pub stated_sound : (name : Name) (statements : List FileStatement) (statement : FileStatement) → list_all is_sound_file statements ≡ true → statement_of name statements ≡ Some statement → is_sound_file statement ≡ true
stated_sound name statements statement all h = found_passes (λ one. same_name one.name name) is_sound_file statements statement all h

-- ---- the step of one file
pub none_stated : (level : LevelId) (seen : Seen) (settings : Settings) (steps : List Step) (line : FileLine) → statement_of line.name settings.statements ≡ None → step_of level seen settings steps line ≡ Err NoLabel
unfolding step_of
none_stated level seen settings steps line none = ap (step_stated level seen settings.date steps line) none

by_label : LevelId → Seen → Settings → FileLine → FileStatement → (taken : Bool) → Result Step HaltCode
by_label level seen settings line statement taken =
    if taken then Err DuplicateLabel
    else (if is_new line then Ok (Makes line.name (new_file settings.date line statement)) else opening (tested_file level seen line statement.label))

stated : (level : LevelId) (seen : Seen) (settings : Settings) (starts : List Start) (line : FileLine) (statement : FileStatement) (taken : Bool) → statement_of line.name settings.statements ≡ Some statement
    → list_any (λ start. same_name (label_of (step_in start)) statement.label) starts ≡ taken → step_of level seen settings (map step_in starts) line ≡ by_label level seen settings line statement taken
unfolding step_of by_label
stated level seen settings starts line statement taken found is =
    ap (step_stated level seen settings.date (map step_in starts) line) found ∙ ap (by_label level seen settings line statement) (any_mapped statement.label starts ∙ is)

pub label_taken : (level : LevelId) (seen : Seen) (settings : Settings) (starts : List Start) (line : FileLine) (statement : FileStatement) → statement_of line.name settings.statements ≡ Some statement
    → list_any (λ start. same_name (label_of (step_in start)) statement.label) starts ≡ true → step_of level seen settings (map step_in starts) line ≡ Err DuplicateLabel
unfolding by_label
label_taken level seen settings starts line statement found taken = stated level seen settings starts line statement true found taken

pub step_made : (level : LevelId) (seen : Seen) (settings : Settings) (starts : List Start) (line : FileLine) (statement : FileStatement) (new : NewFile) → statement_of line.name settings.statements ≡ Some statement
    → list_any (λ start. same_name (label_of (step_in start)) statement.label) starts ≡ false → is_new line ≡ true → new ≡ new_file settings.date line statement
    → step_of level seen settings (map step_in starts) line ≡ Ok (Makes line.name new)
unfolding by_label
step_made level seen settings starts line statement new found untaken made is =
    let by_new : Bool → Result Step HaltCode = λ b. if b then Ok (Makes line.name (new_file settings.date line statement)) else opening (tested_file level seen line statement.label) in
    let made_as : NewFile → Result Step HaltCode = λ n. Ok (Makes line.name n) in
    stated level seen settings starts line statement false found untaken ∙ ap by_new made ∙ ap made_as (sym is)

pub step_opened : (level : LevelId) (seen : Seen) (settings : Settings) (starts : List Start) (line : FileLine) (statement : FileStatement) → statement_of line.name settings.statements ≡ Some statement
    → list_any (λ start. same_name (label_of (step_in start)) statement.label) starts ≡ false → is_new line ≡ false
    → step_of level seen settings (map step_in starts) line ≡ opening (tested_file level seen line statement.label)
unfolding by_label
step_opened level seen settings starts line statement found untaken old =
    let by_new : Bool → Result Step HaltCode = λ b. if b then Ok (Makes line.name (new_file settings.date line statement)) else opening (tested_file level seen line statement.label) in
    stated level seen settings starts line statement false found untaken ∙ ap by_new old

pub step_refused : (step : Result Step HaltCode) (tested : Result JobFile HaltCode) (fault : OpeningFault) → step ≡ opening tested → Gives {T = OpenFile} job_file_of tested (Err fault)
    → Gives {T = Start} step_in step (Err fault)
step_refused step tested (Sectors fault) is refused = tt
step_refused step tested (Halted code) is refused = is ∙ ap opening refused

-- ---- the test of one line
abbrev by_use : (used : Bool) → List Step → Result Step HaltCode → Tested
by_use used steps step = if used then behind steps step passed else passed steps

of_one : (level : LevelId) (seen : Seen) (settings : Settings) (line : FileLine) (steps : List Step) → tested_lines level seen settings (line ∷ []) steps ≡ by_use (is_used settings.switches line) steps (step_of level seen settings steps line)
unfolding tested_lines
of_one level seen settings line steps = by (is_used settings.switches line) (step_of level seen settings steps line)
  where
    by : (used : Bool) (step : Result Step HaltCode) → (if used then behind steps step (λ more. passed more) else passed steps) ≡ by_use used steps step
    by used step = refl

pub line_unused : (level : LevelId) (seen : Seen) (settings : Settings) (line : FileLine) (steps : List Step) → is_used settings.switches line ≡ false → tested_lines level seen settings (line ∷ []) steps ≡ passed steps
line_unused level seen settings line steps unused = of_one level seen settings line steps ∙ ap (λ used. by_use used steps (step_of level seen settings steps line)) unused

pub line_taken : (level : LevelId) (seen : Seen) (settings : Settings) (line : FileLine) (starts shown more : List Start) (start : Start) → is_used settings.switches line ≡ true → shown ≡ starts
    → step_of level seen settings (map step_in shown) line ≡ Ok (step_in start) → more ≡ starts ++ start ∷ [] → tested_lines level seen settings (line ∷ []) (map step_in starts) ≡ passed (map step_in more)
line_taken level seen settings line starts shown more start used same step pushed =
    of_one level seen settings line (map step_in starts) ∙ ap (λ b. by_use b (map step_in starts) (step_of level seen settings (map step_in starts) line)) used
    ∙ ap (λ one. behind (map step_in starts) one passed) (ap (λ s. step_of level seen settings (map step_in s) line) (sym same) ∙ step)
    ∙ ap passed (sym (ap (map step_in) pushed ∙ map-append step_in starts (start ∷ [])))

pub line_refused : (T X : Type 0) (shown : X → Step) (level : LevelId) (seen : Seen) (settings : Settings) (line : FileLine) (starts given : List Start) (fault : OpeningFault) → is_used settings.switches line ≡ true
    → given ≡ starts → Gives shown (step_of level seen settings (map step_in given) line) (Err fault)
    → TestsTo {T = T} (tested_lines level seen settings (line ∷ []) (map step_in starts)) (map step_in starts) (Err fault)
line_refused T X shown level seen settings line starts given (Sectors fault) used same step = tt
line_refused T X shown level seen settings line starts given (Halted code) used same step =
    of_one level seen settings line (map step_in starts) ∙ ap (λ b. by_use b (map step_in starts) (step_of level seen settings (map step_in starts) line)) used
    ∙ ap (λ one. behind (map step_in starts) one passed) (ap (λ s. step_of level seen settings (map step_in s) line) (sym same) ∙ step)

-- one more is right
pub right_pushed : (level : LevelId) (seen : Seen) (starts more : List Start) (start : Start) → AreRight level seen starts → IsRight level seen start → more ≡ starts ++ start ∷ [] → AreRight level seen more
right_pushed level seen starts more start right is pushed = λ i one there.
    elim (push_cases starts i start one (sym (ap (λ l. slice_get l i) pushed) ∙ there)) [
      | inl last ↦ subst (IsRight level seen) (sym last.1) is
      | inr before ↦ right i one before
    ]

-- ---- the tests of several lines
abbrev go_on : List Step → Option HaltCode → (List Step → Tested) → Tested
go_on steps None go = go steps
go_on steps (Some code) go = refused_at steps code

abbrev and_tested : Tested → (List Step → Tested) → Tested
and_tested first go = go_on first.steps first.refused go

-- tests of one line go before those of the others
composed : (level : LevelId) (seen : Seen) (settings : Settings) (line : FileLine) (lines : List FileLine) (steps : List Step)
    → tested_lines level seen settings (line ∷ lines) steps ≡ and_tested (tested_lines level seen settings (line ∷ []) steps) (tested_lines level seen settings lines)
unfolding tested_lines
composed level seen settings line lines steps = by (is_used settings.switches line) (step_of level seen settings steps line)
  where
    by : (used : Bool) (step : Result Step HaltCode) → (if used then behind steps step (tested_lines level seen settings lines) else tested_lines level seen settings lines steps)
        ≡ and_tested (if used then behind steps step (λ more. passed more) else passed steps) (tested_lines level seen settings lines)
    by false step = refl
    by true (Ok step) = refl
    by true (Err code) = refl

pub lines_first : (level : LevelId) (seen : Seen) (settings : Settings) (line : FileLine) (lines : List FileLine) (steps mid : List Step) → tested_lines level seen settings (line ∷ []) steps ≡ passed mid
    → tested_lines level seen settings (line ∷ lines) steps ≡ tested_lines level seen settings lines mid
lines_first level seen settings line lines steps mid first = composed level seen settings line lines steps ∙ ap (λ t. and_tested t (tested_lines level seen settings lines)) first

pub lines_refused : (T : Type 0) (level : LevelId) (seen : Seen) (settings : Settings) (line : FileLine) (lines : List FileLine) (steps mid : List Step) (fault : OpeningFault)
    → TestsTo {T = T} (tested_lines level seen settings (line ∷ []) steps) mid (Err fault) → TestsTo {T = T} (tested_lines level seen settings (line ∷ lines) steps) mid (Err fault)
lines_refused T level seen settings line lines steps mid (Sectors fault) first = tt
lines_refused T level seen settings line lines steps mid (Halted code) first =
    composed level seen settings line lines steps ∙ ap (λ t. and_tested t (tested_lines level seen settings lines)) first
