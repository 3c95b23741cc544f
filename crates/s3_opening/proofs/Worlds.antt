-- Whatever files are held: what the tests say is what the start of the job says.
use Rattle.std.proofs.Common.{◌≡◌, ℕ, ◌+◌, Bool, true, false, ◌||◌, List, [], ◌∷◌, ◌++◌, refl, ap, ap₂, sym, ◌∙◌, subst}
use Rattle.std.specs.Prelude.{Option, Some, None, Result, Ok, Err, if◌then◌else◌}
use Rattle.std.specs.List.{list_any}
use Rattle.std.proofs.lemmas.Bool.{true≢false}
use Rattle.s3_cards.specs.declared.levels.LevelId.{LevelId}
use Rattle.s3_cards.specs.declared.name.Name.{Name}
use Rattle.s3_cards.specs.Names.{same_name}
use Rattle.s3_lines.specs.declared.sheet.FileLine.{FileLine}
use Rattle.s3_ocl.specs.declared.contents.FileStatement.{FileStatement}
use Rattle.s3_operator.specs.declared.halt_code.HaltCode.{HaltCode}
use Rattle.s3_operator.specs.declared.halt_code.HaltCode.TheVariants.{DuplicateLabel}
use Rattle.s3_slots.specs.Making.{made}
use Rattle.s3_slots.specs.Slots.{standing}
use Rattle.s3_slots.specs.declared.label.FileLabel.{FileLabel}
use Rattle.s3_slots.specs.declared.making.LabelFault.{LabelFault}
use Rattle.s3_slots.specs.declared.making.NewFile.{NewFile}
use Rattle.s3_slots.specs.declared.slot.Slot.{Slot}
use Rattle.s3_slots.specs.declared.slot.Standing.{Standing}
use Rattle.s3_slots.specs.declared.slot.Standing.TheVariants.{Absent, Blocked, Present}
use Rattle.s3_job_files.specs.Files.{Files, FilesInUse, JobFile}
use Rattle.s3_opening.specs.Opening.{Settings, first_kept, halt_of_make, open_file, open_line, open_lines, open_master, open_own, open_standing, open_stated, refusal_of, statement_of, unless_halted, unless_refused, with_file, with_new, job_file, is_taken, make_file, after_make, none_in_use, opened}
use Rattle.s3_opening.specs.Inner.Tests.{Step, ending, finished, news_of, opening, refused_at, behind, step_of, step_stated, tested, tested_file, tested_found, tested_lines, Opens, Makes, label_of, is_label_of, taken_one, taken}
use Rattle.s3_opening.specs.Asked.{is_new, is_used, new_file}
use Rattle.s3_opening.proofs.Made.{made_else}
use Rattle.s3_job_files.proofs.Putting.{differ_sym}
use Rattle.s3_job_files.proofs.Standings.{present_named}
use Rattle.s3_job_files.specs.Kept.{Kept, kept_on}
use Rattle.s3_job_files.specs.Inner.Holds.{HoldsFiles, Seen}
use Rattle.s3_slots.specs.Inner.Making.{and_then, file_in, found, planned}

-- after these steps: only under their labels it may have changed
pub record Follows (files : Files) (steps : List Step) (so_far : FilesInUse) : Type 0 where
  pub format : so_far.files.format ≡ files.format
  pub region : so_far.files.own.region ≡ files.own.region
  pub masters : so_far.files.masters ≡ files.masters
  pub own : (name : Name) → is_label_of name steps ≡ false → standing name so_far.files.own.slots ≡ standing name files.own.slots
  pub kept : (name : Name) → is_label_of name steps ≡ false → so_far.files.own.kept name ≡ files.own.kept name
  pub labels : (name : Name) → is_taken name so_far.job_files ≡ is_label_of name steps

pub follows_none : (files : Files) → Follows files [] (none_in_use files)
follows_none files = record { format = refl; region = refl; masters = refl; own = λ name free. refl; kept = λ name free. refl; labels = λ name. refl }

any_last : {X : Type 0} (test : X → Bool) (xs : List X) (x : X) → list_any test (xs ++ x ∷ []) ≡ (list_any test xs || test x)
any_last test [] x = by (test x)
  where
    by : (b : Bool) → (b || false) ≡ b
    by true = refl
    by false = refl
any_last test (y ∷ xs) x = ap (λ b. test y || b) (any_last test xs x) ∙ assoc (test y) (list_any test xs) (test x)
  where
    assoc : (a b c : Bool) → (a || (b || c)) ≡ ((a || b) || c)
    assoc true b c = refl
    assoc false b c = refl

-- a name that no longer list of steps has
free_first : (name : Name) (steps : List Step) (step : Step) → is_label_of name (steps ++ step ∷ []) ≡ false → (is_label_of name steps ≡ false) × (same_name (label_of step) name ≡ false)
free_first name steps step free = by (is_label_of name steps) (same_name (label_of step) name) (sym (any_last (λ one. same_name (label_of one) name) steps step) ∙ free)
  where
    by : (a b : Bool) → (a || b) ≡ false → (a ≡ false) × (b ≡ false)
    by true b h = absurd (true≢false h)
    by false b h = (refl, h)

labels_last : (files : List JobFile) (steps : List Step) (file : JobFile) (step : Step) (name : Name) → is_taken name files ≡ is_label_of name steps → file.label ≡ label_of step
    → is_taken name (files ++ file ∷ []) ≡ is_label_of name (steps ++ step ∷ [])
labels_last files steps file step name before same =
    any_last (λ one. same_name one.label name) files file
    ∙ ap₂ (λ a b. a || b) before (ap (λ label. same_name label name) same)
    ∙ sym (any_last (λ one. same_name (label_of one) name) steps step)

follows_made : (files : Files) (steps : List Step) (so_far after : FilesInUse) (name : Name) (new : NewFile) (slots : Result (List Slot) LabelFault) → Follows files steps so_far
    → made so_far.files.format so_far.files.own.region so_far.files.masters.slots new so_far.files.own.slots ≡ slots → after_make name new so_far slots ≡ Ok after → Follows files (steps ++ Makes name new ∷ []) after
follows_made files steps so_far after name new (Err fault) follows is h = absurd cc
follows_made files steps so_far after name new (Ok slots) follows is h =
    let made_is : with_file (job_file name new.name false true) (record so_far { files = with_new new slots so_far.files }) ≡ after = cc in
    subst (Follows files (steps ++ Makes name new ∷ [])) made_is (record {
      format = follows.format;
      region = follows.region;
      masters = follows.masters;
      own = λ other free. let parts = free_first other steps (Makes name new) free in
          made_else so_far.files.format so_far.files.own.region so_far.files.masters.slots new so_far.files.own.slots slots other parts.1 is ∙ follows.own other parts.0;
      kept = λ other free. let parts = free_first other steps (Makes name new) free in kept_else other parts.1 ∙ follows.kept other parts.0;
      labels = λ other. labels_last so_far.job_files steps (job_file name new.name false true) (Makes name new) other (follows.labels other) refl;
    })
  where
    kept_else : (other : Name) → same_name new.name other ≡ false → (with_new new slots so_far.files).own.kept other ≡ so_far.files.own.kept other
    kept_else other differs = ap (λ (b : Bool). if b then first_kept new else so_far.files.own.kept other) (differ_sym new.name other differs)

pub follows_one : (files : Files) (steps : List Step) (so_far after : FilesInUse) (step : Step) → Follows files steps so_far → taken_one step so_far ≡ Ok after → Follows files (steps ++ step ∷ []) after
unfolding make_file
follows_one files steps so_far after (Makes name new) follows h =
    follows_made files steps so_far after name new (made so_far.files.format so_far.files.own.region so_far.files.masters.slots new so_far.files.own.slots) follows refl h
follows_one files steps so_far after (Opens file) follows h =
    let is : with_file file so_far ≡ after = cc in
    subst (Follows files (steps ++ Opens file ∷ [])) is (record {
      format = follows.format;
      region = follows.region;
      masters = follows.masters;
      own = λ other free. follows.own other (free_first other steps (Opens file) free).0;
      kept = λ other free. follows.kept other (free_first other steps (Opens file) free).0;
      labels = λ other. labels_last so_far.job_files steps file (Opens file) other (follows.labels other) refl;
    })

append_last : {X : Type 0} (xs : List X) (x : X) (ys : List X) → xs ++ x ∷ ys ≡ (xs ++ x ∷ []) ++ ys
append_last [] x ys = refl
append_last (y ∷ xs) x ys = ap (λ zs. y ∷ zs) (append_last xs x ys)

follows_from : (files : Files) (done steps : List Step) (so_far after : FilesInUse) → Follows files done so_far → taken steps so_far ≡ Ok after → Follows files (done ++ steps) after
unfolding taken
follows_from files done [] so_far after follows h = let same : so_far ≡ after = cc in subst (λ list. Follows files list after) (sym (append_none done)) (subst (Follows files done) same follows)
  where
    append_none : (xs : List Step) → xs ++ [] ≡ xs
    append_none [] = refl
    append_none (x ∷ xs) = ap (λ zs. x ∷ zs) (append_none xs)
follows_from files done (step ∷ steps) so_far after follows h =
    by (taken_one step so_far) refl h (λ next e more. subst (λ list. Follows files list after) (sym (append_last done step steps))
    (follows_from files (done ++ step ∷ []) steps next after (follows_one files done so_far next step follows e) more))
  where
    by : (one : Result FilesInUse HaltCode) → taken_one step so_far ≡ one → unless_halted one (taken steps) ≡ Ok after
        → ((next : FilesInUse) → taken_one step so_far ≡ Ok next → taken steps next ≡ Ok after → Follows files (done ++ step ∷ steps) after) → Follows files (done ++ step ∷ steps) after
    by (Err code) e h go = absurd cc
    by (Ok next) e h go = go next e h

pub follows_all : (files : Files) (steps : List Step) (after : FilesInUse) → taken steps (none_in_use files) ≡ Ok after → Follows files steps after
follows_all files steps after h = follows_from files [] steps (none_in_use files) after (follows_none files) h

-- ---- one file
abbrev by_step : Result Step HaltCode → FilesInUse → Result FilesInUse HaltCode
by_step (Ok step) so_far = taken_one step so_far
by_step (Err code) so_far = Err code

refusal_same : (refusal : Option HaltCode) (file : JobFile) (so_far : FilesInUse) → unless_refused refusal (with_file file so_far) ≡ by_step (opening (tested refusal file)) so_far
refusal_same (Some code) file so_far = refl
refusal_same None file so_far = refl

module _ (level : LevelId) (seen : Seen) (files : Files) (held : HoldsFiles level [] seen files) (steps : List Step) (so_far : FilesInUse) (follows : Follows files steps so_far) where
  standing_same : (line : FileLine) (is_master : Bool) (label : FileLabel) (kept : Kept) → kept ≡ kept_on label seen.contents
      → open_standing line is_master label kept so_far ≡ by_step (opening (tested_found line seen.contents (Ok (label, is_master)))) so_far
  standing_same line is_master label kept same =
      ap (λ (k : Kept). open_standing line is_master label k so_far) same
      ∙ refusal_same (refusal_of line is_master label (kept_on label seen.contents).has_good_index) (job_file line.name label.name is_master false) so_far

  own_same : (line : FileLine) (name : Name) (own masters : Standing) → is_label_of name steps ≡ false → standing name files.own.slots ≡ own → standing name so_far.files.masters.slots ≡ masters
      → standing name files.masters.slots ≡ masters → open_own line name so_far own ≡ by_step (opening (tested_found line seen.contents (file_in own masters))) so_far
  own_same line name Blocked masters free is then_is was_is = refl
  own_same line name (Present label) masters free is then_is was_is =
      let named : label.name ≡ name = present_named name files.own.slots label is in
      standing_same line false label (so_far.files.own.kept name)
      (follows.kept name free ∙ sym (ap files.own.kept named) ∙ held.own_files label (ap (λ n. standing n files.own.slots) named ∙ is) refl)
  own_same line name Absent masters free is then_is was_is = ap (open_master line name so_far) then_is ∙ by masters was_is
    where
      by : (masters : Standing) → standing name files.masters.slots ≡ masters → open_master line name so_far masters ≡ by_step (opening (tested_found line seen.contents (file_in Absent masters))) so_far
      by Blocked e = refl
      by Absent e = refl
      by (Present label) e =
          let named : label.name ≡ name = present_named name files.masters.slots label e in
          standing_same line true label (so_far.files.masters.kept name)
          (ap (λ area. area.kept name) follows.masters ∙ sym (ap files.masters.kept named) ∙ held.master_files label (ap (λ n. standing n files.masters.slots) named ∙ e) refl)

  opened_same : (line : FileLine) (name : Name) → is_label_of name steps ≡ false → open_file line name so_far ≡ by_step (opening (tested_file level seen line name)) so_far
  unfolding open_file found
  opened_same line name free =
      ap (open_own line name so_far) (follows.own name free)
      ∙ own_same line name (standing name files.own.slots) (standing name files.masters.slots) free refl (ap (λ area. standing name area.slots) follows.masters) refl
      ∙ ap₂ (λ own masters. by_step (opening (tested_found line seen.contents (file_in own masters))) so_far) (ap (standing name) held.own.slots_of_area) (ap (standing name) held.masters.slots_of_area)

  stated_same : (date : List ℕ) (line : FileLine) (stated : Option FileStatement) → open_stated date line so_far stated ≡ by_step (step_stated level seen date steps line stated) so_far
  stated_same date line None = refl
  stated_same date line (Some statement) =
      ap (λ (b : Bool). if b then Err DuplicateLabel else (if is_new line then make_file line.name (new_file date line statement) so_far else open_file line statement.label so_far)) (follows.labels statement.label)
      ∙ by (is_label_of statement.label steps) (is_new line) refl
    where
      by : (taken new : Bool) → is_label_of statement.label steps ≡ taken
          → (if taken then Err DuplicateLabel else (if new then make_file line.name (new_file date line statement) so_far else open_file line statement.label so_far))
          ≡ by_step (if taken then Err DuplicateLabel else (if new then Ok (Makes line.name (new_file date line statement)) else opening (tested_file level seen line statement.label))) so_far
      by true new e = refl
      by false true e = refl
      by false false e = opened_same line statement.label e

-- ---- all files
taken_last : (steps : List Step) (step : Step) (so_far : FilesInUse) → taken (steps ++ step ∷ []) so_far ≡ unless_halted (taken steps so_far) (taken_one step)
unfolding taken
taken_last [] step so_far = by (taken_one step so_far)
  where
    by : (one : Result FilesInUse HaltCode) → unless_halted one (taken []) ≡ one
    by (Ok next) = refl
    by (Err code) = refl
taken_last (first ∷ steps) step so_far = by (taken_one first so_far) (taken_last steps step)
  where
    by : (one : Result FilesInUse HaltCode) → ((next : FilesInUse) → taken (steps ++ step ∷ []) next ≡ unless_halted (taken steps next) (taken_one step))
        → unless_halted one (taken (steps ++ step ∷ [])) ≡ unless_halted (unless_halted one (taken steps)) (taken_one step)
    by (Ok next) go = go next
    by (Err code) go = refl

module _ (level : LevelId) (seen : Seen) (settings : Settings) (files : Files) (held : HoldsFiles level [] seen files) where
  -- one line more
  line_same : (line : FileLine) (steps : List Step) (so_far : FilesInUse) → taken steps (none_in_use files) ≡ Ok so_far → is_used settings.switches line ≡ true
      → open_line settings line so_far ≡ by_step (step_of level seen settings steps line) so_far
  unfolding step_of
  line_same line steps so_far is used =
      ap (λ (b : Bool). if b then open_stated settings.date line so_far (statement_of line.name settings.statements) else Ok so_far) used
      ∙ stated_same level seen files held steps so_far (follows_all files steps so_far is) settings.date line (statement_of line.name settings.statements)

  passed_line : (line : FileLine) (lines : List FileLine) (steps : List Step) → is_used settings.switches line ≡ false
      → unless_halted (taken steps (none_in_use files)) (open_lines settings (line ∷ lines)) ≡ unless_halted (taken steps (none_in_use files)) (open_lines settings lines)
  unfolding open_lines
  passed_line line lines steps unused = by (taken steps (none_in_use files))
    where
      by : (so_far : Result FilesInUse HaltCode) → unless_halted so_far (open_lines settings (line ∷ lines)) ≡ unless_halted so_far (open_lines settings lines)
      by (Err code) = refl
      by (Ok s) = ap (λ (b : Bool). unless_halted (if b then open_stated settings.date line s (statement_of line.name settings.statements) else Ok s) (open_lines settings lines)) unused

  taken_line : (line : FileLine) (lines : List FileLine) (steps : List Step) (step : Step) → is_used settings.switches line ≡ true → step_of level seen settings steps line ≡ Ok step
      → unless_halted (taken steps (none_in_use files)) (open_lines settings (line ∷ lines)) ≡ unless_halted (taken (steps ++ step ∷ []) (none_in_use files)) (open_lines settings lines)
  unfolding open_lines
  taken_line line lines steps step used is =
      by (taken steps (none_in_use files)) refl ∙ ap (λ one. unless_halted one (open_lines settings lines)) (sym (taken_last steps step (none_in_use files)))
    where
      by : (so_far : Result FilesInUse HaltCode) → taken steps (none_in_use files) ≡ so_far
          → unless_halted so_far (open_lines settings (line ∷ lines)) ≡ unless_halted (unless_halted so_far (taken_one step)) (open_lines settings lines)
      by (Err code) e = refl
      by (Ok s) e = ap (λ one. unless_halted one (open_lines settings lines)) (line_same line steps s e used ∙ ap (λ one. by_step one s) is)

  refused_line : (line : FileLine) (lines : List FileLine) (steps : List Step) (code : HaltCode) → is_used settings.switches line ≡ true → step_of level seen settings steps line ≡ Err code
      → unless_halted (taken steps (none_in_use files)) (open_lines settings (line ∷ lines)) ≡ finished (refused_at steps code) (none_in_use files)
  unfolding open_lines
  refused_line line lines steps code used is = by (taken steps (none_in_use files)) refl
    where
      by : (so_far : Result FilesInUse HaltCode) → taken steps (none_in_use files) ≡ so_far → unless_halted so_far (open_lines settings (line ∷ lines)) ≡ unless_halted so_far (ending (Some code))
      by (Err other) e = refl
      by (Ok s) e = ap (λ one. unless_halted one (open_lines settings lines)) (line_same line steps s e used ∙ ap (λ one. by_step one s) is)

  lines_same : (lines : List FileLine) (steps : List Step)
      → unless_halted (taken steps (none_in_use files)) (open_lines settings lines) ≡ finished (tested_lines level seen settings lines steps) (none_in_use files)
  unfolding open_lines tested_lines
  lines_same [] steps = by (taken steps (none_in_use files))
    where
      by : (so_far : Result FilesInUse HaltCode) → unless_halted so_far (open_lines settings []) ≡ unless_halted so_far (ending None)
      by (Ok s) = refl
      by (Err code) = refl
  lines_same (line ∷ lines) steps = by (is_used settings.switches line) (step_of level seen settings steps line) refl refl (lines_same lines)
    where
      by : (used : Bool) (step : Result Step HaltCode) → is_used settings.switches line ≡ used → step_of level seen settings steps line ≡ step
          → ((more : List Step) → unless_halted (taken more (none_in_use files)) (open_lines settings lines) ≡ finished (tested_lines level seen settings lines more) (none_in_use files))
          → unless_halted (taken steps (none_in_use files)) (open_lines settings (line ∷ lines))
          ≡ finished (if used then behind steps step (tested_lines level seen settings lines) else tested_lines level seen settings lines steps) (none_in_use files)
      by false step unused is go = passed_line line lines steps unused ∙ go steps
      by true (Ok step) used is go = taken_line line lines steps step used is ∙ go (steps ++ step ∷ [])
      by true (Err code) used is go = refused_line line lines steps code used is

  -- what the tests of all lines say of the start of the job
  pub tests_same : (lines : List FileLine) → opened settings lines files ≡ finished (tested_lines level seen settings lines []) (none_in_use files)
  unfolding taken
  tests_same lines = lines_same lines []

-- ---- the makes
-- a list of makes and what comes of the steps agree
abbrev pub AgreesWith : Result (List Slot) (ℕ × LabelFault) → Result FilesInUse HaltCode → Type 0
AgreesWith (Ok slots) (Ok so_far) = so_far.files.own.slots ≡ slots
AgreesWith (Err fault) (Err code) = code ≡ halt_of_make fault.1
AgreesWith (Ok slots) (Err code) = ⊥
AgreesWith (Err fault) (Ok so_far) = ⊥

pub plan_same : (at : ℕ) (steps : List Step) (so_far : FilesInUse)
    → AgreesWith (planned at so_far.files.format so_far.files.own.region so_far.files.masters.slots (news_of steps) so_far.files.own.slots) (taken steps so_far)
unfolding taken make_file
plan_same at [] so_far = refl
plan_same at (Opens file ∷ steps) so_far = plan_same at steps (with_file file so_far)
plan_same at (Makes name new ∷ steps) so_far =
    by (made so_far.files.format so_far.files.own.region so_far.files.masters.slots new so_far.files.own.slots)
    (λ slots. plan_same (at + 1) steps (with_file (job_file name new.name false true) (record so_far { files = with_new new slots so_far.files })))
  where
    by : (one : Result (List Slot) LabelFault)
        → ((slots : List Slot) → AgreesWith (planned (at + 1) so_far.files.format so_far.files.own.region so_far.files.masters.slots (news_of steps) slots)
        (taken steps (with_file (job_file name new.name false true) (record so_far { files = with_new new slots so_far.files }))))
        → AgreesWith (and_then at one (planned (at + 1) so_far.files.format so_far.files.own.region so_far.files.masters.slots (news_of steps))) (unless_halted (after_make name new so_far one) (taken steps))
    by (Err fault) go = refl
    by (Ok slots) go = go slots
