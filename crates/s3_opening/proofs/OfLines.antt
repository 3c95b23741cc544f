-- The starts of a job's files, and its open files, are those of its F lines.
use Rattle.std.proofs.Common.{◌≡◌, ◌==◌, ℕ, zero, suc, Bool, true, false, not, ◌&&◌, ◌||◌, List, [], ◌∷◌, ◌++◌, map, refl, ap, ap₂, sym, ◌∙◌, subst}
use Rattle.std.proofs.lemmas.Bool.{and_parts, eqb-true, true≢false}
use Rattle.std.proofs.lemmas.List.{map-append}
use Rattle.std.specs.Prelude.{slice_get, is_some, filter, cond, option_map, Option, Some, None, Result, Ok, Err, if◌then◌else◌}
use Rattle.std.specs.List.{list_any}
use Rattle.s3_lines.specs.Files.{is_chained, is_only_read}
use Rattle.s3_cards.specs.declared.levels.LevelId.{LevelId}
use Rattle.s3_cards.specs.declared.name.Name.{Name}
use Rattle.s3_cards.specs.Names.{same_name}
use Rattle.s3_cards.proofs.NameLemmas.{same_name-self, same_name-equal}
use Rattle.s3_lines.specs.declared.sheet.FileLine.{FileLine}
use Rattle.s3_ocl.specs.declared.contents.FileStatement.{FileStatement}
use Rattle.s3_operator.specs.declared.halt_code.HaltCode.{HaltCode}
use Rattle.s3_operator.specs.declared.halt_code.HaltCode.TheVariants.{MasterForUpdate, LabelMismatch, BadIndex, DuplicateLabel}
use Rattle.s3_slots.specs.Labels.{is_indexed}
use Rattle.s3_slots.specs.Inner.Making.{found}
use Rattle.s3_slots.specs.Making.{new_label}
use Rattle.s3_slots.specs.Slots.{standing}
use Rattle.s3_slots.specs.declared.label.FileLabel.{FileLabel}
use Rattle.s3_slots.specs.declared.label.Organization.TheVariants.{Sequential, Indexed, Direct}
use Rattle.s3_slots.specs.declared.making.LabelFault.{LabelFault}
use Rattle.s3_slots.specs.declared.making.NewFile.{NewFile}
use Rattle.s3_slots.specs.declared.slot.Standing.TheVariants.{Present}
use Rattle.s3_labels.specs.Inner.Areas.{slots_at}
use Rattle.s3_job_files.specs.Kept.{kept_on}
use Rattle.s3_job_files.specs.Files.{JobFile}
use Rattle.s3_job_files.specs.Inner.Holds.{Seen, slots_by, IsReady, job_file_of}
use Rattle.s3_job_files.specs.declared.file.OpenFile.{OpenFile}
use Rattle.s3_job_files.proofs.Standings.{present_named}
use Rattle.s3_opening.specs.declared.starts.Start.{Start}
use Rattle.s3_opening.specs.declared.starts.Start.TheVariants.{Opened, ToMake}
use Rattle.s3_opening.specs.Asked.{is_new, is_of_layout, is_used, key_length_of, key_start_of, new_file}
use Rattle.s3_opening.specs.Opening.{Settings, job_file, refusal_of, statement_of}
use Rattle.s3_opening.specs.Inner.OpenFiles.{AreOfEach, AreOfLines, IsLaidOutAs, IsOfLine}
use Rattle.s3_opening.specs.Inner.Starting.{AddsFiles, AreFrom, AreNew, AreStartsOf, IsAskedBy, IsFrom, IsStartOf, label_by, labels_left}
use Rattle.s3_opening.specs.Inner.Starts.{step_in, AreRight, IsOpened, IsRight}
use Rattle.s3_opening.specs.Inner.Tests.{Step, Makes, Tested, behind, is_label_of, label_of, opening, passed, step_of, step_stated, tested, tested_file, tested_found, tested_lines, tested_standing}
use Rattle.s3_opening.proofs.Refusals.{found_stands}

-- ---- an opened file
-- the layout of a label that agrees with the line
layout_parts : (line : FileLine) (label : FileLabel) → is_of_layout line label ≡ true → IsLaidOutAs line label
unfolding is_of_layout
layout_parts line label h =
    let a = and_parts ((label.record_length == line.record_length) && (if is_some line.key then is_indexed label.organization else not (is_indexed label.organization)) && (label.key_length == key_length_of line.key)) (label.key_start == key_start_of line.key) h in
    let b = and_parts ((label.record_length == line.record_length) && (if is_some line.key then is_indexed label.organization else not (is_indexed label.organization))) (label.key_length == key_length_of line.key) a.0 in
    let c = and_parts (label.record_length == line.record_length) (if is_some line.key then is_indexed label.organization else not (is_indexed label.organization)) b.0 in
    record {
      record_length = eqb-true label.record_length line.record_length c.0;
      indexed = by (is_some line.key) (is_indexed label.organization) c.1;
      key_length = eqb-true label.key_length (key_length_of line.key) b.1;
      key_start = eqb-true label.key_start (key_start_of line.key) a.1;
    }
  where
    by : (key indexed : Bool) → (if key then indexed else not indexed) ≡ true → indexed ≡ key
    by true indexed h = h
    by false true h = absurd (true≢false (sym h))
    by false false h = refl

-- what isn't refused
record IsAllowed (line : FileLine) (is_master : Bool) (label : FileLabel) : Type 0 where
  pub layout : is_of_layout line label ≡ true
  pub own : is_only_read line ≡ false → is_master ≡ false

not_refused : (line : FileLine) (is_master : Bool) (label : FileLabel) (good : Bool) → refusal_of line is_master label good ≡ None → IsAllowed line is_master label
unfolding refusal_of
not_refused line is_master label good h = record {
  layout = layout (is_master && not (is_only_read line)) (is_of_layout line label) good h;
  own = own is_master (is_only_read line) h;
}
  where
    layout : (changes same good : Bool) → (if changes then Some MasterForUpdate else (if not same then Some LabelMismatch else (if not good then Some BadIndex else None))) ≡ None → same ≡ true
    layout true same good h = absurd cc
    layout false false good h = absurd cc
    layout false true good h = refl

    own : (is_master only_read : Bool) → (if is_master && not only_read then Some MasterForUpdate else (if not (is_of_layout line label) then Some LabelMismatch else (if not good then Some BadIndex else None))) ≡ None
        → only_read ≡ false → is_master ≡ false
    own false only_read h e = refl
    own true true h e = absurd (true≢false e)
    own true false h e = absurd cc

-- the file that a test gives
record IsTestedAs (line : FileLine) (is_master : Bool) (label : FileLabel) (file : JobFile) : Type 0 where
  pub allowed : IsAllowed line is_master label
  pub is : job_file line.name label.name is_master false ≡ file

tested_as : (line : FileLine) (is_master : Bool) (label : FileLabel) (contents : List (List ℕ)) (file : JobFile) → tested_standing line is_master label contents ≡ Ok file → IsTestedAs line is_master label file
tested_as line is_master label contents file h = by (refusal_of line is_master label (kept_on label contents).has_good_index) refl h
  where
    by : (refusal : Option HaltCode) → refusal_of line is_master label (kept_on label contents).has_good_index ≡ refusal → tested refusal (job_file line.name label.name is_master false) ≡ Ok file
        → IsTestedAs line is_master label file
    by (Some code) e h = absurd cc
    by None e h = let is : job_file line.name label.name is_master false ≡ file = cc in
        record { allowed = not_refused line is_master label (kept_on label contents).has_good_index e; is = is }

opened_line : (level : LevelId) (s : Seen) (line : FileLine) (name : Name) (file : OpenFile) → IsOpened level s file → tested_file level s line name ≡ Ok (job_file_of file) → IsOfLine line file × (file.label.name ≡ name)
opened_line level s line name file opened h = by (found name (slots_at level s.areas) s.areas.masters) refl h
  where
    by : (came : Result (FileLabel × Bool) LabelFault) → found name (slots_at level s.areas) s.areas.masters ≡ came → tested_found line s.contents came ≡ Ok (job_file_of file) → IsOfLine line file × (file.label.name ≡ name)
    by (Err fault) e h = absurd cc
    by (Ok (label, is_master)) e h =
        let how = tested_as line is_master label s.contents (job_file_of file) h in
        let master : is_master ≡ file.is_master = ap (λ (f : JobFile). f.is_master) how.is in
        let names : label.name ≡ file.label.name = ap (λ (f : JobFile). f.label) how.is in
        let stands : standing name (slots_by is_master level s.areas) ≡ Present label = found_stands level s.areas name label is_master e in
        let named : label.name ≡ name = present_named name (slots_by is_master level s.areas) label stands in
        let there : standing name (slots_by is_master level s.areas) ≡ Present file.label =
        ap₂ (λ n b. standing n (slots_by b level s.areas)) (sym named ∙ names) master ∙ opened.stands.sound in
        let both : Present label ≡ Present file.label = sym stands ∙ there in
        let same : label ≡ file.label = cc in (
          record {
            name = sym (ap (λ (f : JobFile). f.name) how.is);
            layout = layout_parts line file.label (ap (is_of_layout line) (sym same) ∙ how.allowed.layout);
            own = λ changes. sym master ∙ how.allowed.own changes;
          },
          sym names ∙ named,
        )

-- ---- a file that is made
asked_by : (date : List ℕ) (line : FileLine) (statement : FileStatement) → IsAskedBy line (new_file date line statement)
unfolding new_file
asked_by date line statement = record { record_length = refl; indexed = by (is_some line.key) (is_chained line.designation); key_length = refl; key_start = refl }
  where
    by : (key chained : Bool) → is_indexed (if key then Indexed else (if chained then Direct else Sequential)) ≡ key
    by true chained = refl
    by false true = refl
    by false false = refl

new_named : (date : List ℕ) (line : FileLine) (statement : FileStatement) → (new_file date line statement).name ≡ statement.label
unfolding new_file
new_named date line statement = refl

-- ---- the start of a line
record IsStep (statements : List FileStatement) (line : FileLine) (start : Start) (steps : List Step) : Type 0 where
  pub of : IsStartOf statements line start
  pub new : is_label_of (label_of (step_in start)) steps ≡ false

abbrev ok_step : Step → Result Step HaltCode
ok_step step = Ok step

made_line : (statements : List FileStatement) (date : List ℕ) (line : FileLine) (statement : FileStatement) (start : Start) (steps : List Step) → statement_of line.name statements ≡ Some statement
    → is_label_of statement.label steps ≡ false → Makes line.name (new_file date line statement) ≡ step_in start → IsStep statements line start steps
made_line statements date line statement (Opened file) steps stated free h = absurd cc
made_line statements date line statement (ToMake name new) steps stated free h =
    let named : line.name ≡ name = cc in
    let is : new_file date line statement ≡ new = cc in
    let label : statement.label ≡ new.name = sym (new_named date line statement) ∙ ap (λ (n : NewFile). n.name) is in
    record {
      of = record {
        suits = (sym named, subst (IsAskedBy line) is (asked_by date line statement));
        stated = ap (option_map (λ (s : FileStatement). s.label)) stated ∙ ap Some label;
      };
      new = ap (λ n. is_label_of n steps) (sym label) ∙ free;
    }

found_line : (level : LevelId) (s : Seen) (statements : List FileStatement) (line : FileLine) (statement : FileStatement) (start : Start) (steps : List Step) → IsRight level s start
    → statement_of line.name statements ≡ Some statement → is_label_of statement.label steps ≡ false → opening (tested_file level s line statement.label) ≡ ok_step (step_in start) → IsStep statements line start steps
found_line level s statements line statement start steps right stated free h = by (tested_file level s line statement.label) refl start right h
  where
    by : (came : Result JobFile HaltCode) → tested_file level s line statement.label ≡ came → (one : Start) → IsRight level s one → opening came ≡ ok_step (step_in one) → IsStep statements line one steps
    by (Err code) e one right h = absurd cc
    by (Ok file) e (ToMake name new) right h = absurd cc
    by (Ok job_file) e (Opened file) right h =
        let is : job_file ≡ job_file_of file = cc in
        let parts = opened_line level s line statement.label file right (e ∙ ap (λ (f : JobFile). let r : Result JobFile HaltCode = Ok f in r) is) in
        record {
          of = record { suits = parts.0; stated = ap (option_map (λ (one : FileStatement). one.label)) stated ∙ ap Some (sym parts.1) };
          new = ap (λ n. is_label_of n steps) parts.1 ∙ free;
        }

step_line : (level : LevelId) (s : Seen) (settings : Settings) (line : FileLine) (start : Start) (steps : List Step) → IsRight level s start → step_of level s settings steps line ≡ Ok (step_in start)
    → IsStep settings.statements line start steps
unfolding step_of
step_line level s settings line start steps right h = by (statement_of line.name settings.statements) refl h
  where
    by : (stated : Option FileStatement) → statement_of line.name settings.statements ≡ stated → step_stated level s settings.date steps line stated ≡ Ok (step_in start) → IsStep settings.statements line start steps
    by None e h = absurd cc
    by (Some statement) e h = on (is_label_of statement.label steps) (is_new line) refl h
      where
        on : (taken new : Bool) → is_label_of statement.label steps ≡ taken
            → (if taken then Err DuplicateLabel else (if new then Ok (Makes line.name (new_file settings.date line statement)) else opening (tested_file level s line statement.label))) ≡ ok_step (step_in start)
            → IsStep settings.statements line start steps
        on true new free h = absurd cc
        on false true free h = made_line settings.statements settings.date line statement start steps e free (let is : Makes line.name (new_file settings.date line statement) ≡ step_in start = cc in is)
        on false false free h = found_line level s settings.statements line statement start steps right e free h

-- ---- the starts of all lines
append_none : {X : Type 0} (xs : List X) → xs ≡ xs ++ []
append_none [] = refl
append_none (x ∷ xs) = ap (λ zs. x ∷ zs) (append_none xs)

append_last : {X : Type 0} (xs : List X) (x : X) (ys : List X) → (xs ++ x ∷ []) ++ ys ≡ xs ++ x ∷ ys
append_last [] x ys = refl
append_last (y ∷ xs) x ys = ap (λ zs. y ∷ zs) (append_last xs x ys)

cancel : (steps xs ys : List Step) → steps ++ xs ≡ steps ++ ys → xs ≡ ys
cancel [] xs ys h = h
cancel (step ∷ steps) xs ys h = let rest : steps ++ xs ≡ steps ++ ys = cc in cancel steps xs ys rest

record IsBehind (steps all : List Step) : Type 0 where
  pub more : List Step
  pub is : all ≡ steps ++ more

-- the steps so far come first
extends : (level : LevelId) (s : Seen) (settings : Settings) (lines : List FileLine) (steps all : List Step) → tested_lines level s settings lines steps ≡ passed all → IsBehind steps all
unfolding tested_lines
extends level s settings [] steps all h = let is : steps ≡ all = ap (λ (t : Tested). t.steps) h in record { more = []; is = sym is ∙ append_none steps }
extends level s settings (line ∷ lines) steps all h =
    by (is_used settings.switches line) (step_of level s settings steps line) h (extends level s settings lines)
  where
    by : (used : Bool) (step : Result Step HaltCode) → (if used then behind steps step (tested_lines level s settings lines) else tested_lines level s settings lines steps) ≡ passed all
        → ((one other : List Step) → tested_lines level s settings lines one ≡ passed other → IsBehind one other) → IsBehind steps all
    by false step h go = go steps all h
    by true (Err code) h go = let e : Some code ≡ None = ap (λ (t : Tested). t.refused) h in absurd cc
    by true (Ok step) h go = let rest = go (steps ++ step ∷ []) all h in record { more = step ∷ rest.more; is = rest.is ∙ append_last steps step rest.more }

-- each is the start of its line, and none has the label of an earlier one
record IsGone (statements : List FileStatement) (lines : List FileLine) (steps : List Step) (starts : List Start) : Type 0 where
  pub of : AreStartsOf statements lines starts
  pub new : AreNew (map label_of steps) (labels_left starts)

any_mapped : {X Y : Type 0} (f : X → Y) (test : Y → Bool) (xs : List X) → list_any test (map f xs) ≡ list_any (λ x. test (f x)) xs
any_mapped f test [] = refl
any_mapped f test (x ∷ xs) = ap (λ b. test (f x) || b) (any_mapped f test xs)

module _ (level : LevelId) (s : Seen) (settings : Settings) where
  abbrev used_lines : List FileLine → List FileLine
  used_lines lines = filter (is_used settings.switches) lines

  one_more : (line : FileLine) (lines : List FileLine) (steps : List Step) (start : Start) (rest : List Start) → is_used settings.switches line ≡ true → IsStep settings.statements line start steps
      → IsGone settings.statements (used_lines lines) (steps ++ step_in start ∷ []) rest → IsGone settings.statements (used_lines (line ∷ lines)) steps (start ∷ rest)
  one_more line lines steps start rest used first gone = record {
    of = subst (λ list. AreStartsOf settings.statements list (start ∷ rest)) (sym (ap (λ (b : Bool). cond b (line ∷ used_lines lines) (used_lines lines)) used)) (first.of, gone.of);
    new = (
      any_mapped label_of (λ n. same_name n (label_of (step_in start))) steps ∙ first.new,
      subst (λ names. AreNew names (labels_left rest)) (map-append label_of steps (step_in start ∷ [])) gone.new,
    );
  }

  gone_through : (lines : List FileLine) (steps : List Step) (starts : List Start) → AreRight level s starts → tested_lines level s settings lines steps ≡ passed (steps ++ map step_in starts)
      → IsGone settings.statements (used_lines lines) steps starts
  unfolding tested_lines
  gone_through [] steps [] right h = record { of = tt; new = tt }
  gone_through [] steps (start ∷ starts) right h =
      let same : steps ≡ steps ++ map step_in (start ∷ starts) = ap (λ (t : Tested). t.steps) h in
      let none : [] ≡ map step_in (start ∷ starts) = cancel steps [] (map step_in (start ∷ starts)) (sym (append_none steps) ∙ same) in
      absurd cc
  gone_through (line ∷ lines) steps starts right h =
      by (is_used settings.switches line) (step_of level s settings steps line) refl refl h (gone_through lines)
    where
      Goes : Type 0
      Goes = (before : List Step) (list : List Start) → AreRight level s list → tested_lines level s settings lines before ≡ passed (before ++ map step_in list) → IsGone settings.statements (used_lines lines) before list

      taken : (step : Step) (list : List Start) → AreRight level s list → is_used settings.switches line ≡ true → step_of level s settings steps line ≡ ok_step step
          → tested_lines level s settings lines (steps ++ step ∷ []) ≡ passed (steps ++ map step_in list) → (more : List Step) → map step_in list ≡ step ∷ more → Goes
          → IsGone settings.statements (used_lines (line ∷ lines)) steps list
      taken step [] right used is h more split go = absurd cc
      taken step (start ∷ rest) right used is h more split go =
          let first : step ≡ step_in start = cc in
          one_more line lines steps start rest used (step_line level s settings line start steps (right 0 start refl) (is ∙ ap ok_step first))
          (go (steps ++ step_in start ∷ []) rest (λ i one there. right (suc i) one there)
          (ap (λ one. tested_lines level s settings lines (steps ++ one ∷ [])) (sym first) ∙ h ∙ ap passed (sym (append_last steps (step_in start) (map step_in rest)))))

      by : (used : Bool) (step : Result Step HaltCode) → is_used settings.switches line ≡ used → step_of level s settings steps line ≡ step
          → (if used then behind steps step (tested_lines level s settings lines) else tested_lines level s settings lines steps) ≡ passed (steps ++ map step_in starts) → Goes
          → IsGone settings.statements (used_lines (line ∷ lines)) steps starts
      by false step unused is h go =
          subst (λ list. IsGone settings.statements list steps starts) (sym (ap (λ (b : Bool). cond b (line ∷ used_lines lines) (used_lines lines)) unused)) (go steps starts right h)
      by true (Err code) used is h go = let e : Some code ≡ None = ap (λ (t : Tested). t.refused) h in absurd cc
      by true (Ok step) used is h go =
          let ext = extends level s settings lines (steps ++ step ∷ []) (steps ++ map step_in starts) h in
          taken step starts right used is h ext.more (cancel steps (map step_in starts) (step ∷ ext.more) (ext.is ∙ append_last steps step ext.more)) go

pub starts_of_lines : (level : LevelId) (s : Seen) (settings : Settings) (lines : List FileLine) (starts : List Start) → AreRight level s starts → tested_lines level s settings lines [] ≡ passed (map step_in starts)
    → AreStartsOf settings.statements (filter (is_used settings.switches) lines) starts
starts_of_lines level s settings lines starts right h = (gone_through level s settings lines [] starts right h).of

pub starts_new : (level : LevelId) (s : Seen) (settings : Settings) (lines : List FileLine) (starts : List Start) → AreRight level s starts → tested_lines level s settings lines [] ≡ passed (map step_in starts)
    → AreNew [] (labels_left starts)
starts_new level s settings lines starts right h = (gone_through level s settings lines [] starts right h).new

-- ---- the open files
made_of_line : (line : FileLine) (name : Name) (new : NewFile) (file : OpenFile) → name ≡ line.name → IsAskedBy line new → file.name ≡ name → file.is_master ≡ false → file.label ≡ new_label new file.label.extents
    → IsOfLine line file
unfolding new_label
made_of_line line name new file called asked named own label = record {
  name = named ∙ called;
  layout = record {
    record_length = ap (λ (l : FileLabel). l.record_length) label ∙ asked.record_length;
    indexed = ap (λ (l : FileLabel). is_indexed l.organization) label ∙ asked.indexed;
    key_length = ap (λ (l : FileLabel). l.key_length) label ∙ asked.key_length;
    key_start = ap (λ (l : FileLabel). l.key_start) label ∙ asked.key_start;
  };
  own = λ changes. own;
}

new_name : (new : NewFile) (label : FileLabel) → label ≡ new_label new label.extents → label.name ≡ new.name
unfolding new_label
new_name new label is = ap (λ (l : FileLabel). l.name) is

record IsStatedFile (statements : List FileStatement) (line : FileLine) (file : OpenFile) : Type 0 where
  pub of : IsOfLine line file
  pub stated : label_by statements file.name ≡ Some file.label.name

stated_file : (statements : List FileStatement) (line : FileLine) (start : Start) (file : OpenFile) → IsStartOf statements line start → IsFrom start file → IsStatedFile statements line file
stated_file statements line (Opened other) file start from =
    let of : IsOfLine line file = subst (IsOfLine line) (sym from) start.suits in
    record { of = of; stated = ap (label_by statements) of.name ∙ start.stated ∙ ap (λ (f : OpenFile). Some f.label.name) (sym from) }
stated_file statements line (ToMake name new) file start from =
    let of : IsOfLine line file = made_of_line line name new file start.suits.0 start.suits.1 from.0 from.1.0 from.1.1 in
    record { of = of; stated = ap (label_by statements) of.name ∙ start.stated ∙ ap Some (sym (new_name new file.label from.1.1)) }

each_of : (statements : List FileStatement) (lines : List FileLine) (starts : List Start) (files : List OpenFile) → AreStartsOf statements lines starts → AreFrom starts files → AreOfEach lines files
each_of statements [] [] [] starts from = tt
each_of statements [] [] (file ∷ files) starts from = absurd from
each_of statements [] (start ∷ more) files starts from = absurd starts
each_of statements (line ∷ lines) [] files starts from = absurd starts
each_of statements (line ∷ lines) (start ∷ more) [] starts from = absurd from
each_of statements (line ∷ lines) (start ∷ more) (file ∷ files) starts from =
    ((stated_file statements line start file starts.0 from.0).of, each_of statements lines more files starts.1 from.1)

each_stated : (statements : List FileStatement) (lines : List FileLine) (starts : List Start) (files : List OpenFile) → AreStartsOf statements lines starts → AreFrom starts files
    → (i : ℕ) (file : OpenFile) → slice_get files i ≡ Some file → label_by statements file.name ≡ Some file.label.name
each_stated statements [] [] [] starts from i file there = absurd cc
each_stated statements [] [] (first ∷ files) starts from i file there = absurd from
each_stated statements [] (start ∷ more) files starts from i file there = absurd starts
each_stated statements (line ∷ lines) [] files starts from i file there = absurd starts
each_stated statements (line ∷ lines) (start ∷ more) [] starts from i file there = absurd from
each_stated statements (line ∷ lines) (start ∷ more) (first ∷ files) starts from zero file there =
    let same : first ≡ file = cc in
    subst (λ (f : OpenFile). label_by statements f.name ≡ Some f.label.name) same (stated_file statements line start first starts.0 from.0).stated
each_stated statements (line ∷ lines) (start ∷ more) (first ∷ files) starts from (suc i) file there = each_stated statements lines more files starts.1 from.1 i file there

-- files of one name would have one label
pub of_lines : (level : LevelId) (s : Seen) (statements : List FileStatement) (switches : ℕ) (lines : List FileLine) (starts : List Start) (none files : List OpenFile) → none ≡ [] → AreStartsOf statements (filter (is_used switches) lines) starts
    → AddsFiles starts none files → IsReady level files s → AreOfLines switches lines files
of_lines level s statements switches lines starts none files empty of adds ready = record {
  each = each_of statements (filter (is_used switches) lines) starts files of from;
  distinct = λ i j first second one two same.
      let named : first.name ≡ second.name = same_name-equal first.name second.name same in
      let both : Some first.label.name ≡ Some second.label.name = sym (stated i first one) ∙ ap (label_by statements) named ∙ stated j second two in
      let label : first.label.name ≡ second.label.name = cc in
      ready.files.distinct i j first second one two (ap (same_name first.label.name) (sym label) ∙ same_name-self first.label.name);
}
  where
    from : AreFrom starts files
    from = subst (AreFrom starts) (sym (adds.behind ∙ ap (λ list. list ++ adds.more) empty)) adds.from

    stated : (i : ℕ) (file : OpenFile) → slice_get files i ≡ Some file → label_by statements file.name ≡ Some file.label.name
    stated = each_stated statements (filter (is_used switches) lines) starts files of from
