-- The output lines of one walk: those that are skipped, and the effect of those that are written.
use Rattle.std.proofs.Common.{◌≡◌, ℕ, zero, suc, ◌+◌, ◌<◌, ◌≤◌, Bool, true, false, ◌&&◌, if◌then◌else◌, List, [], ◌∷◌, ◌++◌, length, drop, get_or, Option, Some, None, Fits, w64, refl, sym, ◌∙◌, ap, subst, true≢false, arith}
use Rattle.std.specs.Prelude.{slice_get, unwrap_or, option_map, is_some, filter_map}
use Rattle.std.specs.List.{cons_option}
use Rattle.std.proofs.lemmas.Bool.{and_parts}
use Rattle.std.proofs.lemmas.List.{length-append, length-map}
use Rattle.std.proofs.lemmas.Option.{slice_get-map, slice_get_read, slice_get_within}
use Rattle.s3_cards.specs.declared.name.Name.{Name}
use Rattle.s3_cards.specs.Names.{no_name}
use Rattle.s3_lines.specs.declared.sheet.FileLine.{FileLine}
use Rattle.s3_lines.specs.declared.sheet.OutputKind.{OutputKind}
use Rattle.s3_lines.specs.declared.sheet.OutputKind.TheVariants.{Heading, Detail, Total, Exception}
use Rattle.s3_lines.specs.declared.sheet.OutputLine.{OutputLine}
use Rattle.s3_lines.specs.declared.sheet.OutputLine.TheVariants.{Line as LineCard, And as AndCard, Or as OrCard, Field as FieldCard}
use Rattle.s3_meaning.specs.Environment.{Environment}
use Rattle.s3_meaning.specs.OutputLines.{Output}
use Rattle.s3_meaning.specs.Source.{file_named}
use Rattle.s3_meaning.specs.Runs.{Rest}
use Rattle.s3_meaning.specs.Output.{is_served, line_holds, file_line_put, line_put, lines_put}
use Rattle.s3_meaning.specs.Cycle.{again}
use Rattle.s3_program.specs.declared.program.Program.{Program}
use Rattle.s3_program.specs.declared.program.Reference.{Reference}
use Rattle.s3_program.specs.declared.starts.OutputStart.{OutputStart}
use Rattle.s3_program.specs.declared.starts.Walk.{Walk}
use Rattle.s3_program.specs.declared.starts.Walk.TheVariants as walk
use Rattle.s3_program.specs.Inner.Starts.{output_starts, walked, is_walked}
use Rattle.s3_program.specs.Inner.Started.{output_at, output_on}
use Rattle.s3_program.specs.Inner.Stands.{source_named}
use Rattle.s3_program.specs.Inner.Tables.{name_in}
use Rattle.s3_program.specs.FileEntries.{file_entry}
use Rattle.s3_operations.proofs.ValueLemmas.{get_left}
use Rattle.s3_operations.specs.Inner.Fits.{tables}
use Rattle.s3_output.specs.Inner.Lines.{IsLineAt, IsStart}
use Rattle.s3_output.proofs.LawLemmas.{line_starts, file_there, walked_start}
use Rattle.s3_output.proofs.StartLemmas.{StartsAt, starts_at}
use Rattle.s3_instructions.specs.declared.output.instruction.OutputInstruction.{OutputInstruction}
use Rattle.s3_instructions.specs.Inner.OutputGroups.{line_guard_holds}
use Rattle.s3_instructions.specs.Inner.OutputLines.{IsLine, is_used, own_starts}
use Rattle.s3_instructions.proofs.OutputPlaceLemmas.{get_right, own_left, passes_kept}
use Rattle.s3_cycle.specs.declared.stepper.Stepper.{Stepper}
use Rattle.s3_cycle.specs.Inner.Rest.{starts_of, outputs_from, is_wanted, is_at_overflow, lines_then}
use Rattle.s3_cycle.specs.Inner.Environment.{environment, others}
use Rattle.s3_cycle.specs.Inner.Going.{own, held_by, IsRunning}
use Rattle.s3_cycle.specs.Inner.Lines.{is_held, is_due, IsDue, PassesTo, PassesAll}
use Rattle.s3_program.proofs.NameLemmas.{no_nameless_file}

-- ---- lists
there_is : {X : Type 0} (xs : List X) (k : ℕ) → k < length xs → (x : X) × (slice_get xs k ≡ Some x)
there_is [] k within = absurd (omega arith)
there_is (x ∷ xs) zero within = (x, refl)
there_is (x ∷ xs) (suc k) within = there_is xs k (omega arith)

drop_there : {X : Type 0} (xs : List X) (k : ℕ) (x : X) → slice_get xs k ≡ Some x → drop k xs ≡ x ∷ drop (k + 1) xs
drop_there [] k x there = cc
drop_there (y ∷ xs) zero x there = let same : y ≡ x = cc in rw same refl
drop_there (y ∷ xs) (suc k) x there = let e : suc k + 1 ≡ suc (k + 1) = omega arith in rw e (drop_there xs k x there)

drop_past : {X : Type 0} (xs : List X) (k : ℕ) → length xs ≤ k → drop k xs ≡ []
drop_past [] zero past = refl
drop_past [] (suc k) past = refl
drop_past (x ∷ xs) zero past = absurd (omega arith)
drop_past (x ∷ xs) (suc k) past = drop_past xs k (omega arith)

is_there : {X : Type 0} (o : Option X) → is_some o ≡ true → (x : X) × (o ≡ Some x)
is_there None some = absurd (true≢false (sym some))
is_there (Some x) some = (x, refl)

-- ---- the line that starts at a place of a walk
pub record IsLineOf (p : Program) (w : Walk) (start : OutputStart) (line : Output) : Type 0 where
  pub starts : IsStart p start
  pub there : IsLineAt p start line
  pub wanted : is_wanted w line.kind ≡ true

starts_walked : (p : Program) (w : Walk) → starts_of p.starts w ≡ walked w p.files.items p.outputs.items
starts_walked p walk.Beginning = p.starting.beginning
starts_walked p walk.Totals = p.starting.totals
starts_walked p walk.Exceptions = p.starting.exceptions
starts_walked p walk.Overflow = p.starting.overflow

wanted_walked : (w : Walk) (kind : OutputKind) → is_wanted w kind ≡ is_walked w kind
wanted_walked walk.Beginning Heading = refl
wanted_walked walk.Beginning Detail = refl
wanted_walked walk.Beginning Total = refl
wanted_walked walk.Beginning Exception = refl
wanted_walked walk.Totals Heading = refl
wanted_walked walk.Totals Detail = refl
wanted_walked walk.Totals Total = refl
wanted_walked walk.Totals Exception = refl
wanted_walked walk.Exceptions Heading = refl
wanted_walked walk.Exceptions Detail = refl
wanted_walked walk.Exceptions Total = refl
wanted_walked walk.Exceptions Exception = refl
wanted_walked walk.Overflow Heading = refl
wanted_walked walk.Overflow Detail = refl
wanted_walked walk.Overflow Total = refl
wanted_walked walk.Overflow Exception = refl

-- a line has the kind of its card, and so of its start
kind_of : (p : Program) (start : OutputStart) (line : Output) → IsStart p start → IsLineAt p start line → line.kind ≡ start.kind
kind_of p start line is line_is =
    let s : StartsAt p start = starts_at p start is in
    ap kind_in (sym line_is ∙ ap (output_on (tables p) start) s.there) ∙ s.kind_is
  where
    kind_in : Option Output → OutputKind
    kind_in (Some l) = l.kind
    kind_in None = Heading

-- the file of a line is the file in its slot; none if no file has the slot
pub file_of_line : (p : Program) (start : OutputStart) (line : Output) → IsLineAt p start line → file_named (source_named p) line.file ≡ slice_get p.files.items start.file
file_of_line p start line line_is = by (slice_get p.files.items start.file) refl
  where
    named_in : (cards : List (OutputLine Reference)) → output_on (tables p) start cards ≡ Some line → line.file ≡ name_in (tables p).files start.file
    named_in [] is = cc
    named_in (LineCard card ∷ cards) is = ap (λ (o : Option Output). name_of_line o) (sym is)
      where
        name_of_line : Option Output → Name
        name_of_line (Some l) = l.file
        name_of_line None = no_name
    named_in (AndCard conditions ∷ cards) is = cc
    named_in (OrCard conditions ∷ cards) is = cc
    named_in (FieldCard field ∷ cards) is = cc

    by : (o : Option FileLine) → slice_get p.files.items start.file ≡ o → file_named (source_named p) line.file ≡ o
    by (Some file) there = file_there p start line file line_is there
    by None there =
        let blank : name_in (tables p).files start.file ≡ no_name =
        ap (λ (o : Option (Name × FileLine)). unwrap_or (option_map (λ (e : Name × FileLine). e.0) o) no_name) (slice_get-map file_entry p.files.items start.file ∙ ap (option_map file_entry) there) in
        ap (file_named (source_named p)) (named_in _ line_is ∙ blank) ∙ no_nameless_file p

-- each place of a walk has a line
pub line_of : (p : Program) (w : Walk) (place : ℕ) (start : OutputStart) → slice_get (starts_of p.starts w) place ≡ Some start → (line : Output) × IsLineOf p w start line
line_of p w place start there =
    let at : slice_get (walked w p.files.items p.outputs.items) place ≡ Some start = ap (λ starts. slice_get starts place) (sym (starts_walked p w)) ∙ there in
    let is : IsStart p start = walked_start p w place start at in
    let found = is_there (output_at (tables p) p.outputs.items start) (line_starts p start is) in
    let walks : is_walked w start.kind ≡ true = passes_kept (λ (s : OutputStart). is_walked w s.kind) (output_starts p.files.items p.outputs.items) place start at in (
      found.0,
      record {
        starts = is;
        there = found.1;
        wanted = wanted_walked w _ ∙ ap (is_walked w) (kind_of p start found.0 is found.1) ∙ walks;
      },
    )

-- ---- from a place on
outputs_there : (p : Program) (w : Walk) (place : ℕ) (start : OutputStart) (line : Output) → slice_get (starts_of p.starts w) place ≡ Some start → IsLineAt p start line
    → outputs_from p w place ≡ line ∷ outputs_from p w (place + 1)
outputs_there p w place start line there line_is =
    ap (filter_map (output_at (tables p) p.outputs.items)) (drop_there (starts_of p.starts w) place start there)
    ∙ ap (λ o. cons_option o (outputs_from p w (place + 1))) line_is

-- a line is written if its conditions hold
line_next : (p : Program) (w : Walk) (place : ℕ) (start : OutputStart) (line : Output) (go : Rest) (e : Environment) → slice_get (starts_of p.starts w) place ≡ Some start → IsLineOf p w start line
    → lines_then (source_named p) p w place go e
    ≡ (if line_holds (source_named p) (is_at_overflow w) e line
    then line_put (source_named p) (again (source_named p)) line (slice_get p.files.items start.file) (lines_then (source_named p) p w (place + 1) go)
    else lines_then (source_named p) p w (place + 1) go) e
unfolding lines_then lines_put
line_next p w place start line go e there is =
    ap (λ lines. lines_put (source_named p) (again (source_named p)) (is_wanted w) (is_at_overflow w) lines go e) (outputs_there p w place start line there is.there)
    ∙ ap (λ wanted. (if wanted && line_holds (source_named p) (is_at_overflow w) e line
    then line_put (source_named p) (again (source_named p)) line (file_named (source_named p) line.file) (lines_then (source_named p) p w (place + 1) go)
    else lines_then (source_named p) p w (place + 1) go) e) is.wanted
    ∙ ap (λ file. (if line_holds (source_named p) (is_at_overflow w) e line
    then line_put (source_named p) (again (source_named p)) line file (lines_then (source_named p) p w (place + 1) go)
    else lines_then (source_named p) p w (place + 1) go) e) (file_of_line p start line is.there)

-- a line that isn't due is skipped
pub line_passed : (p : Program) (w : Walk) (place : ℕ) (start : OutputStart) (line : Output) (go : Rest) (e : Environment) → slice_get (starts_of p.starts w) place ≡ Some start → IsLineOf p w start line
    → (is_used e (slice_get p.files.items start.file) && line_holds (source_named p) (is_at_overflow w) e line) ≡ false
    → lines_then (source_named p) p w place go e ≡ lines_then (source_named p) p w (place + 1) go e
unfolding line_put
line_passed p w place start line go e there is off =
    line_next p w place start line go e there is
    ∙ by (slice_get p.files.items start.file) (line_holds (source_named p) (is_at_overflow w) e line) (lines_then (source_named p) p w (place + 1) go) off
  where
    on_served : (served holds : Bool) (one next : Rest) → (served && holds) ≡ false → (if holds then (λ e'. (if served then one else next) e') else next) e ≡ next e
    on_served true true one next h = absurd (true≢false h)
    on_served false true one next h = refl
    on_served true false one next h = refl
    on_served false false one next h = refl

    by : (o : Option FileLine) (holds : Bool) (next : Rest) → (is_used e o && holds) ≡ false
        → (if holds then line_put (source_named p) (again (source_named p)) line o next else next) e ≡ next e
    by None true next h = refl
    by None false next h = refl
    by (Some file) true next h = on_served (is_served e file) true (file_line_put (source_named p) (again (source_named p)) line file next) next h
    by (Some file) false next h = refl

-- a line that is due is written
pub line_due : (p : Program) (w : Walk) (place : ℕ) (start : OutputStart) (line : Output) (file : FileLine) (go : Rest) (e : Environment) → slice_get (starts_of p.starts w) place ≡ Some start
    → IsLineOf p w start line → slice_get p.files.items start.file ≡ Some file
    → (is_used e (slice_get p.files.items start.file) && line_holds (source_named p) (is_at_overflow w) e line) ≡ true
    → lines_then (source_named p) p w place go e ≡ file_line_put (source_named p) (again (source_named p)) line file (lines_then (source_named p) p w (place + 1) go) e
unfolding line_put
line_due p w place start line file go e there is file_is on =
    let both = and_parts (is_used e (slice_get p.files.items start.file)) (line_holds (source_named p) (is_at_overflow w) e line) on in
    let served : is_served e file ≡ true = ap (is_used e) (sym file_is) ∙ both.0 in
    line_next p w place start line go e there is
    ∙ ap (λ holds. (if holds
    then line_put (source_named p) (again (source_named p)) line (slice_get p.files.items start.file) (lines_then (source_named p) p w (place + 1) go)
    else lines_then (source_named p) p w (place + 1) go) e) both.1
    ∙ ap (λ o. line_put (source_named p) (again (source_named p)) line o (lines_then (source_named p) p w (place + 1) go) e) file_is
    ∙ ap (λ (used : Bool). (if used then file_line_put (source_named p) (again (source_named p)) line file (lines_then (source_named p) p w (place + 1) go) else lines_then (source_named p) p w (place + 1) go) e) served

-- no line is left after the last
pub lines_past : (p : Program) (w : Walk) (place : ℕ) (go : Rest) (e : Environment) → length (starts_of p.starts w) ≤ place → lines_then (source_named p) p w place go e ≡ go e
unfolding lines_then lines_put
lines_past p w place go e past =
    ap (λ starts. lines_put (source_named p) (again (source_named p)) (is_wanted w) (is_at_overflow w) (filter_map (output_at (tables p) p.outputs.items) starts) go e) (drop_past (starts_of p.starts w) place past)

-- ---- a line of a run
due_by : (c : Stepper) (w : Walk) (start : OutputStart) (line : Output) → IsLineAt c.program start line
    → is_due c w start ≡ (is_used (held_by c) (slice_get c.program.files.items start.file) && line_holds (own c) (is_at_overflow w) (held_by c) line)
due_by c w start line line_is = ap (λ o. is_used (held_by c) (slice_get c.program.files.items start.file) && is_held c w o) line_is

-- the instruction at a place is the instruction of the line that starts there
pub line_read : (c : Stepper) (number : ℕ) (instruction : OutputInstruction) (start : OutputStart) → IsRunning c → slice_get (own_starts c.program.starts) number ≡ Some start
    → instruction ≡ get_or c.outputs.lines.items number instruction → IsLine c.program start instruction
line_read c number instruction start running there read =
    let lines = c.outputs.lines.items in
    let are = running.outputs.lines in
    let inside : number < length lines = omega (arith, slice_get_within (own_starts c.program.starts) number start there, are.count) in
    are.each number start instruction there (slice_get_read lines (length lines) number instruction refl inside read)

-- each line of a walk has an instruction
pub line_within : (c : Stepper) (w : Walk) (place number : ℕ) → IsRunning c → slice_get (own_starts c.program.starts) number ≡ slice_get (starts_of c.program.starts w) place → place < length (starts_of c.program.starts w)
    → number < length c.outputs.lines.items
line_within c w place number running same within =
    let at = there_is (starts_of c.program.starts w) place within in
    omega (arith, slice_get_within (own_starts c.program.starts) number at.0 (same ∙ at.1), running.outputs.lines.count)

-- a line is due if its guard holds
pub due_guarded : (c : Stepper) (w : Walk) (place number : ℕ) (instruction : OutputInstruction) (at_overflow holds : Bool) → IsRunning c → slice_get (own_starts c.program.starts) number ≡ slice_get (starts_of c.program.starts w) place
    → instruction ≡ get_or c.outputs.lines.items number instruction → at_overflow ≡ is_at_overflow w → holds ≡ line_guard_holds c.state.values.indicators at_overflow instruction.guard
    → (start : OutputStart) → slice_get (starts_of c.program.starts w) place ≡ Some start → holds ≡ is_due c w start
unfolding environment
due_guarded c w place number instruction at_overflow holds running same read time held_is start there =
    let line = line_of c.program w place start there in
    held_is
    ∙ (ap (λ at. line_guard_holds c.state.values.indicators at instruction.guard) time
    ∙ ((line_read c number instruction start running (same ∙ there) read).guard (is_at_overflow w) c.state.values (others c.program c.state) line.0 line.1.there
    ∙ sym (due_by c w start line.0 line.1.there)))

-- ---- the places of instructions
pub beginning_number : (c : Stepper) (w : Walk) (place : ℕ) → w ≡ walk.Beginning → place < length (starts_of c.program.starts w) → slice_get (own_starts c.program.starts) place ≡ slice_get (starts_of c.program.starts w) place
beginning_number c w place is =
    let s = c.program.starts in
    subst (λ v. place < length (starts_of s v) → slice_get (own_starts s) place ≡ slice_get (starts_of s v) place) (sym is)
    (λ within. own_left s place (omega (arith, within)) ∙ get_left s.beginning.items s.totals.items place within)

pub totals_number : (c : Stepper) (w : Walk) (place : ℕ) → IsRunning c → w ≡ walk.Totals → place < length (starts_of c.program.starts w)
    → slice_get (own_starts c.program.starts) (c.outputs.totals + place) ≡ slice_get (starts_of c.program.starts w) place
totals_number c w place running is =
    let s = c.program.starts in
    subst (λ v. place < length (starts_of s v) → slice_get (own_starts s) (c.outputs.totals + place) ≡ slice_get (starts_of s v) place) (sym is)
    (λ within. ap (λ n. slice_get (own_starts s) (n + place)) running.outputs.totals
    ∙ (own_left s (length s.beginning.items + place) (omega (arith, within)) ∙ get_right s.beginning.items s.totals.items place))

pub exceptions_number : (c : Stepper) (w : Walk) (place : ℕ) → IsRunning c → w ≡ walk.Exceptions → slice_get (own_starts c.program.starts) (c.outputs.exceptions + place) ≡ slice_get (starts_of c.program.starts w) place
exceptions_number c w place running is =
    let s = c.program.starts in
    let e : c.outputs.exceptions + place ≡ length (s.beginning.items ++ s.totals.items) + place =
    omega (arith, running.outputs.exceptions, running.outputs.totals, length-append s.beginning.items s.totals.items) in
    ap (slice_get (own_starts s)) e ∙ (get_right (s.beginning.items ++ s.totals.items) s.exceptions.items place ∙ ap (λ v. slice_get (starts_of s v) place) (sym is))

overflow_count : (c : Stepper) → IsRunning c → length c.outputs.overflow.items ≡ length c.program.starts.overflow.items
overflow_count c running =
    let s = c.program.starts in
    sym (length-map c.outputs.overflow.items (slice_get (own_starts s)))
    ∙ (ap (λ (os : List (Option OutputStart)). length os) running.outputs.overflow ∙ length-map s.overflow.items (λ (x : OutputStart). Some x))

pub overflow_within : (c : Stepper) (w : Walk) (place : ℕ) → IsRunning c → w ≡ walk.Overflow → place < length (starts_of c.program.starts w) → place < length c.outputs.overflow.items
overflow_within c w place running is within = omega (arith, within, ap (λ v. length (starts_of c.program.starts v)) is, overflow_count c running)

some_is : {X : Type 0} (x y : X) → Some x ≡ Some y → x ≡ y
some_is x y h = ap (λ o. unwrap_or o x) h

pub overflow_number : (c : Stepper) (w : Walk) (place number : ℕ) → IsRunning c → w ≡ walk.Overflow → place < length (starts_of c.program.starts w) → number ≡ get_or c.outputs.overflow.items place number
    → slice_get (own_starts c.program.starts) number ≡ slice_get (starts_of c.program.starts w) place
overflow_number c w place number running is within read =
    let s = c.program.starts in
    let there : slice_get c.outputs.overflow.items place ≡ Some number =
    slice_get_read c.outputs.overflow.items (length c.outputs.overflow.items) place number refl (overflow_within c w place running is within) read in
    let at = there_is (starts_of s w) place within in
    let same : Some (slice_get (own_starts s) number) ≡ Some (Some at.0) =
    sym (slice_get-map (slice_get (own_starts s)) c.outputs.overflow.items place ∙ ap (option_map (slice_get (own_starts s))) there)
    ∙ (ap (λ (os : List (Option OutputStart)). slice_get os place) running.outputs.overflow
    ∙ (slice_get-map (λ (x : OutputStart). Some x) s.overflow.items place ∙ ap (option_map (λ (x : OutputStart). Some x)) (ap (λ v. slice_get (starts_of s v) place) (sym is) ∙ at.1))) in
    some_is _ _ same ∙ sym at.1

-- the numbers of total lines fit 64 bits
pub totals_fit : (c : Stepper) (w : Walk) (place : ℕ) → IsRunning c → w ≡ walk.Totals → place < length (starts_of c.program.starts w) → Fits w64 (c.outputs.totals + place)
totals_fit c w place running is within =
    let s = c.program.starts in
    record { fits = omega (arith, within, ap (λ v. length (starts_of s v)) is, running.outputs.totals, s.beginning.ok.0, s.beginning.small, s.totals.ok.0, s.totals.small) }

pub exceptions_fit : (c : Stepper) (w : Walk) (place : ℕ) → IsRunning c → w ≡ walk.Exceptions → place < length (starts_of c.program.starts w) → Fits w64 (c.outputs.exceptions + place)
exceptions_fit c w place running is within =
    let s = c.program.starts in
    record {
      fits = omega (
        arith,
        within,
        ap (λ v. length (starts_of s v)) is,
        running.outputs.totals,
        running.outputs.exceptions,
        running.outputs.lines.count,
        length-append s.beginning.items s.totals.items,
        length-append (s.beginning.items ++ s.totals.items) s.exceptions.items,
        c.outputs.lines.ok.0,
        c.outputs.lines.small,
      );
    }

-- a place of a walk
pub due_within : (c : Stepper) (w : Walk) (place : ℕ) → IsDue c w place → place < length (starts_of c.program.starts w)
due_within c w place due = slice_get_within (starts_of c.program.starts w) place due.start due.there

-- ---- the next line that is due
pub passes_none : (c : Stepper) (w : Walk) (next : ℕ) → PassesTo c w next next
passes_none c w next = λ go. refl

pub passes_more : (c : Stepper) (w : Walk) (next place : ℕ) (due : Bool) → ((start : OutputStart) → slice_get (starts_of c.program.starts w) place ≡ Some start → due ≡ is_due c w start)
    → place < length (starts_of c.program.starts w) → due ≡ false → PassesTo c w next place → PassesTo c w next (place + 1)
passes_more c w next place due is within off passes =
    let at = there_is (starts_of c.program.starts w) place within in
    let line = line_of c.program w place at.0 at.1 in
    λ go. passes go ∙ line_passed c.program w place at.0 line.0 go (held_by c) at.1 line.1 (sym (due_by c w at.0 line.0 line.1.there) ∙ sym (is at.0 at.1) ∙ off)

pub due_there : (c : Stepper) (w : Walk) (place : ℕ) (due : Bool) → ((start : OutputStart) → slice_get (starts_of c.program.starts w) place ≡ Some start → due ≡ is_due c w start)
    → place < length (starts_of c.program.starts w) → due ≡ true → IsDue c w place
due_there c w place due is within on =
    let at = there_is (starts_of c.program.starts w) place within in
    record { start = at.0; there = at.1; due = sym (is at.0 at.1) ∙ on }

pub passes_all : (c : Stepper) (w : Walk) (next place : ℕ) → PassesTo c w next place → length (starts_of c.program.starts w) ≤ place → PassesAll c w next
passes_all c w next place passes past = λ go. passes go ∙ lines_past c.program w place go (held_by c) past
