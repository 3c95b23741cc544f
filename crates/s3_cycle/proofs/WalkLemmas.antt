-- The output lines of one walk, from its first line on, are the lines of the source with its kinds.
use Rattle.std.proofs.Common.{◌≡◌, Bool, true, false, ◌&&◌, List, [], ◌∷◌, drop, filter, filter_map, if◌then◌else◌, refl, ap, ◌∙◌}
use Rattle.std.proofs.Math.Path.{fun_ext}
use Rattle.s3_lines.specs.declared.sheet.OutputKind.{OutputKind}
use Rattle.s3_lines.specs.declared.sheet.OutputKind.TheVariants as kind
use Rattle.s3_meaning.specs.Source.{Source, file_named}
use Rattle.s3_meaning.specs.Environment.{Environment}
use Rattle.s3_meaning.specs.OutputLines.{Output}
use Rattle.s3_meaning.specs.Runs.{Rest, Anew}
use Rattle.s3_meaning.specs.Output.{line_holds, line_put, lines_put}
use Rattle.s3_meaning.specs.Cycle.{again}
use Rattle.s3_program.specs.declared.program.Program.{Program}
use Rattle.s3_program.specs.declared.starts.Walk.{Walk}
use Rattle.s3_program.specs.declared.starts.Walk.TheVariants as walk
use Rattle.s3_program.specs.Inner.Stands.{source_named}
use Rattle.s3_program.specs.Inner.Started.{output_at}
use Rattle.s3_program.specs.Inner.Starts.{is_walked, walked}
use Rattle.s3_operations.specs.Inner.Fits.{tables}
use Rattle.s3_output.proofs.LawLemmas.{walk_lines}
use Rattle.s3_cycle.specs.Inner.Rest.{starts_of, outputs_from, is_wanted, is_at_overflow, lines_then}

-- lines of other kinds are skipped
put_kept : (source : Source) (anew : Anew) (wanted : OutputKind → Bool) (at_overflow : Bool) (lines : List Output) (go : Rest)
    → lines_put source anew wanted at_overflow (filter (λ (line : Output). wanted line.kind) lines) go ≡ lines_put source anew wanted at_overflow lines go
unfolding lines_put
put_kept source anew wanted at_overflow [] go = refl
put_kept source anew wanted at_overflow (line ∷ lines) go =
    fun_ext (λ e. step e (wanted line.kind) refl (put_kept source anew wanted at_overflow lines go))
  where
    kept_lines : Rest → Rest
    kept_lines = lines_put source anew wanted at_overflow (filter (λ (l : Output). wanted l.kind) lines)

    step : (e : Environment) (b : Bool) → wanted line.kind ≡ b
        → lines_put source anew wanted at_overflow (filter (λ (l : Output). wanted l.kind) lines) go ≡ lines_put source anew wanted at_overflow lines go
        → lines_put source anew wanted at_overflow (filter (λ (l : Output). wanted l.kind) (line ∷ lines)) go e ≡ lines_put source anew wanted at_overflow (line ∷ lines) go e
    step e true is same =
        rw is
        (ap (λ (b : Bool). (if b && line_holds source at_overflow e line then line_put source anew line (file_named source line.file) (kept_lines go) else kept_lines go) e) is
        ∙ ap (λ (rest : Rest). (if line_holds source at_overflow e line then line_put source anew line (file_named source line.file) rest else rest) e) same)
    step e false is same = rw is (ap (λ (rest : Rest). rest e) same)

-- the kinds of a walk
same_wanted : (w : Walk) (k : OutputKind) → is_walked w k ≡ is_wanted w k
same_wanted walk.Beginning kind.Heading = refl
same_wanted walk.Beginning kind.Detail = refl
same_wanted walk.Beginning kind.Total = refl
same_wanted walk.Beginning kind.Exception = refl
same_wanted walk.Totals kind.Heading = refl
same_wanted walk.Totals kind.Detail = refl
same_wanted walk.Totals kind.Total = refl
same_wanted walk.Totals kind.Exception = refl
same_wanted walk.Exceptions kind.Heading = refl
same_wanted walk.Exceptions kind.Detail = refl
same_wanted walk.Exceptions kind.Total = refl
same_wanted walk.Exceptions kind.Exception = refl
same_wanted walk.Overflow kind.Heading = refl
same_wanted walk.Overflow kind.Detail = refl
same_wanted walk.Overflow kind.Total = refl
same_wanted walk.Overflow kind.Exception = refl

all_starts : (program : Program) (w : Walk) → drop 0 (starts_of program.starts w) ≡ walked w program.files.items program.outputs.items
all_starts program walk.Beginning = program.starting.beginning
all_starts program walk.Totals = program.starting.totals
all_starts program walk.Exceptions = program.starting.exceptions
all_starts program walk.Overflow = program.starting.overflow

all_outputs : (program : Program) (w : Walk) → outputs_from program w 0 ≡ filter (λ (line : Output). is_wanted w line.kind) (source_named program).outputs
all_outputs program w =
    ap (filter_map (output_at (tables program) program.outputs.items)) (all_starts program w)
    ∙ (walk_lines program w
    ∙ ap (λ (wanted : OutputKind → Bool). filter (λ (line : Output). wanted line.kind) (source_named program).outputs) (fun_ext (same_wanted w)))

pub all_lines : (program : Program) (w : Walk) (go : Rest)
    → lines_then (source_named program) program w 0 go
    ≡ lines_put (source_named program) (again (source_named program)) (is_wanted w) (is_at_overflow w) (source_named program).outputs go
unfolding lines_then
all_lines program w go =
    ap (λ (lines : List Output). lines_put (source_named program) (again (source_named program)) (is_wanted w) (is_at_overflow w) lines go) (all_outputs program w)
    ∙ put_kept (source_named program) (again (source_named program)) (is_wanted w) (is_at_overflow w) (source_named program).outputs go
