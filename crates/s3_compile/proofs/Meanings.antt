-- Names have the same meanings by the tables of definitions as by the lines.
use Rattle.std.proofs.Common.{◌≡◌, List, ◌++◌, ◌∙◌, ap}
use Rattle.std.specs.Prelude.{filter_map}
use Rattle.std.specs.Map.{lookup}
use Rattle.std.proofs.Math.Path.{fun_ext}
use Rattle.s3_cards.specs.declared.name.Name.{Name}
use Rattle.s3_cards.specs.Names.{same_name}
use Rattle.s3_lines.specs.declared.sheet.Line.{Line}
use Rattle.s3_meaning.specs.Source.{reserved_shapes, file_line, calculation_line}
use Rattle.s3_program.specs.declared.definitions.Definitions.{Definitions}
use Rattle.s3_program.specs.declared.program.Kind.{Kind}
use Rattle.s3_program.specs.declared.program.Kind.TheVariants as kind
use Rattle.s3_program.specs.declared.program.Meaning.TheVariants as meaning
use Rattle.s3_program.specs.Inner.Given.{firsts, files_given}
use Rattle.s3_program.specs.Standings.{first_calculation}
use Rattle.s3_program.specs.Tables.{meaning_of, or_undefined}
use Rattle.s3_program.specs.Inner.Translation.{tables_in}
use Rattle.s3_program.specs.FileEntries.{file_entry}
use Rattle.s3_program.proofs.GivenLemmas.{first_found}
use Rattle.s3_program.proofs.LineLemmas.{all_taken}
use Rattle.s3_diagnose.specs.Lookups.{tables_given, meanings_of, fields_given, tags_from, subroutines_from}
use Rattle.s3_compile.specs.Inner.Defines.{Defines}

-- a look-up in a table of first entries finds the first of all entries
found_first : {X : Type 0} (table entries : List (Name × X)) → table ≡ firsts entries → (name : Name) → lookup (same_name name) table ≡ lookup (same_name name) entries
found_first table entries is name = ap (lookup (same_name name)) is ∙ first_found name entries

pub meanings_shown : (known : Definitions) (lines : List Line) → Defines known lines → meaning_of (tables_in known) ≡ meanings_of lines
unfolding tables_given
meanings_shown known lines defines = fun_ext (λ k. fun_ext (λ name. by k name))
  where
    by : (k : Kind) (name : Name) → meaning_of (tables_in known) k name ≡ meanings_of lines k name
    by kind.File name =
        ap (or_undefined (λ x. meaning.File x)) (found_first known.files.entries (files_given lines) defines.files name ∙ ap (lookup (same_name name)) (all_taken file_entry file_line lines))
    by kind.Field name =
        ap (or_undefined (λ x. meaning.Field (record { name = name; meaning = x }))) (found_first known.fields.entries (reserved_shapes ++ fields_given lines) defines.fields name)
    by kind.Tag name =
        ap (or_undefined (λ x. meaning.Tag x)) (found_first known.tags.entries (tags_from first_calculation (filter_map calculation_line lines)) defines.tags name)
    by kind.Subroutine name =
        ap (or_undefined (λ x. meaning.Subroutine x)) (found_first known.subroutines.entries (subroutines_from first_calculation (filter_map calculation_line lines)) defines.subroutines name)
