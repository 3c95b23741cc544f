use Rattle.std.proofs.Common.{◌≡◌, ◌∙◌, true, false, sym, ap, subst}
use Rattle.std.specs.List.{list_any}
use Rattle.s3_lines.specs.declared.sheet.Designation.TheVariants.{Primary}
use Rattle.s3_meaning.specs.Source.{is_designated}
use Rattle.s3_meaning.specs.Selection.{same_key}
use Rattle.s3_match.specs.declared.heads.InputFile.{InputFile}
use Rattle.s3_match.specs.Inner.Keys.{key_in}
use Rattle.s3_match.specs.Inner.Heads.{file_at}
use Rattle.s3_match.specs.Inner.Selecting.{is_secondary_with_key}
use Rattle.s3_match.proofs.SelectLemmas.{keyless_is_not_matched, primary_is_matched, other_is_matched}
use Rattle.s3_match.proofs.selection.is_matched.Goals as goal

pub returns-then-not-input : goal.returns-then-not-input
returns-then-not-input c = λ selected e.
    keyless_is_not_matched c.args.program.now c.args.files.now c.args.primary_key.now c.args.place c.index-files-place.result selected c.requires.sound c.requires.within e
    (subst (λ (y : InputFile). y.key.is_given ≡ false) c.index-files-place.is c.if-not-input.true)

pub returns-then-is_primary : goal.returns-then-is_primary
returns-then-is_primary c = λ selected e.
    primary_is_matched c.args.program.now c.args.files.now c.args.primary_key.now c.args.place c.index-files-place.result selected _ c.requires.sound c.requires.within e
    (subst (λ (y : InputFile). is_designated Primary (file_at c.args.program.now y.file) ≡ true) c.index-files-place.is (sym c.is_primary.ensures ∙ c.if-is_primary.true))
    (c.some_secondary_has.ensures ∙ ap (λ (y : InputFile). list_any (is_secondary_with_key c.args.program.now y.key) c.args.files.now) c.index-files-place.is)

pub returns-else-is_primary : goal.returns-else-is_primary
returns-else-is_primary c = λ selected e.
    other_is_matched c.args.program.now c.args.files.now c.args.primary_key.now c.args.place c.index-files-place.result selected _ c.requires.sound c.requires.within e
    (subst (λ (y : InputFile). is_designated Primary (file_at c.args.program.now y.file) ≡ false) c.index-files-place.is (sym c.is_primary.ensures ∙ c.if-is_primary.false))
    (c.is_same.ensures ∙ ap (λ (y : InputFile). same_key (key_in y.key) (key_in c.args.primary_key.now)) c.index-files-place.is)
