-- Composing a line over two records that are equal once unwritten positions are filled with blanks.
use Rattle.std.proofs.Common.{◌≡◌, ℕ, ◌++◌, ◌-◌, Bool, true, false, List, [], ◌∷◌, length, take, drop, refl, sym, ◌∙◌, ap}
use Rattle.std.specs.Prelude.{Option, None, replicate, if◌then◌else◌}
use Rattle.s3_cards.specs.declared.name.Name.{Name}
use Rattle.s3_lines.specs.declared.sheet.OutputContent.{OutputContent}
use Rattle.s3_lines.specs.declared.sheet.OutputContent.TheVariants.{Constant, Field}
use Rattle.s3_lines.specs.declared.sheet.OutputField.{OutputField}
use Rattle.s3_meaning.specs.Names.{entries}
use Rattle.s3_meaning.specs.Source.{Source}
use Rattle.s3_meaning.specs.Environment.{Environment, all_hold}
use Rattle.s3_meaning.specs.Output.{Composed, blanked, composed, counted, field_content, filled, laid, put_out}
use Rattle.s3_output.specs.Inner.Compositions.{first_position}
use Rattle.s3_output.proofs.CompositionLemmas.{filled_first, filled_laid}

pub record Alike (one two : Composed) : Type 0 where
  pub filled : filled one.positions ≡ filled two.positions
  pub after : one.after ≡ two.after

laid_alike : (end : ℕ) (b c : List ℕ) (ps qs : List (Option ℕ)) → b ≡ c → filled ps ≡ filled qs → filled (laid end b ps) ≡ filled (laid end c qs)
laid_alike end b c ps qs same are =
    filled_laid end b (filled qs) ps are
    ∙ ((λ i. take (end - length (same i)) (filled qs) ++ same i ++ drop end (filled qs)) ∙ sym (filled_laid end c (filled qs) qs refl))

put_alike : (source : Source) (content : OutputContent Name) (end : ℕ) (one two : Composed) → Alike one two → Alike (put_out source content end one) (put_out source content end two)
put_alike source (Constant constant) end one two alike = record { filled = laid_alike end _ _ one.positions two.positions refl alike.filled; after = alike.after }
put_alike source (Field field) end one two alike = record {
  filled = laid_alike end _ _ one.positions two.positions (ap (λ (e : Environment). field_content source field (counted field.name e)) alike.after) alike.filled;
  after = ap (λ (e : Environment). blanked source field (counted field.name e)) alike.after;
}

field_alike : (source : Source) (field : OutputField Name) (one two : Composed) → Alike one two
    → Alike (if all_hold one.after (entries field.conditions) then put_out source field.content field.end one else one) (if all_hold two.after (entries field.conditions) then put_out source field.content field.end two else two)
field_alike source field one two alike = by (all_hold one.after (entries field.conditions)) (all_hold two.after (entries field.conditions)) (ap (λ (e : Environment). all_hold e (entries field.conditions)) alike.after)
  where
    by : (a b : Bool) → a ≡ b → Alike (if a then put_out source field.content field.end one else one) (if b then put_out source field.content field.end two else two)
    by true true same = put_alike source field.content field.end one two alike
    by false false same = alike
    by true false same = cc
    by false true same = cc

pub composed_alike : (source : Source) (fields : List (OutputField Name)) (one two : Composed) → Alike one two → Alike (composed source fields one) (composed source fields two)
composed_alike source [] one two alike = alike
composed_alike source (field ∷ fields) one two alike = composed_alike source fields _ _ (field_alike source field one two alike)

-- an empty record and a record of blanks
pub begins_alike : (n : ℕ) (e : Environment) → Alike (record { positions = replicate n None; after = e }) (record { positions = replicate n (first_position false); after = e })
begins_alike n e = record { filled = filled_first n true ∙ sym (filled_first n false); after = refl }
