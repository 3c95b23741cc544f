-- A file loses its current record, and its record identifying indicators go off.
use Rattle.std.proofs.Common.{◌≡◌, ℕ, ◌<◌, List, length, Option, None, slice_set, if◌then◌else◌, refl, ap, ◌∙◌, length-set, Vec, Global}
use Rattle.std.proofs.Math.Path.{fun_ext}
use Rattle.s3_cards.specs.declared.name.Name.{Name}
use Rattle.s3_cards.specs.Names.{same_name}
use Rattle.s3_meaning.specs.declared.current.Current.{Current}
use Rattle.s3_meaning.specs.Environment.{Environment}
use Rattle.s3_meaning.specs.Calculating.{forgotten}
use Rattle.s3_operations.specs.declared.values.Values.{Values}
use Rattle.s3_operations.specs.Inner.Held.{held, Changes as ChangesValues}
use Rattle.s3_match.specs.Inner.Types.{name_of_file}
use Rattle.s3_cycle.specs.declared.stepper.Stepper.{Stepper}
use Rattle.s3_cycle.specs.Inner.Clearing.{without_types_of}
use Rattle.s3_cycle.specs.Inner.Environment.{current_in, environment, others}
use Rattle.s3_cycle.specs.Inner.Going.{AreSound, Changes}
use Rattle.s3_cycle.proofs.CurrentLemmas.{current_set}

pub forgets : (c : Stepper) (file : ℕ) (current : Vec (Option Current) Global) (values : Values) → AreSound c.program c.state → file < length c.program.files.items → current.items ≡ slice_set c.state.current.items file None
    → ChangesValues c.program c.state.values values (without_types_of (name_of_file c.program file))
    → Changes c (record c { state = record c.state { current = current; values = values } }) (λ source. forgotten source (name_of_file c.program file))
unfolding environment held
forgets c file current values sound within is changes =
    let cleared : Environment = held c.program values (others c.program c.state) in
    let named : (name : Name) → current_in c.program current.items name ≡ (if same_name name (name_of_file c.program file) then None else current_in c.program c.state.current.items name) =
    λ name. ap (λ (items : List (Option Current)). current_in c.program items name) is ∙ current_set c.program c.state.current.items file None name within sound.current in
    record {
      stays = refl;
      sound = record { values = changes.sound; current = ap (λ (items : List (Option Current)). length items) is ∙ (length-set c.state.current.items file None ∙ sound.current) };
      held = ap (λ (currents : Name → Option Current). record cleared { current = currents }) (fun_ext named)
          ∙ ap (λ (e : Environment). record e { current = λ name. if same_name name (name_of_file c.program file) then None else current_in c.program c.state.current.items name }) (changes.held (others c.program c.state));
    }
