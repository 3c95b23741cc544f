-- A level over a migrated pack (of the second format), and the same level over the old pack.
use Rattle.std.specs.Prelude.{Bool, true, false, List, [], ◌∷◌}
use Rattle.std.specs.List.{list_any}
use Rattle.s3_slots.specs.declared.header.Format.TheVariants.{Second}
use Rattle.s3_operator.specs.declared.halt_code.HaltCode.{HaltCode}
use Rattle.s3_operator.specs.declared.halt_code.HaltCode.TheVariants.{NoSpace}
use Rattle.s3_operator.specs.Halts.{ShownHalt}
use Rattle.s3_solo.specs.declared.action.Action.{Action}
use Rattle.s3_solo.specs.declared.action.Did.{Did}
use Rattle.s3_solo.specs.World.{World}
use Rattle.s3_solo.specs.Solo.{step_of}

-- the same world over a pack of the second format
abbrev pub over_second : World → World
over_second w = record w { pack = record w.pack { format = Second } }

abbrev pub is_no_space : HaltCode → Bool
is_no_space NoSpace = true
is_no_space _ = false

-- some halt was shown because space was lacking
abbrev pub shows_no_space : List ShownHalt → Bool
shows_no_space halts = list_any (λ halt. is_no_space halt.code) halts

-- the answers to a level's entries, in order
abbrev pub answers : World → List Action → List Did
answers w [] = []
answers w (action ∷ actions) = (step_of w action).did ∷ answers (step_of w action).world actions
