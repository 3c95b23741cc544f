-- The library of a level: a cycle that is taken up or given back leaves its programs.
use Rattle.std.specs.Prelude.{Bool, true, false, cond, is_some, IsSome}
use Rattle.std.proofs.Common.{◌≡◌, ℕ, List, refl, sym, ◌∙◌, ap, subst, Option, Some, Result, Ok, Err, IfOk}
use Rattle.indexmap.specs.IndexMap.{IndexMap, UpdatesBy, get}
use Rattle.s3_cards.specs.declared.name.Name.{Name}
use Rattle.s3_cards.specs.Names.{same_name}
use Rattle.s3_cards.proofs.NameLemmas.{same_name-equal}
use Rattle.s3_meaning.specs.Source.{Source}
use Rattle.s3_cycle.specs.declared.stepper.Stepper.{Stepper}
use Rattle.s3_cycle.specs.Inner.Following.{StandsFor}
use Rattle.s3_cycle.specs.Inner.Rest.{rest}
use Rattle.s3_meaning.specs.Cycle.{Req}
use Rattle.s3_meaning.specs.Requests.{Answer}
use Rattle.s3_program.specs.declared.program.Program.{Program}
use Rattle.s3_program.specs.Inner.Stands.{Stands, parts_of, source_named}
use Rattle.s3_program.specs.Inner.Valid.{named}
use Rattle.s3_solo.specs.World.{World}
use Rattle.s3_level.specs.declared.job.OpenJob.{OpenJob}
use Rattle.s3_level.specs.declared.level.Level.{Level}
use Rattle.s3_level.specs.Inner.Holds.{HoldsParts, Shown, Stocks}
use Rattle.s3_level.specs.Inner.Library.{BeginsFor, HasSame, IsFor, IsOfLibrary}

-- where the program that a name finds is lent, and is the same afterwards, each name has the program that it had
pub lent_back : {S : Type 0} (old new : IndexMap Name Program S) (name : Name) (program left : Program) → get same_name old name ≡ Some program → left ≡ program
    → (IsSome (get same_name old name) → UpdatesBy same_name (same_name name) old new (Some left)) → HasSame old new
lent_back old new name program left there same writes other = (writes (ap is_some there)).0 other ∙ by (same_name name other) refl
  where
    by : (is : Bool) → same_name name other ≡ is → cond is (Some left) (get same_name old other) ≡ get same_name old other
    by true is = ap Some same ∙ sym there ∙ ap (get same_name old) (same_name-equal name other is)
    by false is = refl

-- a cycle of a program stands for no other source
pub stands_back : (program : Program) (cycle : Stepper) → IsFor program cycle → (source : Source) → StandsFor cycle source → Stands program source
unfolding StandsFor
stands_back program cycle is source stands = sym (is (source_named program) refl) ∙ stands

-- the level holds the same worlds
pub parts_restocked : (s : Shown) (level : Level) (library : _) (w : World) → HasSame level.library library → HoldsParts level s w → HoldsParts (record level { library = library }) s w
parts_restocked s level library w same held = record {
  cards = held.cards;
  jobs = held.jobs;
  number = held.number;
  library = λ name. subst (λ (of : Option Program). Stocks of (w.library name)) (sym (same name)) (held.library name);
  switches = held.switches;
  date = held.date;
  pack = held.pack;
  job = held.job;
  lines = held.lines;
  halts = held.halts;
}

-- the cycle of a job at work can still be given back, as it goes on
pub still_of_library : (old : Level) (job after : OpenJob) → old.job ≡ Some job → after.program ≡ job.program → ((source : Source) → StandsFor job.cycle source → StandsFor after.cycle source)
    → IsOfLibrary old.library old.job → IsOfLibrary old.library (Some after)
still_of_library old job after is_open program stands of = λ found there source meant.
    stands source (before found (ap (get same_name old.library) (sym program) ∙ there) source meant)
  where
    before : IsOfLibrary old.library (Some job)
    before = subst (λ (o : Option OpenJob). IsOfLibrary old.library o) is_open of

-- ---- the beginning of a cycle
-- the next job of a program restarts the cycle of the last one
pub restarted : (begun : Stepper) (program : Program) (cycle : Stepper) (switches : ℕ) (date : List ℕ) → IsFor program cycle
    → ((source : Source) → StandsFor cycle source → StandsFor begun source × ((answers : List Answer) → rest source begun answers ≡ Req source switches date answers))
    → BeginsFor program switches date begun
restarted begun program cycle switches date is restarts = λ source stands. restarts source (is source stands)

-- its first job starts a copy of the program
pub copy_started : {E : Type 0} (result : Result Stepper E) (program copy : Program) (switches : ℕ) (date : List ℕ) → parts_of copy ≡ parts_of program
    → IfOk result (BeginsFor copy switches date)
    → IfOk result (BeginsFor program switches date)
copy_started (Ok begun) program copy switches date same starts = λ source stands. starts source (ap named same ∙ stands)
copy_started (Err fault) program copy switches date same starts = starts

-- the program is the one that the library has under the name
pub begun_there : {E : Type 0} (result : Result Stepper E) (found : Option Program) (program : Program) (switches : ℕ) (date : List ℕ) → found ≡ Some program
    → IfOk result (BeginsFor program switches date)
    → IfOk result (λ (begun : Stepper). (other : Program) → found ≡ Some other → BeginsFor other switches date begun)
begun_there (Ok begun) found program switches date there begins = λ other is.
    let same : program ≡ other = cc in
    subst (λ (of : Program). BeginsFor of switches date begun) same begins
begun_there (Err fault) found program switches date there begins = begins
