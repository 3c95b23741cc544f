-- A run whose reports aren't written yet: they are printed lines.
use Rattle.std.specs.Prelude.{◌≡◌, ℕ, List, Result, Ok, Err, ⊤}
use Rattle.std.specs.List.{concat}
use Rattle.s3_cards.specs.declared.levels.LevelId.{LevelId}
use Rattle.s3_cards.specs.declared.levels.LevelId.TheVariants.{One, Two}
use Rattle.s3_store.specs.Contents.{sectors_of}
use Rattle.s3_slots.specs.Header.{mounted}
use Rattle.s3_slots.specs.declared.header.Header.{Header}
use Rattle.s3_bureau.specs.declared.entry.Entry.{Entry}
use Rattle.s3_bureau.specs.declared.outcome.LevelLines.{LevelLines}
use Rattle.s3_bureau.specs.declared.outcome.RunLines.{RunLines}
use Rattle.s3_bureau.specs.declared.unwritten.Unwritten.{Unwritten}
use Rattle.s3_bureau.specs.declared.run_fault.RunFault.{RunFault}
use Rattle.s3_bureau.specs.declared.run_fault.RunFault.TheVariants.{Script, Mount, Device, NoMemory}
use Rattle.s3_bureau.specs.Inner.Held.{State, lines_at}
use Rattle.s3_bureau.specs.Runs.{LeavesPack, LeavesSo, RunTexts, Texts, run_texts, texts_over}
use Rattle.s3_bureau.specs.Texts.{report_of}

-- the texts of the lines that a bureau has drained, with these halt texts
abbrev pub texts_with : LevelId → State → (halts : List ℕ) → Texts
texts_with level bureau halts = record { report = report_of (lines_at level bureau); halts = halts }

abbrev pub texts_at : State → (halts1 halts2 : List ℕ) → RunTexts
texts_at bureau halts1 halts2 = record { one = texts_with One bureau halts1; two = texts_with Two bureau halts2 }

abbrev pub unwritten_texts : Unwritten → RunTexts
unwritten_texts run = texts_at run.bureau run.halts1.items run.halts2.items

-- the texts of a level's printed lines and its halt text, and those of both levels
abbrev pub texts_on : LevelLines → Texts
texts_on level = record { report = report_of level.lines.items; halts = level.halts.items }

abbrev pub lines_texts : RunLines → RunTexts
lines_texts run = record { one = texts_on run.one; two = texts_on run.two }

-- these are the bytes of the sectors in the run's store
pub record SavesAs (run : Unwritten) (saved : List ℕ) : Type 0 where
  pub sectors : sectors_of saved ≡ run.bureau.beside.state.stored
  pub whole : saved ≡ concat (sectors_of saved)

-- a run over a store in memory with the first sectors gives these texts and leaves the second sectors
abbrev pub GivesOver : (contents : List (List ℕ)) → (deck1 deck2 : List ℕ) → List Entry → RunTexts → (left : List (List ℕ)) → Type 0
GivesOver contents deck1 deck2 entries texts left =
    (texts_over (mounted contents) contents deck1 deck2 entries ≡ Ok texts)
    × ((header : Header) → mounted contents ≡ Ok header → LeavesSo header deck1 deck2 entries contents left)

abbrev pub UnwrittenOver : (contents : List (List ℕ)) → (deck1 deck2 : List ℕ) → List Entry → Result Unwritten RunFault → Type 0
UnwrittenOver contents deck1 deck2 entries (Ok run) = GivesOver contents deck1 deck2 entries (unwritten_texts run) run.bureau.beside.state.stored
UnwrittenOver contents deck1 deck2 entries (Err NoMemory) = ⊤
UnwrittenOver contents deck1 deck2 entries (Err Device) = ⊥
UnwrittenOver contents deck1 deck2 entries (Err (Script line)) = ⊥
UnwrittenOver contents deck1 deck2 entries (Err (Mount fault)) = texts_over (mounted contents) contents deck1 deck2 entries ≡ Err (Mount fault)

-- The answer is what the pack, the decks and the script give, as `Runs` has it for texts.
abbrev pub RunsUnwritten : (pack deck1 deck2 script : List ℕ) → Result Unwritten RunFault → Type 0
RunsUnwritten pack deck1 deck2 script (Ok run) = (run_texts pack deck1 deck2 script ≡ Ok (unwritten_texts run)) × ((saved : List ℕ) → SavesAs run saved → LeavesPack pack deck1 deck2 script saved)
RunsUnwritten pack deck1 deck2 script (Err NoMemory) = Unit {0}
RunsUnwritten pack deck1 deck2 script (Err Device) = ⊥
RunsUnwritten pack deck1 deck2 script (Err (Script line)) = run_texts pack deck1 deck2 script ≡ Err (Script line)
RunsUnwritten pack deck1 deck2 script (Err (Mount fault)) = run_texts pack deck1 deck2 script ≡ Err (Mount fault)

-- the same statement for a run whose reports are printed lines, with its pack
abbrev pub RunsLines : (pack deck1 deck2 script : List ℕ) → Result RunLines RunFault → Type 0
RunsLines pack deck1 deck2 script (Ok run) = (run_texts pack deck1 deck2 script ≡ Ok (lines_texts run)) × LeavesPack pack deck1 deck2 script run.pack.items
RunsLines pack deck1 deck2 script (Err NoMemory) = Unit {0}
RunsLines pack deck1 deck2 script (Err Device) = ⊥
RunsLines pack deck1 deck2 script (Err (Script line)) = run_texts pack deck1 deck2 script ≡ Err (Script line)
RunsLines pack deck1 deck2 script (Err (Mount fault)) = run_texts pack deck1 deck2 script ≡ Err (Mount fault)

-- the same statement over a store in memory with these sectors
abbrev pub LinesOver : (contents : List (List ℕ)) → (deck1 deck2 : List ℕ) → List Entry → Result RunLines RunFault → Type 0
LinesOver contents deck1 deck2 entries (Ok run) = GivesOver contents deck1 deck2 entries (lines_texts run) (sectors_of run.pack.items) × (run.pack.items ≡ concat (sectors_of run.pack.items))
LinesOver contents deck1 deck2 entries (Err NoMemory) = ⊤
LinesOver contents deck1 deck2 entries (Err Device) = ⊥
LinesOver contents deck1 deck2 entries (Err (Script line)) = ⊥
LinesOver contents deck1 deck2 entries (Err (Mount fault)) = texts_over (mounted contents) contents deck1 deck2 entries ≡ Err (Mount fault)
