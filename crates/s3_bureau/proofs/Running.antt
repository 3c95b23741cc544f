-- The texts of a run, and what it leaves of its pack.
use Rattle.std.proofs.Common.{◌≡◌, inl, inr, ℕ, ◌≤◌, false, nat_lt, if◌then◌else◌, List, [], ◌∷◌, ◌++◌, Option, Some, None, Result, Ok, Err, IfOk, OnOk, refl, sym, ap, ap₂, subst, ◌∙◌, arith, length, take, slice_get}
use Rattle.std.proofs.lemmas.List.{take_all, length-take}
use Rattle.std.specs.List.{concat}
use Rattle.s3_cards.specs.declared.levels.LevelId.{LevelId}
use Rattle.s3_cards.specs.declared.levels.LevelId.TheVariants.{One, Two}
use Rattle.s3_store.specs.Contents.{sectors_of}
use Rattle.s3_store.specs.Bytes.{sector_bytes}
use Rattle.s3_store.proofs.SectorParts.{sector_bytes-same}
use Rattle.s3_slots.specs.Header.{accepted, first_region, format_in, header_by, mounted, region_of}
use Rattle.s3_slots.specs.Slots.{slots_of}
use Rattle.s3_slots.specs.declared.header.Header.{Header}
use Rattle.s3_slots.specs.declared.header.MountFault.{MountFault}
use Rattle.s3_slots.specs.declared.header.MountFault.TheVariants.{Short}
use Rattle.s3_labels.specs.Areas.{area_of}
use Rattle.s3_labels.specs.Contents.{contents_of}
use Rattle.s3_labels.specs.Untangled.{IsUntangled}
use Rattle.s3_labels.proofs.Labelled.{slots_kept}
use Rattle.s3_solo.specs.declared.action.Action.{Action}
use Rattle.s3_cards.specs.Deck.{deck_of}
use Rattle.s3_job_files.specs.declared.file.OpenFile.{OpenFile}
use Rattle.s3_job_files.specs.Inner.Holds.{is_open}
use Rattle.s3_operator.specs.Halts.{ShownHalt}
use Rattle.s3_solo.specs.Inner.Lines.{drained_lines}
use Rattle.s3_solo.specs.Serving.{over}
use Rattle.s3_solo.specs.World.{World, JobAtWork, at_start}
use Rattle.s3_level.specs.declared.job.OpenJob.{OpenJob}
use Rattle.s3_level.specs.declared.level.Level.{Level}
use Rattle.s3_level.specs.Inner.Holds.{Around, Holds, HoldsAtWork, open_files}
use Rattle.s3_solo.specs.Solo.{solo, closed}
use Rattle.s3_bureau.specs.declared.entry.Entry.{Entry}
use Rattle.s3_bureau.specs.declared.outcome.Outcome.{Outcome}
use Rattle.s3_bureau.specs.declared.outcome.RunLines.{RunLines}
use Rattle.s3_bureau.specs.declared.unwritten.Unwritten.{Unwritten}
use Rattle.s3_bureau.specs.declared.run_fault.RunFault.{RunFault}
use Rattle.s3_bureau.specs.declared.run_fault.RunFault.TheVariants.{Script, Mount, Device as DeviceFault, NoMemory}
use Rattle.s3_bureau.specs.Entries.{own}
use Rattle.s3_bureau.specs.Inner.Held.{HoldsFor, IsSaid, State, header_of, held_by, level_of, lines_at, rests}
use Rattle.s3_bureau.specs.Sharing.{IsCommon, IsOwn}
use Rattle.s3_bureau.specs.Script.{entries_of}
use Rattle.s3_bureau.specs.Runs.{AreSectors, HasFiles, HasSlots, LeavesPack, LeavesSo, RunTexts, Runs, outcome_texts, cards_of, texts_of, run_alone, run_texts, level_texts, entries_texts, texts_after, texts_over}
use Rattle.s3_bureau.specs.Texts.{halt_text_of, report_of}
use Rattle.s3_bureau.specs.Inner.Unwritten.{GivesOver, LinesOver, RunsLines, RunsUnwritten, SavesAs, UnwrittenOver, lines_texts, texts_at, texts_with, unwritten_texts}
use Rattle.s3_bureau.specs.Inner.Underway.{HaveFiles, HaveSlots, KeepSaying, LeavesSectors, ReadsDeck, Performs, HasTexts, drained_texts}

-- all lines of a closed world were drained
drained_closed : (refusal : Option (ℕ × ℕ)) (w : World) → drained_texts refusal (closed w) ≡ texts_of refusal (closed w)
drained_closed refusal w = rw (take_all (length w.lines.printed) w.lines.printed (omega arith)) refl

-- the texts of a level with this deck
level_given : (level : LevelId) (header : Header) (contents : List (List ℕ)) (deck : List ℕ) (cards : List (List ℕ)) (refusal : Option (ℕ × ℕ)) (actions : List Action) → ReadsDeck deck cards refusal
    → drained_texts refusal (run_alone level header contents cards actions) ≡ level_texts level header contents deck actions
unfolding level_texts
level_given level header contents deck cards refusal actions reads =
    drained_closed refusal (solo (at_start level header contents cards) actions) ∙ rw (reads.read, reads.refused) refl

-- the texts of both levels after these entries
pub texts_given : (header : Header) (contents : List (List ℕ)) (deck1 deck2 : List ℕ) (cards1 cards2 : List (List ℕ)) (refusal1 refusal2 : Option (ℕ × ℕ)) (entries : List Entry) (opened : LevelId → World → Type 0) (texts : RunTexts)
    → ReadsDeck deck1 cards1 refusal1 → ReadsDeck deck2 cards2 refusal2
    → opened One (at_start One header contents cards1) → opened Two (at_start Two header contents cards2)
    → HasTexts refusal1 refusal2 entries opened texts
    → texts ≡ entries_texts header contents deck1 deck2 entries
texts_given header contents deck1 deck2 cards1 cards2 refusal1 refusal2 entries opened texts reads1 reads2 held_one held_two has =
    let one : texts.one ≡ level_texts One header contents deck1 (own One entries) = has.one (at_start One header contents cards1) held_one ∙ level_given One header contents deck1 cards1 refusal1 (own One entries) reads1 in
    let two : texts.two ≡ level_texts Two header contents deck2 (own Two entries) = has.two (at_start Two header contents cards2) held_two ∙ level_given Two header contents deck2 cards2 refusal2 (own Two entries) reads2 in
    λ i. record { one = one i; two = two i }

-- the texts that both levels show once they are closed
pub texts_shown : (refusal1 refusal2 : Option (ℕ × ℕ)) (entries : List Entry) (opened performed finished : LevelId → World → Type 0) (texts : RunTexts)
    → Performs entries opened performed
    → ((level : LevelId) (w : World) → performed level w → finished level (closed w))
    → ((w : World) → finished One w → texts.one ≡ drained_texts refusal1 w)
    → ((w : World) → finished Two w → texts.two ≡ drained_texts refusal2 w)
    → HasTexts refusal1 refusal2 entries opened texts
texts_shown refusal1 refusal2 entries opened performed finished texts performs closes shown_one shown_two = record {
  one = λ w held. shown_one (closed (solo w (own One entries))) (closes One (solo w (own One entries)) (performs One w held));
  two = λ w held. shown_two (closed (solo w (own Two entries))) (closes Two (solo w (own Two entries)) (performs Two w held));
}

-- ---- a run
-- a world that is closed has no job at work
none_at_work : (w : World) → (closed w).job ≡ None
none_at_work w = by w.job refl
  where
    by : (job : Option JobAtWork) → w.job ≡ job → (over job w).job ≡ None
    by None is = is
    by (Some job) is = refl

none_open : (deck : List (List ℕ)) (job : Option OpenJob) (w : World) (meant : Option JobAtWork) → meant ≡ None → HoldsAtWork deck job w meant → open_files job ≡ []
none_open deck None w meant is held = refl
none_open deck (Some job) w None is held = absurd held
none_open deck (Some job) w (Some meant) is held = absurd cc

has_files : (level : Level) (beside : Around) (w : World) → Holds level beside (closed w) → HasFiles beside.state.contents (closed w)
has_files level beside w held label is =
    held.parts.pack.own_files label is
    (subst (λ (items : List OpenFile). is_open label.name items ≡ false) (sym (none_open level.deck level.job (closed w) (closed w).job (none_at_work w) held.parts.job)) refl)

pub files_stand : (entries : List Entry) (first middle last : State) → Performs entries (held_by first) (held_by middle)
    → ((level : LevelId) (w : World) → HoldsFor level middle w → HoldsFor level last (closed w))
    → HaveFiles entries (held_by first) last.beside.state.contents
files_stand entries first middle last performs closes level w held =
    has_files (level_of level last) last.beside (solo w (own level entries)) (closes level (solo w (own level entries)) (performs level w held)).world

pub slots_stand : (entries : List Entry) (first middle last : State) → Performs entries (held_by first) (held_by middle) → KeepSaying first middle
    → ((level : LevelId) (w : World) → HoldsFor level middle w → HoldsFor level last (closed w))
    → ((level : LevelId) (w : World) → IsSaid level middle → HoldsFor level last w
    → slots_of (header_of last).format (region_of level (header_of last)) (area_of level) last.beside.state.contents ≡ w.pack.own.slots)
    → ((level : LevelId) → IsSaid level middle → IsUntangled (header_of last).format (region_of level (header_of last)) (area_of level) last.beside.state.contents)
    → header_of last ≡ header_of first
    → HaveSlots entries first last.beside.state.contents
slots_stand entries first middle last performs says closes mounts untangled same level said = (
  subst (λ (h : Header). IsUntangled h.format (region_of level h) (area_of level) last.beside.state.contents) same (untangled level (says level said)),
  λ w held.
      ap (λ (h : Header). slots_of h.format (region_of level h) (area_of level) last.beside.state.contents) (sym same)
      ∙ mounts level (closed (solo w (own level entries))) (says level said) (closes level (solo w (own level entries)) (performs level w held)),
)

-- ---- where a call finishes a bureau and gives its texts, or stops
take_front : {A : Type 0} (xs ys : List A) → take (length xs) (xs ++ ys) ≡ xs
take_front [] ys = refl
take_front (x ∷ xs) ys = ap (λ l. x ∷ l) (take_front xs ys)

-- the lines that a level has drained are those of each world that is held for it
pub drained_at : (level : LevelId) (bureau : State) (w : World) → HoldsFor level bureau w → lines_at level bureau ≡ drained_lines w.lines
drained_at level bureau w held =
    let lines = held.world.parts.lines in
    sym (ap₂ (λ n printed. take n printed) lines.drained_lines lines.printed ∙ take_front (lines_at level bureau) _)

pub halts_shown : (level : LevelId) (bureau : State) (refusal : Option (ℕ × ℕ)) (halts : List ℕ) → ((w : World) → HoldsFor level bureau w → halts ≡ halt_text_of refusal w.halts)
    → (w : World) → HoldsFor level bureau w → texts_with level bureau halts ≡ drained_texts refusal w
halts_shown level bureau refusal halts are w held = ap₂ (λ lines text. record { report = report_of lines; halts = text }) (drained_at level bureau w held) (are w held)

pub halts_served : {V : Type 0} {E : Type 0} (refusal1 refusal2 : Option (ℕ × ℕ)) (entries : List Entry) (opened performed : LevelId → World → Type 0) (last : State) (result : Result V E) (one two : V → List ℕ)
    → Performs entries opened performed
    → OnOk result ((level : LevelId) (w : World) → performed level w → HoldsFor level last (closed w))
    → IfOk result (λ v. (w : World) → HoldsFor One last w → one v ≡ halt_text_of refusal1 w.halts)
    → IfOk result (λ v. (w : World) → HoldsFor Two last w → two v ≡ halt_text_of refusal2 w.halts)
    → IfOk result (λ v. HasTexts refusal1 refusal2 entries opened (texts_at last (one v) (two v)))
halts_served refusal1 refusal2 entries opened performed last (Ok v) one two performs closes shown_one shown_two =
    texts_shown refusal1 refusal2 entries opened performed (held_by last) (texts_at last (one v) (two v)) performs closes
    (halts_shown One last refusal1 (one v) shown_one) (halts_shown Two last refusal2 (two v) shown_two)
halts_served refusal1 refusal2 entries opened performed last (Err stop) one two performs closes shown_one shown_two = tt

-- a level's halt text
pub halts_told : {V : Type 0} {E : Type 0} (level : LevelId) (bureau : State) (refusal : Option (ℕ × ℕ)) (halts : List ShownHalt) (result : Result V E) (text : V → List ℕ)
    → IfOk result (λ v. text v ≡ halt_text_of refusal halts) → ((w : World) → HoldsFor level bureau w → halts ≡ w.halts)
    → IfOk result (λ v. (w : World) → HoldsFor level bureau w → text v ≡ halt_text_of refusal w.halts)
halts_told level bureau refusal halts (Ok v) text is are = λ w held. is ∙ ap (halt_text_of refusal) (are w held)
halts_told level bureau refusal halts (Err fault) text is are = tt

pub files_served : {V : Type 0} {E : Type 0} (entries : List Entry) (first middle last : State) (result : Result V E) → Performs entries (held_by first) (held_by middle)
    → OnOk result ((level : LevelId) (w : World) → HoldsFor level middle w → HoldsFor level last (closed w))
    → OnOk result (HaveFiles entries (held_by first) last.beside.state.contents)
files_served entries first middle last (Ok value) performs closes = files_stand entries first middle last performs closes
files_served entries first middle last (Err stop) performs closes = tt

pub slots_served : {V : Type 0} {E : Type 0} (entries : List Entry) (first middle last : State) (result : Result V E) → Performs entries (held_by first) (held_by middle) → KeepSaying first middle
    → OnOk result ((level : LevelId) (w : World) → HoldsFor level middle w → HoldsFor level last (closed w))
    → OnOk result ((level : LevelId) (w : World) → IsSaid level middle → HoldsFor level last w
    → slots_of (header_of last).format (region_of level (header_of last)) (area_of level) last.beside.state.contents ≡ w.pack.own.slots)
    → OnOk result ((level : LevelId) → IsSaid level middle → IsUntangled (header_of last).format (region_of level (header_of last)) (area_of level) last.beside.state.contents)
    → header_of last ≡ header_of first
    → OnOk result (HaveSlots entries first last.beside.state.contents)
slots_served entries first middle last (Ok value) performs says closes mounts untangled same = slots_stand entries first middle last performs says closes mounts untangled same
slots_served entries first middle last (Err stop) performs says closes mounts untangled same = tt

-- the same header is mounted
mounted_again : (old new : List (List ℕ)) → length new ≡ length old → slice_get new 0 ≡ slice_get old 0 → mounted new ≡ mounted old
mounted_again old new count same =
    ap (λ (n : ℕ). if nat_lt n first_region then Err Short else accepted n (header_by (sector_bytes new 0) (format_in (sector_bytes new 0)))) count
    ∙ ap (λ (bytes : List ℕ). if nat_lt (length old) first_region then Err Short else accepted (length old) (header_by bytes (format_in bytes))) (sector_bytes-same old new 0 same)

-- what the outcome's pack has: entries and the end leave the rest, in a store that has what the pool has
pub left_so : (header : Header) (deck1 deck2 : List ℕ) (cards1 cards2 : List (List ℕ)) (refusal1 refusal2 : Option (ℕ × ℕ)) (entries : List Entry) (first last : State) (contents saved : List (List ℕ))
    → mounted contents ≡ Ok header → header_of first ≡ header → first.beside.state.contents ≡ contents
    → ((level : LevelId) → rests level first) → LeavesSectors entries first last
    → ReadsDeck deck1 cards1 refusal1 → ReadsDeck deck2 cards2 refusal2
    → HoldsFor One first (at_start One header contents cards1) → HoldsFor Two first (at_start Two header contents cards2)
    → ((level : LevelId) → IsUntangled (header_of first).format (region_of level (header_of first)) (area_of level) contents → IsSaid level first)
    → HaveSlots entries first last.beside.state.contents
    → HaveFiles entries (held_by first) last.beside.state.contents
    → last.beside.state.stored ≡ last.beside.state.contents → saved ≡ last.beside.state.stored
    → LeavesSo header deck1 deck2 entries contents saved
left_so header deck1 deck2 cards1 cards2 refusal1 refusal2 entries first last contents saved mount header_is contents_are rest leaves reads1 reads2 held1 held2 said slots files flushed saved_are = record {
  count = count;
  common = common;
  mount = mounted_again contents saved count (common 0 (inl refl)) ∙ mount;
  masters = slots_kept header.format header.masters 0 contents saved (λ n is. common n (inr (inl is)));
  one_slots = slots_for One deck1 cards1 reads1.read held1;
  two_slots = slots_for Two deck2 cards2 reads2.read held2;
  untangled = λ level. subst (λ (c : List (List ℕ)). IsUntangled header.format (region_of level header) (area_of level) contents → IsUntangled header.format (region_of level header) (area_of level) c) (sym same)
      (subst (λ (h : Header). IsUntangled h.format (region_of level h) (area_of level) contents → IsUntangled h.format (region_of level h) (area_of level) last.beside.state.contents) header_is
      (λ untangled. (slots level (said level untangled)).0));
  idle = λ level none n is. ap (λ (c : List (List ℕ)). slice_get c n) same
      ∙ (leaves.idle level none (rest level)).contents n (subst (λ (h : Header). IsOwn level h n) (sym header_is) is) ∙ ap (λ (c : List (List ℕ)). slice_get c n) contents_are;
  one = subst (λ (c : List (List ℕ)). HasFiles c (run_alone One header contents (cards_of (deck_of deck1)) (own One entries))) (sym same)
      (subst (λ (cards : List (List ℕ)). HasFiles last.beside.state.contents (run_alone One header contents cards (own One entries))) reads1.read (files One (at_start One header contents cards1) held1));
  two = subst (λ (c : List (List ℕ)). HasFiles c (run_alone Two header contents (cards_of (deck_of deck2)) (own Two entries))) (sym same)
      (subst (λ (cards : List (List ℕ)). HasFiles last.beside.state.contents (run_alone Two header contents cards (own Two entries))) reads2.read (files Two (at_start Two header contents cards2) held2));
}
  where
    same : saved ≡ last.beside.state.contents
    same = saved_are ∙ flushed

    count : length saved ≡ length contents
    count = ap length same ∙ leaves.common.count ∙ ap length contents_are

    common : (n : ℕ) → IsCommon header n → slice_get saved n ≡ slice_get contents n
    common n is = ap (λ (c : List (List ℕ)). slice_get c n) same ∙ leaves.common.contents n (subst (λ (h : Header). IsCommon h n) (sym header_is) is) ∙ ap (λ (c : List (List ℕ)). slice_get c n) contents_are

    slots_for : (level : LevelId) (deck : List ℕ) (cards : List (List ℕ)) → cards ≡ cards_of (deck_of deck) → HoldsFor level first (at_start level header contents cards)
        → HasSlots level header contents saved (run_alone level header contents (cards_of (deck_of deck)) (own level entries))
    slots_for level deck cards read held =
        subst (λ (c : List (List ℕ)). HasSlots level header contents saved (run_alone level header contents c (own level entries))) read
        (subst (λ (c : List (List ℕ)). HasSlots level header contents c (run_alone level header contents cards (own level entries))) (sym same)
        (subst (λ (h : Header). HasSlots level h contents last.beside.state.contents (run_alone level header contents cards (own level entries))) header_is
        (λ untangled. (slots level (said level untangled)).1 (at_start level header contents cards) held)))

-- the run over a store in memory is the run over the pack's bytes
texts_by : (pack deck1 deck2 script : List ℕ) (entries : List Entry) → entries_of script ≡ Ok entries
    → texts_over (mounted (contents_of pack)) (contents_of pack) deck1 deck2 entries ≡ run_texts pack deck1 deck2 script
texts_by pack deck1 deck2 script entries entries_are = sym (ap (texts_after (contents_of pack) deck1 deck2) entries_are)

given_by : (pack deck1 deck2 script : List ℕ) (entries : List Entry) (texts : RunTexts) (sectors : List (List ℕ)) → entries_of script ≡ Ok entries
    → GivesOver (contents_of pack) deck1 deck2 entries texts sectors
    → (run_texts pack deck1 deck2 script ≡ Ok texts) × ((saved : List ℕ) → sectors_of saved ≡ sectors → saved ≡ concat (sectors_of saved) → LeavesPack pack deck1 deck2 script saved)
given_by pack deck1 deck2 script entries texts sectors entries_are given = (
  sym (texts_by pack deck1 deck2 script entries entries_are) ∙ given.0,
  λ saved are whole header others mount read. left saved whole header others (same entries others (entries_of script) entries_are read)
      (subst (λ (c : List (List ℕ)). LeavesSo header deck1 deck2 entries (contents_of pack) c) (sym are) (given.1 header mount)),
)
  where
    same : (one two : List Entry) (read : Result (List Entry) ℕ) → read ≡ Ok one → read ≡ Ok two → one ≡ two
    same one two read first second = cc

    few : (saved : List ℕ) → length (sectors_of saved) ≡ length (contents_of pack) → length (sectors_of saved) ≤ 65535
    few saved count = subst (λ (n : ℕ). n ≤ 65535) (sym count) (omega (arith, length-take 65535 (sectors_of pack)))

    left : (saved : List ℕ) → saved ≡ concat (sectors_of saved) → (header : Header) (others : List Entry) → entries ≡ others
        → LeavesSo header deck1 deck2 entries (contents_of pack) (sectors_of saved)
        → LeavesSo header deck1 deck2 others (contents_of pack) (contents_of saved) × AreSectors saved
    left saved whole header others are rest =
        subst (λ (c : List (List ℕ)). LeavesSo header deck1 deck2 others (contents_of pack) c × (saved ≡ concat c))
        (sym (take_all 65535 (sectors_of saved) (few saved rest.count)))
        (subst (λ (e : List Entry). LeavesSo header deck1 deck2 e (contents_of pack) (sectors_of saved)) are rest, whole)

pub lines_by : (pack deck1 deck2 script : List ℕ) (entries : List Entry) (contents : List (List ℕ)) (result : Result RunLines RunFault) → contents ≡ contents_of pack → entries_of script ≡ Ok entries
    → LinesOver contents deck1 deck2 entries result → RunsLines pack deck1 deck2 script result
lines_by pack deck1 deck2 script entries contents result contents_are entries_are given = by result (subst (λ (c : List (List ℕ)). LinesOver c deck1 deck2 entries result) contents_are given)
  where
    by : (result : Result RunLines RunFault) → LinesOver (contents_of pack) deck1 deck2 entries result → RunsLines pack deck1 deck2 script result
    by (Ok run) given =
        let gives = given_by pack deck1 deck2 script entries (lines_texts run) (sectors_of run.pack.items) entries_are given.0 in
        (gives.0, gives.1 run.pack.items refl given.1)
    by (Err NoMemory) given = tt
    by (Err DeviceFault) given = given
    by (Err (Script line)) given = absurd given
    by (Err (Mount fault)) given = sym (texts_by pack deck1 deck2 script entries entries_are) ∙ given

-- so it is where no report is written yet
pub unwritten_by : (pack deck1 deck2 script : List ℕ) (entries : List Entry) (contents : List (List ℕ)) (result : Result Unwritten RunFault) → contents ≡ contents_of pack → entries_of script ≡ Ok entries
    → UnwrittenOver contents deck1 deck2 entries result → RunsUnwritten pack deck1 deck2 script result
unwritten_by pack deck1 deck2 script entries contents result contents_are entries_are given = by result (subst (λ (c : List (List ℕ)). UnwrittenOver c deck1 deck2 entries result) contents_are given)
  where
    by : (result : Result Unwritten RunFault) → UnwrittenOver (contents_of pack) deck1 deck2 entries result → RunsUnwritten pack deck1 deck2 script result
    by (Ok run) given =
        let gives = given_by pack deck1 deck2 script entries (unwritten_texts run) run.bureau.beside.state.stored entries_are given in
        (gives.0, λ saved saves. gives.1 saved saves.sectors saves.whole)
    by (Err NoMemory) given = tt
    by (Err DeviceFault) given = given
    by (Err (Script line)) given = absurd given
    by (Err (Mount fault)) given = sym (texts_by pack deck1 deck2 script entries entries_are) ∙ given

-- and with its reports written
pub runs_written : (pack deck1 deck2 script : List ℕ) (run : Unwritten) (outcome : Outcome) → outcome_texts outcome ≡ unwritten_texts run → SavesAs run outcome.pack.items
    → RunsUnwritten pack deck1 deck2 script (Ok run) → Runs pack deck1 deck2 script (Ok outcome)
runs_written pack deck1 deck2 script run outcome texts saves given = (given.0 ∙ ap (λ (t : RunTexts). Ok t) (sym texts), given.1 outcome.pack.items saves)

pub runs_refused : (pack deck1 deck2 script : List ℕ) (fault : RunFault) → RunsUnwritten pack deck1 deck2 script (Err fault) → Runs pack deck1 deck2 script (Err fault)
runs_refused pack deck1 deck2 script NoMemory given = tt
runs_refused pack deck1 deck2 script DeviceFault given = given
runs_refused pack deck1 deck2 script (Script line) given = given
runs_refused pack deck1 deck2 script (Mount fault) given = given

same_header : (one two : Header) (mount : Result Header MountFault) → mount ≡ Ok one → mount ≡ Ok two → one ≡ two
same_header one two mount first second = cc

-- what it gives where the bureau was opened, performed all entries and was finished
given_over : (contents : List (List ℕ)) (deck1 deck2 : List ℕ) (cards1 cards2 : List (List ℕ)) (refusal1 refusal2 : Option (ℕ × ℕ)) (entries : List Entry) (first last : State) (texts : RunTexts) (sectors : List (List ℕ))
    → mounted contents ≡ Ok (header_of first) → first.beside.state.contents ≡ contents
    → HoldsFor One first (at_start One (header_of first) contents cards1) → HoldsFor Two first (at_start Two (header_of first) contents cards2)
    → ((level : LevelId) → rests level first)
    → ReadsDeck deck1 cards1 refusal1 → ReadsDeck deck2 cards2 refusal2
    → ((level : LevelId) → IsUntangled (header_of first).format (region_of level (header_of first)) (area_of level) contents → IsSaid level first)
    → HasTexts refusal1 refusal2 entries (held_by first) texts
    → HaveSlots entries first last.beside.state.contents
    → HaveFiles entries (held_by first) last.beside.state.contents
    → last.beside.state.stored ≡ last.beside.state.contents
    → LeavesSectors entries first last
    → sectors ≡ last.beside.state.stored
    → GivesOver contents deck1 deck2 entries texts sectors
given_over contents deck1 deck2 cards1 cards2 refusal1 refusal2 entries first last texts sectors mount contents_are held1 held2 rest reads1 reads2 said has slots files flushed leaves saved = (
  ap (λ (m : Result Header MountFault). texts_over m contents deck1 deck2 entries) mount
      ∙ ap (λ (t : RunTexts). Ok t) (sym (texts_given (header_of first) contents deck1 deck2 cards1 cards2 refusal1 refusal2 entries (held_by first) texts reads1 reads2 held1 held2 has)),
  λ header is. left_so header deck1 deck2 cards1 cards2 refusal1 refusal2 entries first last contents sectors is (same_header (header_of first) header (mounted contents) mount is) contents_are rest leaves reads1 reads2
      (subst (λ (h : Header). HoldsFor One first (at_start One h contents cards1)) (same_header (header_of first) header (mounted contents) mount is) held1)
      (subst (λ (h : Header). HoldsFor Two first (at_start Two h contents cards2)) (same_header (header_of first) header (mounted contents) mount is) held2)
      said slots files flushed saved,
)

pub unwritten_over : (contents : List (List ℕ)) (deck1 deck2 : List ℕ) (cards1 cards2 : List (List ℕ)) (refusal1 refusal2 : Option (ℕ × ℕ)) (entries : List Entry) (first : State) (run : Unwritten)
    → mounted contents ≡ Ok (header_of first) → first.beside.state.contents ≡ contents
    → HoldsFor One first (at_start One (header_of first) contents cards1) → HoldsFor Two first (at_start Two (header_of first) contents cards2)
    → ((level : LevelId) → rests level first)
    → ReadsDeck deck1 cards1 refusal1 → ReadsDeck deck2 cards2 refusal2
    → ((level : LevelId) → IsUntangled (header_of first).format (region_of level (header_of first)) (area_of level) contents → IsSaid level first)
    → HasTexts refusal1 refusal2 entries (held_by first) (unwritten_texts run)
    → HaveSlots entries first run.bureau.beside.state.contents
    → HaveFiles entries (held_by first) run.bureau.beside.state.contents
    → run.bureau.beside.state.stored ≡ run.bureau.beside.state.contents
    → LeavesSectors entries first run.bureau
    → UnwrittenOver contents deck1 deck2 entries (Ok run)
unwritten_over contents deck1 deck2 cards1 cards2 refusal1 refusal2 entries first run mount contents_are held1 held2 rest reads1 reads2 said texts slots files flushed leaves =
    given_over contents deck1 deck2 cards1 cards2 refusal1 refusal2 entries first run.bureau (unwritten_texts run) run.bureau.beside.state.stored mount contents_are held1 held2 rest reads1 reads2 said texts slots files flushed leaves refl

-- and where its lines and its pack are handed out
pub lines_over : (contents : List (List ℕ)) (deck1 deck2 : List ℕ) (entries : List Entry) (run : Unwritten) (lines : RunLines) → lines_texts lines ≡ unwritten_texts run → SavesAs run lines.pack.items
    → UnwrittenOver contents deck1 deck2 entries (Ok run) → LinesOver contents deck1 deck2 entries (Ok lines)
lines_over contents deck1 deck2 entries run lines texts saves given = (
  subst (λ (t : RunTexts). GivesOver contents deck1 deck2 entries t (sectors_of lines.pack.items)) (sym texts)
      (subst (λ (left : List (List ℕ)). GivesOver contents deck1 deck2 entries (unwritten_texts run) left) (sym saves.sectors) given),
  saves.whole,
)
