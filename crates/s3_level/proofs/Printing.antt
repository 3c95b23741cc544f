-- Printed lines: those that the level has drained, and then those in its queue.
use Rattle.std.specs.Prelude.{map}
use Rattle.std.proofs.Common.{◌≡◌, ℕ, ◌-◌, ◌<◌, ◌≤◌, List, [], ◌∷◌, ◌++◌, length, Bool, nat_lt, if◌then◌else◌, Option, Some, None, Result, Ok, Err, OnOk, refl, sym, ap, subst, ◌∙◌, arith, lt-ltb, le-ltb, length-append, append_assoc, IsErr, true≢false}
use Rattle.s3_cards.specs.Printed.{Printed}
use Rattle.s3_cards.specs.declared.levels.LevelId.{LevelId}
use Rattle.s3_store.specs.Inner.State.{PoolState, ChangesWithin}
use Rattle.s3_labels.specs.Inner.Areas.{Areas, IsReady as IsPackReady}
use Rattle.s3_meaning.specs.Output.{filled}
use Rattle.s3_meaning.specs.Requests.{Print, Done}
use Rattle.s3_job_files.specs.Inner.Holds.{seen, job_file_of}
use Rattle.s3_job_files.specs.Inner.Packs.{KeepsOthers}
use Rattle.s3_job_files.proofs.Staying.{held_over}
use Rattle.s3_spool.specs.Inner.Queues.{Blocks, IsFreeSector, blocks_of, queue_of, quota_of}
use Rattle.s3_spool.proofs.QueueLemmas.{queue_length}
use Rattle.s3_cycle.specs.declared.request.Request.TheVariants as asks
use Rattle.s3_cycle.specs.Inner.Following.{asked, put}
use Rattle.s3_cycle.proofs.FollowLemmas.{waits_print}
use Rattle.s3_solo.specs.declared.action.Did.{Did}
use Rattle.s3_solo.specs.declared.action.Did.TheVariants.{Acted, Idle}
use Rattle.s3_solo.specs.Lines.{Lines, has_room}
use Rattle.s3_solo.specs.World.{World, JobAtWork}
use Rattle.s3_solo.specs.Serving.{acted, answered, idle, line_put, served}
use Rattle.s3_level.specs.declared.job.OpenJob.{OpenJob}
use Rattle.s3_level.specs.declared.level.Level.{Level}
use Rattle.s3_level.specs.Inner.Holds.{AreAll, Shown, HoldsParts, HoldsAtWork, IsReady, Becomes, around, open_files, shown, with_seen}
use Rattle.s3_level.specs.Inner.Turning.{AtWorkBecomes, Serves, request_by, waits_by}
use Rattle.s3_level.proofs.Beside.{put_sees, shown_after}

-- ---- room in the queue
-- so many lines are queued as the queue has
queued : (drained queue : List Printed) (lines : Lines) → lines.printed ≡ drained ++ queue → lines.drained ≡ length drained → length lines.printed - lines.drained ≡ length queue
queued drained queue lines printed counted =
    ap (λ (all : List Printed). length all - lines.drained) printed ∙ ap (λ (n : ℕ). length (drained ++ queue) - n) counted ∙ omega (arith, length-append drained queue)

room_held : (level : Level) (areas : Areas) (state : PoolState) (blocks : Blocks) (w : World) → HoldsParts level (shown level.id (around areas state blocks)) w
    → has_room w.lines ≡ nat_lt (length (blocks_of level.id blocks)) (quota_of level.id blocks)
room_held level areas state blocks w held =
    ap (λ (n : ℕ). nat_lt n w.lines.quota) (queued level.lines.items (queue_of level.id blocks state.contents) w.lines held.lines.printed held.lines.drained_lines ∙ queue_length level.id blocks state.contents)
    ∙ ap (nat_lt (length (blocks_of level.id blocks))) held.lines.quota

-- ---- a line is put
-- what the open job asks for
asks_it : (o : Option OpenJob) (open_job : OpenJob) (page line : ℕ) → o ≡ Some open_job → request_by o ≡ Some (asks.Print page line) → asked open_job.cycle ≡ asks.Print page line
asks_it o open_job page line is_open is = let same : Some (asked open_job.cycle) ≡ Some (asks.Print page line) = sym (ap request_by is_open) ∙ is in cc

-- a job at work stays as it is while a line is put
still : (page line : ℕ) (text : List ℕ) (w : World) (deck : List (List ℕ)) (o : Option OpenJob) (meant : Option JobAtWork) → HoldsAtWork deck o w meant → HoldsAtWork deck o (line_put page line text w) meant
still page line text w deck None None h = h
still page line text w deck None (Some job) h = h
still page line text w deck (Some job) None h = h
still page line text w deck (Some job) (Some meant) h = record { number = h.number; cards = h.cards; files = h.files; follows = h.follows }

-- the line of the open job is put last
pub line_last : {T E : Type 0} (result : Result T E) (level : Level) (areas : Areas) (blocks after : Blocks) (s t : PoolState) (open_job : OpenJob) (page line : ℕ) (line_text : List ℕ) (printed : Printed)
    → level.job ≡ Some open_job
    → request_by level.job ≡ Some (asks.Print page line)
    → line_text ≡ filled (put open_job.cycle)
    → printed ≡ record { page = page; line = line; text = line_text }
    → IsReady level (seen areas s.contents)
    → ChangesWithin (IsFreeSector blocks) s t
    → ((one_or_two : LevelId) → quota_of one_or_two after ≡ quota_of one_or_two blocks)
    → OnOk result (queue_of level.id after t.contents ≡ queue_of level.id blocks s.contents ++ printed ∷ [])
    → OnOk result ((text : List ℕ) → waits_by level.job ≡ Some (Print page line text)
    → Becomes (line_put page line text) (HoldsParts level (shown level.id (around areas s blocks))) (HoldsParts level (shown level.id (around areas t after))))
line_last (Ok _) level areas blocks after s t open_job page line line_text printed is_open is composed is_line ready within quotas queue = λ text waits' w held.
    let meant : Some (Print page line (filled (put open_job.cycle))) ≡ Some (Print page line text) =
    sym (ap waits_by is_open ∙ ap (λ r. Some r) (waits_print open_job.cycle page line (asks_it level.job open_job page line is_open is))) ∙ waits' in
    let is_text : line_text ≡ text = (let e : filled (put open_job.cycle) ≡ text = cc in composed ∙ e) in
    let line_of : List ℕ → Printed = λ text'. record { page = page; line = line; text = text' } in
    let same_line : printed ≡ line_of text = is_line ∙ ap line_of is_text in
    let over = held_over level.id (open_files level.job) (seen areas s.contents) (seen areas t.contents) (record { files = w.pack; job_files = map job_file_of (open_files level.job) }) ready.files
    (put_sees level.id areas blocks s t ready.files.pack within) (record { files = held.pack; job_files = refl }) in
    record {
      cards = held.cards;
      jobs = held.jobs;
      number = held.number;
      library = held.library;
      switches = held.switches;
      date = held.date;
      pack = over.files;
      job = still page line text w level.deck level.job w.job held.job;
      lines = record {
        printed =
            ap (λ (all : List Printed). all ++ line_of text ∷ []) held.lines.printed
            ∙ append_assoc level.lines.items (queue_of level.id blocks s.contents) (line_of text ∷ [])
            ∙ ap (λ (behind : List Printed). level.lines.items ++ behind) (ap (λ (l : Printed). queue_of level.id blocks s.contents ++ l ∷ []) (sym same_line) ∙ sym queue);
        drained_lines = held.lines.drained_lines;
        quota = held.lines.quota ∙ sym (quotas level.id);
      };
      halts = held.halts;
    }
line_last (Err _) level areas blocks after s t open_job page line line_text printed is_open is composed is_line ready within quotas queue = tt

-- a line is printed, and the job goes on
pub line_served : (page line : ℕ) (text : List ℕ) (level : Level) (areas : Areas) (state : PoolState) (blocks : Blocks) (middle new : World → Type 0)
    → length (blocks_of level.id blocks) < quota_of level.id blocks
    → Becomes (line_put page line text) (HoldsParts level (shown level.id (around areas state blocks))) middle
    → AtWorkBecomes (answered Done) middle new
    → (w : World) (job : JobAtWork) → w.job ≡ Some job → HoldsParts level (shown level.id (around areas state blocks)) w
    → (Acted ≡ (served (Print page line text) job w).did) × new (served (Print page line text) job w).world
line_served page line text level areas state blocks middle new room puts goes_on' w job is_job held =
    let put' : World = line_put page line text w in
    subst (λ (has : Bool). (Acted ≡ (if has then acted (answered Done job put') else idle w).did) × new (if has then acted (answered Done job put') else idle w).world)
    (sym (room_held level areas state blocks w held ∙ lt-ltb (length (blocks_of level.id blocks)) (quota_of level.id blocks) room)) (refl, goes_on' put' job is_job (puts w held))

-- unless its quota is queued
pub line_waits : (page line : ℕ) (text : List ℕ) (level : Level) (areas : Areas) (state : PoolState) (blocks : Blocks)
    → length (blocks_of level.id blocks) ≡ quota_of level.id blocks
    → (w : World) (job : JobAtWork) → w.job ≡ Some job → HoldsParts level (shown level.id (around areas state blocks)) w
    → (Idle ≡ (served (Print page line text) job w).did) × HoldsParts level (shown level.id (around areas state blocks)) (served (Print page line text) job w).world
line_waits page line text level areas state blocks full w job is_job held =
    let put' : World = line_put page line text w in
    let past : quota_of level.id blocks ≤ length (blocks_of level.id blocks) = omega (arith, full) in
    subst (λ (has : Bool). (Idle ≡ (if has then acted (answered Done job put') else idle w).did) × HoldsParts level (shown level.id (around areas state blocks)) (if has then acted (answered Done job put') else idle w).world)
    (sym (room_held level areas state blocks w held ∙ le-ltb (length (blocks_of level.id blocks)) (quota_of level.id blocks) past)) (refl, held)

-- where there is room it acts
pub line_acts : (page line : ℕ) (text : List ℕ) (level : Level) (areas : Areas) (state : PoolState) (blocks : Blocks)
    → length (blocks_of level.id blocks) < quota_of level.id blocks
    → (w : World) (job : JobAtWork) → w.job ≡ Some job → HoldsParts level (shown level.id (around areas state blocks)) w → (served (Print page line text) job w).did ≡ Acted
line_acts page line text level areas state blocks room w job is_job held =
    let put' : World = line_put page line text w in
    ap (λ (has : Bool). (if has then acted (answered Done job put') else idle w).did)
    (room_held level areas state blocks w held ∙ lt-ltb (length (blocks_of level.id blocks)) (quota_of level.id blocks) room)

-- the line is put, and the job goes on
pub line_then : (page line : ℕ) (text : List ℕ) (level new : Level) (areas middle_areas new_areas : Areas) (s t u : PoolState) (blocks after : Blocks)
    → length (blocks_of level.id blocks) < quota_of level.id blocks
    → IsPackReady middle_areas t.contents → AreAll after → KeepsOthers level.id middle_areas new_areas t u
    → Becomes (line_put page line text) (HoldsParts level (shown level.id (around areas s blocks))) (HoldsParts level (shown level.id (around middle_areas t after)))
    → ((k : Shown) → AtWorkBecomes (answered Done) (HoldsParts level (with_seen (seen middle_areas t.contents) k)) (HoldsParts new (with_seen (seen new_areas u.contents) k)))
    → (w : World) (job : JobAtWork) → w.job ≡ Some job → HoldsParts level (shown level.id (around areas s blocks)) w
    → (Acted ≡ (served (Print page line text) job w).did) × HoldsParts new (shown level.id (around new_areas u after)) (served (Print page line text) job w).world
line_then page line text level new areas middle_areas new_areas s t u blocks after room pack are keeps puts goes =
    line_served page line text level areas s blocks (HoldsParts level (shown level.id (around middle_areas t after))) (HoldsParts new (shown level.id (around new_areas u after))) room puts
    (subst (λ (k : Shown). AtWorkBecomes (answered Done) (HoldsParts level (shown level.id (around middle_areas t after))) (HoldsParts new k))
    (sym (shown_after level.id middle_areas new_areas after t u pack are keeps)) (goes (shown level.id (around middle_areas t after))))

-- so where it fails it was to act
pub line_fails : {E : Type 0} (result : Result Did E) (page line : ℕ) (text : List ℕ) (level : Level) (areas : Areas) (state : PoolState) (blocks : Blocks) (new : World → Type 0) → IsErr result
    → length (blocks_of level.id blocks) < quota_of level.id blocks
    → Serves (served (Print page line text)) result (HoldsParts level (shown level.id (around areas state blocks))) new
line_fails (Ok did) page line text level areas state blocks new fails room = absurd (true≢false (sym fails))
line_fails (Err e) page line text level areas state blocks new fails room = line_acts page line text level areas state blocks room
