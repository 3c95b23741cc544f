-- Lines are taken off the queue into the printed output.
use Rattle.std.proofs.Common.{◌≡◌, ℕ, zero, suc, ◌+◌, ◌≤◌, List, [], ◌∷◌, ◌++◌, length, replicate, Bool, true, false, if◌then◌else◌, Some, None, refl, sym, ap, subst, ◌∙◌, arith, lt-ltb, le-ltb, length-append, append_assoc}
use Rattle.std.proofs.lemmas.Bool.{ltb-false}
use Rattle.s3_cards.specs.Printed.{Printed}
use Rattle.s3_store.specs.Inner.State.{PoolState, KeepsContents}
use Rattle.s3_store.proofs.Frames.{keeps_refl, keeps_trans}
use Rattle.s3_job_files.specs.Inner.Holds.{HoldsFiles, seen}
use Rattle.s3_labels.specs.Inner.Areas.{Areas}
use Rattle.s3_spool.specs.Inner.Queues.{Blocks, blocks_of, queue_of, quota_of}
use Rattle.s3_spool.proofs.QueueLemmas.{queue_length}
use Rattle.s3_solo.specs.declared.action.Action.TheVariants.{Drain}
use Rattle.s3_solo.specs.declared.action.Did.{Did}
use Rattle.s3_solo.specs.declared.action.Did.TheVariants.{Acted, Refused}
use Rattle.s3_solo.specs.Lines.{Lines, all_drained, is_queued, with_drained}
use Rattle.s3_solo.specs.World.{World}
use Rattle.s3_solo.specs.Serving.{Outcome, acted}
use Rattle.s3_solo.specs.Solo.{refused, solo, step_of}
use Rattle.s3_solo.proofs.Asking.{step_asks}
use Rattle.s3_level.specs.declared.level.Level.{Level}
use Rattle.s3_level.specs.Inner.Holds.{AreAll, Around, Becomes, Holds, HoldsAtWork, HoldsParts, IsReady, Shown, Spares, Steps, around, open_files, shown}
use Rattle.s3_level.proofs.Beside.{spares_none, spares_then}
use Rattle.s3_cards.specs.declared.levels.LevelId.{LevelId}

-- ---- one line
drain_by : (w : World) (has : Bool) → is_queued w.lines ≡ has → step_of w Drain ≡ (if has then acted (record w { lines = with_drained w.lines }) else refused 3 w)
drain_by w has is = ap (λ (b : Bool). if b then acted (record w { lines = with_drained w.lines }) else refused 3 w) is

still : (w : World) (lines : Lines) (deck : List (List ℕ)) (o : _) (meant : _) → HoldsAtWork deck o w meant → HoldsAtWork deck o (record w { lines = lines }) meant
still w lines deck None None h = h
still w lines deck None (Some job) h = h
still w lines deck (Some job) None h = h
still w lines deck (Some job) (Some meant) h = record { number = h.number; cards = h.cards; files = h.files; follows = h.follows }

pub line_drained : (old new : Level) (areas : Areas) (blocks after : Blocks) (s t : PoolState) (line : Printed) → queue_of old.id blocks s.contents ≡ line ∷ queue_of old.id after t.contents
    → t.contents ≡ s.contents
    → ((one_or_two : _) → quota_of one_or_two after ≡ quota_of one_or_two blocks)
    → new ≡ record old { lines = new.lines }
    → new.lines.items ≡ old.lines.items ++ line ∷ []
    → Steps Drain Acted (Holds old (around areas s blocks)) (Holds new (around areas t after))
line_drained old new areas blocks after s t line first same quotas is more w held =
    let lines = held.parts.lines in
    let printed : w.lines.printed ≡ old.lines.items ++ (line ∷ queue_of old.id after t.contents) = lines.printed ∙ ap (λ (behind : List Printed). old.lines.items ++ behind) first in
    let some : is_queued w.lines ≡ true =
    lt-ltb w.lines.drained (length w.lines.printed) (omega (arith, lines.drained_lines, ap length printed, length-append old.lines.items (line ∷ queue_of old.id after t.contents))) in
    let step : step_of w Drain ≡ acted (record w { lines = with_drained w.lines }) = drain_by w true some in
    let parts : HoldsParts (record old { lines = new.lines }) (shown old.id (around areas t after)) (record w { lines = with_drained w.lines }) =
    record {
      cards = held.parts.cards;
      jobs = held.parts.jobs;
      number = held.parts.number;
      library = held.parts.library;
      switches = held.parts.switches;
      date = held.parts.date;
      pack = subst (λ (contents : List (List ℕ)). HoldsFiles old.id (open_files old.job) (seen areas contents) w.pack) (sym same) held.parts.pack;
      job = still w (with_drained w.lines) old.deck old.job w.job held.parts.job;
      lines = record {
        printed =
            printed ∙ sym (append_assoc old.lines.items (line ∷ []) (queue_of old.id after t.contents)) ∙ ap (λ (front : List Printed). front ++ queue_of old.id after t.contents) (sym more);
        drained_lines = omega (arith, lines.drained_lines, ap length more, length-append old.lines.items (line ∷ []));
        quota = lines.quota ∙ sym (quotas old.id);
      };
      halts = held.parts.halts;
    } in
    let whole : HoldsParts new (shown new.id (around areas t after)) (record w { lines = with_drained w.lines }) =
    subst (λ (level : Level). HoldsParts level (shown level.id (around areas t after)) (record w { lines = with_drained w.lines })) (sym is) parts in
    let P : Outcome → Type 0 = λ o. (Acted ≡ o.did) × HoldsParts new (shown new.id (around areas t after)) o.world in
    let done = subst P (sym step) (refl, whole) in
    (done.0, record { parts = done.1; asked = step_asks Drain w held.asked })

-- none is queued
none_queued : (old : Level) (beside : Around) (w : World) → blocks_of old.id beside.blocks ≡ [] → Holds old beside w → is_queued w.lines ≡ false
none_queued old beside w none held =
    let lines = held.parts.lines in
    le-ltb w.lines.drained (length w.lines.printed)
    (omega (
      arith,
      lines.drained_lines,
      ap length lines.printed,
      length-append old.lines.items (queue_of old.id beside.blocks beside.state.contents),
      queue_length old.id beside.blocks beside.state.contents,
      ap length none,
    ))

pub none_drained : (old : Level) (areas : Areas) (blocks after : Blocks) (s t : PoolState) → blocks_of old.id blocks ≡ [] → after ≡ blocks → t.contents ≡ s.contents
    → Steps Drain (Refused 3) (Holds old (around areas s blocks)) (Holds old (around areas t after))
none_drained old areas blocks after s t none is_after same w held =
    let seen_alike : shown old.id (around areas s blocks) ≡ shown old.id (around areas t after) =
    sym (ap (λ (b : Blocks). shown old.id (around areas t b)) is_after
    ∙ ap (λ (contents : List (List ℕ)). record { seen = seen areas contents; queue = queue_of old.id blocks contents; quota = quota_of old.id blocks }) same) in
    let P : Outcome → Type 0 = λ o. (Refused 3 ≡ o.did) × Holds old (around areas t after) o.world in
    subst P (sym (drain_by w false (none_queued old (around areas s blocks) w none held)))
    (refl, record { parts = subst (λ (k : Shown). HoldsParts old k w) seen_alike held.parts; asked = held.asked })

-- where the meaning refuses it, none is queued
empty_of : (blocks : List ℕ) → length blocks ≡ 0 → blocks ≡ []
empty_of [] is = refl
empty_of (block ∷ blocks) is = absurd (omega (arith, is))

pub refused_drain : (old : Level) (beside : Around) (w : World) (number : ℕ) → Holds old beside w → (step_of w Drain).did ≡ Refused number → (blocks_of old.id beside.blocks ≡ []) × (number ≡ 3)
refused_drain old beside w number held is = by (is_queued w.lines) refl
  where
    by : (has : Bool) → is_queued w.lines ≡ has → (blocks_of old.id beside.blocks ≡ []) × (number ≡ 3)
    by true has = let clash : Acted ≡ Refused number = sym (ap (λ (o : Outcome). o.did) (drain_by w true has)) ∙ is in cc
    by false has =
        let lines = held.parts.lines in
        let same : Refused 3 ≡ Refused number = sym (ap (λ (o : Outcome). o.did) (drain_by w false has)) ∙ is in
        let past : length w.lines.printed ≤ w.lines.drained = ltb-false w.lines.drained (length w.lines.printed) has in (
          empty_of (blocks_of old.id beside.blocks)
              (omega (arith, past, lines.drained_lines, ap length lines.printed, length-append old.lines.items (queue_of old.id beside.blocks beside.state.contents), queue_length old.id beside.blocks beside.state.contents)),
          (let three : 3 ≡ number = cc in sym three),
        )

-- ---- all lines
abbrev pub drains : ℕ → World → World
drains n w = solo w (replicate n Drain)

pub one_more : (n : ℕ) (w : World) → drains (suc n) w ≡ (step_of (drains n w) Drain).world
one_more zero w = refl
one_more (suc n) w = one_more n (step_of w Drain).world

-- so many lines more
abbrev pub drained_by : ℕ → World → World
drained_by n w = record w { lines = record w.lines { drained = w.lines.drained + n } }

drains_are : (n : ℕ) (w : World) → w.lines.drained + n ≤ length w.lines.printed → drains n w ≡ drained_by n w
drains_are zero w few = ap (λ (d : ℕ). record w { lines = record w.lines { drained = d } }) (omega arith)
drains_are (suc n) w few =
    let some : is_queued w.lines ≡ true = lt-ltb w.lines.drained (length w.lines.printed) (omega (arith, few)) in
    ap (λ (o : Outcome). drains n o.world) (drain_by w true some)
    ∙ drains_are n (record w { lines = with_drained w.lines }) (omega (arith, few))
    ∙ ap (λ (d : ℕ). record w { lines = record w.lines { drained = d } }) (omega arith)

-- as many as are queued drain all
pub all_are_drained : (old : Level) (beside : Around) (w : World) (n : ℕ) → n ≡ length (blocks_of old.id beside.blocks) → Holds old beside w → drains n w ≡ record w { lines = all_drained w.lines }
all_are_drained old beside w n is held =
    let lines = held.parts.lines in
    let whole : w.lines.drained + n ≡ length w.lines.printed =
    omega (arith, is, lines.drained_lines, ap length lines.printed, length-append old.lines.items (queue_of old.id beside.blocks beside.state.contents), queue_length old.id beside.blocks beside.state.contents) in
    drains_are n w (omega (arith, whole)) ∙ ap (λ (d : ℕ). record w { lines = record w.lines { drained = d } }) whole

-- so many lines were drained, and nothing else has changed
pub record DrainedSo (n : ℕ) (old new : Level) (before after : Around) : Type 0 where
  pub worlds : Becomes (drains n) (Holds old before) (Holds new after)
  pub ready : IsReady new (seen after.areas after.state.contents)
  pub spares : Spares old.id before after
  pub areas : after.areas ≡ before.areas
  pub keeps : KeepsContents before.state after.state
  pub failures : after.state.failures ≡ before.state.failures
  pub id : new.id ≡ old.id

pub none_yet : (level : Level) (beside : Around) → IsReady level (seen beside.areas beside.state.contents) → AreAll beside.blocks → DrainedSo 0 level level beside beside
none_yet level beside ready are = record {
  worlds = λ w held. held;
  ready = ready;
  spares = spares_none level.id beside ready.files.pack are;
  areas = refl;
  keeps = keeps_refl beside.state;
  failures = refl;
  id = refl;
}

pub then_one : (n : ℕ) (did : Did) (old middle new : Level) (before between after : Around) → DrainedSo n old middle before between
    → Steps Drain did (Holds middle between) (Holds new after)
    → IsReady new (seen after.areas after.state.contents)
    → Spares middle.id between after
    → after.areas ≡ between.areas
    → KeepsContents between.state after.state
    → after.state.failures ≡ between.state.failures + 0
    → new.id ≡ middle.id
    → DrainedSo (n + 1) old new before after
then_one n did old middle new before between after so steps ready spares areas keeps failures id =
    let one_later : suc n ≡ n + 1 = omega arith in
    let none_more : between.state.failures + 0 ≡ between.state.failures = omega arith in
    subst (λ (k : ℕ). DrainedSo k old new before after) one_later
    (record {
      worlds = λ w held. subst (Holds new after) (sym (one_more n w)) (steps (drains n w) (so.worlds w held)).1;
      ready = ready;
      spares = spares_then old.id before between after so.spares (subst (λ (l : LevelId). Spares l between after) so.id spares);
      areas = areas ∙ so.areas;
      keeps = keeps_trans before.state between.state after.state so.keeps keeps;
      failures = failures ∙ none_more ∙ so.failures;
      id = id ∙ so.id;
    })

pub all_drained_by : (n : ℕ) (old new : Level) (before after : Around) → n ≡ length (blocks_of old.id before.blocks) → DrainedSo n old new before after
    → Becomes (λ w. record w { lines = all_drained w.lines }) (Holds old before) (Holds new after)
all_drained_by n old new before after is so = λ w held. subst (Holds new after) (all_are_drained old before w n is held) (so.worlds w held)
