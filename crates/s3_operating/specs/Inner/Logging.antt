-- What the log of a day gets.
use Rattle.std.specs.Prelude.{◌≡◌, ℕ, Bool, true, false, List, [], ◌∷◌, ◌++◌, Option, Some, None, is_some, ⊤}
use Rattle.std.specs.Option.{option_and_then}
use Rattle.std.specs.Io.KnownBytes.{Appends}
use Rattle.s3_cards.specs.declared.levels.LevelId.{LevelId}
use Rattle.s3_operator.specs.declared.halt_code.HaltCode.{HaltCode}
use Rattle.s3_day_log.specs.declared.event.Replier.{Replier}
use Rattle.s3_day_log.specs.Inner.Events.{Said, replies}
use Rattle.s3_day_log.specs.Inner.Times.{AreLines, Noted}
use Rattle.s3_desk.specs.Inner.Events.{Event, Followed, Shown, Asked}

-- Unless a write has failed or the log was given up, the known bytes of its file have grown by the lines of these events, each at some
-- second. A log whose write has failed isn't continued.
abbrev pub AreLogged : {F : Type 0} → (contents : F → Option (List ℕ)) → List Noted → (old : Option F) → (had_failed : Bool) → (new : Option F) → (has_failed : Bool) → Type 0
AreLogged contents noted old had_failed None has_failed = ⊤
AreLogged contents noted old had_failed (Some file) true = ⊤
AreLogged contents noted old had_failed (Some file) false =
    (had_failed ≡ false) × ((is_some old ≡ true) × ((text : List ℕ) × (AreLines noted text × Appends (option_and_then contents old) (contents file) text)))

-- a log gets the lines of events, and nothing else
pub record Logs {F : Type 0} (contents : F → Option (List ℕ)) (old : Option F) (had_failed : Bool) (new : Option F) (has_failed : Bool) : Type 0 where
  pub noted : List Noted
  pub are_logged : AreLogged contents noted old had_failed new has_failed

-- a log gets nothing
pub record KeepsLog {F : Type 0} (contents : F → Option (List ℕ)) (old : Option F) (had_failed : Bool) (new : Option F) (has_failed : Bool) : Type 0 where
  pub are_logged : AreLogged contents [] old had_failed new has_failed

-- a log gets the lines of events, and this one last
pub record LogsLast {F : Type 0} (contents : F → Option (List ℕ)) (said : Said) (old : Option F) (had_failed : Bool) (new : Option F) (has_failed : Bool) : Type 0 where
  pub earlier : List Noted
  pub second : ℕ
  pub are_logged : AreLogged contents (earlier ++ (record { second = second; said = said }) ∷ []) old had_failed new has_failed

-- a log gets the lines of events, and last that of a reply to a level's halt
pub record LogsReply {F : Type 0} (contents : F → Option (List ℕ)) (level : LevelId) (code : HaltCode) (digit : ℕ) (old : Option F) (had_failed : Bool) (new : Option F) (has_failed : Bool) : Type 0 where
  pub by : Replier
  pub last : LogsLast contents (replies (record { level = level; code = code; digit = digit; by = by })) old had_failed new has_failed

-- what it gets by the answer to a halt
abbrev pub LogsAnswer : {F : Type 0} → (contents : F → Option (List ℕ)) → LevelId → HaltCode → (reply : Option ℕ) → (old : Option F) → (had_failed : Bool) → (new : Option F) → (has_failed : Bool) → Type 0
LogsAnswer contents level code None old had_failed new has_failed = Logs contents old had_failed new has_failed
LogsAnswer contents level code (Some digit) old had_failed new has_failed = LogsReply contents level code digit old had_failed new has_failed

-- what it gets while the operator meets an event
abbrev pub LogsEvent : {F : Type 0} → (contents : F → Option (List ℕ)) → Event → (old : Option F) → (had_failed : Bool) → (new : Option F) → (has_failed : Bool) → Type 0
LogsEvent contents (Followed level one two is_one_over entries) old had_failed new has_failed = Logs contents old had_failed new has_failed
LogsEvent contents (Shown level halt) old had_failed new has_failed = Logs contents old had_failed new has_failed
LogsEvent contents (Asked level halt reply) old had_failed new has_failed = LogsAnswer contents level halt.code reply old had_failed new has_failed
