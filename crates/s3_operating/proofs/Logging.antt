-- What calls add to the log.
use Rattle.std.proofs.Common.{◌≡◌, ℕ, List, [], ◌∷◌, ◌++◌, Bool, true, false, Option, Some, None, is_some, Result, Ok, Err, OnOk, refl, sym, ap, subst, ◌∙◌, append_assoc, append-nil}
use Rattle.std.specs.Prelude.{MatchOption, ⊤}
use Rattle.std.specs.Option.{option_and_then}
use Rattle.std.specs.Io.KnownBytes.{Appends}
use Rattle.std.proofs.KnownBytes.{Appends-nil, Appends-trans}
use Rattle.s3_cards.specs.declared.levels.LevelId.{LevelId}
use Rattle.s3_operator.specs.declared.halt_code.HaltCode.{HaltCode}
use Rattle.s3_day_log.specs.declared.event.Replier.{Replier}
use Rattle.s3_day_log.specs.Inner.Events.{Said, replies}
use Rattle.s3_day_log.specs.Inner.Times.{AreLines, IsLineAt, Noted}
use Rattle.s3_operating.specs.Inner.Logging.{AreLogged, KeepsLog, Logs, LogsLast, LogsReply}

lines_joined : (noted more : List Noted) (text other : List ℕ) → AreLines noted text → AreLines more other → AreLines (noted ++ more) (text ++ other)
lines_joined [] more text other empty lines = subst (λ (text : List ℕ). AreLines more (text ++ other)) (sym empty) lines
lines_joined (first ∷ noted) more text other lines next =
    (lines.0, lines.1 ++ other, lines.2, lines_joined noted more lines.1 other lines.3 next, ap (λ (text : List ℕ). text ++ other) lines.4 ∙ append_assoc lines.0 lines.1 other)

logged_none : {F : Type 0} (contents : F → Option (List ℕ)) (file : Option F) (has_failed : Bool) → AreLogged contents [] file has_failed file has_failed
logged_none contents None has_failed = tt
logged_none contents (Some file) true = tt
logged_none contents (Some file) false = (refl, (refl, ([], (refl, Appends-nil (contents file)))))

logged_on : {F : Type 0} (contents : F → Option (List ℕ)) (noted more : List Noted) (one : Option F) (failed : Bool) (two : Option F) (fails : Bool) (three : Option F) (has_failed : Bool)
    → AreLogged contents noted one failed two fails → AreLogged contents more two fails three has_failed → AreLogged contents (noted ++ more) one failed three has_failed
logged_on contents noted more one failed two fails None has_failed logged next = tt
logged_on contents noted more one failed two fails (Some file) true logged next = tt
logged_on contents noted more one failed None fails (Some file) false logged next = cc (next.1.0)
logged_on contents noted more one failed (Some middle) true (Some file) false logged next = cc (next.0)
logged_on contents noted more one failed (Some middle) false (Some file) false logged next = (
  logged.0,
  (
    logged.1.0,
    (
      logged.1.1.0 ++ next.1.1.0,
      (
        lines_joined noted more logged.1.1.0 next.1.1.0 logged.1.1.1.0 next.1.1.1.0,
        Appends-trans (option_and_then contents one) (contents middle) (contents file) logged.1.1.0 next.1.1.0 logged.1.1.1.1 next.1.1.1.1,
      ),
    ),
  ),
)

pub logs_none : {F : Type 0} (contents : F → Option (List ℕ)) (old new : Option F) (failed fails : Bool) → new ≡ old → fails ≡ failed → Logs contents old failed new fails
logs_none {F = F} contents old new failed fails same alike =
    subst (λ (new : Option F). Logs contents old failed new fails) (sym same)
    (subst (λ (fails : Bool). Logs contents old failed old fails) (sym alike) (record { noted = []; are_logged = logged_none contents old failed }))

pub logs_on : {F : Type 0} (contents : F → Option (List ℕ)) (one : Option F) (failed : Bool) (two : Option F) (fails : Bool) (three : Option F) (has_failed : Bool)
    → Logs contents one failed two fails → Logs contents two fails three has_failed → Logs contents one failed three has_failed
logs_on contents one failed two fails three has_failed logs more = record {
  noted = logs.noted ++ more.noted;
  are_logged = logged_on contents logs.noted more.noted one failed two fails three has_failed logs.are_logged more.are_logged;
}

pub logs_given_up : {F : Type 0} (contents : F → Option (List ℕ)) (old new : Option F) (failed fails : Bool) → new ≡ None → Logs contents old failed new fails
logs_given_up {F = F} contents old new failed fails gone = subst (λ (new : Option F). Logs contents old failed new fails) (sym gone) (record { noted = []; are_logged = tt })

pub keeps_log : {F : Type 0} (contents : F → Option (List ℕ)) (old new : Option F) (failed fails : Bool) → new ≡ old → fails ≡ failed → KeepsLog contents old failed new fails
keeps_log {F = F} contents old new failed fails same alike =
    subst (λ (new : Option F). KeepsLog contents old failed new fails) (sym same)
    (subst (λ (fails : Bool). KeepsLog contents old failed old fails) (sym alike) (record { are_logged = logged_none contents old failed }))

pub gives_up_log : {F : Type 0} (contents : F → Option (List ℕ)) (old new : Option F) (failed fails : Bool) → new ≡ None → KeepsLog contents old failed new fails
gives_up_log {F = F} contents old new failed fails gone = subst (λ (new : Option F). KeepsLog contents old failed new fails) (sym gone) (record { are_logged = tt })

pub logs_kept : {F : Type 0} (contents : F → Option (List ℕ)) (old : Option F) (failed : Bool) (new : Option F) (fails : Bool) → KeepsLog contents old failed new fails → Logs contents old failed new fails
logs_kept contents old failed new fails kept = record { noted = []; are_logged = kept.are_logged }

-- ---- an event that is noted
pub last_without : {F : Type 0} (contents : F → Option (List ℕ)) (said : Said) (old new : Option F) (failed fails : Bool) → new ≡ None → LogsLast contents said old failed new fails
last_without {F = F} contents said old new failed fails gone = subst (λ (new : Option F). LogsLast contents said old failed new fails) (sym gone) (record { earlier = []; second = 0; are_logged = tt })

pub last_no_file : {F : Type 0} (contents : F → Option (List ℕ)) (said : Said) (file : Option F) (failed : Bool) → is_some file ≡ false → LogsLast contents said file failed file failed
last_no_file contents said None failed gone = record { earlier = []; second = 0; are_logged = tt }
last_no_file contents said (Some file) failed gone = cc

failed_last : {F : Type 0} (contents : F → Option (List ℕ)) (noted : List Noted) (old : Option F) (failed : Bool) (new : Option F) → AreLogged contents noted old failed new true
failed_last contents noted old failed None = tt
failed_last contents noted old failed (Some file) = tt

pub last_failed : {F E : Type 0} (contents : F → Option (List ℕ)) (said : Said) (old new : Option F) (failed : Bool) (failure : Option E) → is_some failure ≡ true → LogsLast contents said old failed new (is_some failure)
last_failed contents said old new failed None is = cc
last_failed contents said old new failed (Some e) is = record { earlier = []; second = 0; are_logged = failed_last contents ((record { second = 0; said = said }) ∷ []) old failed new }

one_line : (noted : Noted) (line : List ℕ) → IsLineAt noted line → AreLines (noted ∷ []) (line ++ [])
one_line noted line is = (line, [], is, refl, refl)

written : {F E : Type 0} (contents : F → Option (List ℕ)) (noted : Noted) (line : List ℕ) (old new : Option F) (failed : Bool) (failure : Option E) → IsLineAt noted line
    → MatchOption failure (Appends (option_and_then contents old) (option_and_then contents new) line) (λ _. ⊤) → is_some new ≡ is_some old → failed ≡ false → AreLogged contents (noted ∷ []) old failed new (is_some failure)
written contents noted line old None failed failure is more kept works = tt
written contents noted line old (Some file) failed (Some e) is more kept works = tt
written contents noted line old (Some file) failed None is more kept works =
    (works, (sym kept, (line ++ [], (one_line noted line is, subst (λ (text : List ℕ). Appends (option_and_then contents old) (contents file) text) (sym (append-nil line)) more))))

pub last_written : {F E : Type 0} (contents : F → Option (List ℕ)) (second : ℕ) (said : Said) (line bytes : List ℕ) (old new : Option F) (failed : Bool) (failure : Option E) → IsLineAt (record { second = second; said = said }) line → bytes ≡ line
    → MatchOption failure (Appends (option_and_then contents old) (option_and_then contents new) bytes) (λ _. ⊤) → is_some new ≡ is_some old → failed ≡ false → LogsLast contents said old failed new (is_some failure)
last_written contents second said line bytes old new failed failure is same more kept works = record {
  earlier = [];
  second = second;
  are_logged = written contents (record { second = second; said = said }) line old new failed failure is (subst (λ (bytes : List ℕ). MatchOption failure (Appends (option_and_then contents old) (option_and_then contents new) bytes) (λ _. ⊤)) same more) kept works;
}

pub logs_last : {F : Type 0} (contents : F → Option (List ℕ)) (said : Said) (old : Option F) (failed : Bool) (new : Option F) (fails : Bool) → LogsLast contents said old failed new fails → Logs contents old failed new fails
logs_last contents said old failed new fails last = record { noted = last.earlier ++ (record { second = last.second; said = said }) ∷ []; are_logged = last.are_logged }

-- ---- the reply to a halt
pub logs_reply : {F : Type 0} (contents : F → Option (List ℕ)) (level : LevelId) (code : HaltCode) (digit : ℕ) (by : Replier) (old : Option F) (failed : Bool) (new : Option F) (fails : Bool)
    → LogsLast contents (replies (record { level = level; code = code; digit = digit; by = by })) old failed new fails → LogsReply contents level code digit old failed new fails
logs_reply contents level code digit by old failed new fails last = record { by = by; last = last }

last_later : {F : Type 0} (contents : F → Option (List ℕ)) (said : Said) (one : Option F) (failed : Bool) (two : Option F) (fails : Bool) (three : Option F) (has_failed : Bool)
    → Logs contents one failed two fails → LogsLast contents said two fails three has_failed → LogsLast contents said one failed three has_failed
last_later contents said one failed two fails three has_failed logs last = record {
  earlier = logs.noted ++ last.earlier;
  second = last.second;
  are_logged = subst (λ (noted : List Noted). AreLogged contents noted one failed three has_failed) (sym (append_assoc logs.noted last.earlier ((record { second = last.second; said = said }) ∷ [])))
      (logged_on contents logs.noted (last.earlier ++ (record { second = last.second; said = said }) ∷ []) one failed two fails three has_failed logs.are_logged last.are_logged);
}

last_kept : {F : Type 0} (contents : F → Option (List ℕ)) (said : Said) (one : Option F) (failed : Bool) (two : Option F) (fails : Bool) (three : Option F) (has_failed : Bool)
    → LogsLast contents said one failed two fails → KeepsLog contents two fails three has_failed → LogsLast contents said one failed three has_failed
last_kept contents said one failed two fails three has_failed last kept = record {
  earlier = last.earlier;
  second = last.second;
  are_logged = subst (λ (noted : List Noted). AreLogged contents noted one failed three has_failed) (append-nil (last.earlier ++ (record { second = last.second; said = said }) ∷ []))
      (logged_on contents (last.earlier ++ (record { second = last.second; said = said }) ∷ []) [] one failed two fails three has_failed last.are_logged kept.are_logged);
}

pub reply_later : {F : Type 0} (contents : F → Option (List ℕ)) (level : LevelId) (code : HaltCode) (digit : ℕ) (one : Option F) (failed : Bool) (two : Option F) (fails : Bool) (three : Option F) (has_failed : Bool)
    → Logs contents one failed two fails → LogsReply contents level code digit two fails three has_failed → LogsReply contents level code digit one failed three has_failed
reply_later contents level code digit one failed two fails three has_failed logs reply = record {
  by = reply.by;
  last = last_later contents (replies (record { level = level; code = code; digit = digit; by = reply.by })) one failed two fails three has_failed logs reply.last;
}

pub reply_kept : {F : Type 0} (contents : F → Option (List ℕ)) (level : LevelId) (code : HaltCode) (digit : ℕ) (one : Option F) (failed : Bool) (two : Option F) (fails : Bool) (three : Option F) (has_failed : Bool)
    → LogsReply contents level code digit one failed two fails → KeepsLog contents two fails three has_failed → LogsReply contents level code digit one failed three has_failed
reply_kept contents level code digit one failed two fails three has_failed reply kept = record {
  by = reply.by;
  last = last_kept contents (replies (record { level = level; code = code; digit = digit; by = reply.by })) one failed two fails three has_failed reply.last kept;
}
