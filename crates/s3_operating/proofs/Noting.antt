-- What a call notes in the log.
use Rattle.std.proofs.Common.{◌≡◌, ℕ, List, true}
use Rattle.std.specs.Prelude.{Option, Some, None, is_some, MatchOption, ⊤}
use Rattle.std.specs.Io.KnownBytes.{Appends}
use Rattle.s3_day_log.specs.Inner.Events.{Said}
use Rattle.s3_day_log.specs.Inner.Times.{IsLineAt, IsNoted}
use Rattle.s3_operating.specs.Inner.Times.{IsNotedAt}

pub after_failure : {E : Type 0} (before now : Option (List ℕ)) (failure : Option E) (said : Said) → is_some failure ≡ true → IsNoted before now (is_some failure) said
after_failure before now None said failed = cc
after_failure before now (Some e) said failed = tt

nothing : {E : Type 0} (now : Option (List ℕ)) (failure : Option E) (said : Said) → IsNoted None now (is_some failure) said
nothing now None said = tt
nothing now (Some e) said = tt

pub no_log : {E : Type 0} (before now : Option (List ℕ)) (failure : Option E) (said : Said) → before ≡ None → IsNoted before now (is_some failure) said
no_log None now failure said gone = nothing now failure said
no_log (Some bytes) now failure said gone = cc

pub noted : {E : Type 0} (before now : Option (List ℕ)) (failure : Option E) (second : ℕ) (said : Said) (line : List ℕ)
    → IsLineAt (record { second = second; said = said }) line → MatchOption failure (Appends before now line) (λ _. ⊤) → IsNoted before now (is_some failure) said
noted before now (Some e) second said line is more = tt
noted None now None second said line is more = tt
noted (Some bytes) now None second said line is more = (second, line, is, more)

-- ---- at a second that the clock gave
pub noted_after_failure : {E : Type 0} (IsGiven : ℕ → Type 0) (before now : Option (List ℕ)) (failure : Option E) (said : Said) → is_some failure ≡ true → IsNotedAt IsGiven before now (is_some failure) said
noted_after_failure IsGiven before now None said failed = cc
noted_after_failure IsGiven before now (Some e) said failed = tt

nothing_at : {E : Type 0} (IsGiven : ℕ → Type 0) (now : Option (List ℕ)) (failure : Option E) (said : Said) → IsNotedAt IsGiven None now (is_some failure) said
nothing_at IsGiven now None said = tt
nothing_at IsGiven now (Some e) said = tt

pub no_log_at : {E : Type 0} (IsGiven : ℕ → Type 0) (before now : Option (List ℕ)) (failure : Option E) (said : Said) → before ≡ None → IsNotedAt IsGiven before now (is_some failure) said
no_log_at IsGiven None now failure said gone = nothing_at IsGiven now failure said
no_log_at IsGiven (Some bytes) now failure said gone = cc

pub noted_at : {E : Type 0} (IsGiven : ℕ → Type 0) (before now : Option (List ℕ)) (failure : Option E) (second : ℕ) (said : Said) (line : List ℕ)
    → IsGiven second → IsLineAt (record { second = second; said = said }) line → MatchOption failure (Appends before now line) (λ _. ⊤) → IsNotedAt IsGiven before now (is_some failure) said
noted_at IsGiven before now (Some e) second said line given is more = tt
noted_at IsGiven None now None second said line given is more = tt
noted_at IsGiven (Some bytes) now None second said line given is more = (second, line, given, is, more)
