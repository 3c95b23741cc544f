-- Small days, computed by the definitions.
use Rattle.std.proofs.Common.{◌≡◌, ◌≢◌, ℕ, false, List, [], ◌∷◌, ◌++◌, map, Some, None, refl, ap}
use Rattle.s3_cards.specs.declared.levels.LevelId.{LevelId}
use Rattle.s3_cards.specs.declared.levels.LevelId.TheVariants.{One, Two}
use Rattle.s3_operator.specs.declared.halt_code.HaltCode.{HaltCode}
use Rattle.s3_operator.specs.declared.halt_code.HaltCode.TheVariants.{FileFull, ZeroDivisor}
use Rattle.s3_operator.specs.Halts.{ShownHalt}
use Rattle.s3_solo.specs.declared.action.Action.TheVariants.{Turn, Reply}
use Rattle.s3_bureau.specs.declared.entry.Entry.{Entry}
use Rattle.s3_desk.specs.Inner.Events.{Asked, Followed, Shown}
use Rattle.s3_desk.specs.Inner.Moments.{AskedInVain, Met, Moment, Turned, performed_in, shown_in}

abbrev turn : LevelId → Entry
turn level = record { level = level; action = Turn }

abbrev reply : LevelId → ℕ → Entry
reply level digit = record { level = level; action = Reply digit }

abbrev halt : HaltCode → ShownHalt
halt code = record { job = 1; code = code; details = []; reply = None }

-- a level halts, is answered and goes on
abbrev good : List Moment
good = Turned One ∷ Met (Followed One [] [] false (turn One ∷ [])) ∷ Met (Shown One (halt ZeroDivisor)) ∷ Met (Asked One (halt ZeroDivisor) (Some 2)) ∷ Turned One ∷ []

pub good_entries : performed_in good ≡ turn One ∷ reply One 2 ∷ turn One ∷ []
good_entries = refl

pub good_halts : shown_in One good ≡ halt ZeroDivisor ∷ []
good_halts = refl

pub good_halts_of_two : shown_in Two good ≡ []
good_halts_of_two = refl

-- one reply may follow another one at once: the first leads to the next halt
pub two_in_a_row : performed_in (Met (Asked One (halt ZeroDivisor) (Some 0)) ∷ Met (Shown One (halt ZeroDivisor)) ∷ Met (Asked One (halt ZeroDivisor) (Some 2)) ∷ []) ≡ reply One 0 ∷ reply One 2 ∷ []
two_in_a_row = refl

-- what the halt doesn't allow, and no reply, is no entry
pub not_allowed : performed_in (Met (Asked One (halt FileFull) (Some 0)) ∷ Met (Asked Two (halt ZeroDivisor) (Some 7)) ∷ Met (Asked Two (halt ZeroDivisor) None) ∷ []) ≡ []
not_allowed = refl

-- ---- what is refused
-- the replies to two halts are swapped
pub swapped : performed_in (Met (Asked One (halt ZeroDivisor) (Some 2)) ∷ Met (Asked Two (halt ZeroDivisor) (Some 3)) ∷ []) ≢ reply Two 2 ∷ reply One 3 ∷ []
swapped is = let wrong : One ∷ Two ∷ [] ≡ Two ∷ One ∷ [] = ap (map (λ (entry : Entry). entry.level)) is in absurd cc

-- a reply that the halt allows is dropped
pub dropped : performed_in (Met (Asked One (halt ZeroDivisor) (Some 2)) ∷ []) ≢ []
dropped is = let wrong : reply One 2 ∷ [] ≡ [] = is in absurd cc

-- a reply is performed that no question has
pub not_given : performed_in (Met (Asked One (halt ZeroDivisor) None) ∷ []) ≢ reply One 2 ∷ []
not_given is = let wrong : [] ≡ reply One 2 ∷ [] = is in absurd cc

-- a level ends halted whose operator was never asked
pub never_asked : AskedInVain One (Turned One ∷ Met (Shown One (halt ZeroDivisor)) ∷ []) → ⊥
never_asked asked = by asked.before asked.whole
  where
    by : (before : List Moment) → Turned One ∷ Met (Shown One (halt ZeroDivisor)) ∷ [] ≡ before ++ Met (Asked One asked.halt asked.reply) ∷ asked.later → ⊥
    by [] is = cc
    by (one ∷ []) is = cc
    by (one ∷ two ∷ []) is = cc
    by (one ∷ two ∷ three ∷ before) is = cc
