-- A level that is over.
use Rattle.std.proofs.Common.{◌≡◌, ◌-◌, ◌<◌, ◌≤◌, ℕ, Bool, true, false, true≢false, List, [], ◌∷◌, length, map, nat_lt, refl, sym, ap, ◌∙◌, arith}
use Rattle.std.proofs.lemmas.Bool.Decides.{nat_tests}
use Rattle.std.proofs.lemmas.List.{length-map}
use Rattle.s3_operator.specs.Halts.{ShownHalt}
use Rattle.s3_solo.specs.World.{World}
use Rattle.s3_level.specs.Inner.Queries.{has_work}
use Rattle.s3_bureau.specs.Inner.Queries.{queued}
use Rattle.s3_desk.specs.Inner.Desk.{IsOver}

none_queued : (size drained : ℕ) → size - drained ≤ 0 → nat_lt drained size ≡ false
none_queued size drained none = grind (arith, nat_tests)

none_left : (size drained : ℕ) → nat_lt drained size ≡ false → size - drained ≤ 0
none_left size drained none = grind (arith, nat_tests)

none_shown : {A : Type 0} (shows : A → ShownHalt) (halts : List A) → length halts ≡ 0 → map shows halts ≡ []
none_shown shows [] none = refl
none_shown shows (halt ∷ halts) none = absurd (omega (arith, none))

-- no work is left, no line is queued, and no halt was shown
pub is_over_so : {A : Type 0} (shows : A → ShownHalt) (w : World) (count : ℕ) (halts : List A) → has_work w ≡ false → queued w.lines ≡ count → count ≤ 0 → map shows halts ≡ w.halts → length halts ≡ 0 → IsOver w
is_over_so shows w count halts no_work counts none shown empty = record {
  no_work = no_work;
  empty = none_queued (length w.lines.printed) w.lines.drained (omega (arith, counts, none));
  no_halts = sym shown ∙ none_shown shows halts empty;
}

-- ---- and otherwise it isn't over
pub works_on : (w : World) (works : Bool) → works ≡ has_work w → works ≡ true → IsOver w → false ≡ true
works_on w works is works_now over = absurd (true≢false (sym works_now ∙ (is ∙ over.no_work)))

pub prints_on : (w : World) (count : ℕ) → count ≡ queued w.lines → 0 < count → IsOver w → false ≡ true
prints_on w count counts some over = let none : queued w.lines ≤ 0 = none_left (length w.lines.printed) w.lines.drained over.empty in absurd (omega (arith, counts, some, none))

pub shows_none : {A : Type 0} (shows : A → ShownHalt) (w : World) (halts : List A) → map shows halts ≡ w.halts → IsOver w → length halts ≡ 0
shows_none shows w halts shown over = sym (length-map halts shows) ∙ ap length (shown ∙ over.no_halts)
