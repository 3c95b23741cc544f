-- The history of a pack begins at the last line that has the pack.
use Rattle.std.proofs.Common.{◌≡◌, ◌≤◌, ◌<◌, ℕ, suc, List, [], ◌∷◌, Bool, true, false, ◌&&◌, ◌||◌, cond, length, Some, refl, ap, sym, ◌∙◌, arith}
use Rattle.std.specs.Prelude.{find, not, option_map}
use Rattle.std.specs.Str.{bytes_eq as same}
use Rattle.std.proofs.lemmas.Bool.{true≢false}
use Rattle.std.proofs.lemmas.List.{length-map}
use Rattle.s3_journal.specs.declared.day.PostedDay.{PostedDay}
use Rattle.s3_journal.specs.Inner.Posted.{Posted, Line, from_pack, has_pack, history, is_known, line_of, lines_of, made, posted_in, same_posted}
use Rattle.s3_journal.proofs.Once.{history_changed, history_more}

-- the history, given the lines from the last one that has the pack
abbrev pub history_at : (pack : List ℕ) → (from lines : List Line) → List Line
history_at pack [] lines = lines
history_at pack (line ∷ older) lines = cond (made pack line) (line ∷ history line.before older) (history pack older)

-- if no line has the pack
none_has : (pack : List ℕ) (lines : List Line) → is_known pack lines ≡ false → from_pack pack lines ≡ []
none_has pack [] e = refl
none_has pack (line ∷ older) e = by (has_pack pack line) e (none_has pack older)
  where
    by : (has : Bool) → has || is_known pack older ≡ false → (is_known pack older ≡ false → from_pack pack older ≡ []) → cond has (line ∷ older) (from_pack pack older) ≡ []
    by true e more = absurd (true≢false e)
    by false e more = more e

-- .. and if one has
some_has : (pack : List ℕ) (rest lines others : List Line) → is_known pack rest ≡ true → history_at pack (from_pack pack rest) lines ≡ history_at pack (from_pack pack rest) others
some_has pack [] lines others e = absurd (true≢false (sym e))
some_has pack (line ∷ older) lines others e = by (has_pack pack line) e (some_has pack older lines others)
  where
    by : (has : Bool) → has || is_known pack older ≡ true → (is_known pack older ≡ true → history_at pack (from_pack pack older) lines ≡ history_at pack (from_pack pack older) others)
        → history_at pack (cond has (line ∷ older) (from_pack pack older)) lines ≡ history_at pack (cond has (line ∷ older) (from_pack pack older)) others
    by true e more = refl
    by false e more = more e

-- a line without the pack didn't make it
isnt_made : (pack : List ℕ) (line : Line) → has_pack pack line ≡ false → made pack line ≡ false
isnt_made pack line e = by (not line.restores) (same line.after pack) (same line.before pack) e
  where
    by : (a b c : Bool) → b || c ≡ false → a && b ≡ false
    by a true c e = absurd (true≢false e)
    by true false c e = refl
    by false false c e = refl

chosen_else : {X : Type 0} (chosen : Bool) (x y : X) → chosen ≡ false → cond chosen x y ≡ y
chosen_else true x y e = absurd (true≢false e)
chosen_else false x y e = refl

either_known : (has known : Bool) → has ≡ true → has || known ≡ true
either_known true known e = refl
either_known false known e = absurd (true≢false (sym e))

neither_known : (has known : Bool) → has ≡ false → has || known ≡ known
neither_known true known e = absurd (true≢false e)
neither_known false known e = refl

pub history_from : (pack : List ℕ) (lines : List Line) → history pack lines ≡ history_at pack (from_pack pack lines) lines
history_from pack [] = refl
history_from pack (line ∷ older) = by (has_pack pack line) refl (is_known pack older) refl (history_from pack older)
  where
    by : (has : Bool) → has_pack pack line ≡ has → (known : Bool) → is_known pack older ≡ known → history pack older ≡ history_at pack (from_pack pack older) older
        → history pack (line ∷ older) ≡ history_at pack (cond has (line ∷ older) (from_pack pack older)) (line ∷ older)
    by true e known k more = history_more pack line older (either_known (has_pack pack line) (is_known pack older) e)
    by false e true k more =
        history_more pack line older (neither_known (has_pack pack line) (is_known pack older) e ∙ k)
        ∙ (chosen_else (made pack line) _ _ (isnt_made pack line e) ∙ (more ∙ some_has pack older older (line ∷ older) k))
    by false e false k more =
        history_changed pack (line ∷ older) (neither_known (has_pack pack line) (is_known pack older) e ∙ k)
        ∙ sym (ap (λ from. history_at pack from (line ∷ older)) (none_has pack older k))

pub fewer : (pack : List ℕ) (lines : List Line) → length (from_pack pack lines) ≤ length lines
fewer pack [] = omega arith
fewer pack (line ∷ older) = by (has_pack pack line) (fewer pack older)
  where
    by : (has : Bool) → length (from_pack pack older) ≤ length older → length (cond has (line ∷ older) (from_pack pack older)) ≤ suc (length older)
    by true less = omega arith
    by false less = omega (arith, less)

-- the last line that posted the same, by its day
pub found_day : (posted : Posted) (days : List PostedDay) → option_map line_of (find (λ day. same_posted (line_of day).posted posted) days) ≡ find (λ line. same_posted line.posted posted) (lines_of days)
found_day posted [] = refl
found_day posted (day ∷ days) = by (same_posted (line_of day).posted posted) (found_day posted days)
  where
    by : (fits : Bool) → option_map line_of (find (λ d. same_posted (line_of d).posted posted) days) ≡ find (λ line. same_posted line.posted posted) (lines_of days)
        → option_map line_of (cond fits (Some day) (find (λ d. same_posted (line_of d).posted posted) days)) ≡ cond fits (Some (line_of day)) (find (λ line. same_posted line.posted posted) (lines_of days))
    by true more = refl
    by false more = more

-- ---- the steps of the search, from the days that were found from the pack
-- the history, by the days from the last one that has the pack
by_days : (pack : List ℕ) (rest : List Line) (from : List PostedDay) (day : PostedDay) (older : List PostedDay) → lines_of from ≡ from_pack pack rest → from ≡ day ∷ older
    → history pack rest ≡ history_at pack (line_of day ∷ lines_of older) rest
by_days pack rest from day older are is = history_from pack rest ∙ ap (λ lines. history_at pack lines rest) (sym are ∙ ap lines_of is)

chosen_then : {X : Type 0} (chosen : Bool) (x y : X) → chosen ≡ true → cond chosen x y ≡ x
chosen_then true x y e = refl
chosen_then false x y e = absurd (true≢false (sym e))

pub found_here : (posted : Posted) (pack : List ℕ) (rest : List Line) (from : List PostedDay) (day : PostedDay) (older : List PostedDay) → lines_of from ≡ from_pack pack rest → from ≡ day ∷ older
    → made pack (line_of day) ≡ true → same_posted (line_of day).posted posted ≡ true → Some (line_of day) ≡ posted_in posted pack rest
found_here posted pack rest from day older are is makes same =
    sym (ap (find (λ line. same_posted line.posted posted)) (by_days pack rest from day older are is ∙ chosen_then (made pack (line_of day)) _ _ makes)
    ∙ chosen_then (same_posted (line_of day).posted posted) _ _ same)

pub found_before : (posted : Posted) (pack : List ℕ) (rest : List Line) (from : List PostedDay) (day : PostedDay) (older : List PostedDay) → lines_of from ≡ from_pack pack rest → from ≡ day ∷ older
    → made pack (line_of day) ≡ true → same_posted (line_of day).posted posted ≡ false → posted_in posted (line_of day).before (lines_of older) ≡ posted_in posted pack rest
found_before posted pack rest from day older are is makes other =
    sym (ap (find (λ line. same_posted line.posted posted)) (by_days pack rest from day older are is ∙ chosen_then (made pack (line_of day)) _ _ makes)
    ∙ chosen_else (same_posted (line_of day).posted posted) _ _ other)

pub found_older : (posted : Posted) (pack : List ℕ) (rest : List Line) (from : List PostedDay) (day : PostedDay) (older : List PostedDay) → lines_of from ≡ from_pack pack rest → from ≡ day ∷ older
    → made pack (line_of day) ≡ false → posted_in posted pack (lines_of older) ≡ posted_in posted pack rest
found_older posted pack rest from day older are is isnt =
    sym (ap (find (λ line. same_posted line.posted posted)) (by_days pack rest from day older are is ∙ chosen_else (made pack (line_of day)) _ _ isnt))

-- no day is found: each of the lines counts
pub found_none : (posted : Posted) (pack : List ℕ) (rest : List Line) (from : List PostedDay) → lines_of from ≡ from_pack pack rest → length from ≡ 0
    → find (λ line. same_posted line.posted posted) rest ≡ posted_in posted pack rest
found_none posted pack rest [] are none = sym (ap (find (λ line. same_posted line.posted posted)) (history_from pack rest ∙ ap (λ lines. history_at pack lines rest) (sym are)))
found_none posted pack rest (day ∷ from) are none = absurd (omega (arith, none))

-- there are fewer days left
pub fewer_left : (pack : List ℕ) (rest from : List PostedDay) (day : PostedDay) (older : List PostedDay) → lines_of from ≡ from_pack pack (lines_of rest) → from ≡ day ∷ older → length older < length rest
fewer_left pack rest from day older are is =
    let less = fewer pack (lines_of rest) in
    let long : length (lines_of from) ≡ length (from_pack pack (lines_of rest)) = ap length are in
    let same : length from ≡ suc (length older) = ap length is in
    omega (arith, less, long, same, length-map rest line_of, length-map from line_of)
