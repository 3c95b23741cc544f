-- Lists of halts: one more is shown, or the last one gets its reply.
use Rattle.std.proofs.Common.{◌≡◌, ◌⊎◌, ℕ, ◌+◌, ◌-◌, ◌<◌, List, [], ◌∷◌, ◌++◌, length, set, get_or, slice_get, refl, sym, ◌∙◌, ap, arith, true, false, Option, Some, None, is_some}
use Rattle.std.proofs.Math.Seq.{get_or-append_seam, map-set_same}
use Rattle.std.proofs.lemmas.List.{get_or-set_same, length-append, length-set, map-append}
use Rattle.std.proofs.lemmas.Option.{none-some, slice_get-get_or, slice_get_within}
use Rattle.s3_operator.specs.declared.halt_code.HaltCode.{HaltCode}
use Rattle.s3_operator.specs.Halts.{ShownHalt, is_waiting, last_halt, unanswered, waiting, with_reply}
use Rattle.s3_desk.specs.Inner.Moments.{as_shown}

-- ---- lists of halts
last_of_more : (halts : List ShownHalt) (halt : ShownHalt) → last_halt (halts ++ halt ∷ []) ≡ Some halt
last_of_more halts halt =
    let size : length (halts ++ halt ∷ []) ≡ length halts + 1 = length-append halts (halt ∷ []) in
    let place : length (halts ++ halt ∷ []) - 1 ≡ length halts = omega (arith, size) in
    ap (slice_get (halts ++ halt ∷ [])) place
    ∙ (slice_get-get_or (halts ++ halt ∷ []) (length halts) halt (omega (arith, size)) ∙ ap (λ h. Some h) (get_or-append_seam halts halt [] halt))

-- a last halt without a reply waits
pub last_waits : (halts : List ShownHalt) (halt : ShownHalt) → last_halt halts ≡ Some halt → halt.reply ≡ None → waiting halts ≡ Some halt.code
last_waits halts halt last none = ap unanswered last ∙ by halt.reply none
  where
    by : (o : Option ℕ) → o ≡ None → unanswered (Some (record halt { reply = o })) ≡ Some halt.code
    by None is = refl
    by (Some digit) is = absurd (none-some digit (sym is))

pub is_last : (halts : List ShownHalt) (halt : ShownHalt) → last_halt halts ≡ Some halt → halt.reply ≡ None → is_waiting halts ≡ true
is_last halts halt last none = ap (λ (o : Option HaltCode). is_some o) (last_waits halts halt last none)

pub more_waits : (halts : List ShownHalt) (halt : ShownHalt) → halt.reply ≡ None → is_waiting (halts ++ halt ∷ []) ≡ true
more_waits halts halt none = is_last (halts ++ halt ∷ []) halt (last_of_more halts halt) none

pub last_more : (halts : List ShownHalt) (halt : ShownHalt) → last_halt (halts ++ halt ∷ []) ≡ Some halt
last_more = last_of_more

-- a halt as it was shown, which has no reply yet
bare : (halt : ShownHalt) → halt.reply ≡ None → record halt { reply = None } ≡ halt
bare halt none = ap (λ (o : Option ℕ). record halt { reply = o }) (sym none)

pub shown_more : (halts : List ShownHalt) (halt : ShownHalt) → halt.reply ≡ None → as_shown (halts ++ halt ∷ []) ≡ as_shown halts ++ halt ∷ []
shown_more halts halt none = map-append (λ (h : ShownHalt). record h { reply = None }) halts (halt ∷ []) ∙ ap (λ h. as_shown halts ++ h ∷ []) (bare halt none)

-- a reply makes no difference to how a halt was shown
pub shown_replied : (digit : ℕ) (halts : List ShownHalt) → as_shown (with_reply digit halts) ≡ as_shown halts
shown_replied digit halts = by (last_halt halts) refl
  where
    by : (o : Option ShownHalt) → last_halt halts ≡ o → as_shown (with_reply digit halts) ≡ as_shown halts
    by None none = let now : with_reply digit halts ≡ halts = rw none refl in ap as_shown now
    by (Some halt) some =
        let filled : ShownHalt = record halt { reply = Some digit } in
        let there : length halts - 1 < length halts = slice_get_within halts (length halts - 1) halt some in
        let now : with_reply digit halts ≡ set halts (length halts - 1) filled = rw some refl in
        let same : Some halt ≡ Some (get_or halts (length halts - 1) halt) = sym some ∙ slice_get-get_or halts (length halts - 1) halt there in
        let is : halt ≡ get_or halts (length halts - 1) halt = cc in
        ap as_shown now ∙ map-set_same (λ (h : ShownHalt). record h { reply = None }) halts (length halts - 1) filled halt (ap (λ (h : ShownHalt). record h { reply = None }) is)

-- a halt that has its reply waits no more
pub replied_rests : (digit : ℕ) (halts : List ShownHalt) (halt : ShownHalt) → last_halt halts ≡ Some halt → is_waiting (with_reply digit halts) ≡ false
replied_rests digit halts halt some =
    let filled : ShownHalt = record halt { reply = Some digit } in
    let there : length halts - 1 < length halts = slice_get_within halts (length halts - 1) halt some in
    let now : with_reply digit halts ≡ set halts (length halts - 1) filled = rw some refl in
    let size : length (set halts (length halts - 1) filled) ≡ length halts = length-set halts (length halts - 1) filled in
    let last : last_halt (set halts (length halts - 1) filled) ≡ Some filled =
    ap (λ n. slice_get (set halts (length halts - 1) filled) (n - 1)) size
    ∙ (slice_get-get_or (set halts (length halts - 1) filled) (length halts - 1) filled (omega (arith, there, size))
    ∙ ap (λ h. Some h) (get_or-set_same halts (length halts - 1) filled filled there)) in
    ap is_waiting now ∙ ap (λ (o : Option ShownHalt). is_some (unanswered o)) last

-- ---- one halt more, or none
abbrev pub Grows : (old new : List ShownHalt) → Type 0
Grows old new = (new ≡ old) ⊎ ((halt : ShownHalt) × ((new ≡ old ++ halt ∷ []) × (halt.reply ≡ None)))
