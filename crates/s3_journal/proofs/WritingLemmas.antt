-- Tokens that are written one after the other.
use Rattle.std.proofs.Common.{◌≡◌, ℕ, List, [], ◌∷◌, ◌++◌, append_assoc, ◌+◌, ◌<◌, ◌≤◌, subst, length, take, get_or, Option, Result, Ok, Err, refl, ap, sym, ◌∙◌, rules}
use Rattle.json.specs.Token.{Token, key, begin_object, end_object}
use Rattle.json.specs.Json.{Json, object}
use Rattle.json.specs.Print.{print}
use Rattle.json.specs.Tree.{json_tokens, members_tokens}
use Rattle.json.specs.Written.{Written, Writes}
use Rattle.s3_journal.specs.Inner.Days.{Day}
use Rattle.s3_journal.specs.Inner.Lines.{Pairs, line_of, members_of, text_of_line, text_with, tree_of}
use Rattle.s3_journal.specs.Inner.Written.{Appended, Appends, json_of, pair_of, pairs_in, pairs_tokens}
use Rattle.s3_journal.specs.declared.writing.Part.{Part}
use Rattle.std.specs.Borrow.{Bor}
use Rattle.std.proofs.lemmas.List.{append-nil, map_more, take_all}

pub then : {old mid new : Written} {xs ys : List Token} → Appended old mid xs → Appended mid new ys → Appended old new (xs ++ ys)
then {old} {mid} {new} {xs} {ys} a b = record { before = b.before ∙ a.before; after = b.after ∙ (ap (λ ts. ts ++ ys) a.after ∙ append_assoc old.tokens xs ys) }

pub then_on : {E : Type 0} (r : Result (Unit {0}) E) (old mid new : Written) (xs ys : List Token) → Appended old mid xs → Appends r mid new ys → Appends r old new (xs ++ ys)
then_on (Ok done) old mid new xs ys a b = then a b
then_on (Err e) old mid new xs ys a b = tt

pub one : {E : Type 0} (r : Result (Unit {0}) E) {old new : Written} {t : Token} → Writes r old new t → Appends r old new (t ∷ [])
one (Ok done) w = record { before = w.room.0; after = w.ok }
one (Err e) w = tt

pub nothing : (w : Written) → Appended w w []
nothing w = record { before = refl; after = search rules }

pub pairs_append : (ps qs : Pairs) → pairs_tokens (ps ++ qs) ≡ pairs_tokens ps ++ pairs_tokens qs
pairs_append [] qs = refl
pairs_append (p ∷ ps) qs = ap (λ ts. key p.0 ∷ (json_tokens p.1 ++ ts)) (pairs_append ps qs) ∙ ap (λ ts. key p.0 ∷ ts) (sym (append_assoc (json_tokens p.1) (pairs_tokens ps) (pairs_tokens qs)))

pub pairs_push : (ps : Pairs) (p : List ℕ × Json) → pairs_tokens (ps ++ p ∷ []) ≡ pairs_tokens ps ++ (key p.0 ∷ json_tokens p.1)
pairs_push ps p = pairs_append ps (p ∷ []) ∙ ap (λ ts. pairs_tokens ps ++ (key p.0 ∷ ts)) (append-nil (json_tokens p.1))

pub object_tokens : (ps : Pairs) → members_tokens (members_of ps) ≡ pairs_tokens ps ++ end_object ∷ []
object_tokens [] = refl
object_tokens (p ∷ ps) = ap (λ ts. key p.0 ∷ (json_tokens p.1 ++ ts)) (object_tokens ps) ∙ ap (λ ts. key p.0 ∷ ts) (sym (append_assoc (json_tokens p.1) (pairs_tokens ps) (end_object ∷ [])))

-- ---- one more of a list
pub pairs_more : (ps : List (Bor (List ℕ) × Part)) (i : ℕ) (d : Bor (List ℕ) × Part) → i < length ps
    → pairs_tokens (pairs_in (take (i + 1) ps)) ≡ pairs_tokens (pairs_in (take i ps)) ++ (key (get_or ps i d).0.now ∷ json_tokens (json_of (get_or ps i d).1))
pairs_more ps i d within = ap pairs_tokens (map_more pair_of ps i d within) ∙ pairs_push (pairs_in (take i ps)) (pair_of (get_or ps i d))

-- ---- the steps of the code
same_on : {E : Type 0} (r : Result (Unit {0}) E) (old new : Written) (ts us : List Token) → Appends r old new ts → ts ≡ us → Appends r old new us
same_on r old new ts us a is = subst (λ xs. Appends r old new xs) is a

same : {old new : Written} {ts us : List Token} → Appended old new ts → ts ≡ us → Appended old new us
same {old} {new} a is = subst (λ xs. Appended old new xs) is a

pub members_at : {old mid new : Written} (ps : List (Bor (List ℕ) × Part)) (i : ℕ) (d : Bor (List ℕ) × Part) → i < length ps
    → Appended old mid (pairs_tokens (pairs_in (take i ps))) → Appended mid new (key (get_or ps i d).0.now ∷ json_tokens (json_of (get_or ps i d).1)) → Appended old new (pairs_tokens (pairs_in (take (i + 1) ps)))
members_at ps i d within a b = same (then a b) (sym (pairs_more ps i d within))

pub members_end : {old new : Written} (ps : List (Bor (List ℕ) × Part)) (i : ℕ) → length ps ≤ i → Appended old new (pairs_tokens (pairs_in (take i ps))) → Appended old new (pairs_tokens (pairs_in ps))
members_end ps i all a = same a (ap (λ xs. pairs_tokens (pairs_in xs)) (take_all i ps all))

pub object_written : {E : Type 0} (r : Result (Unit {0}) E) (old m1 m2 m3 new : Written) (ps qs : Pairs) → Appended old m1 (begin_object ∷ []) → Appended m1 m2 (pairs_tokens ps) → Appended m2 m3 (pairs_tokens qs)
    → Appends r m3 new (end_object ∷ []) → Appends r old new (json_tokens (object (members_of (ps ++ qs))))
object_written r old m1 m2 m3 new ps qs a b c d =
    same_on r old new (((begin_object ∷ pairs_tokens ps) ++ pairs_tokens qs) ++ end_object ∷ []) (json_tokens (object (members_of (ps ++ qs))))
    (then_on r old m3 new ((begin_object ∷ pairs_tokens ps) ++ pairs_tokens qs) (end_object ∷ []) (then (then a b) c) d)
    (ap (λ xs. begin_object ∷ xs) (ap (λ xs. xs ++ end_object ∷ []) (sym (pairs_append ps qs)) ∙ sym (object_tokens (ps ++ qs))))

pub day_written : {E : Type 0} (r : Result (Unit {0}) E) (old m1 m2 m3 m4 new : Written) (ps qs rs : Pairs) → Appended old m1 (begin_object ∷ []) → Appended m1 m2 (pairs_tokens ps) → Appended m2 m3 (pairs_tokens qs) → Appended m3 m4 (pairs_tokens rs)
    → Appends r m4 new (end_object ∷ []) → Appends r old new (json_tokens (object (members_of (ps ++ (qs ++ rs)))))
day_written r old m1 m2 m3 m4 new ps qs rs a b c d e =
    object_written r old m1 m2 m4 new ps (qs ++ rs) a b (same (then c d) (sym (pairs_append qs rs))) e

pub text_written : (day : Day) (previous : List ℕ) (sum : Option (List ℕ)) (first last : Written) → first.before ≡ [] → first.tokens ≡ [] → Appended first last (json_tokens (tree_of day previous sum))
    → last.before ++ print last.tokens ≡ text_with day previous sum
text_written day previous sum first last none no_tokens a =
    ap (λ xs. xs ++ print last.tokens) (a.before ∙ none) ∙ ap print (a.after ∙ ap (λ ts. ts ++ json_tokens (tree_of day previous sum)) no_tokens)

-- a text that is the text of a line, with the line end
pub line_ended : (day : Day) (previous text line : List ℕ) → text ≡ text_of_line day previous → line ≡ text ++ 10 ∷ [] → line ≡ line_of day previous
unfolding line_of
line_ended day previous text line is ended = ended ∙ ap (λ xs. xs ++ 10 ∷ []) is
