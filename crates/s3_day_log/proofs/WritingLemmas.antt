-- Tokens that are written one after the other.
use Rattle.std.proofs.Common.{◌≡◌, ℕ, List, [], ◌∷◌, ◌++◌, append_assoc, ◌+◌, ◌<◌, ◌≤◌, subst, length, take, get_or, map, Result, Ok, Err, refl, ap, sym, ◌∙◌, rules}
use Rattle.json.specs.Token.{Token, key, string, begin_array, begin_object, end_object, end_array}
use Rattle.json.specs.Json.{Json, array, object}
use Rattle.json.specs.Print.{print}
use Rattle.json.specs.Tree.{json_tokens, items_tokens, members_tokens}
use Rattle.json.specs.Written.{Written, Writes}
use Rattle.s3_day_log.specs.Inner.Lines.{Pairs, line_of, members_of, tree_of, file_tree, files_tree, texts_tree}
use Rattle.s3_day_log.specs.Inner.Events.{File, Said}
use Rattle.s3_day_log.specs.Inner.Written.{Appended, Appends, json_of, pair_of, pairs_in, pairs_tokens}
use Rattle.s3_day_log.specs.Inner.Events.{file_of}
use Rattle.s3_day_log.specs.declared.event.NamedFile.{NamedFile}
use Rattle.s3_day_log.specs.declared.writing.Part.{Part}
use Rattle.std.specs.Borrow.{Bor}
use Rattle.std.specs.Prelude.{String}
use Rattle.std.specs.String.{string_bytes}
use Rattle.std.proofs.lemmas.List.{append-nil, map_more, take_all}

pub then : {old mid new : Written} {xs ys : List Token} → Appended old mid xs → Appended mid new ys → Appended old new (xs ++ ys)
then {old} {mid} {new} {xs} {ys} a b = record { before = b.before ∙ a.before; after = b.after ∙ (ap (λ ts. ts ++ ys) a.after ∙ append_assoc old.tokens xs ys) }

pub then_on : {E : Type 0} (r : Result (Unit {0}) E) (old mid new : Written) (xs ys : List Token) → Appended old mid xs → Appends r mid new ys → Appends r old new (xs ++ ys)
then_on (Ok done) old mid new xs ys a b = then a b
then_on (Err e) old mid new xs ys a b = tt

pub one : {E : Type 0} (r : Result (Unit {0}) E) {old new : Written} {t : Token} → Writes r old new t → Appends r old new (t ∷ [])
one (Ok done) w = record { before = w.room.0; after = w.ok }
one (Err e) w = tt

pub nothing : (w : Written) → Appended w w []
nothing w = record { before = refl; after = search rules }

pub pairs_append : (ps qs : Pairs) → pairs_tokens (ps ++ qs) ≡ pairs_tokens ps ++ pairs_tokens qs
pairs_append [] qs = refl
pairs_append (p ∷ ps) qs = ap (λ ts. key p.0 ∷ (json_tokens p.1 ++ ts)) (pairs_append ps qs) ∙ ap (λ ts. key p.0 ∷ ts) (sym (append_assoc (json_tokens p.1) (pairs_tokens ps) (pairs_tokens qs)))

pub pairs_push : (ps : Pairs) (p : List ℕ × Json) → pairs_tokens (ps ++ p ∷ []) ≡ pairs_tokens ps ++ (key p.0 ∷ json_tokens p.1)
pairs_push ps p = pairs_append ps (p ∷ []) ∙ ap (λ ts. pairs_tokens ps ++ (key p.0 ∷ ts)) (append-nil (json_tokens p.1))

pub object_tokens : (ps : Pairs) → members_tokens (members_of ps) ≡ pairs_tokens ps ++ end_object ∷ []
object_tokens [] = refl
object_tokens (p ∷ ps) = ap (λ ts. key p.0 ∷ (json_tokens p.1 ++ ts)) (object_tokens ps) ∙ ap (λ ts. key p.0 ∷ ts) (sym (append_assoc (json_tokens p.1) (pairs_tokens ps) (end_object ∷ [])))

-- ---- lists
abbrev pub texts_tokens : List (List ℕ) → List Token
texts_tokens [] = []
texts_tokens (text ∷ texts) = string text ∷ texts_tokens texts

abbrev pub files_tokens : List File → List Token
files_tokens [] = []
files_tokens (file ∷ files) = json_tokens (file_tree file) ++ files_tokens files

pub texts_push : (ts : List (List ℕ)) (t : List ℕ) → texts_tokens (ts ++ t ∷ []) ≡ texts_tokens ts ++ string t ∷ []
texts_push [] t = refl
texts_push (u ∷ ts) t = ap (λ xs. string u ∷ xs) (texts_push ts t)

pub files_push : (fs : List File) (f : File) → files_tokens (fs ++ f ∷ []) ≡ files_tokens fs ++ json_tokens (file_tree f)
files_push [] f = refl
files_push (g ∷ fs) f = ap (λ xs. json_tokens (file_tree g) ++ xs) (files_push fs f) ∙ sym (append_assoc (json_tokens (file_tree g)) (files_tokens fs) (json_tokens (file_tree f)))

pub texts_whole : (ts : List (List ℕ)) → items_tokens (texts_tree ts) ≡ texts_tokens ts ++ end_array ∷ []
texts_whole [] = refl
texts_whole (t ∷ ts) = ap (λ xs. string t ∷ xs) (texts_whole ts)

pub files_whole : (fs : List File) → items_tokens (files_tree fs) ≡ files_tokens fs ++ end_array ∷ []
files_whole [] = refl
files_whole (f ∷ fs) = ap (λ xs. json_tokens (file_tree f) ++ xs) (files_whole fs) ∙ sym (append_assoc (json_tokens (file_tree f)) (files_tokens fs) (end_array ∷ []))

-- ---- one more of a list
pub pairs_more : (ps : List (Bor (List ℕ) × Part)) (i : ℕ) (d : Bor (List ℕ) × Part) → i < length ps
    → pairs_tokens (pairs_in (take (i + 1) ps)) ≡ pairs_tokens (pairs_in (take i ps)) ++ (key (get_or ps i d).0.now ∷ json_tokens (json_of (get_or ps i d).1))
pairs_more ps i d within = ap pairs_tokens (map_more pair_of ps i d within) ∙ pairs_push (pairs_in (take i ps)) (pair_of (get_or ps i d))

pub texts_more : {Z : Type 0} (ts : List (String Z)) (i : ℕ) (d : String Z) → i < length ts
    → texts_tokens (map string_bytes (take (i + 1) ts)) ≡ texts_tokens (map string_bytes (take i ts)) ++ string (string_bytes (get_or ts i d)) ∷ []
texts_more ts i d within = ap texts_tokens (map_more string_bytes ts i d within) ∙ texts_push (map string_bytes (take i ts)) (string_bytes (get_or ts i d))

pub files_more : (fs : List NamedFile) (i : ℕ) (d : NamedFile) → i < length fs
    → files_tokens (map file_of (take (i + 1) fs)) ≡ files_tokens (map file_of (take i fs)) ++ json_tokens (file_tree (file_of (get_or fs i d)))
files_more fs i d within = ap files_tokens (map_more file_of fs i d within) ∙ files_push (map file_of (take i fs)) (file_of (get_or fs i d))

-- ---- the steps of the code
same_on : {E : Type 0} (r : Result (Unit {0}) E) (old new : Written) (ts us : List Token) → Appends r old new ts → ts ≡ us → Appends r old new us
same_on r old new ts us a is = subst (λ xs. Appends r old new xs) is a

same : {old new : Written} {ts us : List Token} → Appended old new ts → ts ≡ us → Appended old new us
same {old} {new} a is = subst (λ xs. Appended old new xs) is a

pub texts_step : {Z : Type 0} {old mid new : Written} (ts : List (String Z)) (i : ℕ) (x : String Z) (t : List ℕ) → i < length ts → x ≡ get_or ts i x → t ≡ string_bytes x
    → Appended old mid (begin_array ∷ texts_tokens (map string_bytes (take i ts))) → Appended mid new (string t ∷ []) → Appended old new (begin_array ∷ texts_tokens (map string_bytes (take (i + 1) ts)))
texts_step ts i x t within at is a b =
    same (then a b) (ap (λ xs. begin_array ∷ xs) (ap (λ u. texts_tokens (map string_bytes (take i ts)) ++ string u ∷ []) (is ∙ ap string_bytes at) ∙ sym (texts_more ts i x within)))

pub texts_end : {Z E : Type 0} (r : Result (Unit {0}) E) (old mid new : Written) (ts : List (String Z)) (i : ℕ) → length ts ≤ i
    → Appended old mid (begin_array ∷ texts_tokens (map string_bytes (take i ts))) → Appends r mid new (end_array ∷ []) → Appends r old new (json_tokens (array (texts_tree (map string_bytes ts))))
texts_end r old mid new ts i all a b =
    same_on r old new ((begin_array ∷ texts_tokens (map string_bytes (take i ts))) ++ end_array ∷ []) (json_tokens (array (texts_tree (map string_bytes ts)))) (then_on r old mid new _ (end_array ∷ []) a b) (ap (λ xs. begin_array ∷ (texts_tokens (map string_bytes xs) ++ end_array ∷ [])) (take_all i ts all) ∙ ap (λ xs. begin_array ∷ xs) (sym (texts_whole (map string_bytes ts))))

pub files_step : {old mid new : Written} (fs : List NamedFile) (i : ℕ) (x : NamedFile) → i < length fs → x ≡ get_or fs i x
    → Appended old mid (begin_array ∷ files_tokens (map file_of (take i fs))) → Appended mid new (json_tokens (file_tree (file_of x))) → Appended old new (begin_array ∷ files_tokens (map file_of (take (i + 1) fs)))
files_step fs i x within at a b =
    same (then a b) (ap (λ xs. begin_array ∷ xs) (ap (λ f. files_tokens (map file_of (take i fs)) ++ json_tokens (file_tree (file_of f))) at ∙ sym (files_more fs i x within)))

pub files_end : {E : Type 0} (r : Result (Unit {0}) E) (old mid new : Written) (fs : List NamedFile) (i : ℕ) → length fs ≤ i
    → Appended old mid (begin_array ∷ files_tokens (map file_of (take i fs))) → Appends r mid new (end_array ∷ []) → Appends r old new (json_tokens (array (files_tree (map file_of fs))))
files_end r old mid new fs i all a b =
    same_on r old new ((begin_array ∷ files_tokens (map file_of (take i fs))) ++ end_array ∷ []) (json_tokens (array (files_tree (map file_of fs)))) (then_on r old mid new _ (end_array ∷ []) a b) (ap (λ xs. begin_array ∷ (files_tokens (map file_of xs) ++ end_array ∷ [])) (take_all i fs all) ∙ ap (λ xs. begin_array ∷ xs) (sym (files_whole (map file_of fs))))

pub members_step : {old mid new : Written} (ps : List (Bor (List ℕ) × Part)) (i : ℕ) (x : Bor (List ℕ) × Part) → i < length ps → x ≡ get_or ps i x
    → Appended old mid (pairs_tokens (pairs_in (take i ps))) → Appended mid new (key x.0.now ∷ json_tokens (json_of x.1)) → Appended old new (pairs_tokens (pairs_in (take (i + 1) ps)))
members_step ps i x within at a b =
    same (then a b) (ap (λ p. pairs_tokens (pairs_in (take i ps)) ++ (key p.0.now ∷ json_tokens (json_of p.1))) at ∙ sym (pairs_more ps i x within))

pub members_end : {old new : Written} (ps : List (Bor (List ℕ) × Part)) (i : ℕ) → length ps ≤ i → Appended old new (pairs_tokens (pairs_in (take i ps))) → Appended old new (pairs_tokens (pairs_in ps))
members_end ps i all a = same a (ap (λ xs. pairs_tokens (pairs_in xs)) (take_all i ps all))

pub object_written : {E : Type 0} (r : Result (Unit {0}) E) (old m1 m2 m3 new : Written) (ps qs : Pairs) → Appended old m1 (begin_object ∷ []) → Appended m1 m2 (pairs_tokens ps) → Appended m2 m3 (pairs_tokens qs)
    → Appends r m3 new (end_object ∷ []) → Appends r old new (json_tokens (object (members_of (ps ++ qs))))
object_written r old m1 m2 m3 new ps qs a b c d =
    same_on r old new (((begin_object ∷ pairs_tokens ps) ++ pairs_tokens qs) ++ end_object ∷ []) (json_tokens (object (members_of (ps ++ qs))))
    (then_on r old m3 new ((begin_object ∷ pairs_tokens ps) ++ pairs_tokens qs) (end_object ∷ []) (then (then a b) c) d)
    (ap (λ xs. begin_object ∷ xs) (ap (λ xs. xs ++ end_object ∷ []) (sym (pairs_append ps qs)) ∙ sym (object_tokens (ps ++ qs))))

pub day_written : {E : Type 0} (r : Result (Unit {0}) E) (old m1 m2 m3 m4 new : Written) (ps qs rs : Pairs) → Appended old m1 (begin_object ∷ []) → Appended m1 m2 (pairs_tokens ps) → Appended m2 m3 (pairs_tokens qs) → Appended m3 m4 (pairs_tokens rs)
    → Appends r m4 new (end_object ∷ []) → Appends r old new (json_tokens (object (members_of (ps ++ (qs ++ rs)))))
day_written r old m1 m2 m3 m4 new ps qs rs a b c d e =
    object_written r old m1 m2 m4 new ps (qs ++ rs) a b (same (then c d) (sym (pairs_append qs rs))) e

pub begin_written : {E : Type 0} (r : Result (Unit {0}) E) (old m1 m2 new : Written) (ps : Pairs) (name : List ℕ) (j : Json) → Appended old m1 (pairs_tokens ps) → Appended m1 m2 (key name ∷ [])
    → Appends r m2 new (json_tokens j) → Appends r old new (pairs_tokens (ps ++ (name, j) ∷ []))
begin_written r old m1 m2 new ps name j a b c =
    same_on r old new ((pairs_tokens ps ++ key name ∷ []) ++ json_tokens j) (pairs_tokens (ps ++ (name, j) ∷ [])) (then_on r old m2 new (pairs_tokens ps ++ key name ∷ []) (json_tokens j) (then a b) c)
    (append_assoc (pairs_tokens ps) (key name ∷ []) (json_tokens j) ∙ sym (pairs_push ps (name, j)))

pub line_written : (at : List ℕ) (said : Said) (first last : Written) → first.before ≡ [] → first.tokens ≡ [] → Appended first last (json_tokens (tree_of at said))
    → last.before ++ (print last.tokens ++ 10 ∷ []) ≡ line_of at said
unfolding line_of
line_written at said first last none no_tokens a =
    ap (λ xs. xs ++ (print last.tokens ++ 10 ∷ [])) (a.before ∙ none) ∙ ap (λ ts. print ts ++ 10 ∷ []) (a.after ∙ ap (λ ts. ts ++ json_tokens (tree_of at said)) no_tokens)
