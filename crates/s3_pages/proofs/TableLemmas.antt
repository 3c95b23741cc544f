-- Objects after objects.
use Rattle.std.proofs.Common.{◌≡◌, ℕ, ◌+◌, ◌≤◌, suc, List, [], ◌∷◌, ◌++◌, Option, Result, Ok, Err, OnOk, OnErr, IsErrAnd, IsErrOf, refl, sym, ap, subst, ◌∙◌, arith, append_assoc, append-nil, length, length-append}
use Rattle.std.proofs.KnownBytes.{Appends-nil, Appends-trans}
use Rattle.std.proofs.lemmas.List.Concat.{flat_map-append}
use Rattle.std.specs.Io.KnownBytes.{Appends}
use Rattle.s3_pages.specs.declared.fault.PaperFault.{PaperFault}
use Rattle.s3_pages.specs.declared.fault.PaperFault.TheVariants.{File, TooLong}
use Rattle.s3_pages.specs.Inner.Objects.{file_of, first_line, joined, numbered, object_text, places, table_text, trailer_text}
use Rattle.s3_pages.specs.Inner.Tables.{Puts, Putting, end_behind, end_limit, texts_behind}
use Rattle.s3_pages.specs.declared.object_table.Table.{Table}

numbered-append : (number : ℕ) (some more : List (List ℕ)) → numbered number (some ++ more) ≡ numbered number some ++ numbered (number + length some) more
numbered-append number [] more = ap (λ n. numbered n more) (omega arith)
numbered-append number (body ∷ bodies) more =
    let next : number + 1 + length bodies ≡ number + suc (length bodies) = omega arith in
    ap (λ texts. object_text number body ∷ texts) (numbered-append (number + 1) bodies more ∙ ap (λ n. numbered (number + 1) bodies ++ numbered n more) next)

length-numbered : (number : ℕ) (bodies : List (List ℕ)) → length (numbered number bodies) ≡ length bodies
length-numbered number [] = refl
length-numbered number (body ∷ bodies) = ap suc (length-numbered (number + 1) bodies)

length-places : (at : ℕ) (texts : List (List ℕ)) → length (places at texts) ≡ length texts
length-places at [] = refl
length-places at (text ∷ texts) = ap suc (length-places (at + length text) texts)

joined-append : (some more : List (List ℕ)) → joined (some ++ more) ≡ joined some ++ joined more
joined-append some more = flat_map-append (λ text. text) some more

places-append : (at : ℕ) (some more : List (List ℕ)) → places at (some ++ more) ≡ places at some ++ places (at + length (joined some)) more
places-append at [] more = ap (λ n. places n more) (omega arith)
places-append at (text ∷ texts) more =
    let next : at + length text + length (joined texts) ≡ at + length (text ++ joined texts) = omega (arith, length-append text (joined texts)) in
    ap (λ starts. at ∷ starts) (places-append (at + length text) texts more ∙ ap (λ n. places (at + length text) texts ++ places n more) next)

-- how many objects there are then
pub count_behind : (bodies : List (List ℕ)) (old new : Table) (before after : Option (List ℕ)) → Puts bodies old new before after
    → length new.starts.items ≡ length old.starts.items + length bodies
count_behind bodies old new before after puts =
    ap length puts.starts ∙ length-append old.starts.items (places old.end (texts_behind old bodies))
    ∙ ap (λ n. length old.starts.items + n) (length-places old.end (texts_behind old bodies) ∙ length-numbered (length old.starts.items + 1) bodies)

-- the texts of objects in two parts
texts_apart : (some more : List (List ℕ)) (old mid : Table) (before after : Option (List ℕ)) → Puts some old mid before after
    → texts_behind old (some ++ more) ≡ texts_behind old some ++ texts_behind mid more
texts_apart some more old mid before after puts =
    let counted : length mid.starts.items ≡ length old.starts.items + length some = count_behind some old mid before after puts in
    let next : length old.starts.items + 1 + length some ≡ length mid.starts.items + 1 = omega arith in
    numbered-append (length old.starts.items + 1) some more ∙ ap (λ n. texts_behind old some ++ numbered n more) next

-- where the file ends with objects in two parts
end_apart : (some more : List (List ℕ)) (old mid : Table) (before after : Option (List ℕ)) → Puts some old mid before after
    → end_behind old (some ++ more) ≡ end_behind mid more
end_apart some more old mid before after puts =
    let parts : length (joined (texts_behind old (some ++ more))) ≡ length (joined (texts_behind old some)) + length (joined (texts_behind mid more)) =
    ap (λ texts. length (joined texts)) (texts_apart some more old mid before after puts)
    ∙ ap length (joined-append (texts_behind old some) (texts_behind mid more))
    ∙ length-append (joined (texts_behind old some)) (joined (texts_behind mid more)) in
    let here : mid.end ≡ end_behind old some = puts.end in
    omega arith

-- objects are put after others
pub puts_more : (some more : List (List ℕ)) (old mid new : Table) (before between after : Option (List ℕ)) → Puts some old mid before between → Puts more mid new between after
    → Puts (some ++ more) old new before after
puts_more some more old mid new before between after first second =
    let apart : texts_behind old (some ++ more) ≡ texts_behind old some ++ texts_behind mid more = texts_apart some more old mid before between first in
    record {
      written = subst (λ bytes. Appends before after bytes) (sym (ap joined apart ∙ joined-append (texts_behind old some) (texts_behind mid more)))
          (Appends-trans before between after (joined (texts_behind old some)) (joined (texts_behind mid more)) first.written second.written);
      starts = second.starts ∙ ap (λ starts. starts ++ places mid.end (texts_behind mid more)) first.starts
          ∙ append_assoc old.starts.items (places old.end (texts_behind old some)) (places mid.end (texts_behind mid more))
          ∙ ap (λ at. old.starts.items ++ (places old.end (texts_behind old some) ++ places at (texts_behind mid more))) first.end
          ∙ ap (λ starts. old.starts.items ++ starts) (sym (places-append old.end (texts_behind old some) (texts_behind mid more)) ∙ ap (places old.end) (sym apart));
      end = second.end ∙ sym (end_apart some more old mid before between first);
    }

-- too long already without what comes after
pub long_first : (some more : List (List ℕ)) (old : Table) → end_limit ≤ end_behind old some → end_limit ≤ end_behind old (some ++ more)
long_first some more old long =
    let number : ℕ = length old.starts.items + 1 in
    let parts : length (joined (texts_behind old (some ++ more))) ≡ length (joined (texts_behind old some)) + length (joined (numbered (number + length some) more)) =
    ap (λ texts. length (joined texts)) (numbered-append number some more)
    ∙ ap length (joined-append (texts_behind old some) (numbered (number + length some) more))
    ∙ length-append (joined (texts_behind old some)) (joined (numbered (number + length some) more)) in
    omega arith

-- too long by what comes after
pub long_second : (some more : List (List ℕ)) (old mid : Table) (before after : Option (List ℕ)) → Puts some old mid before after
    → end_limit ≤ end_behind mid more → end_limit ≤ end_behind old (some ++ more)
long_second some more old mid before after puts long = subst (λ n. end_limit ≤ n) (sym (end_apart some more old mid before after puts)) long

-- what comes of objects that are put after others
pub putting_more : (some more : List (List ℕ)) (old mid new : Table) (before between after : Option (List ℕ)) (done : Unit {0}) (result : Result (Unit {0}) PaperFault)
    → Putting some old mid before between (Ok done) → Putting more mid new between after result → Putting (some ++ more) old new before after result
putting_more some more old mid new before between after done (Ok last) first second =
    record { comes = puts_more some more old mid new before between after first.comes second.comes }
putting_more some more old mid new before between after done (Err fault) first second =
    record { comes = λ is. long_second some more old mid before between first.comes (second.comes is) }

-- a fault of the first of them
pub putting_failed : (some more : List (List ℕ)) (old mid : Table) (before between : Option (List ℕ)) (fault : PaperFault) (result : Result (Unit {0}) PaperFault)
    → Putting some old mid before between (Err fault) → IsErrAnd result (λ other. other ≡ fault) → Putting (some ++ more) old mid before between result
putting_failed some more old mid before between fault (Ok done) first same = absurd same
putting_failed some more old mid before between fault (Err other) first same =
    record { comes = λ is. long_first some more old (first.comes (sym same ∙ is)) }

-- a fault of the second of them
pub putting_failed_later : (some more : List (List ℕ)) (old mid new : Table) (before between after : Option (List ℕ)) (done : Unit {0}) (fault : PaperFault) (result : Result (Unit {0}) PaperFault)
    → Putting some old mid before between (Ok done) → Putting more mid new between after (Err fault) → IsErrAnd result (λ other. other ≡ fault)
    → Putting (some ++ more) old new before after result
putting_failed_later some more old mid new before between after done fault (Ok last) first second same = absurd same
putting_failed_later some more old mid new before between after done fault (Err other) first second same =
    record { comes = λ is. long_second some more old mid before between first.comes (second.comes (sym same ∙ is)) }

-- a fault of some of them, and so of all
pub putting_longer : (some more : List (List ℕ)) (old new : Table) (before after : Option (List ℕ)) (fault : PaperFault) (result : Result (Unit {0}) PaperFault)
    → Putting some old new before after result → IsErrAnd result (λ other. other ≡ fault) → Putting (some ++ more) old new before after result
putting_longer some more old new before after fault (Ok done) putting same = absurd same
putting_longer some more old new before after fault (Err other) putting same = record { comes = λ is. long_first some more old (putting.comes is) }

-- objects under another name
pub putting_as : (bodies other : List (List ℕ)) (old new : Table) (before after : Option (List ℕ)) (result : Result (Unit {0}) PaperFault)
    → Putting bodies old new before after result → bodies ≡ other → Putting other old new before after result
putting_as bodies other old new before after result putting same = subst (λ b. Putting b old new before after result) same putting

-- the first object
pub puts_one : (body text : List ℕ) (old new : Table) (before after : Option (List ℕ)) → text ≡ object_text (length old.starts.items + 1) body
    → Appends before after text → new.starts.items ≡ old.starts.items ++ old.end ∷ [] → new.end ≡ old.end + length text → Puts (body ∷ []) old new before after
puts_one body text old new before after is_text appends starts end =
    let one : joined (texts_behind old (body ∷ [])) ≡ text = simp append-nil (sym is_text) in
    record {
      written = subst (λ bytes. Appends before after bytes) (sym one) appends;
      starts = starts;
      end = end ∙ ap (λ bytes. old.end + length bytes) (sym one);
    }

-- the whole file
pub file_whole : (bodies : List (List ℕ)) (old new : Table) (first before after last : Option (List ℕ)) → old.starts.items ≡ [] → old.end ≡ 9
    → Appends first before first_line → Puts bodies old new before after
    → Appends after last (table_text new.starts.items ++ trailer_text (length new.starts.items) new.end) → Appends first last (file_of bodies)
unfolding file_of
file_whole bodies old new first before after last none begins head puts tail =
    let texts : List (List ℕ) = numbered 1 bodies in
    let are_texts : texts_behind old bodies ≡ texts = ap (λ starts. numbered (length starts + 1) bodies) none in
    let starts : new.starts.items ≡ places 9 texts = puts.starts ∙ ap (λ front. front ++ places old.end (texts_behind old bodies)) none
    ∙ ap (λ at. places at (texts_behind old bodies)) begins ∙ ap (places 9) are_texts in
    let end : new.end ≡ 9 + length (joined texts) = puts.end ∙ ap (λ at. at + length (joined (texts_behind old bodies))) begins ∙ ap (λ ts. 9 + length (joined ts)) are_texts in
    let count : length new.starts.items ≡ length bodies = ap length starts ∙ length-places 9 texts ∙ length-numbered 1 bodies in
    let behind : table_text new.starts.items ++ trailer_text (length new.starts.items) new.end ≡ table_text (places 9 texts) ++ trailer_text (length bodies) (9 + length (joined texts)) =
    ap (λ s. table_text s ++ trailer_text (length new.starts.items) new.end) starts
    ∙ ap (λ n. table_text (places 9 texts) ++ trailer_text n new.end) count
    ∙ ap (λ at. table_text (places 9 texts) ++ trailer_text (length bodies) at) end in
    let middle : Appends before after (joined texts) = subst (λ ts. Appends before after (joined ts)) are_texts puts.written in
    let front : Appends first after (first_line ++ joined texts) = Appends-trans first before after first_line (joined texts) head middle in
    let all : Appends first last ((first_line ++ joined texts) ++ (table_text (places 9 texts) ++ trailer_text (length bodies) (9 + length (joined texts)))) =
    Appends-trans first after last (first_line ++ joined texts) (table_text (places 9 texts) ++ trailer_text (length bodies) (9 + length (joined texts))) front
    (subst (λ bytes. Appends after last bytes) behind tail) in
    subst (λ bytes. Appends first last bytes) (sym (append_assoc (first_line ++ joined texts) (table_text (places 9 texts)) (trailer_text (length bodies) (9 + length (joined texts))))) all

-- a file whose objects are too long is so
pub file_long : (bodies : List (List ℕ)) (old : Table) → old.starts.items ≡ [] → old.end ≡ 9 → end_limit ≤ end_behind old bodies → end_limit ≤ length (file_of bodies)
unfolding file_of
file_long bodies old none begins long =
    let texts : List (List ℕ) = numbered 1 bodies in
    let are_texts : texts_behind old bodies ≡ texts = ap (λ starts. numbered (length starts + 1) bodies) none in
    let end : end_behind old bodies ≡ 9 + length (joined texts) = ap (λ at. at + length (joined (texts_behind old bodies))) begins ∙ ap (λ ts. 9 + length (joined ts)) are_texts in
    let tail : List ℕ = trailer_text (length bodies) (9 + length (joined texts)) in
    let table : List ℕ = table_text (places 9 texts) in
    let one : length (first_line ++ joined texts ++ table ++ tail) ≡ length (first_line ++ joined texts ++ table) + length tail = length-append (first_line ++ joined texts ++ table) tail in
    let two : length (first_line ++ joined texts ++ table) ≡ length (first_line ++ joined texts) + length table = length-append (first_line ++ joined texts) table in
    let three : length (first_line ++ joined texts) ≡ 9 + length (joined texts) = length-append first_line (joined texts) in
    omega arith

-- what comes of one object that is noted and then written
pub put_one : (body text : List ℕ) (number len end : ℕ) (old new : Table) (before after : Option (List ℕ)) (result : Result (Unit {0}) PaperFault)
    → number ≡ length old.starts.items → text ≡ object_text (number + 1) body → len ≡ length text → old.end + len ≡ end
    → new.starts.items ≡ old.starts.items ++ old.end ∷ [] → new.end ≡ end
    → OnOk result (Appends before after text) → OnErr result (result ≡ Err File) → Putting (body ∷ []) old new before after result
put_one body text number len end old new before after (Ok done) is_number is_text is_len is_end starts ends wrote failed = record {
  comes = puts_one body text old new before after (is_text ∙ ap (λ n. object_text (n + 1) body) is_number) wrote starts
      (ends ∙ sym is_end ∙ ap (λ n. old.end + n) is_len);
}
put_one body text number len end old new before after (Err fault) is_number is_text is_len is_end starts ends wrote failed = record { comes = λ is. absurd (cc) }

-- nothing is put
pub puts_none : (old : Table) (before : Option (List ℕ)) → Puts [] old old before before
puts_none old before = record { written = Appends-nil before; starts = sym (append-nil old.starts.items); end = omega arith }

-- the whole file, if its table is written
pub file_wrote : (bodies : List (List ℕ)) (old new : Table) (first before after last : Option (List ℕ)) (done : Unit {0}) (result : Result (Unit {0}) PaperFault)
    → old.starts.items ≡ [] → old.end ≡ 9 → Appends first before first_line → Putting bodies old new before after (Ok done)
    → OnOk result (Appends after last (table_text new.starts.items ++ trailer_text (length new.starts.items) new.end)) → OnOk result (Appends first last (file_of bodies))
file_wrote bodies old new first before after last done (Ok end) none begins head puts tail = file_whole bodies old new first before after last none begins head puts.comes tail
file_wrote bodies old new first before after last done (Err fault) none begins head puts tail = tt

-- a fault that comes of objects which are too long
pub file_too_long : (bodies : List (List ℕ)) (old new : Table) (before after : Option (List ℕ)) (fault : PaperFault) (result : Result (Unit {0}) PaperFault)
    → old.starts.items ≡ [] → old.end ≡ 9 → Putting bodies old new before after (Err fault) → IsErrAnd result (λ other. other ≡ fault) → IsErrOf result TooLong
    → end_limit ≤ length (file_of bodies)
file_too_long bodies old new before after fault (Ok done) none begins putting same long = absurd same
file_too_long bodies old new before after fault (Err other) none begins putting same long =
    let is : other ≡ TooLong = cc in file_long bodies old none begins (putting.comes (sym same ∙ is))

-- a fault of a call that is never too long
pub never_too_long : (fault : PaperFault) (result : Result (Unit {0}) PaperFault) → (IsErrOf {T = Unit {0}} (Err fault) TooLong → ⊥) → IsErrAnd result (λ other. other ≡ fault)
    → IsErrOf result TooLong → ⊥
never_too_long fault (Ok done) fits same long = absurd same
never_too_long fault (Err other) fits same long = fits (cc)
