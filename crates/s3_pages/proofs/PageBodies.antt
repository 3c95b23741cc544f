-- The objects of pages, page by page.
use Rattle.std.proofs.Common.{◌≡◌, ℕ, ◌+◌, ◌≤◌, suc, List, [], ◌∷◌, ◌++◌, Option, Result, Ok, Err, IsErrAnd, refl, sym, ap, subst, ◌∙◌, arith, append_assoc, append-nil, length}
use Rattle.s3_cards.specs.Printed.{Printed}
use Rattle.s3_pages.specs.Inner.Bodies.{page_bodies, page_body}
use Rattle.s3_pages.specs.Inner.Drawing.{drawn_page, stream_body}
use Rattle.s3_pages.specs.declared.fault.PaperFault.{PaperFault}
use Rattle.s3_pages.specs.Inner.Documents.{back_bodies, bodies_of, front_bodies, tree_number}
use Rattle.s3_pages.specs.Inner.Tables.{Puts, Putting, end_behind, end_limit}
use Rattle.s3_pages.specs.declared.object_table.Table.{Table}
use Rattle.s3_pages.specs.declared.form.FormLook.{FormLook}
use Rattle.s3_pages.specs.declared.size.PaperSize.{PaperSize}
use Rattle.s3_pages.proofs.TableLemmas.{count_behind, long_first, long_second, puts_more, puts_none}

page_bodies-append : (size : PaperSize) (tree number : ℕ) (some more : List (List Printed))
    → page_bodies size tree number (some ++ more) ≡ page_bodies size tree number some ++ page_bodies size tree (number + length (page_bodies size tree number some)) more
page_bodies-append size tree number [] more = ap (λ n. page_bodies size tree n more) (omega arith)
page_bodies-append size tree number (page ∷ pages) more =
    let rest : List (List ℕ) = page_bodies size tree (number + 2) pages in
    let next : number + 2 + length rest ≡ number + suc (suc (length rest)) = omega arith in
    ap (λ bodies. page_body tree (number + 1) ∷ stream_body [] (drawn_page size page) ∷ bodies)
    (page_bodies-append size tree (number + 2) pages more ∙ ap (λ n. rest ++ page_bodies size tree n more) next)

-- the first pages of all are written, and these are left
pub record PutsPages (size : PaperSize) (tree : ℕ) (all left : List (List Printed)) (old new : Table) (before after : Option (List ℕ)) : Type 0 where
  pub done : List (List Printed)
  pub parts : all ≡ done ++ left
  pub puts : Puts (page_bodies size tree (length old.starts.items + 1) done) old new before after

-- the objects of one page more
one_page : (size : PaperSize) (tree : ℕ) (all left : List (List Printed)) (old mid : Table) (before between : Option (List ℕ)) (page : List Printed) (so_far : PutsPages size tree all left old mid before between)
    → page_bodies size tree (length old.starts.items + 1) (so_far.done ++ page ∷ [])
    ≡ page_bodies size tree (length old.starts.items + 1) so_far.done ++ page_bodies size tree (length mid.starts.items + 1) (page ∷ [])
one_page size tree all left old mid before between page so_far =
    let number : ℕ = length old.starts.items + 1 in
    let counted : length mid.starts.items ≡ length old.starts.items + length (page_bodies size tree number so_far.done) =
    count_behind (page_bodies size tree number so_far.done) old mid before between so_far.puts in
    let next : number + length (page_bodies size tree number so_far.done) ≡ length mid.starts.items + 1 = omega arith in
    page_bodies-append size tree number so_far.done (page ∷ []) ∙ ap (λ n. page_bodies size tree number so_far.done ++ page_bodies size tree n (page ∷ [])) next

-- one page more is written
pub pages_more : (size : PaperSize) (tree : ℕ) (all was left : List (List Printed)) (old mid new : Table) (before between after : Option (List ℕ)) (page : List Printed)
    → PutsPages size tree all was old mid before between → was ≡ page ∷ left
    → Puts (page_bodies size tree (length mid.starts.items + 1) (page ∷ [])) mid new between after → PutsPages size tree all left old new before after
pages_more size tree all was left old mid new before between after page so_far first puts =
    let number : ℕ = length old.starts.items + 1 in
    record {
      done = so_far.done ++ page ∷ [];
      parts = so_far.parts ∙ ap (λ pages. so_far.done ++ pages) first ∙ sym (append_assoc so_far.done (page ∷ []) left);
      puts = subst (λ bodies. Puts bodies old new before after) (sym (one_page size tree all was old mid before between page so_far))
          (puts_more (page_bodies size tree number so_far.done) (page_bodies size tree (length mid.starts.items + 1) (page ∷ [])) old mid new before between after so_far.puts puts);
    }

-- one page more is too long
pub pages_long : (size : PaperSize) (tree : ℕ) (all was left : List (List Printed)) (old mid : Table) (before between : Option (List ℕ)) (page : List Printed)
    → PutsPages size tree all was old mid before between → was ≡ page ∷ left
    → end_limit ≤ end_behind mid (page_bodies size tree (length mid.starts.items + 1) (page ∷ []))
    → end_limit ≤ end_behind old (page_bodies size tree (length old.starts.items + 1) all)
pages_long size tree all was left old mid before between page so_far first long =
    let number : ℕ = length old.starts.items + 1 in
    let front : List (List Printed) = so_far.done ++ page ∷ [] in
    let whole : all ≡ front ++ left = so_far.parts ∙ ap (λ pages. so_far.done ++ pages) first ∙ sym (append_assoc so_far.done (page ∷ []) left) in
    let so_long : end_limit ≤ end_behind old (page_bodies size tree number front) =
    subst (λ bodies. end_limit ≤ end_behind old bodies) (sym (one_page size tree all was old mid before between page so_far))
    (long_second (page_bodies size tree number so_far.done) (page_bodies size tree (length mid.starts.items + 1) (page ∷ [])) old mid before between so_far.puts long) in
    subst (λ bodies. end_limit ≤ end_behind old bodies) (sym (ap (page_bodies size tree number) whole ∙ page_bodies-append size tree number front left))
    (long_first (page_bodies size tree number front) (page_bodies size tree (number + length (page_bodies size tree number front)) left) old so_long)

-- all pages are written where none is left
pub pages_all : (size : PaperSize) (tree : ℕ) (all left : List (List Printed)) (old new : Table) (before after : Option (List ℕ)) → PutsPages size tree all left old new before after → left ≡ []
    → Puts (page_bodies size tree (length old.starts.items + 1) all) old new before after
pages_all size tree all left old new before after so_far none =
    let whole : all ≡ so_far.done = so_far.parts ∙ ap (λ pages. so_far.done ++ pages) none ∙ append-nil so_far.done in
    subst (λ pages. Puts (page_bodies size tree (length old.starts.items + 1) pages) old new before after) (sym whole) so_far.puts

-- none is written yet
pub pages_none : (size : PaperSize) (tree : ℕ) (all : List (List Printed)) (old : Table) (before : Option (List ℕ)) → PutsPages size tree all all old old before before
pages_none size tree all old before = record { done = []; parts = refl; puts = puts_none old before }

-- a fault of one page more
pub pages_failed : (size : PaperSize) (tree : ℕ) (all was left : List (List Printed)) (old mid new : Table) (before between after : Option (List ℕ)) (page : List Printed) (fault : PaperFault) (result : Result (Unit {0}) PaperFault)
    → PutsPages size tree all was old mid before between → was ≡ page ∷ left
    → Putting (page_bodies size tree (length mid.starts.items + 1) (page ∷ [])) mid new between after (Err fault) → IsErrAnd result (λ other. other ≡ fault)
    → Putting (page_bodies size tree (length old.starts.items + 1) all) old new before after result
pages_failed size tree all was left old mid new before between after page fault (Ok done) so_far first putting same = absurd same
pages_failed size tree all was left old mid new before between after page fault (Err other) so_far first putting same =
    record { comes = λ is. pages_long size tree all was left old mid before between page so_far first (putting.comes (sym same ∙ is)) }

-- the objects of a document, by what its pages are
pub bodies_same : (size : PaperSize) (title : List ℕ) (look : FormLook) (tree count number : ℕ) (left pages : List (List Printed)) → tree ≡ tree_number count → number ≡ 4 → left ≡ pages → count ≡ length pages
    → front_bodies look ++ page_bodies size tree number left ++ back_bodies size title count ≡ bodies_of size title look pages
unfolding bodies_of
bodies_same size title look tree count number left pages is_tree is_four are_pages is_count =
    ap (λ n. front_bodies look ++ page_bodies size n number left ++ back_bodies size title count) is_tree
    ∙ ap (λ n. front_bodies look ++ page_bodies size (tree_number count) n left ++ back_bodies size title count) is_four
    ∙ ap (λ ps. front_bodies look ++ page_bodies size (tree_number count) 4 ps ++ back_bodies size title count) are_pages
    ∙ ap (λ n. front_bodies look ++ page_bodies size (tree_number n) 4 pages ++ back_bodies size title n) is_count
