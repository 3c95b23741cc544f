use Rattle.std.proofs.Common.{◌≡◌, ◌+◌, [], ◌∷◌, ◌++◌, ap, ◌∙◌, arith, length}
use Rattle.s3_pages.specs.Inner.Bodies.{page_body}
use Rattle.s3_pages.specs.Inner.Drawing.{drawn_page, stream_body}
use Rattle.s3_pages.proofs.TableLemmas.{putting_as}
use Rattle.s3_pages.proofs.document.put_page.Goals as goal

pub returns : goal.returns
returns g c =
    let number : c.count.result + 2 ≡ length c.args.table.now.starts.items + 1 + 1 = omega (arith, c.count.ensures) in
    putting_as _ _ _ _ _ _ _ c.put_two.ensures
    (ap (λ body. body ∷ c.as_slice-3.result.now ∷ [])
    (c.as_slice-2.ensures.value ∙ c.in_ok-push_page_body.ensures ∙ ap (λ text. text ++ page_body c.args.tree (c.count.result + 2)) c.new-body.ensures.items
    ∙ ap (λ n. page_body c.args.tree n) number)
    ∙ ap (λ contents. page_body c.args.tree (length c.args.table.now.starts.items + 1 + 1) ∷ contents ∷ [])
    (c.as_slice-3.ensures.value ∙ c.in_ok-push_stream.ensures ∙ ap (λ text. text ++ stream_body [] c.as_slice.result.now) c.new-contents.ensures.items
    ∙ ap (λ drawn. stream_body [] drawn)
    (c.as_slice.ensures.value ∙ c.in_ok-push_page.ensures ∙ ap (λ text. text ++ drawn_page c.args.size c.args.page.now) c.new-drawn.ensures.items)))
