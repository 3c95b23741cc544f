use Rattle.std.proofs.Common.{[], ◌∷◌, ◌++◌, ap, ◌∙◌}
use Rattle.s3_pages.specs.Inner.Bodies.{font_body, resources_body}
use Rattle.s3_pages.specs.Inner.Forms.{form_body}
use Rattle.s3_pages.proofs.TableLemmas.{putting_as, putting_failed, putting_more}
use Rattle.s3_pages.proofs.document.put_front.Goals as goal

pub returns : goal.returns
unfolding font_body resources_body
returns g c =
    putting_as _ _ _ _ _ _ _
    (putting_more (font_body ∷ []) (c.as_slice.result.now ∷ resources_body ∷ []) _ _ _ _ _ _ _ _ c.in_ok-put_object.ensures c.put_two.ensures)
    (ap (λ form. font_body ∷ form ∷ resources_body ∷ [])
    (c.as_slice.ensures.value ∙ c.in_ok-push_form.ensures ∙ ap (λ text. text ++ form_body c.args.look) c.new-form.ensures.items))

pub returns-in_err-put_object : goal.returns-in_err-put_object
unfolding font_body
returns-in_err-put_object g c =
    putting_failed (font_body ∷ []) (form_body c.args.look ∷ resources_body ∷ []) _ _ _ _ _ _ c.in_err-put_object.ensures c.from_residual-in_err-put_object.ensures.1
