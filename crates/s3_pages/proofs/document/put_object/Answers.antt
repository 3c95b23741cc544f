use Rattle.std.proofs.Common.{◌+◌, ◌++◌, ap, sym, ◌∙◌}
use Rattle.s3_pages.specs.Inner.Objects.{object_text}
use Rattle.s3_pages.proofs.TableLemmas.{put_one}
use Rattle.s3_pages.proofs.document.put_object.Goals as goal

pub returns : goal.returns
returns g c =
    put_one c.args.body.now c.as_slice.result.now c.count.result c.len.result c.in-Some.end c.args.table.now c.note.new.self _ _ c.write.result
    c.count.ensures
    (c.as_slice.ensures.value ∙ c.in_ok-push_object.ensures ∙ ap (λ text. text ++ object_text (c.count.result + 1) c.args.body.now) c.new-text.ensures.items)
    (c.len.ensures ∙ sym c.as_slice.ensures.len)
    (ap (λ end. end + c.len.result) (sym c.end.ensures) ∙ sym c.in-Some.ensures.1)
    c.in_ok-note.ensures.starts
    c.in_ok-note.ensures.end
    c.write.ensures.wrote
    c.write.ensures.failed
