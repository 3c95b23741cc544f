use Rattle.std.proofs.Common.{◌+◌, ap, length}
use Rattle.s3_pages.specs.Inner.PagesLeft.{pages_left}
use Rattle.s3_pages.specs.Inner.Bodies.{page_bodies}
use Rattle.s3_pages.proofs.PageBodies.{pages_all, pages_failed, pages_more, pages_none}
use Rattle.s3_pages.proofs.TableLemmas.{putting_as}
use Rattle.s3_pages.proofs.document.put_pages.Goals as goal

pub loop-page-init : goal.loop-page-init
loop-page-init g c = pages_none _ _ _ _ _

pub loop-page-preserved : goal.loop-page-preserved
loop-page-preserved g c = pages_more c.args.size c.args.tree _ _ _ _ _ _ _ _ _ c.in-Some.page.now c.loop-page.invariant c.in-Some.ensures.steps c.in_ok-put_page.ensures.comes

pub returns : goal.returns
returns g c =
    putting_as (page_bodies c.args.size c.args.tree (length c.args.table.now.starts.items + 1) (pages_left c.into_iter-page-iterator.result)) _ _ _ _ _ _
    (record { comes = pages_all c.args.size c.args.tree _ _ _ _ _ _ c.loop-page.invariant c.in-None.ensures.steps.0 })
    (ap (λ pages. page_bodies c.args.size c.args.tree (length c.args.table.now.starts.items + 1) (pages_left pages)) c.into_iter-page-iterator.ensures.into_iter_gives)

pub returns-in_err-put_page : goal.returns-in_err-put_page
returns-in_err-put_page g c =
    putting_as (page_bodies c.args.size c.args.tree (length c.args.table.now.starts.items + 1) (pages_left c.into_iter-page-iterator.result)) _ _ _ _ _ _
    (pages_failed c.args.size c.args.tree _ _ _ _ _ _ _ _ _ c.in-Some.page.now _ _ c.loop-page.invariant c.in-Some.ensures.steps c.in_err-put_page.ensures c.from_residual.ensures.1)
    (ap (λ pages. page_bodies c.args.size c.args.tree (length c.args.table.now.starts.items + 1) (pages_left pages)) c.into_iter-page-iterator.ensures.into_iter_gives)
