use Rattle.std.proofs.Common.{◌≡◌, ◌+◌, ◌++◌, ap, arith, length, refl}
use Rattle.s3_pages.specs.Inner.Pages.{pages_of}
use Rattle.s3_pages.specs.Inner.PagesLeft.{pages_left}
use Rattle.s3_pages.specs.Inner.Bodies.{page_bodies}
use Rattle.s3_pages.specs.Inner.Documents.{back_bodies, front_bodies, tree_number}
use Rattle.s3_pages.proofs.PageBodies.{bodies_same}
use Rattle.s3_pages.proofs.TableLemmas.{count_behind, putting_as, putting_failed, putting_failed_later, putting_longer, putting_more}
use Rattle.s3_pages.proofs.document.put_objects.Goals as goal

pub returns : goal.returns
returns g c =
    let number = length c.put_front.new.table.starts.items + 1 in
    let counted = count_behind (front_bodies c.args.look) _ _ _ _ c.in_ok-put_front.ensures.comes in
    let none : length c.args.table.now.starts.items ≡ 0 = ap length c.requires.begins in
    let four : number ≡ 4 = omega (arith, counted, none) in
    putting_as _ _ _ _ _ _ _
    (putting_more (front_bodies c.args.look ++ page_bodies c.args.size (tree_number c.from.result) number (pages_left c.of.result)) (back_bodies c.args.size c.args.title.now c.args.count) _ _ _ _ _ _ _ _
    (putting_more (front_bodies c.args.look) (page_bodies c.args.size (tree_number c.from.result) number (pages_left c.of.result)) _ _ _ _ _ _ _ _ c.in_ok-put_front.ensures c.in_ok-put_pages.ensures)
    c.put_back.ensures)
    (bodies_same c.args.size c.args.title.now c.args.look (tree_number c.from.result) c.args.count number (pages_left c.of.result) (pages_of c.args.lines.now) (ap tree_number c.from.ensures) four c.of.ensures.pages c.requires.count)

pub returns-in_err-put_front : goal.returns-in_err-put_front
returns-in_err-put_front g c =
    putting_as _ _ _ _ _ _ _
    (putting_longer (front_bodies c.args.look ++ page_bodies c.args.size (tree_number c.args.count) 4 (pages_of c.args.lines.now)) (back_bodies c.args.size c.args.title.now c.args.count) _ _ _ _ _ _
    (putting_failed (front_bodies c.args.look) (page_bodies c.args.size (tree_number c.args.count) 4 (pages_of c.args.lines.now)) _ _ _ _ _ _ c.in_err-put_front.ensures c.from_residual.ensures.1)
    c.from_residual.ensures.1)
    (bodies_same c.args.size c.args.title.now c.args.look (tree_number c.args.count) c.args.count 4 (pages_of c.args.lines.now) (pages_of c.args.lines.now) refl refl refl c.requires.count)

pub returns-in_err-put_pages : goal.returns-in_err-put_pages
returns-in_err-put_pages g c =
    let number = length c.put_front.new.table.starts.items + 1 in
    let counted = count_behind (front_bodies c.args.look) _ _ _ _ c.in_ok-put_front.ensures.comes in
    let none : length c.args.table.now.starts.items ≡ 0 = ap length c.requires.begins in
    let four : number ≡ 4 = omega (arith, counted, none) in
    putting_as _ _ _ _ _ _ _
    (putting_longer (front_bodies c.args.look ++ page_bodies c.args.size (tree_number c.from.result) number (pages_left c.of.result)) (back_bodies c.args.size c.args.title.now c.args.count) _ _ _ _ _ _
    (putting_failed_later (front_bodies c.args.look) (page_bodies c.args.size (tree_number c.from.result) number (pages_left c.of.result)) _ _ _ _ _ _ _ _ _ c.in_ok-put_front.ensures c.in_err-put_pages.ensures c.from_residual-in_err-put_pages.ensures.1)
    c.from_residual-in_err-put_pages.ensures.1)
    (bodies_same c.args.size c.args.title.now c.args.look (tree_number c.from.result) c.args.count number (pages_left c.of.result) (pages_of c.args.lines.now) (ap tree_number c.from.ensures) four c.of.ensures.pages c.requires.count)
