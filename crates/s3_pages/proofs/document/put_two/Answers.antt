use Rattle.std.proofs.Common.{[], ◌∷◌}
use Rattle.s3_pages.proofs.TableLemmas.{putting_failed, putting_more}
use Rattle.s3_pages.proofs.document.put_two.Goals as goal

pub returns : goal.returns
returns g c = putting_more (c.args.first.now ∷ []) (c.args.second.now ∷ []) _ _ _ _ _ _ _ _ c.in_ok-put_object.ensures c.put_object-2.ensures

pub returns-in_err-put_object : goal.returns-in_err-put_object
returns-in_err-put_object g c = putting_failed (c.args.first.now ∷ []) (c.args.second.now ∷ []) _ _ _ _ _ _ c.in_err-put_object.ensures c.from_residual.ensures.1
