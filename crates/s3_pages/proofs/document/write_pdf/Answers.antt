use Rattle.std.proofs.Common.{inr}
use Rattle.s3_pages.specs.Inner.Documents.{document_of}
use Rattle.s3_pages.proofs.TableLemmas.{file_too_long, file_wrote, never_too_long}
use Rattle.s3_pages.proofs.document.write_pdf.Goals as goal

pub returns-clause-wrote : goal.returns-clause-wrote
unfolding document_of
returns-clause-wrote g c =
    file_wrote _ _ _ _ _ _ _ _ _ c.new-table.ensures.starts c.new-table.ensures.end c.in_ok-put_first_line.ensures.wrote c.in_ok-put_objects.ensures c.put_table.ensures.wrote

pub returns-clause-too_long : goal.returns-clause-too_long
returns-clause-too_long g c = (λ long. absurd (c.put_table.ensures.fits long))

pub returns-in_err-put_first_line-clause-too_long : goal.returns-in_err-put_first_line-clause-too_long
returns-in_err-put_first_line-clause-too_long g c = (λ long. absurd (never_too_long _ _ c.in_err-put_first_line.ensures.fits c.from_residual.ensures.1 long))

pub returns-in_err-put_objects-clause-too_long : goal.returns-in_err-put_objects-clause-too_long
unfolding document_of
returns-in_err-put_objects-clause-too_long g c =
    (λ long. inr (file_too_long _ _ _ _ _ _ _ c.new-table.ensures.starts c.new-table.ensures.end c.in_err-put_objects.ensures c.from_residual-in_err-put_objects.ensures.1 long))
