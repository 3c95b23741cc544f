use Rattle.s3_pages.proofs.AllLines.{lines_on_pages}
use Rattle.s3_pages.proofs.laws.pages_have_all_lines.Goals as goal

pub returns : goal.returns
returns c = (λ lines. lines_on_pages 1 lines)
