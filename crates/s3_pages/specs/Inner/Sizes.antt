-- The paper on which the pages of a document are drawn, in points. A form is 1071 by 792.
use Rattle.std.specs.Prelude.{ℕ, List, codes}
use Rattle.s3_pages.specs.declared.size.PaperSize.{PaperSize}
use Rattle.s3_pages.specs.declared.size.PaperSize.TheVariants.{Form, A4, Letter}

-- what all pages begin with, up to their number; the box is that of the paper on its side
abbrev pub tree_head : PaperSize → List ℕ
tree_head Form = codes "<< /Type /Pages /MediaBox [0 0 1071 792] /Resources 3 0 R /Count "
tree_head A4 = codes "<< /Type /Pages /MediaBox [0 0 842 595] /Resources 3 0 R /Count "
tree_head Letter = codes "<< /Type /Pages /MediaBox [0 0 792 612] /Resources 3 0 R /Count "

-- what each page begins with: one scale for both directions, the place of the form's lower left corner, and the form. The form is
-- centred: 43.0441 + 0.7058 * 1071 + 43.0441 = 842, and 18.0032 + 0.7058 * 792 + 18.0032 = 595; for Letter,
-- 18.0441 + 0.7058 * 1071 + 18.0441 = 792, and 26.5032 + 0.7058 * 792 + 26.5032 = 612
abbrev pub page_head : PaperSize → List ℕ
page_head Form = codes "/B Do\nBT\n/F 12 Tf\n"
page_head A4 = codes "0.7058 0 0 0.7058 43.0441 18.0032 cm\n/B Do\nBT\n/F 12 Tf\n"
page_head Letter = codes "0.7058 0 0 0.7058 18.0441 26.5032 cm\n/B Do\nBT\n/F 12 Tf\n"
