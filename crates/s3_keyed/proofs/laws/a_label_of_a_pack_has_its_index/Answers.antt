use Rattle.s3_keyed.proofs.Indexes.{of_pack_index}
use Rattle.s3_keyed.proofs.laws.a_label_of_a_pack_has_its_index.Goals as goal

pub returns : goal.returns
returns c = λ sectors label is indexed. of_pack_index sectors label is indexed
