use Rattle.om_pieces.proofs.Feeding.{cut_pieces, whole_pieces, has_one_cut}
use Rattle.om_pieces.proofs.laws.one_cut.Goals as goal

pub returns-clause-one : goal.returns-clause-one
returns-clause-one c = has_one_cut

pub returns-clause-made : goal.returns-clause-made
returns-clause-made c = cut_pieces

pub returns-clause-whole : goal.returns-clause-whole
returns-clause-whole c = whole_pieces
