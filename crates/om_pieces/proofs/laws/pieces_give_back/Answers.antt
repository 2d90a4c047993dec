use Rattle.om_pieces.proofs.GivingBack.{gives_back}
use Rattle.om_pieces.proofs.laws.pieces_give_back.Goals as goal

pub returns : goal.returns
returns c = gives_back
