use Rattle.om_convert.proofs.signs.carried.Goals as goal

pub returns : goal.returns
returns c = cc
