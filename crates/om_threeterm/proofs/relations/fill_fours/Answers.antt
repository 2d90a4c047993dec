use Rattle.std.proofs.Common.{length}
use Rattle.om_threeterm.proofs.SetLaws.{whole_table}
use Rattle.om_threeterm.proofs.relations.fill_fours.Goals as goal

pub returns : goal.returns
returns c = whole_table c.args.elements 4 (length c.args.table.now) c.fill.new.table c.requires.room c.fill.ensures
