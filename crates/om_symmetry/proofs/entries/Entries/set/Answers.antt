use Rattle.std.proofs.Common.{◌-◌, ◌∙◌, ap, set}
use Rattle.om_symmetry.proofs.Steps.{table_set}
use Rattle.om_symmetry.proofs.entries.Entries.set.Goals as goal

pub returns : goal.returns
returns c = table_set c.self.inside.len (c.args.place - 1) c.self.inside.table c.args.a
    ∙ ap (λ xs. set xs (c.args.place - 1) c.args.a) c.self.view_is
