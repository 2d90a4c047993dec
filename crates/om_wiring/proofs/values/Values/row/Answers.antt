use Rattle.om_wiring.proofs.TableLaws.{place_within, row_found}
use Rattle.om_wiring.proofs.values.Values.row.Goals as goal

pub listed : goal.listed
listed c =
    place_within c.self.inside.chi.now c.args.self.now c.self.inside.rows c.args.p c.args.x c.self.invariant
    c.self.view_is c.requires.p c.requires.x

pub returns-clause-row : goal.returns-clause-row
returns-clause-row c =
    row_found c.self.inside.chi.now c.args.self.now c.self.inside.rows c.args.p c.args.x c.index-rows-x.result
    c.self.invariant c.self.view_is c.requires.p c.requires.x
