use Rattle.om_document.proofs.printer.kind_line.Goals as goal

pub returns-in-Circuits : goal.returns-in-Circuits
returns-in-Circuits c = rw c.in-Circuits.is c.list_line.ensures

pub returns-in-Cocircuits : goal.returns-in-Cocircuits
returns-in-Cocircuits c = rw c.in-Cocircuits.is c.list_line-in-Cocircuits.ensures

pub returns-in-Covectors : goal.returns-in-Covectors
returns-in-Covectors c = rw c.in-Covectors.is c.list_line-in-Covectors.ensures

pub returns-in-Wiring : goal.returns-in-Wiring
returns-in-Wiring c = rw c.in-Wiring.is c.list_line-in-Wiring.ensures

pub returns-in-Points : goal.returns-in-Points
returns-in-Points c = rw c.in-Points.is c.list_line-in-Points.ensures
