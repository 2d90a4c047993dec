use Rattle.om_commands.proofs.membership.find_membership.Goals as goal

pub returns-in-Chirotope : goal.returns-in-Chirotope
returns-in-Chirotope c = rw c.in-Chirotope.is c.membership_in.ensures

pub returns-in-Circuits : goal.returns-in-Circuits
returns-in-Circuits c = rw c.in-Circuits.is c.membership_in-in-Circuits.ensures

pub returns-in-Cocircuits : goal.returns-in-Cocircuits
returns-in-Cocircuits c = rw c.in-Cocircuits.is c.membership_in-in-Cocircuits.ensures

pub returns-in-Covectors : goal.returns-in-Covectors
returns-in-Covectors c = rw c.in-Covectors.is c.membership_in-in-Covectors.ensures
