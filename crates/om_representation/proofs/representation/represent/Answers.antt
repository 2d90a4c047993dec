use Rattle.std.specs.Prelude.{Result, Ok, Err, IsOk, OnOk}
use Rattle.std.proofs.Common.{refl, subst}
use Rattle.om_document.specs.Form.{IsBodyOn}
use Rattle.om_representation.proofs.representation.represent.Goals as goal

on_ok_from : {T E P : Type 0} (r : Result T E) → (IsOk r → P) → OnOk r P
on_ok_from (Ok x) h = h refl
on_ok_from (Err e) h = tt

pub returns-in-Chirotope-clause-accepted : goal.returns-in-Chirotope-clause-accepted
returns-in-Chirotope-clause-accepted g c =
    rw c.in-Chirotope.is (on_ok_from c.represent_map.result c.represent_map.ensures.accepted.0)

pub returns-in-Chirotope-clause-bent : goal.returns-in-Chirotope-clause-bent
returns-in-Chirotope-clause-bent g c = rw c.in-Chirotope.is (on_ok_from c.represent_map.result (λ ok flat. flat))

pub returns-in-Chirotope-clause-value : goal.returns-in-Chirotope-clause-value
returns-in-Chirotope-clause-value g c =
    let form = subst (IsBodyOn c.args.document.elements) c.in-Chirotope.is c.requires.body in
    rw (c.in-Chirotope.is, ← form.elements) c.represent_map.ensures.value

pub returns-in-Chirotope-clause-refused : goal.returns-in-Chirotope-clause-refused
returns-in-Chirotope-clause-refused g c =
    let form = subst (IsBodyOn c.args.document.elements) c.in-Chirotope.is c.requires.body in
    rw (c.in-Chirotope.is, ← form.elements) c.represent_map.ensures.refused

pub represent_circuits-requires-clause-members : goal.represent_circuits-requires-clause-members
represent_circuits-requires-clause-members g c _ _ =
    subst (IsBodyOn c.args.document.elements) c.in-Circuits.is c.requires.body

pub returns-in-Circuits-clause-accepted : goal.returns-in-Circuits-clause-accepted
returns-in-Circuits-clause-accepted g c = rw c.in-Circuits.is c.represent_circuits.ensures.accepted

pub returns-in-Circuits-clause-value : goal.returns-in-Circuits-clause-value
returns-in-Circuits-clause-value g c = rw c.in-Circuits.is c.represent_circuits.ensures.value

pub returns-in-Circuits-clause-refused : goal.returns-in-Circuits-clause-refused
returns-in-Circuits-clause-refused g c = rw c.in-Circuits.is c.represent_circuits.ensures.refused

pub represent_cocircuits-requires-clause-members : goal.represent_cocircuits-requires-clause-members
represent_cocircuits-requires-clause-members g c _ _ =
    subst (IsBodyOn c.args.document.elements) c.in-Cocircuits.is c.requires.body

pub returns-in-Cocircuits-clause-accepted : goal.returns-in-Cocircuits-clause-accepted
returns-in-Cocircuits-clause-accepted g c = rw c.in-Cocircuits.is c.represent_cocircuits.ensures.accepted

pub returns-in-Cocircuits-clause-value : goal.returns-in-Cocircuits-clause-value
returns-in-Cocircuits-clause-value g c = rw c.in-Cocircuits.is c.represent_cocircuits.ensures.value

pub returns-in-Cocircuits-clause-refused : goal.returns-in-Cocircuits-clause-refused
returns-in-Cocircuits-clause-refused g c = rw c.in-Cocircuits.is c.represent_cocircuits.ensures.refused

pub represent_covectors-requires-clause-members : goal.represent_covectors-requires-clause-members
represent_covectors-requires-clause-members g c _ _ =
    subst (IsBodyOn c.args.document.elements) c.in-Covectors.is c.requires.body

pub returns-in-Covectors-clause-accepted : goal.returns-in-Covectors-clause-accepted
returns-in-Covectors-clause-accepted g c = rw c.in-Covectors.is c.represent_covectors.ensures.accepted

pub returns-in-Covectors-clause-value : goal.returns-in-Covectors-clause-value
returns-in-Covectors-clause-value g c = rw c.in-Covectors.is c.represent_covectors.ensures.value

pub returns-in-Covectors-clause-refused : goal.returns-in-Covectors-clause-refused
returns-in-Covectors-clause-refused g c = rw c.in-Covectors.is c.represent_covectors.ensures.refused

pub returns-clause-accepted : goal.returns-clause-accepted
returns-clause-accepted g c = rw c.in-Points.is (rw c.as_slice.ensures at c.represent_points.ensures.accepted)

pub returns-clause-value : goal.returns-clause-value
returns-clause-value g c = rw c.in-Points.is (rw c.as_slice.ensures at c.represent_points.ensures.value)

pub returns-clause-refused : goal.returns-clause-refused
returns-clause-refused g c =
    let form = subst (IsBodyOn c.args.document.elements) c.in-Points.is c.requires.body in
    rw c.in-Points.is (rw form.count at (rw c.as_slice.ensures at c.represent_points.ensures.refused))
