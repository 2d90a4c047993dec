use Rattle.std.proofs.Common.{inl, refl}
use Rattle.om_representation.proofs.documents.circuits_document.Goals as goal

pub returns-clause-form : goal.returns-clause-form
returns-clause-form c =
    let set = c.elements-elements.ensures.lawful in
    rw (c.elements-elements.ensures.value, c.into_list.ensures.value, c.new.ensures)
    (record {
      low = set.low;
      high = set.high;
      body = record { few = set.few; long = set.lengths; distinct = set.distinct };
      names = inl refl;
    })

pub returns-clause-axioms : goal.returns-clause-axioms
returns-clause-axioms c = rw c.into_list.ensures.value c.into_list.ensures.lawful.axioms

pub returns-clause-value : goal.returns-clause-value
returns-clause-value c = rw (c.elements-elements.ensures.value, c.into_list.ensures.value, c.new.ensures)
