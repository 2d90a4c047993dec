use Rattle.std.proofs.Common.{◌↔◌, ◌∙◌, IsTrue, ap, length, subst, sym}
use Rattle.om_signs.specs.SignVec.{IsOrthogonal}
use Rattle.om_laws.specs.Relations.{around}
use Rattle.om_laws.proofs.BridgeLaws.{length-as_list}
use Rattle.om_chirotope.specs.Map.{value_of}
use Rattle.om_oriented.proofs.chirotopes.is_orthogonal_to.Goals as goal

pub orthogonal-requires : goal.orthogonal-requires
orthogonal-requires c = c.requires.length
    ∙ sym (ap length c.circuit_of.ensures
    ∙ length-as_list c.args.chi.now.elements (around (value_of c.args.chi.now) c.args.s.elements))

pub returns : goal.returns
returns c =
    subst (λ v. IsTrue c.orthogonal.result ↔ IsOrthogonal c.args.x v) c.circuit_of.ensures c.orthogonal.ensures
