use Rattle.om_laws.specs.Dual.{dual_map}
use Rattle.om_laws.proofs.DualLaws.{dual_chirotope, dual_circuit, cocircuit_dual}
use Rattle.om_laws.proofs.FiniteExistence.{list_map, list_chirotope, list_member_cocircuit, list_cocircuit_member}
use Rattle.om_laws.proofs.families.chirotope_of_circuits.Goals as goal

pub returns-clause-circuits : goal.returns-clause-circuits
returns-clause-circuits c = λ E Ks d s a.
    let chi = list_map Ks E d s a in
    let om = list_chirotope Ks E d s a in (
      dual_map E chi,
      dual_chirotope E d chi om,
      λ X. (
        λ m. cocircuit_dual E d chi om X (list_member_cocircuit Ks E d s a X m),
        λ k. list_cocircuit_member Ks E d s a X (dual_circuit E d chi om X k),
      ),
    )

pub returns-clause-cocircuits : goal.returns-clause-cocircuits
returns-clause-cocircuits c =
    λ E Ks d s a. (
      list_map Ks E d s a,
      list_chirotope Ks E d s a,
      λ X. (list_member_cocircuit Ks E d s a X, list_cocircuit_member Ks E d s a X),
    )
