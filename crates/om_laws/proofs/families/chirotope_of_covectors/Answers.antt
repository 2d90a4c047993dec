use Rattle.om_laws.proofs.CovectorExistence.{covectors_map, covectors_chirotope, member_covector, covector_member}
use Rattle.om_laws.proofs.families.chirotope_of_covectors.Goals as goal

pub returns : goal.returns
returns c =
    λ E Ks d s a. (
      covectors_map Ks E d s a,
      covectors_chirotope Ks E d s a,
      λ X. (member_covector Ks E d s a X, covector_member Ks E d s a X),
    )
