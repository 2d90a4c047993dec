use Rattle.std.proofs.Common.{◌≡◌, length, sym, subst}
use Rattle.om_members.specs.Listings.{HaveLength}
use Rattle.om_covectors.specs.Minimality.{IsMinimal}
use Rattle.om_denotation.proofs.SelectionLaws.{those_all}
use Rattle.om_convert.proofs.reading.are_covectors_of_proposal.Goals as goal

pub proposed_chirotope-requires-clause-lengths : goal.proposed_chirotope-requires-clause-lengths
proposed_chirotope-requires-clause-lengths g c κs within = subst (HaveLength c.args.elements) (sym c.as_slice.ensures)
    (those_all (IsMinimal c.args.vectors.now) (λ X. length X ≡ c.args.elements) c.args.vectors.now
    c.in_ok-minimal.minimal c.in_ok-minimal.ensures c.requires.lengths)
