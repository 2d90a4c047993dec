use Rattle.std.proofs.Common.{All, subst}
use Rattle.om_levels.specs.Levels.{IsChirotopeOfRank3}
use Rattle.om_levels.proofs.Rows.{members_of_rank_3}
use Rattle.om_levels.proofs.level.Level.elements.Goals as goal

pub returns-clause-members : goal.returns-clause-members
returns-clause-members c =
    let a = c.self.inside in
    subst (λ v. All (IsChirotopeOfRank3 v.elements) v.maps) c.self.view_is
    (members_of_rank_3 a.elements a.count a.bytes.items c.self.invariant)
