use Rattle.std.specs.List.{Contains}
use Rattle.std.proofs.Common.{◌≡◌, sym, ◌∙◌, subst}
use Rattle.om_convert.proofs.GatheringLaws.{unchanged}
use Rattle.om_convert.proofs.member_set.MemberSet.insert_beside.Goals as goal

pub returns-then-are_same-clause-added : goal.returns-then-are_same-clause-added
returns-then-are_same-clause-added c =
    unchanged (λ X. X ≡ c.args.x) c.args.self.now
    (λ X q. subst (Contains c.args.self.now) (sym (q ∙ c.are_same.ensures.0 c.if-are_same.true)) c.requires.first)

pub returns-then-are_same-2-clause-added : goal.returns-then-are_same-2-clause-added
returns-then-are_same-2-clause-added c =
    unchanged (λ X. X ≡ c.args.x) c.args.self.now
    (λ X q. subst (Contains c.args.self.now) (sym (q ∙ c.are_same-2.ensures.0 c.if-are_same-2.true)) c.requires.second)

pub returns-then-contains-clause-added : goal.returns-then-contains-clause-added
returns-then-contains-clause-added c =
    unchanged (λ X. X ≡ c.args.x) c.args.self.now
    (λ X q. subst (Contains c.args.self.now) (sym q) (c.contains.ensures.0 c.if-contains.true))
