use Rattle.std.specs.List.{Contains}
use Rattle.std.proofs.Common.{sym, ◌∙◌, subst}
use Rattle.om_convert.proofs.KeyLaws.{contained, is_found}
use Rattle.om_convert.proofs.member_set.MemberSet.contains.Goals as goal

pub returns : goal.returns
returns c = (
  λ t. subst (λ l. Contains l c.args.x) c.self.view_is
      (contained c.self.inside.set.keys c.args.x (sym c.contains.ensures ∙ t)),
  λ k. c.contains.ensures
      ∙ is_found c.self.inside.set.keys c.args.x (subst (λ l. Contains l c.args.x) (sym c.self.view_is) k),
)
