use Rattle.std.proofs.Common.{◌≡◌, ◌++◌, ◌∙◌, sym, ap, subst, IfSome}
use Rattle.om_levels.specs.Packing.{packed}
use Rattle.om_levels.specs.Levels.{Members, IsIsomorphicTo}
use Rattle.om_levels.proofs.Images.{found_member}
use Rattle.om_levels.proofs.table.Table.find.Goals as goal

pub returns : goal.returns
returns c =
    let a = c.self.inside in
    let image = c.in_ok-image.image in
    let key : c.as_slice.result.now ≡ packed image.signs =
    c.as_slice.ensures.value ∙ c.in_ok-push_packed.ensures.ok
    ∙ ap (λ xs. xs ++ packed c.signs.result.now) c.new-key.ensures.items ∙ ap packed c.signs.ensures in
    subst (λ v. IfSome c.place_of.result (IsIsomorphicTo v.maps c.args.chi.now)) c.self.view_is
    (found_member a.members.now a.images c.args.chi.now.elements c.args.chi.now image c.as_slice.result.now
    c.place_of.result c.self.invariant c.in_ok-image.ensures.isomorphic c.in_ok-image.ensures.kind
    (c.requires.elements ∙ sym (ap (λ (v : Members). v.elements) c.self.view_is)) key c.place_of.ensures)
