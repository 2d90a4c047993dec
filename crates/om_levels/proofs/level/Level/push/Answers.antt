use Rattle.std.proofs.Common.{◌≡◌, ◌+◌, ◌++◌, ◌∷◌, [], ◌∙◌, length, sym, ap, subst}
use Rattle.om_subsets.specs.Subsets.{choose}
use Rattle.om_levels.specs.Packing.{packed}
use Rattle.om_levels.specs.Levels.{Members, row_maps, AreRows}
use Rattle.om_levels.proofs.Rows.{rows_more, are_rows_more}
use Rattle.om_levels.proofs.level.Level.push.Goals as goal

pub invariant_of-self-2 : goal.invariant_of-self-2
invariant_of-self-2 c =
    let a = c.self.inside in
    let m = c.args.chi.now in
    let e = c.requires.elements ∙ sym (ap (λ (v : Members). v.elements) c.self.view_is) in
    let size : length m.signs ≡ choose a.elements 3 =
    c.elements.ensures.lawful.whole.whole ∙ ap (λ k. choose k m.rank) e ∙ ap (choose a.elements) c.requires.rank in
    let items = c.in_ok-push_packed.ensures.ok ∙ ap (λ s. a.bytes.items ++ packed s) c.signs.ensures in
    subst (AreRows a.elements (a.count + 1)) (sym items)
    (are_rows_more a.elements a.count a.bytes.items m c.self.invariant c.elements.ensures.lawful c.requires.rank e size)

pub returns-clause-ok : goal.returns-clause-ok
returns-clause-ok c =
    let a = c.self.inside in
    let m = c.args.chi.now in
    let e = c.requires.elements ∙ sym (ap (λ (v : Members). v.elements) c.self.view_is) in
    let size : length m.signs ≡ choose a.elements 3 =
    c.elements.ensures.lawful.whole.whole ∙ ap (λ k. choose k m.rank) e ∙ ap (choose a.elements) c.requires.rank in
    let items = c.in_ok-push_packed.ensures.ok ∙ ap (λ s. a.bytes.items ++ packed s) c.signs.ensures in
    ap (row_maps a.elements (a.count + 1)) items
    ∙ rows_more a.elements a.count a.bytes.items m c.self.invariant.whole c.requires.rank e size
    ∙ ap (λ (v : Members). v.maps ++ m ∷ []) c.self.view_is
