use Rattle.std.proofs.Common.{◌≡◌, ◌+◌, ◌-◌, ◌<◌, ◌∙◌, [], ◌∷◌, length, map, sym, ap, subst, arith, get_or}
use Rattle.std.proofs.lemmas.List.{get_or_default}
use Rattle.om_signs.specs.declared.limits.TheConstants.{MAX_PLACES}
use Rattle.om_signs.specs.Sign.{opposite}
use Rattle.om_chirotope.specs.Pictures.{AreRowsBelow}
use Rattle.om_wiring.proofs.TableLaws.{row_before}
use Rattle.om_wiring.proofs.values.row_of.Goals as goal

pub returns-then-x-p : goal.returns-then-x-p
returns-then-x-p c =
    let m = c.args.chi.now in
    let e = c.elements-elements.ensures.value in
    let few = c.elements-elements.ensures.high in
    let size = c.requires.table_room in
    let low = c.requires.x.0 in
    let before = c.if-x-p.true in
    let high = c.requires.p.1 in
    let inside : c.args.x - 1 < length c.args.table.now = omega (arith, e, few, size, low, before, high) in
    let there : c.index-table-x.result ≡ get_or c.args.table.now (c.args.x - 1) [] = c.index-table-x.is
    ∙ get_or_default c.args.table.now (c.args.x - 1) c.index-table-x.result [] inside in
    let rows = subst (λ rs. (length rs ≡ MAX_PLACES) × AreRowsBelow m (c.args.x ∷ []) rs (m.elements + 1)) (sym there)
    (c.requires.before c.args.x low before) in
    let long = rows.0 in
    let within : c.args.p - 1 < length c.index-table-x.result = omega (arith, e, few, long, low, before, high) in
    c.neg.ensures
    ∙ ap (map opposite) (get_or_default c.index-table-x.result (c.args.p - 1) c.index-rows-p.result [] within
    ∙ rows.1.row c.args.p c.requires.p.0 (omega (arith, high)))
    ∙ row_before m c.args.x c.args.p c.requires.p before
