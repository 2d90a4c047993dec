use Rattle.std.proofs.Common.{ap, ◌∙◌, arith, length}
use Rattle.om_subsets.specs.Subsets.{with_element}
use Rattle.om_signs.specs.Sign.{opposite}
use Rattle.om_chirotope.specs.Map.{value_of}
use Rattle.om_chirotope.proofs.Cocircuits.{with_lawful}
use Rattle.om_threeterm.proofs.TurnedValues.{value_same, value_turned, whole_size, same_tests, other_tests}
use Rattle.om_threeterm.proofs.relations.value_with.Goals as goal

pub sign_at-sign-requires-clause-size : goal.sign_at-sign-requires-clause-size
sign_at-sign-requires-clause-size c =
    let m = c.args.map.now in
    let p = c.args.p.elements in
    let x = c.args.x in
    let y = c.args.y in
    let low = c.requires.x_low in
    let order = c.requires.order in
    let n1 = c.with.ensures.n ∙ c.requires.n in
    let n2 = c.with-2.ensures.n ∙ n1 in
    let e2 = c.with-2.ensures.elements ∙ ap (with_element y) c.with.ensures.elements in
    let list = c.requires.list in
    let first = with_lawful m.elements c.with.result (with_element x p) n1 c.with.ensures.elements c.with.ensures.lawful
    in
    let both = with_lawful m.elements c.with-2.result (with_element y (with_element x p)) n2 e2 c.with-2.ensures.lawful
    in
    ap length e2
    ∙ whole_size m p x y list first both c.requires.x_off c.requires.y_off order (omega arith) c.requires.y_high
    c.requires.size

pub sign_at-sign-requires-clause-n : goal.sign_at-sign-requires-clause-n
sign_at-sign-requires-clause-n c = c.with-2.ensures.n ∙ c.with.ensures.n ∙ c.requires.n

pub returns-then-odd_after : goal.returns-then-odd_after
returns-then-odd_after c =
    let m = c.args.map.now in
    let p = c.args.p.elements in
    let x = c.args.x in
    let y = c.args.y in
    let low = c.requires.x_low in
    let order = c.requires.order in
    let n1 = c.with.ensures.n ∙ c.requires.n in
    let n2 = c.with-2.ensures.n ∙ n1 in
    let e2 = c.with-2.ensures.elements ∙ ap (with_element y) c.with.ensures.elements in
    let list = c.requires.list in
    let first = with_lawful m.elements c.with.result (with_element x p) n1 c.with.ensures.elements c.with.ensures.lawful
    in
    let both = with_lawful m.elements c.with-2.result (with_element y (with_element x p)) n2 e2 c.with-2.ensures.lawful
    in
    c.sign_at-sign.ensures.value ∙ ap (value_of m) e2
    ∙ value_same m p x y list first both c.requires.x_off c.requires.y_off order (omega arith) c.requires.y_high
    (same_tests _ _ c.odd_after.result c.odd_after-2.result c.odd_after.ensures c.odd_after-2.ensures
    c.if-odd_after.true)

pub returns-else-odd_after : goal.returns-else-odd_after
returns-else-odd_after c =
    let m = c.args.map.now in
    let p = c.args.p.elements in
    let x = c.args.x in
    let y = c.args.y in
    let low = c.requires.x_low in
    let order = c.requires.order in
    let n1 = c.with.ensures.n ∙ c.requires.n in
    let n2 = c.with-2.ensures.n ∙ n1 in
    let e2 = c.with-2.ensures.elements ∙ ap (with_element y) c.with.ensures.elements in
    let list = c.requires.list in
    let first = with_lawful m.elements c.with.result (with_element x p) n1 c.with.ensures.elements c.with.ensures.lawful
    in
    let both = with_lawful m.elements c.with-2.result (with_element y (with_element x p)) n2 e2 c.with-2.ensures.lawful
    in
    c.neg.ensures
    ∙ ap opposite
    (c.sign_at-sign.ensures.value ∙ ap (value_of m) e2)
    ∙ value_turned m p x y list first both c.requires.x_off c.requires.y_off order (omega arith) c.requires.y_high
    (other_tests _ _ c.odd_after.result c.odd_after-2.result c.odd_after.ensures c.odd_after-2.ensures
    c.if-odd_after.false)
