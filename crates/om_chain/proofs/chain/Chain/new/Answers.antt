use Rattle.std.proofs.Common.{List, ◌∷◌, [], ◌++◌, ◌∙◌, ap}
use Rattle.om_chirotope.specs.Map.{SignMap}
use Rattle.om_chain.proofs.Steps.{made_chain, made_begun}
use Rattle.om_chain.proofs.chain.Chain.new.Goals as goal

pub invariant_of-result : goal.invariant_of-result
invariant_of-result c =
    let m = c.in_ok-least_triangle.field-0 in
    let three = c.push.ensures.elements ∙ c.new-shown.ensures.elements in
    let one = c.in_ok-push.ensures.ok ∙ ap (λ (maps : List SignMap). maps ++ m ∷ []) c.new-shown.ensures.maps
    ∙ ap (λ (k : SignMap). k ∷ []) c.in_ok-least_triangle.ensures in
    made_chain c.args.asked c.args.family c.push.new.self c.new-current.result three one c.new-current.ensures.elements
    c.new-current.ensures.maps

pub returns : goal.returns
returns c =
    let m = c.in_ok-least_triangle.field-0 in
    let three = c.push.ensures.elements ∙ c.new-shown.ensures.elements in
    let one = c.in_ok-push.ensures.ok ∙ ap (λ (maps : List SignMap). maps ++ m ∷ []) c.new-shown.ensures.maps
    ∙ ap (λ (k : SignMap). k ∷ []) c.in_ok-least_triangle.ensures in
    made_begun c.args.asked c.args.family c.push.new.self c.new-current.result three one c.new-current.ensures.elements
    c.new-current.ensures.maps
