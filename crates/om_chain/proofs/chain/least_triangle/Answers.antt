use Rattle.std.proofs.Common.{List, ◌∷◌, [], ◌++◌, ◌∙◌, sym, ap, subst}
use Rattle.om_signs.specs.declared.sign.Sign.{Sign}
use Rattle.om_signs.specs.declared.sign.Sign.TheVariants.{Minus}
use Rattle.om_chirotope.specs.Map.{SignMap}
use Rattle.om_chirotope.specs.Chirotope.{IsChirotope}
use Rattle.om_chain.proofs.Shown.{least_simple}
use Rattle.om_chain.proofs.chain.least_triangle.Goals as goal

-- the map of rank 3 on three elements with these signs
abbrev of_three : List Sign → SignMap
of_three signs = record { rank = 3; elements = 3; signs = signs }

pub lawful-requires-clause-axioms : goal.lawful-requires-clause-axioms
lawful-requires-clause-axioms c =
    let q = c.in_ok-push.ensures.ok ∙ ap (λ (signs : List Sign). signs ++ Minus ∷ []) c.new-signs.ensures in
    subst (λ signs. IsChirotope (of_three signs)) (sym q) least_simple.axioms

pub returns : goal.returns
returns c =
    let q = c.in_ok-push.ensures.ok ∙ ap (λ (signs : List Sign). signs ++ Minus ∷ []) c.new-signs.ensures in
    c.lawful.ensures ∙ ap of_three q
