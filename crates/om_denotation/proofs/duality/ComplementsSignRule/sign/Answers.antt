use Rattle.std.proofs.Common.{◌++◌, ap, subst, ◌∙◌}
use Rattle.om_signs.specs.Sign.{product}
use Rattle.om_subsets.specs.Subsets.{IsSubsetFrom}
use Rattle.om_laws.specs.Chirotope.{elements_to}
use Rattle.om_laws.specs.Dual.{complement}
use Rattle.om_laws.specs.Tuples.{sort_sign}
use Rattle.om_chirotope.specs.Map.{chi_of}
use Rattle.om_denotation.proofs.ListingSigns.{complement_is}
use Rattle.om_denotation.proofs.duality.ComplementsSignRule.sign.Goals as goal

pub returns : goal.returns
returns c =
    let xs = c.args.s.elements in
    let rest = c.complement-rest.ensures in
    let off = complement_is c.args.s.n xs c.complement-rest.result.elements
    (subst (λ n. IsSubsetFrom 1 n c.complement-rest.result.elements) rest.n rest.lawful) rest.members in
    c.times.ensures
    ∙ ap (λ s. product s c.at-sign.result)
    (c.listing_sign.ensures ∙ ap (λ n. sort_sign (xs ++ complement (elements_to n) xs)) c.requires.n)
    ∙ ap (product (sort_sign (xs ++ complement (elements_to c.args.self.now.chi.now.elements) xs)))
    (c.at-sign.ensures.place
    ∙ ap (chi_of c.args.self.now.chi.now) (off ∙ ap (λ n. complement (elements_to n) xs) c.requires.n))
