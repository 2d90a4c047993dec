use Rattle.std.proofs.Common.{refl}
use Rattle.om_subsets.specs.Subsets.{subset_at}
use Rattle.om_threeterm.proofs.ExchangePlaces.{unexchanged_of_apart, apart_of_unexchanged, none_so, some_so}
use Rattle.om_threeterm.proofs.exchanges.Bases.first_unexchanged_by.Goals as goal

pub returns-clause-none : goal.returns-clause-none
returns-clause-none c =
    let m = c.args.self.now.map.now in
    none_so c.first_basis_apart.result _ _
    (λ h j l u. h j l u.second
    (apart_of_unexchanged m c.args.b.elements (subset_at m.elements m.rank j)
    c.in_place_of.result.elements c.args.e c.in_place_of.ensures.each u))
    c.first_basis_apart.ensures.none

pub returns-clause-here : goal.returns-clause-here
returns-clause-here c =
    let m = c.args.self.now.map.now in
    some_so c.first_basis_apart.result _ _ _
    (λ k basis apart. unexchanged_of_apart m c.args.b.elements (subset_at m.elements m.rank k)
    c.in_place_of.result.elements c.args.e c.requires.basis basis (c.if-not-has.ensures.0 refl)
    c.in_place_of.ensures.each apart)
    c.first_basis_apart.ensures.basis c.first_basis_apart.ensures.apart

pub returns-clause-earlier : goal.returns-clause-earlier
returns-clause-earlier c =
    let m = c.args.self.now.map.now in
    some_so c.first_basis_apart.result _ _ _
    (λ k within h j l u. h j l u.second
    (apart_of_unexchanged m c.args.b.elements (subset_at m.elements m.rank j)
    c.in_place_of.result.elements c.args.e c.in_place_of.ensures.each u))
    c.first_basis_apart.ensures.within c.first_basis_apart.ensures.earlier
