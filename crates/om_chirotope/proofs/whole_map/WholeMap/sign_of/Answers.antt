use Rattle.std.proofs.Common.{subst, arith, length, ◌≡◌, ◌∙◌, sym, ap}
use Rattle.std.proofs.lemmas.Option.{get_or_from_slice_get}
use Rattle.om_signs.specs.declared.sign.Sign.TheVariants.{Zero}
use Rattle.om_signs.specs.SignVec.{at}
use Rattle.om_subsets.specs.Subsets.{choose, rank_of}
use Rattle.om_subsets.proofs.Order.{rank_from-lt}
use Rattle.om_chirotope.specs.Map.{IsWholeMap, chi_of}
use Rattle.om_chirotope.proofs.InOrder.{value_in_order}
use Rattle.om_chirotope.proofs.whole_map.WholeMap.sign_of.Goals as goal

pub returns-clause-value : goal.returns-clause-value
returns-clause-value c =
    sym (get_or_from_slice_get c.args.self.now.signs c.args.place _ Zero (rw (← c.self.view_is) c.at.ensures))
    ∙ ap (at c.args.self.now.signs) (c.requires.place ∙ ap (λ n. rank_of n c.args.s.elements) c.requires.n)
    ∙ sym (value_in_order 1 c.args.s.n (chi_of c.args.self.now) c.args.s.elements c.requires.list)

pub returns-clause-place : goal.returns-clause-place
returns-clause-place c =
    sym (get_or_from_slice_get c.args.self.now.signs c.args.place _ Zero (rw (← c.self.view_is) c.at.ensures))
    ∙ ap (at c.args.self.now.signs) (c.requires.place ∙ ap (λ n. rank_of n c.args.s.elements) c.requires.n)

pub at-requires : goal.at-requires
at-requires c =
    let few = rank_from-lt 1 c.args.s.n c.args.s.elements c.requires.list in
    let same : choose c.args.s.n (length c.args.s.elements) ≡ length c.args.self.now.signs =
    ap (λ n. choose n (length c.args.s.elements)) c.requires.n
    ∙ ap (choose c.args.self.now.elements) c.requires.size ∙ sym (subst IsWholeMap c.self.view_is
    c.self.invariant).whole in
    let place = c.requires.place in
    let signs = ap (λ m. length m.signs) c.self.view_is in
    omega (arith, few, same, place, signs)
