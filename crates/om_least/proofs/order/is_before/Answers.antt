use Rattle.std.proofs.Common.{◌∙◌, ◌<◌, ◌≤◌, refl, sym, arith}
use Rattle.std.proofs.lemmas.Bool.{false≢true}
use Rattle.om_subsets.specs.Subsets.{choose}
use Rattle.om_chirotope.specs.Map.{chi_of}
use Rattle.om_least.proofs.Orders.{same_order, less_not_equal, greater_not_equal, greater_not_less, equal_not_less}
use Rattle.om_least.proofs.Reverse.{differs_at, agrees_more, agrees_on_all}
use Rattle.om_least.proofs.order.is_before.Goals as goal

pub returns-in-Less : goal.returns-in-Less
returns-in-Less c =
    let a = c.args.a.now in
    let b = c.args.b.now in
    let n = c.elements-elements.result in
    let r = c.rank-rank.result in
    let test = c.loop-place-test.true in
    let end = c.choose-place-end.ensures.value in
    let lt : c.loop-place.place < choose n r = omega (arith, test, end) in
    let before = sym (same_order a b n r c.elements-elements.ensures.value c.rank-rank.ensures.value c.requires.elements
    c.requires.rank)
    ∙ differs_at n r (chi_of a) (chi_of b) c.loop-place.place c.unrank_revlex-s.result.elements c.at.result
    c.at-in-loop-place.result _ lt c.unrank_revlex-s.ensures.elements c.at.ensures.place
    c.at-in-loop-place.ensures.place c.loop-place.invariant c.in-Less.ensures less_not_equal in
    (λ t. before, λ t. refl)

pub returns-in-Greater : goal.returns-in-Greater
returns-in-Greater c =
    let a = c.args.a.now in
    let b = c.args.b.now in
    let n = c.elements-elements.result in
    let r = c.rank-rank.result in
    let test = c.loop-place-test.true in
    let end = c.choose-place-end.ensures.value in
    let lt : c.loop-place.place < choose n r = omega (arith, test, end) in
    let behind = sym (same_order a b n r c.elements-elements.ensures.value c.rank-rank.ensures.value c.requires.elements
    c.requires.rank)
    ∙ differs_at n r (chi_of a) (chi_of b) c.loop-place.place c.unrank_revlex-s.result.elements c.at.result
    c.at-in-loop-place.result _ lt c.unrank_revlex-s.ensures.elements c.at.ensures.place
    c.at-in-loop-place.ensures.place c.loop-place.invariant c.in-Greater.ensures greater_not_equal in
    (λ t. absurd (false≢true t), λ t. absurd (greater_not_less (sym behind ∙ t)))

pub loop-place-preserved : goal.loop-place-preserved
loop-place-preserved c =
    let n = c.elements-elements.result in
    let r = c.rank-rank.result in
    let test = c.loop-place-test.true in
    let end = c.choose-place-end.ensures.value in
    let lt : c.loop-place.place < choose n r = omega (arith, test, end) in
    agrees_more n r (chi_of c.args.a.now) (chi_of c.args.b.now) c.loop-place.place c.unrank_revlex-s.result.elements
    c.at.result c.at-in-loop-place.result lt c.unrank_revlex-s.ensures.elements c.at.ensures.place
    c.at-in-loop-place.ensures.place c.loop-place.invariant c.in-Equal.ensures

pub returns : goal.returns
returns c =
    let a = c.args.a.now in
    let b = c.args.b.now in
    let n = c.elements-elements.result in
    let r = c.rank-rank.result in
    let test = c.loop-place-test.false in
    let end = c.choose-place-end.ensures.value in
    let all : choose n r ≤ c.loop-place.place = omega (arith, test, end) in
    let same = sym (same_order a b n r c.elements-elements.ensures.value c.rank-rank.ensures.value c.requires.elements
    c.requires.rank)
    ∙ agrees_on_all n r (chi_of a) (chi_of b) c.loop-place.place all c.loop-place.invariant in
    (λ t. absurd (false≢true t), λ t. absurd (equal_not_less (sym same ∙ t)))
