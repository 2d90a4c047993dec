use Rattle.std.proofs.Common.{◌≡◌, ◌∙◌, length, take, map, ap, sym, refl, set, subst, arith, ◌∷◌}
use Rattle.om_laws.specs.Sorting.{IsElement, Each}
use Rattle.om_symmetry.specs.declared.signed_element.SignedElement.{SignedElement}
use Rattle.om_signs.specs.Sign.{product}
use Rattle.om_subsets.specs.Lists.{IsWithin}
use Rattle.om_chirotope.specs.Map.{value_of}
use Rattle.om_chirotope.proofs.Theory.{to_tuple}
use Rattle.om_symmetry.specs.Permutations.{element_at, sign_of}
use Rattle.om_symmetry.proofs.Tuples as old
use Rattle.om_least.proofs.Tuples.{tuple_begun}
use Rattle.om_least.proofs.comparing.image_sign.Goals as goal

pub loop-place-init : goal.loop-place-init
loop-place-init c =
    let w = c.args.beginning.now in
    let s = c.args.s.elements in
    record {
      state = old.tuple_begun w s _ refl;
      n = refl;
      first = (to_tuple (length w) (length s) s c.requires.first refl).within;
    }

pub at-a-requires-clause-high : goal.at-a-requires-clause-high
at-a-requires-clause-high c =
    (subst (Each (IsElement (length c.args.beginning.now))) c.least-i.ensures.first c.loop-place.invariant.first).0.1

pub loop-place-preserved : goal.loop-place-preserved
loop-place-preserved c =
    let w = c.args.beginning.now in
    let s = c.args.s.elements in
    let l = c.loop-place in
    let i = c.least-i.result in
    let few = c.size-size.ensures.within in
    let value = c.size-size.ensures.value in
    let small = c.size-size.ensures.small in
    record {
      state = old.tuple_more w s l.tuple (set l.tuple l.place c.at-a.result.element) l.place l.sign
          c.times-sign.result l.rest.elements c.without-rest.result.elements i c.at-a.result.element c.sign.result
          (c.least-i.ensures.first ∙ ap (λ t. i ∷ t) (sym c.without-rest.ensures.elements))
          (ap (λ (a : SignedElement). a.element) c.at-a.ensures) (c.sign.ensures ∙ ap sign_of c.at-a.ensures) refl
          c.times-sign.ensures (omega arith) l.invariant.state;
      n = c.without-rest.ensures.n ∙ l.invariant.n;
      first = subst (Each (IsElement (length w))) (sym c.without-rest.ensures.elements)
          (subst (Each (IsElement (length w))) c.least-i.ensures.first l.invariant.first).1;
    }

pub value-requires-clause-within : goal.value-requires-clause-within
value-requires-clause-within c =
    let w = c.args.beginning.now in
    let m = c.args.chi.now in
    let s = c.args.s.elements in
    let l = c.loop-place in
    let count = l.invariant.state.count in
    let value = c.size-size.ensures.value in
    let low = c.loop-place-test.false in
    let high = l.auto.place-end in
    let all : l.place ≡ c.size-size.result = omega arith in
    let none : length l.rest.elements ≡ 0 = omega arith in
    subst (λ k. IsWithin 1 m.elements (take k l.tuple)) all
    (tuple_begun m.elements w c.requires.begun s l.tuple l.place l.sign l.rest.elements none l.invariant.state
    (to_tuple (length w) (length s) s c.requires.first refl).within)

pub returns : goal.returns
returns c =
    let w = c.args.beginning.now in
    let m = c.args.chi.now in
    let s = c.args.s.elements in
    let l = c.loop-place in
    let count = l.invariant.state.count in
    let value = c.size-size.ensures.value in
    let low = c.loop-place-test.false in
    let high = l.auto.place-end in
    let all : c.size-size.result ≡ l.place = omega arith in
    let none : length l.rest.elements ≡ 0 = omega arith in
    let tuple = old.tuple_all w s l.tuple l.place l.sign l.rest.elements none l.invariant.state in
    c.times.ensures
    ∙ ap (product l.sign) (c.value.ensures ∙ ap (λ k. value_of m (take k l.tuple)) all ∙ ap (value_of m) tuple)
    ∙ ap (λ t. product t (value_of m (map (element_at w) s)))
    (old.signs_all w s l.tuple l.place l.sign l.rest.elements none l.invariant.state)
