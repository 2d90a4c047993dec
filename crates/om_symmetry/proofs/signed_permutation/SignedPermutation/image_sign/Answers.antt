use Rattle.std.proofs.Common.{◌≡◌, ◌∙◌, length, take, map, ap, sym, refl, set, subst, arith, ◌∷◌}
use Rattle.om_symmetry.specs.declared.signed_element.SignedElement.{SignedElement}
use Rattle.om_signs.specs.Sign.{product}
use Rattle.om_subsets.specs.Subsets.{IsSubsetFrom}
use Rattle.om_subsets.specs.Lists.{IsWithin}
use Rattle.om_chirotope.specs.Map.{value_of}
use Rattle.om_chirotope.proofs.Theory.{to_tuple}
use Rattle.om_symmetry.specs.Permutations.{IsSignedPermutation, element_at, sign_of, image_value}
use Rattle.om_symmetry.proofs.Tuples.{tuple_begun, tuple_more, tuple_all, signs_all, tuple_within}
use Rattle.om_symmetry.proofs.signed_permutation.SignedPermutation.image_sign.Goals as goal

pub loop-place-preserved : goal.loop-place-preserved
loop-place-preserved c =
    let w = c.self.inside.entries in
    let s = c.args.s.elements in
    let l = c.loop-place in
    let i = c.least-i.result in
    let few = c.size-size.ensures.within in
    let value = c.size-size.ensures.value in
    let small = c.size-size.ensures.small in
    record {
      state = tuple_more w s l.tuple (set l.tuple l.place c.at-a.result.element) l.place l.sign
          c.times-sign.result l.rest.elements c.without-rest.result.elements i c.at-a.result.element c.sign.result
          (c.least-i.ensures.first ∙ ap (λ t. i ∷ t) (sym c.without-rest.ensures.elements))
          (ap (λ (a : SignedElement). a.element) c.at-a.ensures) (c.sign.ensures ∙ ap sign_of c.at-a.ensures) refl
          c.times-sign.ensures (omega arith) l.invariant.state;
      n = c.without-rest.ensures.n ∙ l.invariant.n;
    }

pub value-requires-clause-within : goal.value-requires-clause-within
value-requires-clause-within c =
    let w = c.self.inside.entries in
    let m = c.args.chi.now in
    let s = c.args.s.elements in
    let l = c.loop-place in
    let count = l.invariant.state.count in
    let value = c.size-size.ensures.value in
    let low = c.loop-place-test.false in
    let high = l.auto.place-end in
    let all : l.place ≡ c.size-size.result = omega arith in
    let none : length l.rest.elements ≡ 0 = omega arith in
    subst (λ k. IsWithin 1 m.elements (take k l.tuple)) all
    (tuple_within w s l.tuple l.place l.sign l.rest.elements none l.invariant.state m.elements m.rank
    (subst (λ k. IsSignedPermutation k w) (ap length c.self.view_is ∙ c.requires.elements) c.self.invariant)
    (to_tuple m.elements m.rank s (subst (λ k. IsSubsetFrom 1 k s) c.requires.n c.size-size.ensures.lawful)
    c.requires.size))

pub returns : goal.returns
returns c =
    let w = c.self.inside.entries in
    let m = c.args.chi.now in
    let s = c.args.s.elements in
    let l = c.loop-place in
    let count = l.invariant.state.count in
    let value = c.size-size.ensures.value in
    let low = c.loop-place-test.false in
    let high = l.auto.place-end in
    let all : c.size-size.result ≡ l.place = omega arith in
    let none : length l.rest.elements ≡ 0 = omega arith in
    let tuple = tuple_all w s l.tuple l.place l.sign l.rest.elements none l.invariant.state in
    c.times.ensures
    ∙ ap (product l.sign) (c.value.ensures ∙ ap (λ k. value_of m (take k l.tuple)) all ∙ ap (value_of m) tuple)
    ∙ ap (λ t. product t (value_of m (map (element_at w) s)))
    (signs_all w s l.tuple l.place l.sign l.rest.elements none l.invariant.state)
    ∙ ap (λ u. image_value u (value_of m) s) c.self.view_is

pub at-a-requires : goal.at-a-requires
at-a-requires c =
    let w = ap length c.self.view_is in
    let high = c.least-i.ensures.high in
    let n = c.loop-place.invariant.n in
    let same = c.requires.n in
    let elements = c.requires.elements in
    record { low = c.least-i.ensures.low; high = omega arith }

pub loop-place-init : goal.loop-place-init
loop-place-init c = record { state = tuple_begun c.self.inside.entries c.args.s.elements _ refl; n = refl }
