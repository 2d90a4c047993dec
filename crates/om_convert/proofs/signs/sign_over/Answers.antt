use Rattle.std.proofs.Common.{◌≡◌, ◌∙◌, ◌<◌, ℕ, List, ap, get_or, inl, length, subst, sym}
use Rattle.std.proofs.lemmas.List.{get_or_default}
use Rattle.om_signs.specs.declared.sign.Sign.{Sign}
use Rattle.om_signs.specs.declared.sign.Sign.TheVariants.{Minus, Zero}
use Rattle.om_signs.specs.SignVec.{at}
use Rattle.om_subsets.specs.Subsets.{rank_of, with_element, without_element}
use Rattle.om_convert.specs.Hitting.{IsCarrier, IsNonzeroOn, MeetsEach, carried_sign, replaced}
use Rattle.om_convert.proofs.CarryLaws.{carrier_earlier}
use Rattle.om_convert.proofs.signs.sign_over.Goals as goal

-- the place of the set with another element, from the results of calls
place_of : (n i j e h k : ℕ) (t a b : List ℕ) → i ≡ n → a ≡ without_element e t → j ≡ i → b ≡ with_element h a
    → k ≡ rank_of j b → k ≡ rank_of n (replaced h e t)
place_of n i j e h k t a b q w p v r = r ∙ ap (rank_of j) (v ∙ ap (with_element h) w)
    ∙ ap (λ x. rank_of x (replaced h e t)) (p ∙ q)

-- the sign that is carried, from what was read at the place of the other set
carried_from : (before : List Sign) (a b : List ℕ) (e h k j : ℕ) (y : List Sign) (s : Sign)
    → s ≡ carried_sign a e h y (get_or before k Minus) → k < length before → a ≡ b → k ≡ j
    → s ≡ carried_sign b e h y (at before j)
carried_from before a b e h k j y s is inside same place =
    is ∙ ap (carried_sign a e h y) (get_or_default before k Minus Zero inside ∙ ap (at before) place)
    ∙ ap (λ x. carried_sign x e h y (at before j)) same

carrier : (c : goal.After-rank) → IsCarrier c.args.vectors.now c.args.t.elements c.args.e c.in_ok-h.h c.in_ok-y.y
carrier c = record {
  member = c.in_ok-y.ensures.contained;
  missed = subst (λ a. IsNonzeroOn a c.in_ok-y.y → ⊥) c.without-a.ensures.elements c.in_ok-y.ensures.missed;
  low = c.in_ok-h.ensures.low;
  below = c.in_ok-h.ensures.high;
  nonzero = c.in_ok-h.ensures.nonzero;
}

place : (c : goal.After-rank) → c.rank.result ≡ rank_of c.args.t.n (replaced c.in_ok-h.h c.args.e c.args.t.elements)
place c = place_of c.args.t.n _ _ c.args.e c.in_ok-h.h _ c.args.t.elements _ _ c.without-a.ensures.n
    c.without-a.ensures.elements c.with-other.ensures.n c.with-other.ensures.elements c.rank.ensures.value

pub bounds-before-rank : goal.bounds-before-rank
bounds-before-rank c =
    subst (λ k. k < length c.args.before.now) (sym (place c))
    (subst (λ k. rank_of c.args.t.n (replaced c.in_ok-h.h c.args.e c.args.t.elements) < k) c.requires.place
    (carrier_earlier c.args.t.n c.args.vectors.now c.args.t.elements c.args.e c.in_ok-h.h c.in_ok-y.y c.requires.lawful
    (c.has.ensures.0 c.if-not-has.false) (carrier c)))

pub returns-in_err-y-clause-none : goal.returns-in_err-y-clause-none
returns-in_err-y-clause-none c = rw c.from_residual.ensures
    (λ m. inl (subst (MeetsEach c.args.vectors.now) c.without-a.ensures.elements c.in_err-y.ensures.none))

pub returns-clause-some : goal.returns-clause-some
returns-clause-some c =
    record {
      inside = c.has.ensures.0 c.if-not-has.false;
      other = c.in_ok-h.h;
      vector = c.in_ok-y.y;
      carrier = carrier c.before.before;
      value = carried_from c.args.before.now _ _ c.args.e c.in_ok-h.h c.rank.result _ c.in_ok-y.y c.carried.result
          c.carried.ensures (bounds-before-rank c.before.before) c.without-a.ensures.elements (place c.before.before);
    }
