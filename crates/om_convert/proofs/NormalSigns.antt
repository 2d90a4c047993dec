-- The normal chirotope of a list of cocircuits, sign by sign, and that of a list of circuits.
--
-- Main definitions: AreSigns
-- Main results: normal_of, signs_start, signs_more, signs_are, denotes, signs_before, place_is, signs_pushed,
-- rank_part, made_normal, has_circuits
use Rattle.std.specs.Prelude.{ℕ, ◌≡◌, ◌+◌, ◌≤◌, ◌⊎◌, List, [], ◌∷◌, ◌++◌, length, refl}
use Rattle.std.proofs.Common.{sym, ap, subst, ◌∙◌, inl, inr, arith}
use Rattle.std.proofs.lemmas.Bool.{cases_lt}
use Rattle.std.proofs.lemmas.List.{ext_get_or, get_or_append_left, get_or_push, length-append}
use Rattle.om_signs.specs.declared.sign.Sign.{Sign}
use Rattle.om_signs.specs.declared.sign.Sign.TheVariants.{Minus, Zero, Plus}
use Rattle.om_signs.specs.SignVec.{at}
use Rattle.om_subsets.specs.Subsets.{choose, rank_of}
use Rattle.om_members.specs.Listings.{Listing, HaveLength}
use Rattle.om_chirotope.specs.Map.{SignMap, negated, IsLedBy}
use Rattle.om_chirotope.specs.Chirotope.{IsChirotope, IsAllZero}
use Rattle.om_chirotope.proofs.Negation.{leader, led_negated, negated_chirotope}
use Rattle.om_chirotope.proofs.Axioms.{not_all_zero}
use Rattle.om_circuits.specs.Axioms.{MeetsCircuitAxioms}
use Rattle.om_circuits.specs.SignedSets.{IsSignedSet}
use Rattle.om_denotation.specs.Circuits.{IsCircuitOfChirotope}
use Rattle.om_denotation.specs.Listings.{AreAllOf}
use Rattle.om_denotation.specs.Maps.{IsNormalFormOf}
use Rattle.om_denotation.specs.Dual.{dual_of}
use Rattle.om_denotation.specs.Covectors.{IsCovectorOfChirotope, IsCovectorOfCocircuits}
use Rattle.om_denotation.specs.Denotation.{DenoteTheSame}
use Rattle.om_denotation.specs.Existence.{HasCircuits, HasCocircuits}
use Rattle.om_denotation.proofs.FamilyLaws.{orthogonal_both, parts_both}
use Rattle.om_denotation.proofs.ListExistence.{of_cocircuits}
use Rattle.om_denotation.proofs.ListUniqueness.{cocircuit_of_negated}
use Rattle.om_denotation.proofs.NormalForms.{normal_elements}
use Rattle.om_denotation.proofs.Uniqueness.{normal_axioms}
use Rattle.om_denotation.proofs.DualMaps.{dual_axioms}
use Rattle.om_denotation.proofs.DualLists.{circuit_both}
use Rattle.om_convert.specs.Hitting.{IsNormalOf, IsRankOfNormal, IsEachNormalOf, AreFirstSigns}

-- ---- all signs

-- the normal chirotope of a list
pub normal_of : (c : Listing) → HaveLength c.elements c.members → MeetsCircuitAxioms c.members → (m : SignMap)
    × IsNormalOf c.elements c.members m
normal_of c lengths axioms = by_map (of_cocircuits c lengths axioms)
  where
    by_map : (m : SignMap) × HasCocircuits c m → (m : SignMap) × IsNormalOf c.elements c.members m
    by_map (m, h) = by_leader (leader m.signs)
      where
        by_leader : IsLedBy Plus m.signs ⊎ IsLedBy Minus m.signs ⊎ IsAllZero m.signs → (m : SignMap)
            × IsNormalOf c.elements c.members m
        by_leader (inl p) = (m, record { axioms = h.axioms; elements = h.elements; cocircuits = h.members; normal = p })
        by_leader (inr (inl p)) = (
          negated m,
          record {
            axioms = negated_chirotope m h.axioms;
            elements = h.elements;
            cocircuits = record {
              sound = λ X x. (cocircuit_of_negated m X).0 (h.members.sound X x);
              complete = λ X x. h.members.complete X ((cocircuit_of_negated m X).1 x);
            };
            normal = led_negated m.signs p;
          },
        )
        by_leader (inr (inr z)) = absurd (not_all_zero m h.axioms.whole z h.axioms.nonzero)

-- some signs are the first ones of the normal chirotope
pub record AreSigns (n rank : ℕ) (members : List (List Sign)) (k : ℕ) (signs : List Sign) : Type 0 where
  pub size : length signs ≡ k
  pub first : AreFirstSigns n rank members signs

pub signs_start : (n rank : ℕ) (members : List (List Sign)) (signs : List Sign) → signs ≡ []
    → AreSigns n rank members 0 signs
signs_start n rank members signs q =
    record { size = ap length q; first = λ m h r k l. let z = ap length q in absurd (omega (arith, z, l)) }

pub signs_more : (n rank : ℕ) (members : List (List Sign)) (k : ℕ) (old new : List Sign) (s : Sign)
    → AreSigns n rank members k old → new ≡ old ++ s ∷ []
    → ((m : SignMap) → IsNormalOf n members m → m.rank ≡ rank → s ≡ at m.signs (length old))
    → AreSigns n rank members (k + 1) new
signs_more n rank members k old new s h q here = record {
  size = long;
  first = λ m hm r j l. ap (λ xs. at xs j) q ∙ elim (cases_lt j (length old)) [
    | inl lt ↦ get_or_append_left old (s ∷ []) Zero j lt ∙ h.first m hm r j lt
    | inr ge ↦ let e : length old ≡ j = (let z = h.size in let w = long in omega (arith, l, ge, z, w)) in
        get_or_push old s Zero j e ∙ here m hm r ∙ ap (at m.signs) e
  ];
}
  where
    long : length new ≡ k + 1
    long = ap length q ∙ length-append old (s ∷ [])
        ∙ (let z = h.size in let one : length (s ∷ []) ≡ 1 = refl in omega (arith, z, one))

-- all signs
pub signs_are : (n rank : ℕ) (members : List (List Sign)) (k : ℕ) (signs : List Sign) → AreSigns n rank members k signs
    → k ≡ choose n rank → IsEachNormalOf n members (record { rank = rank; elements = n; signs = signs })
signs_are n rank members k signs h q m hm r =
    let whole : length m.signs ≡ choose n rank = hm.axioms.whole.whole ∙ ap (λ i. choose i m.rank) hm.elements
    ∙ ap (choose n) r in
    let same : signs ≡ m.signs = ext_get_or Zero signs m.signs (h.size ∙ q ∙ sym whole) (λ j l. h.first m hm r j l) in
    sym (both r hm.elements signs same)
  where
    both : m.rank ≡ rank → m.elements ≡ n → (xs : List Sign) → xs ≡ m.signs
        → m ≡ record { rank = rank; elements = n; signs = xs }
    both r e xs s = rw (sym r, sym e, s) refl

pub denotes : (c : Listing) (m : SignMap) → IsNormalOf c.elements c.members m
    → DenoteTheSame c.elements (IsCovectorOfCocircuits c) (IsCovectorOfChirotope m)
denotes c m h X l =
    let parts = parts_both m h.axioms X (l ∙ sym h.elements) in (
      λ x. parts.1 (λ i n. let y = x.composed i n in (y.0, h.cocircuits.sound y.0 y.1, y.2, y.3)),
      λ x. record {
        size = l;
        composed = λ i n. let y = parts.0 x i n in
            (y.0, h.cocircuits.complete y.0 y.1, y.2, y.3);
      },
    )

-- ---- the signs of the code

pub signs_before : (n rank : ℕ) (members : List (List Sign)) (k i : ℕ) (signs slice : List Sign) (t : List ℕ)
    → AreSigns n rank members k signs → i ≡ n → length t ≡ rank → slice ≡ signs
    → AreFirstSigns i (length t) members slice
signs_before n rank members k i signs slice t h q l w =
    subst (λ j. AreFirstSigns j (length t) members slice) (sym q)
    (subst (λ r. AreFirstSigns n r members slice) (sym l)
    (subst (AreFirstSigns n rank members) (sym w) h.first))

pub place_is : (n rank : ℕ) (members : List (List Sign)) (k i : ℕ) (signs slice : List Sign) (t : List ℕ)
    → AreSigns n rank members k signs → i ≡ n → rank_of n t ≡ k → slice ≡ signs → rank_of i t ≡ length slice
place_is n rank members k i signs slice t h q p w = ap (λ j. rank_of j t) q ∙ p ∙ sym h.size ∙ ap length (sym w)

pub signs_pushed : (n rank : ℕ) (members : List (List Sign)) (k i : ℕ) (old new slice : List Sign) (s : Sign)
    (t : List ℕ) → AreSigns n rank members k old → i ≡ n → length t ≡ rank → slice ≡ old → new ≡ old ++ s ∷ []
    → ((m : SignMap) → IsNormalOf i members m → m.rank ≡ length t → s ≡ at m.signs (length slice))
    → AreSigns n rank members (k + 1) new
signs_pushed n rank members k i old new slice s t h q l w p here = signs_more n rank members k old new s h p
    (λ m hm r. here m (subst (λ j. IsNormalOf j members m) (sym q) hm) (r ∙ sym l)
    ∙ ap (λ xs. at m.signs (length xs)) w)

-- the rank of a normal chirotope is at most the number of elements
pub rank_part : (c : Listing) → IsSignedSet c.elements c.members → (n rank : ℕ) → n ≡ c.elements
    → IsRankOfNormal c.elements c.members rank → rank ≤ n
rank_part c v n rank q ranks =
    let of = normal_of c v.lengths v.axioms in
    let part = of.1.axioms.whole.part in
    let elements = of.1.elements in
    let same = ranks of.0 of.1 in
    omega (arith, part, elements, same, q)

pub made_normal : (c : Listing) → IsSignedSet c.elements c.members
    → (n : ℕ) (vectors : List (List Sign)) (rank : ℕ) (map : SignMap) → n ≡ c.elements → vectors ≡ c.members
    → IsRankOfNormal c.elements c.members rank → map.rank ≡ rank → IsEachNormalOf n vectors map
    → IsNormalOf c.elements c.members map
made_normal c v n vectors rank map q w ranks r each =
    let of = normal_of c v.lengths v.axioms in
    let of' : IsNormalOf n vectors of.0 =
    subst (λ i. IsNormalOf i vectors of.0) (sym q) (subst (λ l. IsNormalOf c.elements l of.0) (sym w) of.1) in
    let same : map ≡ of.0 = each of.0 of' (ranks of.0 of.1 ∙ sym r) in
    subst (IsNormalOf c.elements c.members) (sym same) of.1

-- ---- circuits

-- the normal dual of the chirotope whose cocircuits are the circuits of a list
pub has_circuits : (c : Listing) (m d : SignMap) → IsNormalOf c.elements c.members m → IsNormalFormOf (dual_of m) d
    → HasCircuits c d
has_circuits c m d h n = record {
  axioms = axioms;
  elements = elements;
  members = all;
  same = λ X l. let each = orthogonal_both d axioms X (l ∙ sym elements) in (
    λ x. each.1 (λ Y y. x.orthogonal Y (all.complete Y y)),
    λ x. record { size = l; orthogonal = λ Y y. each.0 x Y (all.sound Y y) },
  );
}
  where
    axioms : IsChirotope d
    axioms = normal_axioms (dual_of m) d (dual_axioms m h.axioms) n

    elements : d.elements ≡ c.elements
    elements = normal_elements (dual_of m) d n ∙ h.elements

    all : AreAllOf (IsCircuitOfChirotope d) c.members
    all = record {
      sound = λ X x. (circuit_both m h.axioms d n X).1 (h.cocircuits.sound X x);
      complete = λ X x. h.cocircuits.complete X ((circuit_both m h.axioms d n X).0 x);
    }
