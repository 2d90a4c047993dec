-- The step from a complete list to the next.
--
-- Main definitions: IsStep, what a family of maps has to meet
-- Main results: a cover of a complete list is complete (next_complete).
use Rattle.std.proofs.Common.{ℕ, List, get_or, refl, subst}
use Rattle.std.specs.List.{Contains}
use Rattle.std.proofs.lemmas.List.Elements.{All-contains, Contains-get_or}
use Rattle.om_signs.specs.declared.sign.Sign.{Sign}
use Rattle.om_chirotope.specs.Map.{SignMap}
use Rattle.om_localize.specs.Extensions.{IsExtension, signature_of}
use Rattle.om_symmetry.specs.declared.signed_element.SignedElement.{SignedElement}
use Rattle.om_symmetry.specs.Permutations.{IsSignedPermutation, acted, lifted, AreIsomorphic}
use Rattle.om_symmetry.proofs.Groups.{isomorphic_on}
use Rattle.om_covers.specs.Classes.{IsComplete}
use Rattle.om_covers.specs.Covers.{IsCover}
use Rattle.om_covers.proofs.Extensions.{extension_image, lift_permutation}

-- an image of m that is an extension of a map of the family P
pub record HasBelow (P : SignMap → Type 0) (m : SignMap) : Type 0 where
  pub by : List SignedElement
  pub permutation : IsSignedPermutation m.elements by
  pub below : SignMap
  pub member : P below
  pub extends : IsExtension below (acted by m)

-- an extension of c by a signature of which T holds, isomorphic to y
pub record HasTried (T : List Sign → Type 0) (n : ℕ) (c y : SignMap) : Type 0 where
  pub other : SignMap
  pub extends : IsExtension c other
  pub tried : T (signature_of n other)
  pub isomorphic : AreIsomorphic y other

-- the maps of Q are, up to isomorphism, the extensions of those of P by signatures of which T holds
pub record IsStep (P Q : SignMap → Type 0) (T : List Sign → Type 0) (n : ℕ) : Type 0 where
  pub image : (m : SignMap) (w : List SignedElement) → IsSignedPermutation m.elements w → Q m → Q (acted w m)
  pub below : (m : SignMap) → Q m → HasBelow P m
  pub tried : (c y : SignMap) → P c → IsExtension c y → Q y → HasTried T n c y
  pub member : (c y : SignMap) → P c → IsExtension c y → T (signature_of n y) → Q y

module _ (P Q : SignMap → Type 0) (T : List Sign → Type 0) (n : ℕ) (step : IsStep P Q T n) (classes next : List SignMap)
    (complete : IsComplete P classes) (cover : IsCover T n classes next) where
  -- an extension of a member of the first list
  extended : (c y : SignMap) → Contains classes c → IsExtension c y → Q y → (d : SignMap) × Contains next d
      × AreIsomorphic y d
  extended c y listed ext q =
      let t = step.tried c y (All-contains P classes c complete.members listed) ext q in
      let d = cover.taken c t.other listed t.extends t.tried in
      (d.0, d.1, isomorphic_on y t.other d.0 t.isomorphic d.2)

  taken : (m : SignMap) → Q m → (d : SignMap) × Contains next d × AreIsomorphic m d
  taken m q =
      let b = step.below m q in
      let x = acted b.by m in
      let k = complete.each b.below b.member in
      let w = k.2.0 in
      let p = k.2.1 in
      let up = lift_permutation b.below x b.extends w p in
      let y = acted (lifted w) x in
      let ext : IsExtension k.0 y = subst (λ c. IsExtension c y) k.2.2 (extension_image b.below x b.extends w p) in
      let d = extended k.0 y k.1 ext (step.image x (lifted w) up (step.image m b.by b.permutation q)) in (
        d.0,
        d.1,
        isomorphic_on m x d.0 (b.by, b.permutation, refl) (isomorphic_on x y d.0 (lifted w, up, refl) d.2),
      )

  met : (d : SignMap) → Contains next d → Q d
  met d listed =
      let g = cover.met d listed in
      subst Q g.isomorphic.2
      (step.image g.extension g.isomorphic.0 g.isomorphic.1
      (step.member g.member g.extension (All-contains P classes g.member complete.members g.listed) g.extends g.tried))

  -- given a step from P to Q, a cover of a complete list of maps of P is a complete list of maps of Q
  pub next_complete : IsComplete Q next
  next_complete = record {
    members = λ k d lt. met (get_or next k d) (Contains-get_or next k d lt);
    each = taken;
  }
