-- A cover that is found line by line is a cover.
--
-- Main results: cover_from_lines.
use Rattle.std.proofs.Common.{ℕ, ◌≡◌, ◌+◌, List, sym, ap, subst, ◌∙◌}
use Rattle.std.specs.List.{Contains}
use Rattle.om_signs.specs.declared.sign.Sign.{Sign}
use Rattle.om_chirotope.specs.Map.{SignMap}
use Rattle.om_localize.specs.Extensions.{IsExtension, signature_of}
use Rattle.om_symmetry.specs.Permutations.{IsSignedPermutation, acted, AreIsomorphic}
use Rattle.om_covers.specs.Growing.{grown}
use Rattle.om_covers.specs.Covers.{IsGrown, IsCover, IsCoverByLines}
use Rattle.om_covers.proofs.GrownMaps.{grown_is, grown_extension}

-- each member of the list is of rank 3 on n elements
pub record AreOfSize (n : ℕ) (classes : List SignMap) : Type 0 where
  pub rank : (c : SignMap) → Contains classes c → c.rank ≡ 3
  pub elements : (c : SignMap) → Contains classes c → c.elements ≡ n

module _ (T : List Sign → Type 0) (n : ℕ) (classes next : List SignMap) (of : AreOfSize n classes)
    (cover : IsCoverByLines T n classes next) where
  taken : (c y : SignMap) → Contains classes c → IsExtension c y → T (signature_of n y) → (d : SignMap)
      × Contains next d × AreIsomorphic y d
  taken c y listed ext t =
      let e = of.elements c listed in
      let own : signature_of n y ≡ signature_of c.elements y = ap (λ k. signature_of k y) (sym e) in
      let k = cover.taken c (signature_of n y) listed (y, ext, own) t in
      let same = grown_is c y (signature_of n y) (of.rank c listed) ext own in (
        acted k.0 (grown c (signature_of n y)),
        k.2,
        (
          k.0,
          subst (λ j. IsSignedPermutation j k.0) (sym (ext.elements ∙ ap (λ j. j + 1) e)) k.1,
          ap (acted k.0) (sym same),
        ),
      )

  met : (d : SignMap) → Contains next d → IsGrown T n classes d
  met d listed =
      let k = cover.met d listed in
      let e = of.elements k.member k.listed in
      let g = grown_extension k.member k.signs (of.rank k.member k.listed) k.signature in
      record {
        member = k.member;
        extension = grown k.member k.signs;
        listed = k.listed;
        extends = g.extends;
        tried = subst T (sym (ap (λ j. signature_of j (grown k.member k.signs)) (sym e) ∙ g.signature)) k.tried;
        isomorphic = (
          k.by,
          subst (λ j. IsSignedPermutation j k.by) (sym (ap (λ j. j + 1) e)) k.permutation,
          k.image,
        );
      }

  -- a cover that is found line by line, of a list of maps of rank 3 on n elements, is a cover
  pub cover_from_lines : IsCover T n classes next
  cover_from_lines = record { taken = taken; met = met }
