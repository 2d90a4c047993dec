-- The cover that the step finds, member by member.
--
-- Main results: none_covered and more_covered, the steps; passed_at and all_covered, the end; places_reached;
-- complete_next.
use Rattle.std.proofs.Common.{ℕ, List, Bool, ◌≡◌, ◌+◌, ◌<◌, ◌≤◌, ◌⊎◌, ◌∙◌, sym, ap, subst, inl, inr, length}
use Rattle.std.proofs.Common.{get_or, ⊎_elim, All, Option, Some, IfSome, true, false, replicate, arith}
use Rattle.std.specs.List.{Contains}
use Rattle.std.proofs.lemmas.Bool.{cases_lt, false≢true}
use Rattle.std.proofs.lemmas.List.{get_or-replicate, get_or_past, length-replicate}
use Rattle.std.proofs.lemmas.List.Elements.{All-contains, All-get_or}
use Rattle.om_signs.specs.declared.sign.Sign.{Sign}
use Rattle.om_chirotope.specs.Map.{SignMap}
use Rattle.om_localize.specs.Extensions.{IsSignature}
use Rattle.om_symmetry.specs.declared.signed_element.SignedElement.{SignedElement}
use Rattle.om_symmetry.specs.Permutations.{IsSignedPermutation, acted}
use Rattle.om_covers.specs.Classes.{IsSimpleChirotope, IsUniformChirotope, IsComplete}
use Rattle.om_covers.specs.Covers.{IsSimpleHalf, IsUniformHalf, IsReached, IsCoverByLines}
use Rattle.om_covers.specs.Growing.{grown}
use Rattle.om_covers.proofs.Covers.{next_complete}
use Rattle.om_covers.proofs.CoversByLines.{cover_from_lines}
use Rattle.om_covers.proofs.SimpleSteps.{simple_step}
use Rattle.om_covers.proofs.UniformSteps.{uniform_step}
use Rattle.om_levels.specs.declared.family.Family.{Family}
use Rattle.om_levels.specs.declared.family.Family.TheVariants.{Simple, Uniform}
use Rattle.om_levels.specs.declared.reaching.Reaching.{Reaching}
use Rattle.om_levels.specs.declared.reaching.Reaching.TheVariants.{Places}
use Rattle.om_levels.specs.Families.{IsOfFamily, IsHalfOf}
use Rattle.om_levels.specs.Levels.{IsChirotopeOfRank3, IsMemberAt, IsIsomorphicTo}
use Rattle.om_levels.specs.Steps.{IsMetAt, IsAmong, ArePlaces, IsPassedOver, IsReaching}
use Rattle.om_levels.proofs.Images.{same_member}

-- an extension of a member of the first list is isomorphic to the member of the next one at the place
pub record IsMetBy (T : List Sign → Type 0) (maps next : List SignMap) (place : ℕ) : Type 0 where
  pub member : SignMap
  pub listed : Contains maps member
  pub at : IsMetAt T member next place

-- the map is isomorphic to the member of the list at a place that is marked
pub record IsMarkedMember (next : List SignMap) (marks : List Bool) (m : SignMap) : Type 0 where
  pub place : ℕ
  pub marked : get_or marks place false ≡ true
  pub found : IsIsomorphicTo next m place

-- the extensions of the first i members are found, at places that are marked, and each place that is marked is met
pub record IsCovered (T : List Sign → Type 0) (maps next : List SignMap) (i : ℕ) (marks : List Bool) : Type 0 where
  pub as_many : length marks ≡ length next
  pub taken : (place : ℕ) (c : SignMap) (signs : List Sign) → place < i → IsMemberAt maps place c
      → IsSignature c signs → T signs → IsMarkedMember next marks (grown c signs)
  pub met : (k : ℕ) → get_or marks k false ≡ true → IsMetBy T maps next k

no_mark : (n k : ℕ) → get_or (replicate n false) k false ≡ false
no_mark n k = elim (cases_lt k n) [
  | inl lt ↦ get_or-replicate n k false false lt
  | inr ge ↦
      let s = length-replicate n false in
      get_or_past (replicate n false) k false (omega arith)
]

module _ (T : List Sign → Type 0) (maps next : List SignMap) where
  pub none_covered : (count : ℕ) (marks : List Bool) → count ≡ length next → marks ≡ replicate count false
      → IsCovered T maps next 0 marks
  none_covered count marks q e = record {
    as_many = ap (λ (xs : List Bool). length xs) e ∙ length-replicate count false ∙ q;
    taken = λ place c signs l at s t. absurd (omega arith);
    met = λ k t. absurd (false≢true (sym (no_mark count k) ∙ sym (ap (λ xs. get_or xs k false) e) ∙ t));
  }

  -- the places are within the marks
  pub within_marks : (i : ℕ) (marks : List Bool) (c : SignMap) (places : List ℕ) → IsCovered T maps next i marks
      → ArePlaces T c next places → All (λ place. place < length marks) places
  within_marks i marks c places covered are = λ k d l.
      let b = (are.met k d l).found.at.below in
      let s = covered.as_many in
      omega arith

  -- one member more
  pub more_covered : (i : ℕ) (marks new : List Bool) (c : SignMap) (places : List ℕ) → IsCovered T maps next i marks
      → ArePlaces T c next places → IsMemberAt maps i c → length new ≡ length marks
      → ((k : ℕ) → get_or new k false ≡ true → (get_or marks k false ≡ true) ⊎ Contains places k)
      → ((k : ℕ) → get_or marks k false ≡ true → get_or new k false ≡ true)
      → All (λ place. get_or new place false ≡ true) places → IsCovered T maps next (i + 1) new
  more_covered i marks new c places covered are at len marked kept done = record {
    as_many = len ∙ covered.as_many;
    taken = taken;
    met = λ k t. ⊎_elim
        (λ old. covered.met k old)
        (λ found. record {
          member = c;
          listed = (i, at.below, at.same);
          at = All-contains (IsMetAt T c next) places k are.met found;
        })
        (marked k t);
  }
    where
      earlier : (m : SignMap) → IsMarkedMember next marks m → IsMarkedMember next new m
      earlier m k = record { place = k.place; marked = kept k.place k.marked; found = k.found }

      here : (m : SignMap) → IsAmong next places m → IsMarkedMember next new m
      here m k = record {
        place = k.place;
        marked = All-contains (λ place. get_or new place false ≡ true) places k.place done k.listed;
        found = k.found;
      }

      taken : (place : ℕ) (d : SignMap) (signs : List Sign) → place < i + 1 → IsMemberAt maps place d
          → IsSignature d signs → T signs → IsMarkedMember next new (grown d signs)
      taken place d signs lt there s t = elim (cases_lt place i) [
        | inl less ↦ earlier (grown d signs) (covered.taken place d signs less there s t)
        | inr ge ↦
            let e : place ≡ i = omega arith in
            let q : c ≡ d = same_member maps i c d at (subst (λ j. IsMemberAt maps j d) e there) in
            subst (λ m. IsMarkedMember next new (grown m signs)) q
            (here (grown c signs) (are.taken signs (subst (λ m. IsSignature m signs) (sym q) s) t))
      ]

  -- a place that isn't marked after all members
  passed_over : (i place : ℕ) (marks : List Bool) → IsCovered T maps next i marks → length maps ≤ i
      → place < length marks → get_or marks place false ≡ false → IsPassedOver T maps next place
  passed_over i place marks covered over l unset = record {
    below = (let s = covered.as_many in omega arith);
    elsewhere = λ c signs listed s t.
        let lt = listed.1 in
        let k = covered.taken listed.0 c signs (omega arith) (record { below = listed.1; same = listed.2 }) s t in
        record {
          other = k.place;
          differs = λ e. false≢true (sym unset ∙ sym (ap (λ p. get_or marks p false) e) ∙ k.marked);
          found = k.found;
        };
  }

  -- the first of the marks, in another list of the same ones, that isn't set
  pub passed_at : (i place : ℕ) (marks seen : List Bool) (found : Option ℕ) → IsCovered T maps next i marks
      → length maps ≤ i → seen ≡ marks → found ≡ Some place → IfSome found (λ k. k < length seen)
      → IfSome found (λ k. get_or seen k false ≡ false) → IsPassedOver T maps next place
  passed_at i place marks seen found covered over same is below unset =
      passed_over i place marks covered over
      (subst (λ xs. place < length xs) same (subst (λ r. IfSome r (λ k. k < length seen)) is below))
      (subst (λ xs. get_or xs place false ≡ false) same
      (subst (λ r. IfSome r (λ k. get_or seen k false ≡ false)) is unset))

  -- all members, and all marks
  pub all_covered : (n i : ℕ) (marks : List Bool) → All (IsChirotopeOfRank3 n) maps → IsCovered T maps next i marks
      → length maps ≤ i → All (λ b. b ≡ true) marks → IsCoverByLines T n maps next
  all_covered n i marks kinds covered over all = record { taken = taken; met = met }
    where
      size : (c : SignMap) → Contains maps c → c.elements ≡ n
      size c listed = (All-contains (IsChirotopeOfRank3 n) maps c kinds listed).elements

      taken : (c : SignMap) (signs : List Sign) → Contains maps c → IsSignature c signs → T signs
          → (w : List SignedElement) × IsSignedPermutation (n + 1) w × Contains next (acted w (grown c signs))
      taken c signs listed s t =
          let lt = listed.1 in
          let k = covered.taken listed.0 c signs (omega arith) (record { below = listed.1; same = listed.2 }) s t in
          let w = k.found.isomorphic in (
            w.0,
            subst (λ j. IsSignedPermutation (j + 1) w.0) (size c listed) w.1,
            subst (Contains next) (sym w.2) (k.place, k.found.at.below, k.found.at.same),
          )

      met : (d : SignMap) → Contains next d → IsReached T n maps d
      met d listed =
          let lt = listed.1 in
          let s = covered.as_many in
          let by = covered.met listed.0 (All-get_or (λ b. b ≡ true) marks listed.0 false (omega arith) all) in
          let w = by.at.found.isomorphic in
          record {
            member = by.member;
            signs = by.at.signs;
            listed = by.listed;
            signature = by.at.signature;
            tried = by.at.tried;
            by = w.0;
            permutation = subst (λ j. IsSignedPermutation (j + 1) w.0) (size by.member by.listed) w.1;
            image = w.2 ∙ same_member next listed.0 by.at.found.member d by.at.found.at
                (record { below = listed.1; same = listed.2 });
          }

-- a cover of a complete list is complete
pub complete_next : (family : Family) (n : ℕ) (maps next : List SignMap) → 3 ≤ n
    → IsCoverByLines (IsHalfOf family n) n maps next → IsComplete (IsOfFamily family n) maps
    → IsComplete (IsOfFamily family (n + 1)) next
complete_next Simple n maps next large cover complete =
    next_complete (IsSimpleChirotope n) (IsSimpleChirotope (n + 1)) (IsSimpleHalf n) n (simple_step n large) maps next
    complete (cover_from_lines (IsSimpleHalf n) n maps next (record {
      rank = λ c k. (All-contains (IsSimpleChirotope n) maps c complete.members k).rank;
      elements = λ c k. (All-contains (IsSimpleChirotope n) maps c complete.members k).elements;
    }) cover)
complete_next Uniform n maps next large cover complete =
    next_complete (IsUniformChirotope n) (IsUniformChirotope (n + 1)) IsUniformHalf n (uniform_step n large) maps next
    complete (cover_from_lines IsUniformHalf n maps next (record {
      rank = λ c k. (All-contains (IsUniformChirotope n) maps c complete.members k).rank;
      elements = λ c k. (All-contains (IsUniformChirotope n) maps c complete.members k).elements;
    }) cover)

-- what is found about the extensions of a chirotope on n elements
pub places_reached : (family : Family) (n : ℕ) (m : SignMap) (maps : List SignMap) (r : Reaching) (places : List ℕ)
    → r ≡ Places places → m.elements ≡ n → IsReaching family m maps r
    → ArePlaces (IsHalfOf family n) m maps places
places_reached family n m maps r places q e found =
    subst (λ k. ArePlaces (IsHalfOf family k) m maps places) e (subst (IsReaching family m maps) q found)
