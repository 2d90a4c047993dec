-- The signed elements of a list, read one after the other.
--
-- Main results: one more is read (read_more), and where all are, the list is a signed permutation (read_all); each
-- element of a signed permutation is a further one (further).
use Rattle.std.proofs.Common.{ℕ, ◌≡◌, ◌+◌, ◌<◌, ◌≤◌, ◌↔◌, List, [], ◌∷◌, ◌++◌, length, get_or, take, refl}
use Rattle.std.proofs.Common.{sym, ap, subst, ◌∙◌, inl, inr, ⊎_elim, arith}
use Rattle.std.proofs.lemmas.List.{take_more, take_all, map_push, length-map, length-take-le, get_or-take, take-map}
use Rattle.om_subsets.specs.Subsets.{with_element}
use Rattle.om_subsets.specs.Members.{Chosen}
use Rattle.om_subsets.proofs.Statements.{members_with}
use Rattle.om_laws.specs.Members.{IsMember, IsDistinct}
use Rattle.om_laws.specs.Sorting.{IsElement, Each}
use Rattle.om_laws.proofs.MemberLaws.{member_last, member_left, member_right, member_at, distinct_last}
use Rattle.om_laws.proofs.TupleSizes.{each_member, each_from}
use Rattle.om_symmetry.specs.declared.signed_element.SignedElement.{SignedElement}
use Rattle.om_symmetry.specs.Permutations.{elements_of, IsSignedPermutation, no_element}
use Rattle.om_symmetry.proofs.Distinct.{place_of, places_apart}
use Rattle.om_symmetry.proofs.Places.{element_listed}

-- the first k signed elements have been listed, and their elements, distinct ones of 1 to n, have been seen
pub record IsReadTo (n : ℕ) (entries : List SignedElement) (k : ℕ) (listed : List SignedElement) (seen : Chosen) : Type
    0 where
  pub read : listed ≡ take k entries
  pub within : Each (IsElement n) (elements_of listed)
  pub distinct : IsDistinct (elements_of listed)
  pub seen_n : seen.n ≡ n
  pub members : (e : ℕ) → IsMember e seen.elements ↔ IsMember e (elements_of listed)

pub read_none : (n : ℕ) (entries : List SignedElement) (seen : Chosen) → seen.n ≡ n → seen.elements ≡ []
    → IsReadTo n entries 0 [] seen
read_none n entries seen q none = record {
  read = refl;
  within = tt;
  distinct = tt;
  seen_n = q;
  members = λ e. (λ m. subst (IsMember e) none m, λ m. absurd m);
}

pub read_more : (n : ℕ) (entries : List SignedElement) (k : ℕ) (listed new : List SignedElement) (seen more : Chosen)
    (a : SignedElement) → k < length entries → a ≡ get_or entries k no_element → IsElement n a.element
    → (IsMember a.element seen.elements → ⊥) → more.n ≡ seen.n → more.elements ≡ with_element a.element seen.elements
    → new ≡ listed ++ a ∷ [] → IsReadTo n entries k listed seen → IsReadTo n entries (k + 1) new more
read_more n entries k listed new seen more a lt q i off qn qe qw h = record {
  read = qw ∙ ap (λ l. l ++ a ∷ []) h.read ∙ ap (λ b. take k entries ++ b ∷ []) q
      ∙ sym (take_more entries k no_element lt);
  within = each_from (IsElement n) (elements_of new) (λ e m.
      ⊎_elim (λ j. each_member (IsElement n) (elements_of listed) h.within e j) (λ r. subst (IsElement n) (sym r) i)
      (member_last e a.element (elements_of listed) (subst (IsMember e) elements m)));
  distinct = subst IsDistinct (sym elements)
      (distinct_last (elements_of listed) a.element h.distinct (λ m. off ((h.members a.element).1 m)));
  seen_n = qn ∙ h.seen_n;
  members = λ e. (
    λ m. subst (IsMember e) (sym elements)
        (⊎_elim (λ r. member_right e (elements_of listed) (a.element ∷ []) (inl r))
        (λ j. member_left e (elements_of listed) (a.element ∷ []) ((h.members e).0 j))
        ((members_with a.element e seen.elements).0 (subst (IsMember e) qe m))),
    λ m. subst (IsMember e) (sym qe)
        ((members_with a.element e seen.elements).1
        (⊎_elim (λ j. inr ((h.members e).1 j)) (λ r. inl r)
        (member_last e a.element (elements_of listed) (subst (IsMember e) elements m)))),
  );
}
  where
    elements : elements_of new ≡ elements_of listed ++ a.element ∷ []
    elements = ap elements_of qw ∙ map_push (λ (b : SignedElement). b.element) listed a

pub read_all : (n : ℕ) (entries : List SignedElement) (k : ℕ) (listed : List SignedElement) (seen : Chosen)
    → n ≡ length entries → length entries ≤ k → IsReadTo n entries k listed seen
    → (listed ≡ entries) × IsSignedPermutation (length entries) entries
read_all n entries k listed seen q le h = (
  same,
  subst (λ j. IsSignedPermutation j entries) q
      (record {
        tuple = record {
          size = length-map entries (λ (b : SignedElement). b.element) ∙ sym q;
          within = subst (λ l. Each (IsElement n) (elements_of l)) same h.within;
        };
        distinct = subst (λ l. IsDistinct (elements_of l)) same h.distinct;
      }),
)
  where
    same : listed ≡ entries
    same = h.read ∙ take_all k entries le

-- ---- the elements of a signed permutation

element_of : (entries : List SignedElement) (k : ℕ)
    → get_or (elements_of entries) k 0 ≡ (get_or entries k no_element).element
element_of entries k = sym (element_listed entries k)

-- what is read at a place of a signed permutation is of one of its elements
pub within_all : (n : ℕ) (entries : List SignedElement) (k : ℕ) (a : SignedElement) → k < length entries
    → a ≡ get_or entries k no_element → IsSignedPermutation n entries → IsElement n a.element
within_all n entries k a lt q p =
    let l = length-map entries (λ (b : SignedElement). b.element) in
    subst (IsElement n) (element_of entries k ∙ ap (λ (b : SignedElement). b.element) (sym q))
    (each_member (IsElement n) (elements_of entries) p.tuple.within (get_or (elements_of entries) k 0)
    (member_at (elements_of entries) k (omega arith)))

twice : (n m : ℕ) (entries : List SignedElement) (k : ℕ) (listed : List SignedElement) (seen : Chosen)
    (a : SignedElement) → k < length entries → a ≡ get_or entries k no_element → IsMember a.element seen.elements
    → IsReadTo n entries k listed seen → IsSignedPermutation m entries → ⊥
twice n m entries k listed seen a lt q at h p =
    let r : elements_of listed ≡ take k (elements_of entries) =
    ap elements_of h.read ∙ sym (take-map (λ (b : SignedElement). b.element) k entries) in
    let j = place_of a.element (elements_of listed) ((h.members a.element).0 at) in
    let l = length-map entries (λ (b : SignedElement). b.element) in
    let few : length (elements_of listed) ≡ k = ap length r
    ∙ length-take-le k (elements_of entries) (omega arith) in
    let lj = j.1 in
    let below : j.0 < k = omega arith in
    let same : get_or (elements_of entries) j.0 0 ≡ get_or (elements_of entries) k 0 =
    sym (ap (λ x. get_or x j.0 0) r ∙ get_or-take k (elements_of entries) j.0 0 below) ∙ j.2
    ∙ ap (λ (b : SignedElement). b.element) q ∙ sym (element_of entries k) in
    let e = places_apart (elements_of entries) p.distinct j.0 k (omega arith) (omega arith) same in
    omega arith

-- in a signed permutation each element is a further one of 1 to n
pub further : (entries : List SignedElement) (k : ℕ) (listed : List SignedElement) (seen : Chosen) (a : SignedElement)
    → k < length entries → a ≡ get_or entries k no_element → IsReadTo (length entries) entries k listed seen
    → IsSignedPermutation (length entries) entries
    → IsElement seen.n a.element × (IsMember a.element seen.elements → ⊥)
further entries k listed seen a lt q h p = (
  subst (λ n. IsElement n a.element) (sym h.seen_n) (within_all (length entries) entries k a lt q p),
  λ at. twice (length entries) (length entries) entries k listed seen a lt q at h p,
)
