-- Lists whose chirotope has more values than a document may hold.
--
-- Main results: a map of a dual and of a minor has few values (few_dual, few_deleted, few_contracted), as the chirotope
-- of a document that is kept has (few_chosen), and a map that is worked on (few_worked_on); a document is kept where a
-- call says so (kept_circuits, kept_cocircuits, kept_covectors), and it is too wide, of a rank other than 3, where a
-- call says that (wide_circuits, wide_cocircuits, wide_covectors).
use Rattle.std.specs.Prelude.{ℕ, ◌≡◌, ◌≢◌, ◌<◌, ◌≤◌, ◌+◌, List, length, Result, Ok, Err, IfOk}
use Rattle.std.specs.List.{Contains}
use Rattle.std.proofs.Common.{zero, suc, arith, sym, ap, subst, ◌∙◌, refl, inl, inr}
use Rattle.std.proofs.lemmas.Bool.{cases_lt}
use Rattle.om_signs.specs.declared.limits.TheConstants.{MAX_ELEMENTS, MAX_VALUES}
use Rattle.om_signs.specs.declared.sign.Sign.{Sign}
use Rattle.om_subsets.specs.Subsets.{choose}
use Rattle.om_subsets.proofs.Counts.{choose_none, choose_more}
use Rattle.om_subsets.proofs.LastSets.{choose_all}
use Rattle.om_chirotope.specs.Chirotope.{IsChirotope}
use Rattle.om_chirotope.specs.Map.{SignMap}
use Rattle.om_chirotope.proofs.FewValues.{few_triples}
use Rattle.om_convert.specs.Limits.{IsTooWideFor, HasFewValuesFor}
use Rattle.om_denotation.specs.Covectors.{IsCovectorOfChirotope, IsCovectorOfCircuits, IsCovectorOfCocircuits}
use Rattle.om_denotation.specs.Covectors.{IsCovectorOfCovectors}
use Rattle.om_denotation.specs.Denotation.{DenoteTheSame}
use Rattle.om_members.specs.Listings.{Listing}
use Rattle.std.proofs.lemmas.List.{length-map}
use Rattle.om_document.specs.declared.document.Document.{Document}
use Rattle.om_document.specs.declared.body.Body.{Body}
use Rattle.om_document.specs.declared.body.Body.TheVariants as body
use Rattle.om_document.specs.Form.{IsInForm, IsBodyOn}
use Rattle.om_representation.specs.declared.representation.Representation.{Representation}
use Rattle.om_representation.specs.declared.representation.Representation.TheVariants as representation
use Rattle.om_representation.specs.Chirotopes.{IsChirotopeOf, IsNormalChirotopeOf}
use Rattle.om_representation.specs.Covectors.{IsCovectorIn}
use Rattle.om_representation.specs.Documents.{document_of, circuits_document, cocircuits_document, covectors_document}
use Rattle.om_representation.specs.Documents.{with_map, worked_on}
use Rattle.om_representation.specs.Points.{vector_of_point, vectors_of}
use Rattle.om_representation.specs.Widths.{IsList, IsTooWide, IsKept, HasFewValuesIn, HasFewValues}
use Rattle.om_representation.specs.Widths.{HasFewValuesUnlessRank3In, HasFewValuesUnlessRank3, IsTooWideOfRank}

-- ---- a chirotope of rank 3 has few values

not_rank3 : (n r values : ℕ) → n ≤ MAX_ELEMENTS → values ≡ choose n r → MAX_VALUES < values → r ≢ 3
not_rank3 n r values high number over three =
    let few = few_triples n high in
    let same : values ≡ choose n 3 = number ∙ ap (choose n) three in
    omega (arith, few, same, over)

-- ---- maps with few values

-- as many ways to take some as to leave them
choose_left : (n a b : ℕ) → a + b ≡ n → choose n a ≡ choose n b
choose_left zero zero zero e = refl
choose_left zero zero (suc b) e = absurd (omega arith)
choose_left zero (suc a) b e = absurd (omega arith)
choose_left (suc n) zero b e = let f : b ≡ suc n = omega arith in choose_none (suc n)
    ∙ sym (ap (choose (suc n)) f ∙ choose_all (suc n))
choose_left (suc n) (suc a) zero e = let f : suc a ≡ suc n = omega arith in ap (choose (suc n)) f ∙ choose_all (suc n)
    ∙ sym (choose_none (suc n))
choose_left (suc n) (suc a) (suc b) e =
    let i = choose_left n a (suc b) (omega arith) in
    let j = choose_left n (suc a) b (omega arith) in
    omega (arith, i, j)

pub few_of_dual : (n r s : ℕ) → s + r ≡ n → choose n r ≤ MAX_VALUES → choose n s ≤ MAX_VALUES
few_of_dual n r s size few = let same = choose_left n s r size in omega (arith, same, few)

-- one element less, and the same rank or one less
pub few_of_minor : (P Q : Type 0) (n r k s : ℕ) → ((P → ⊥) → (Q → ⊥) → ⊥) → k + 1 ≡ n → (P → s ≡ r) → (Q → s + 1 ≡ r)
    → choose n r ≤ MAX_VALUES → choose k s ≤ MAX_VALUES
few_of_minor P Q n r k s either size same less few = elim (cases_lt MAX_VALUES (choose k s)) [
  | inl over ↦ absurd (either (λ p. kept_rank over (same p)) (λ q. less_rank over (less q)))
  | inr ge ↦ ge
]
  where
    more : choose (suc k) r ≤ MAX_VALUES
    more = let e : n ≡ suc k = omega arith in subst (λ j. choose j r ≤ MAX_VALUES) e few

    kept_rank : MAX_VALUES < choose k s → s ≡ r → ⊥
    kept_rank over is =
        let a = choose_more k s in
        let b : choose (suc k) s ≤ MAX_VALUES = subst (λ j. choose (suc k) j ≤ MAX_VALUES) (sym is) more in
        omega (arith, a, b, over)

    less_rank : MAX_VALUES < choose k s → s + 1 ≡ r → ⊥
    less_rank over is =
        let e : r ≡ suc s = omega arith in
        let b : choose (suc k) (suc s) ≤ MAX_VALUES = subst (λ j. choose (suc k) j ≤ MAX_VALUES) e more in
        omega (arith, b, over)

-- the map that a call makes of one on n elements with rank r, where it says whether the rank falls
pub few_deleted : {E : Type 0} (C : Type 0) (n r : ℕ) (result : Result SignMap E) → choose n r ≤ MAX_VALUES
    → IfOk result (λ d. d.elements + 1 ≡ n) → IfOk result (λ d. (C → ⊥) → d.rank ≡ r)
    → IfOk result (λ d. C → d.rank + 1 ≡ r) → IfOk result (λ d. choose d.elements d.rank ≤ MAX_VALUES)
few_deleted C n r (Ok d) few size same less =
    few_of_minor (C → ⊥) C n r d.elements d.rank (λ both none. both none) size same less few
few_deleted C n r (Err e) few size same less = tt

-- a contraction has few values if the map has: its rank is one less, or, where C holds, the same
pub few_contracted : {E : Type 0} (C : Type 0) (n r : ℕ) (result : Result SignMap E) → choose n r ≤ MAX_VALUES
    → IfOk result (λ d. d.elements + 1 ≡ n) → IfOk result (λ d. (C → ⊥) → d.rank + 1 ≡ r)
    → IfOk result (λ d. C → d.rank ≡ r) → IfOk result (λ d. choose d.elements d.rank ≤ MAX_VALUES)
few_contracted C n r (Ok d) few size less same =
    few_of_minor C (C → ⊥) n r d.elements d.rank (λ none both. both none) size same less few
few_contracted C n r (Err e) few size less same = tt

-- the map of the dual has few values if the map has
pub few_dual : (m d : SignMap) → d.rank + m.rank ≡ m.elements → d.elements ≡ m.elements
    → choose m.elements m.rank ≤ MAX_VALUES → choose d.elements d.rank ≤ MAX_VALUES
few_dual m d size same few =
    subst (λ n. choose n d.rank ≤ MAX_VALUES) (sym same) (few_of_dual m.elements m.rank d.rank size few)

few_of_kept : (d : Document) (c : SignMap) → IsList d.body → IsKept d → IsChirotopeOf d c
    → choose c.elements c.rank ≤ MAX_VALUES
few_of_kept d c list narrow is = elim (cases_lt MAX_VALUES (choose c.elements c.rank)) [
  | inl over ↦
      absurd (narrow (choose c.elements c.rank) (record { list = list; map = c; of = is; number = refl; wide = over }))
  | inr ge ↦ ge
]

-- few values are few in the ranks other than 3
pub few_unless_rank3 : (d : Document) → HasFewValues d → HasFewValuesUnlessRank3 d
few_unless_rank3 d few = few_in d.body few
  where
    few_in : (b : Body) → HasFewValuesIn b → HasFewValuesUnlessRank3In b
    few_in (body.Chirotope m) h = λ other. h
    few_in (body.Circuits members) h = tt
    few_in (body.Cocircuits members) h = tt
    few_in (body.Covectors members) h = tt
    few_in (body.Wiring blocks) h = tt
    few_in (body.Points points) h = tt

-- the chirotope of a document that is kept
pub few_chosen : (r : Representation) (c : SignMap) → HasFewValues (document_of r) → IsKept (document_of r)
    → IsChirotopeOf (document_of r) c → choose c.elements c.rank ≤ MAX_VALUES
few_chosen (representation.Chirotope m) c few narrow is =
    subst (λ k. choose k.elements k.rank ≤ MAX_VALUES) (sym is) few
few_chosen (representation.Circuits s) c few narrow is = few_of_kept (circuits_document s.0) c tt narrow is
few_chosen (representation.Cocircuits s) c few narrow is = few_of_kept (cocircuits_document s.0) c tt narrow is
few_chosen (representation.Covectors s) c few narrow is = few_of_kept (covectors_document s) c tt narrow is

-- a document that is worked on
pub few_worked_on : (d : Document) → IsInForm d → HasFewValues (worked_on d)
few_worked_on d form = few_on d.elements d.body form.high form.body
  where
    few_on : (n : ℕ) (b : Body) → n ≤ MAX_ELEMENTS → IsBodyOn n b → HasFewValues (with_map n b)
    few_on n (body.Chirotope m) high is = subst (λ k. choose k m.rank ≤ MAX_VALUES) (sym is.elements) is.few
    few_on n (body.Circuits members) high is = tt
    few_on n (body.Cocircuits members) high is = tt
    few_on n (body.Covectors members) high is = tt
    few_on n (body.Wiring blocks) high is = few_triples n high
    few_on n (body.Points points) high is =
        let count : length (vectors_of points) ≡ n = length-map points vector_of_point ∙ is.count in
        few_triples (length (vectors_of points)) (subst (λ k. k ≤ MAX_ELEMENTS) (sym count) high)

-- ---- lists, by what the calls say of them

-- each chirotope on n elements with the covectors P has this rank
abbrev pub IsEachOfRank : ℕ → (List Sign → Type 0) → ℕ → Type 0
IsEachOfRank n P rank = (m : SignMap) → IsChirotope m → m.elements ≡ n → DenoteTheSame n P (IsCovectorOfChirotope m)
    → rank ≡ m.rank

-- a document of a list, whose covectors are P
module _ (d : Document) (P : List Sign → Type 0) where
  too_wide : (values : ℕ) → IsList d.body → ((m : SignMap) → IsNormalChirotopeOf d m → IsChirotopeOf d m)
      → ((Q : List Sign → Type 0) → DenoteTheSame d.elements P Q → DenoteTheSame d.elements (IsCovectorIn d) Q)
      → IsTooWideFor d.elements P values → (w : IsTooWide d values)
      × ((rank : ℕ) → IsEachOfRank d.elements P rank → rank ≡ w.map.rank)
  too_wide values list normal covectors w = (
    record {
      list = list;
      map = w.map;
      of = normal w.map
          (record {
            axioms = w.axioms;
            elements = w.elements;
            same = covectors (IsCovectorOfChirotope w.map) w.same;
            normal = w.normal;
          });
      number = w.number ∙ ap (λ n. choose n w.map.rank) (sym w.elements);
      wide = w.wide;
    },
    λ rank each. each w.map w.axioms w.elements w.same,
  )

  too_wide_of_rank : (rank values : ℕ) → d.elements ≤ MAX_ELEMENTS → (w : IsTooWide d values)
      × ((r : ℕ) → IsEachOfRank d.elements P r → r ≡ w.map.rank)
      → ((m : SignMap) → IsChirotopeOf d m → m.elements ≡ d.elements) → IsEachOfRank d.elements P rank
      → IsTooWideOfRank d rank values
  too_wide_of_rank rank values high (w, ranks) elements each =
      let value : rank ≡ w.map.rank = ranks rank each in
      let number : values ≡ choose d.elements w.map.rank = w.number
      ∙ ap (λ n. choose n w.map.rank) (elements w.map w.of) in
      record {
        width = w;
        value = value;
        other =
            λ three. not_rank3 d.elements w.map.rank values high number w.wide (sym value ∙ three);
      }

  kept_list : ((m : SignMap) → IsChirotopeOf d m → IsNormalChirotopeOf d m)
      → ((Q : List Sign → Type 0) → DenoteTheSame d.elements (IsCovectorIn d) Q → DenoteTheSame d.elements P Q)
      → HasFewValuesFor d.elements P → IsKept d
  kept_list normal covectors narrow values w =
      let of = normal w.map w.of in
      narrow values (record {
        map = w.map;
        axioms = of.axioms;
        elements = of.elements;
        same = covectors (IsCovectorOfChirotope w.map) of.same;
        normal = of.normal;
        number = w.number ∙ ap (λ n. choose n w.map.rank) of.elements;
        wide = w.wide;
      })

pub kept_circuits : (s : Listing) → HasFewValuesFor s.elements (IsCovectorOfCircuits s) → IsKept (circuits_document s)
kept_circuits s = kept_list (circuits_document s) (IsCovectorOfCircuits s) (λ m is. is) (λ Q same. same)

pub wide_circuits : (s : Listing) (rank values : ℕ) → s.elements ≤ MAX_ELEMENTS
    → IsTooWideFor s.elements (IsCovectorOfCircuits s) values → IsEachOfRank s.elements (IsCovectorOfCircuits s) rank
    → IsTooWideOfRank (circuits_document s) rank values
wide_circuits s rank values high w =
    too_wide_of_rank (circuits_document s) (IsCovectorOfCircuits s) rank values high
    (too_wide (circuits_document s) (IsCovectorOfCircuits s) values tt (λ m is. is) (λ Q same. same) w)
    (λ m is. is.elements)

pub kept_cocircuits : (s : Listing) → HasFewValuesFor s.elements (IsCovectorOfCocircuits s)
    → IsKept (cocircuits_document s)
kept_cocircuits s = kept_list (cocircuits_document s) (IsCovectorOfCocircuits s) (λ m is. is) (λ Q same. same)

pub wide_cocircuits : (s : Listing) (rank values : ℕ) → s.elements ≤ MAX_ELEMENTS
    → IsTooWideFor s.elements (IsCovectorOfCocircuits s) values
    → IsEachOfRank s.elements (IsCovectorOfCocircuits s) rank → IsTooWideOfRank (cocircuits_document s) rank values
wide_cocircuits s rank values high w =
    too_wide_of_rank (cocircuits_document s) (IsCovectorOfCocircuits s) rank values high
    (too_wide (cocircuits_document s) (IsCovectorOfCocircuits s) values tt (λ m is. is) (λ Q same. same) w)
    (λ m is. is.elements)

-- the members of covectors, and those with as many signs as there are elements, denote the same
pub same_covectors : (s : Listing) (Q : List Sign → Type 0) → DenoteTheSame s.elements (Contains s.members) Q
    → DenoteTheSame s.elements (IsCovectorOfCovectors s) Q
same_covectors s Q same x size =
    (λ h. (same x size).0 h.member, λ q. record { size = size; member = (same x size).1 q })

same_members : (s : Listing) (Q : List Sign → Type 0) → DenoteTheSame s.elements (IsCovectorOfCovectors s) Q
    → DenoteTheSame s.elements (Contains s.members) Q
same_members s Q same x size =
    (λ h. (same x size).0 (record { size = size; member = h }), λ q. ((same x size).1 q).member)

-- the document of covectors isn't too wide if their chirotope has few values
pub kept_covectors : (s : Listing) → HasFewValuesFor s.elements (Contains s.members) → IsKept (covectors_document s)
kept_covectors s = kept_list (covectors_document s) (Contains s.members) (λ m is. is) (same_members s)

too_wide_list : (s : Listing) (values : ℕ) → IsTooWideFor s.elements (Contains s.members) values
    → (w : IsTooWide (covectors_document s) values)
    × ((r : ℕ) → IsEachOfRank s.elements (Contains s.members) r → r ≡ w.map.rank)
too_wide_list s values w = too_wide (covectors_document s) (Contains s.members) values tt (λ m is. is)
    (same_covectors s) w

-- the document of covectors is too wide, with the same number of values, if their chirotope is
pub too_wide_covectors : (s : Listing) (values : ℕ) → IsTooWideFor s.elements (Contains s.members) values
    → IsTooWide (covectors_document s) values
too_wide_covectors s values w = (too_wide_list s values w).0

pub wide_covectors : (s : Listing) (rank values : ℕ) → s.elements ≤ MAX_ELEMENTS
    → IsTooWideFor s.elements (Contains s.members) values → IsEachOfRank s.elements (Contains s.members) rank
    → IsTooWideOfRank (covectors_document s) rank values
wide_covectors s rank values high w =
    too_wide_of_rank (covectors_document s) (Contains s.members) rank values high (too_wide_list s values w)
    (λ m is. is.elements)
