-- What an operation makes of an oriented matroid, as an answer.
--
-- Main results: what is made of a chirotope (chirotope_outcome); a deletion from circuits (circuits_deleted); the dual
-- of covectors (dual_outcome, dual_unmade); what is made, as an answer (made_meant), too many members (limit_meant) and
-- too many values (width_meant).
use Rattle.std.specs.Prelude.{ℕ, ◌≡◌, ◌+◌, ◌↔◌, ◌≤◌, List, None, Result, Ok, Err, refl}
use Rattle.std.specs.Result.{IsErrAnd}
use Rattle.std.specs.List.{Contains}
use Rattle.std.proofs.Common.{sym, subst, arith}
use Rattle.om_signs.specs.declared.limits.TheConstants.{MAX_MEMBERS, MAX_VALUES}
use Rattle.om_signs.specs.declared.sign.Sign.{Sign}
use Rattle.om_subsets.specs.Subsets.{choose}
use Rattle.om_chirotope.specs.Map.{SignMap}
use Rattle.om_members.specs.Listings.{Listing}
use Rattle.om_circuits.specs.declared.circuits.Circuits.{Circuits}
use Rattle.om_convert.specs.declared.convert_error.ConvertError.{ConvertError}
use Rattle.om_convert.specs.declared.convert_error.ConvertError.TheVariants as convert
use Rattle.om_convert.specs.Limits.{IsListCause, HasFewValuesFor, IsWithinLimit}
use Rattle.om_convert.proofs.SameFamilies as families
use Rattle.om_denotation.specs.Covectors.{IsCovectorOfChirotope, IsCovectorOfCircuits, IsCovectorOfCovectors}
use Rattle.om_denotation.specs.Operations.{IsDual, IsDeletion}
use Rattle.om_denotation.specs.Vectors.{IsVectorOf}
use Rattle.om_document.specs.declared.document.Document.{Document}
use Rattle.om_document.specs.Form.{IsInForm}
use Rattle.om_printing.specs.declared.line.Line.TheVariants as line
use Rattle.om_commands.specs.declared.operation.Operation.{Operation}
use Rattle.om_commands.specs.declared.operation.Operation.TheVariants as operation
use Rattle.om_representation.specs.declared.representation.Representation.{Representation}
use Rattle.om_representation.specs.declared.representation.Representation.TheVariants as representation
use Rattle.om_commands.specs.declared.unmade.Unmade.{Unmade}
use Rattle.om_representation.specs.Axioms.{MeetsAxioms}
use Rattle.om_representation.specs.Documents.{map_document, circuits_document, covectors_document, document_of}
use Rattle.om_reply.specs.Above.{first_above}
use Rattle.om_commands.specs.Operations.{IsOperation, IsMapMade, IsOutcome, HasTooManyMade, IsTooWideToMake}
use Rattle.om_commands.specs.Operations.{IsKeptToMake, TakesOnly, named_elements, of_conversion, wide, limited, made}
use Rattle.om_reply.specs.Answers.{says, shows}
use Rattle.om_representation.proofs.WidthLaws.{kept_covectors, too_wide_covectors}

-- ---- a chirotope

pub chirotope_outcome : (o : Operation) (c m : SignMap) → choose m.elements m.rank ≤ MAX_VALUES
    → (TakesOnly o c.elements → ⊥) → IsMapMade o c.elements (IsCovectorOfChirotope c) m
    → IsOutcome o (map_document c) (Ok (representation.Chirotope m))
chirotope_outcome o c m small left is = (
  left,
  (
    λ values no. no.0,
    (
      λ none. none,
      (small, record { elements = is.elements; kind = refl; normal = is.normal; covectors = is.covectors }),
    ),
  ),
)

-- ---- a deletion from circuits

pub circuits_deleted : (c : Listing) (m : Circuits) (e : ℕ) → (c.elements ≡ 1 → ⊥) → m.0.elements + 1 ≡ c.elements
    → IsDeletion c.elements e (IsCovectorOfCircuits c) (IsCovectorOfCircuits m.0)
    → IsOutcome (operation.Delete e) (circuits_document c) (Ok (representation.Circuits m))
circuits_deleted c m e left count deletion = (
  left,
  (
    λ values no. no.0,
    (
      λ none. none,
      (tt, record { elements = omega (arith, count); kind = refl; normal = tt; covectors = deletion }),
    ),
  ),
)

-- ---- the dual of covectors

module _ (c : Listing) where
  vectors_both : (X : List Sign) → IsVectorOf c.elements (Contains c.members) X
      ↔ IsVectorOf c.elements (IsCovectorOfCovectors c) X
  vectors_both X = (
    λ v. (v.0, λ Y size y. v.1 Y size y.member),
    λ v. (v.0, λ Y size y. v.1 Y size (record { size = size; member = y })),
  )

  narrow_kept : HasFewValuesFor c.elements (Contains c.members) → IsKeptToMake operation.Dual (covectors_document c)
  narrow_kept narrow values (way, is) = kept_covectors c narrow values is

  pub dual_outcome : (d : Listing) → d.elements ≡ c.elements
      → IsDual c.elements (Contains c.members) (IsCovectorOfCovectors d)
      → HasFewValuesFor c.elements (Contains c.members) → IsWithinLimit (IsVectorOf c.elements (Contains c.members))
      → IsOutcome operation.Dual (covectors_document c) (Ok (representation.Covectors d))
  dual_outcome d count dual narrow few = (
    λ none. none,
    (
      narrow_kept narrow,
      (
        families.within_same (IsVectorOf c.elements (Contains c.members))
            (IsVectorOf c.elements (IsCovectorOfCovectors c)) vectors_both few,
        (
          tt,
          record {
            elements = count;
            kind = refl;
            normal = tt;
            covectors = λ Y size. (
              λ q X long x. (dual Y size).0 q X long x.member,
              λ all. (dual Y size).1 (λ X long x. all X long (record { size = long; member = x })),
            );
          },
        ),
      ),
    ),
  )

  dual_refused : (why : ConvertError)
      → IsListCause c.elements (Contains c.members) (IsVectorOf c.elements (Contains c.members)) why
      → IsOutcome operation.Dual (covectors_document c) (Err (of_conversion why))
  dual_refused (convert.TooWide values) cause = (tt, too_wide_covectors c values cause)
  dual_refused (convert.TooMany limit) (is, many, narrow) =
      let most = families.cause_same (IsVectorOf c.elements (Contains c.members))
      (IsVectorOf c.elements (IsCovectorOfCovectors c)) vectors_both (convert.TooMany limit) (is, many) in
      (most.0, (narrow_kept narrow, most.1))
  dual_refused convert.Memory cause = tt

  pub dual_unmade : (r : Result Representation Unmade) (why : ConvertError) → IsErrAnd r (λ e. e ≡ of_conversion why)
      → IsListCause c.elements (Contains c.members) (IsVectorOf c.elements (Contains c.members)) why
      → IsOutcome operation.Dual (covectors_document c) r
  dual_unmade (Ok m) why is cause = absurd is
  dual_unmade (Err e) why is cause =
      subst (λ u. IsOutcome operation.Dual (covectors_document c) (Err u)) (sym is) (dual_refused why cause)

-- ---- the answer

pub made_meant : (o : Operation) (r m : Representation) (e : Document)
    → None ≡ first_above (document_of r).elements (named_elements o) → IsOutcome o (document_of r) (Ok m)
    → e ≡ document_of m → IsInForm e → MeetsAxioms e → IsOperation o (document_of r) (shows e)
made_meant o r m e none (left, (narrow, (few, (small, image)))) same form axioms =
    subst (λ u. IsOperation o (document_of r) (shows u)) (sym same)
    (made (document_of m) (sym none) left narrow few
    (record { form = subst IsInForm same form; axioms = subst MeetsAxioms same axioms; image = image }))

pub limit_meant : (o : Operation) (d : Document) (limit : ℕ) → None ≡ first_above d.elements (named_elements o)
    → (limit ≡ MAX_MEMBERS) × (IsKeptToMake o d × HasTooManyMade o d) → IsOperation o d (says (line.LimitMembers limit))
limit_meant o d limit none (is, (narrow, many)) =
    subst (λ k. IsOperation o d (says (line.LimitMembers k))) (sym is) (limited (sym none) narrow many)

pub width_meant : (o : Operation) (d : Document) (values : ℕ) → None ≡ first_above d.elements (named_elements o)
    → IsTooWideToMake o d values → IsOperation o d (says (line.LimitValues values))
width_meant o d values none is = wide values (sym none) is
