-- Each operation makes something of each document.
--
-- Main results: operation_possible.
use Rattle.std.specs.Prelude.{ℕ, ◌≡◌, ◌≤◌, List, true, refl, map}
use Rattle.std.proofs.Common.{sym, subst, inl, inr}
use Rattle.om_signs.specs.declared.limits.TheConstants.{MAX_ELEMENTS, MAX_MEMBERS, MAX_VALUES}
use Rattle.om_signs.specs.declared.raw_map.RawMap.{RawMap}
use Rattle.om_signs.specs.declared.sign.Sign.{Sign}
use Rattle.om_signs.specs.SignVec.{flip}
use Rattle.om_subsets.specs.Subsets.{choose}
use Rattle.om_chirotope.specs.Map.{SignMap, map_of}
use Rattle.om_chirotope.specs.Chirotope.{IsChirotope}
use Rattle.om_circuits.specs.Axioms.{MeetsCircuitAxioms}
use Rattle.om_covectors.specs.Axioms.{MeetsCovectorAxioms}
use Rattle.om_denotation.specs.Covectors.{IsCovectorOfChirotope}
use Rattle.om_document.specs.declared.body.Body.{Body}
use Rattle.om_document.specs.declared.body.Body.TheVariants as body
use Rattle.om_document.specs.declared.document.Document.{Document}
use Rattle.om_document.specs.Form.{IsBodyOn, AreMembersOn, IsMapOn}
use Rattle.om_printing.specs.declared.line.Line.TheVariants as line
use Rattle.om_representation.specs.Axioms.{MeetsAxiomsOn}
use Rattle.om_representation.specs.Covectors.{IsCovectorOfBody}
use Rattle.om_representation.specs.Documents.{map_document}
use Rattle.om_reply.specs.declared.answer.Answer.{Answer}
use Rattle.om_commands.specs.declared.operation.Operation.{Operation}
use Rattle.om_commands.specs.declared.operation.Operation.TheVariants.{Dual, Delete, Contract, Reorient}
use Rattle.om_reply.specs.Answers.{says, shows}
use Rattle.om_commands.specs.Conversions.{has_kind}
use Rattle.om_commands.specs.Operations.{IsLawful, IsOperation, outside, last, wide, limited, made, named_elements}
use Rattle.om_commands.specs.Operations.{TakesOnly, elements_left, kind_made, AreMade, IsMapMade, IsResult}
use Rattle.om_commands.specs.Operations.{IsNormalBody, IsTooWideToMake, IsKeptToMake, HasTooManyMade}
use Rattle.om_reply.specs.Above.{first_above}
use Rattle.om_existence.proofs.ListOperations as lists
use Rattle.om_existence.proofs.ListOperations.{AreCircuitsMade, AreCocircuitsMade, AreCovectorsMade}
use Rattle.om_existence.proofs.MapForms.{map_form}
use Rattle.om_existence.proofs.MapOperations.{map_made}
use Rattle.om_existence.proofs.OperationCases.{IsReady, ready, left_low, left_high}
use Rattle.om_existence.proofs.WithinLimits.{unnamed, list_form}
use Rattle.om_existence.proofs.Worked.{IsWorked}
use Rattle.om_existence.specs.Possible.{IsPossible}
use Rattle.om_existence.proofs.Possible.{held, then, mapped, either_way, found_or_not}

-- ---- the document of what is made

-- the document of a body on n elements
abbrev document : ℕ → List (List ℕ) → Body → Document
document n names b = record { elements = n; body = b; names = names }

-- an operation makes a document of it
abbrev HasMade : Operation → ℕ → List (List ℕ) → Body → Type 0
HasMade o n names b = (e : Document) × IsResult o (document n names b) e

module _ (n : ℕ) (names : List (List ℕ)) (low : 1 ≤ n) (high : n ≤ MAX_ELEMENTS) where
  module _ (o : Operation) (is : IsReady o n) where
    abbrev left : ℕ
    left = elements_left o n

    -- a body on the elements that are left
    of_body : (b e : Body) → IsBodyOn left e → MeetsAxiomsOn left e → has_kind (kind_made b o) e ≡ true → IsNormalBody e
        → AreMade o n (IsCovectorOfBody n b) (IsCovectorOfBody left e) → HasMade o n names b
    of_body b e on axioms kind normal covectors = (
      unnamed left e,
      record {
        form = list_form left e (left_low o n low is) (left_high o n MAX_ELEMENTS high) on;
        axioms = axioms;
        image = record { elements = refl; kind = kind; normal = normal; covectors = covectors };
      },
    )

    of_circuits : (b : Body) (list : List (List Sign)) → has_kind (kind_made b o) (body.Circuits list) ≡ true
        → AreCircuitsMade o n (IsCovectorOfBody n b) list → HasMade o n names b
    of_circuits b list kind h = of_body b (body.Circuits list) h.on h.axioms kind tt h.covectors

    of_cocircuits : (b : Body) (list : List (List Sign)) → has_kind (kind_made b o) (body.Cocircuits list) ≡ true
        → AreCocircuitsMade o n (IsCovectorOfBody n b) list → HasMade o n names b
    of_cocircuits b list kind h = of_body b (body.Cocircuits list) h.on h.axioms kind tt h.covectors

    of_covectors : (b : Body) (list : List (List Sign)) → has_kind (kind_made b o) (body.Covectors list) ≡ true
        → AreCovectorsMade o n (IsCovectorOfBody n b) list → HasMade o n names b
    of_covectors b list kind h = of_body b (body.Covectors list) h.on h.axioms kind tt h.covectors

    from_map : (raw : RawMap) → IsMapOn n raw → IsChirotope (map_of raw) → HasMade o n names (body.Chirotope raw)
    from_map raw on axioms =
        let m : SignMap = map_of raw in
        let few = subst (λ j. choose j m.rank ≤ MAX_VALUES) (sym on.elements) on.few in
        let h = map_made m axioms few o (subst (λ j. IsReady o j) (sym on.elements) is) in
        let image = subst (λ j. IsMapMade o j (IsCovectorOfChirotope m) h.0) on.elements h.1.made in
        let some = subst (λ j. 1 ≤ j) (sym image.elements) (left_low o n low is) in
        let most = subst (λ j. j ≤ MAX_ELEMENTS) (sym image.elements) (left_high o n MAX_ELEMENTS high) in (
          map_document h.0,
          record {
            form = map_form h.0 h.1.axioms.whole some most h.1.few;
            axioms = h.1.axioms;
            image = record {
              elements = image.elements;
              kind = refl;
              normal = image.normal;
              covectors = image.covectors;
            };
          },
        )

  -- ---- each operation on each kind of list

  module _ (members : List (List Sign)) (on : AreMembersOn n members) where
    abbrev flipped : ℕ → List (List Sign)
    flipped mask = map (flip mask) members

    abbrev circuits : Body
    circuits = body.Circuits members

    abbrev cocircuits : Body
    cocircuits = body.Cocircuits members

    abbrev covectors : Body
    covectors = body.Covectors members

    from_circuits : (o : Operation) → IsReady o n → MeetsCircuitAxioms members → IsPossible (HasMade o n names circuits)
    from_circuits Dual is axioms =
        held (of_cocircuits Dual is circuits members refl (lists.circuits_dual n members on axioms))
    from_circuits (Delete e) is axioms =
        mapped (λ h. of_circuits (Delete e) is circuits h.0 refl h.1) (lists.circuits_deleted n members on axioms e is)
    from_circuits (Contract e) is axioms =
        mapped (λ h. of_circuits (Contract e) is circuits h.0 refl h.1)
        (lists.circuits_contracted n members on axioms e is)
    from_circuits (Reorient mask) is axioms =
        held (of_circuits (Reorient mask) is circuits (flipped mask) refl
        (lists.circuits_reoriented n members on axioms mask))

    from_cocircuits : (o : Operation) → IsReady o n → MeetsCircuitAxioms members
        → IsPossible (HasMade o n names cocircuits)
    from_cocircuits Dual is axioms =
        held (of_circuits Dual is cocircuits members refl (lists.cocircuits_dual n members on axioms))
    from_cocircuits (Delete e) is axioms =
        mapped (λ h. of_cocircuits (Delete e) is cocircuits h.0 refl h.1)
        (lists.cocircuits_deleted n members on axioms e is)
    from_cocircuits (Contract e) is axioms =
        mapped (λ h. of_cocircuits (Contract e) is cocircuits h.0 refl h.1)
        (lists.cocircuits_contracted n members on axioms e is)
    from_cocircuits (Reorient mask) is axioms =
        held (of_cocircuits (Reorient mask) is cocircuits (flipped mask) refl
        (lists.cocircuits_reoriented n members on axioms mask))

    from_covectors : (o : Operation) → IsReady o n → MeetsCovectorAxioms members
        → (HasTooManyMade o (document n names covectors) → ⊥) → IsPossible (HasMade o n names covectors)
    from_covectors Dual is axioms few =
        mapped (λ h. of_covectors Dual is covectors h.0 refl h.1) (lists.covectors_dual n members on axioms few)
    from_covectors (Delete e) is axioms few =
        mapped (λ h. of_covectors (Delete e) is covectors h.0 refl h.1)
        (lists.covectors_deleted n members on axioms e is)
    from_covectors (Contract e) is axioms few =
        mapped (λ h. of_covectors (Contract e) is covectors h.0 refl h.1)
        (lists.covectors_contracted n members on axioms e is)
    from_covectors (Reorient mask) is axioms few =
        held (of_covectors (Reorient mask) is covectors (flipped mask) refl
        (lists.covectors_reoriented n members on axioms mask))

from_body : (o : Operation) (n : ℕ) (b : Body) (names : List (List ℕ)) → IsWorked (document n names b) → IsReady o n
    → (HasTooManyMade o (document n names b) → ⊥) → IsPossible (HasMade o n names b)
from_body o n (body.Chirotope raw) names w is few =
    held (from_map n names w.form.low w.form.high o is raw w.form.body w.axioms)
from_body o n (body.Circuits members) names w is few =
    from_circuits n names w.form.low w.form.high members w.form.body o is w.axioms
from_body o n (body.Cocircuits members) names w is few =
    from_cocircuits n names w.form.low w.form.high members w.form.body o is w.axioms
from_body o n (body.Covectors members) names w is few =
    from_covectors n names w.form.low w.form.high members w.form.body o is w.axioms few
from_body o n (body.Wiring blocks) names w is few = absurd w.given
from_body o n (body.Points points) names w is few = absurd w.given

-- ---- the answer

pub operation_possible : (o : Operation) → IsLawful o → (d : Document) → IsWorked d
    → IsPossible ((a : Answer) × IsOperation o d a)
operation_possible o lawful d w = elim (found_or_not (first_above d.elements (named_elements o))) [
  | inl h ↦ held (says (line.RefusedPlace h.0), outside h.0 h.1)
  | inr none ↦ then (either_way (TakesOnly o d.elements)) (λ f. elim f [
    | inl only ↦ held (says line.RefusedLastelement, last none only)
    | inr left ↦ then (either_way ((values : ℕ) × IsTooWideToMake o d values)) (λ g. elim g [
      | inl h ↦ held (says (line.LimitValues h.0), wide h.0 none h.1)
      | inr narrow ↦
          let kept : IsKeptToMake o d = λ values is. narrow (values, is) in
          then (either_way (HasTooManyMade o d)) (λ i. elim i [
            | inl many ↦ held (says (line.LimitMembers MAX_MEMBERS), limited none kept many)
            | inr few ↦
                let is = ready o d.elements w.form.low lawful none left in
                mapped (λ h. (shows h.0, made h.0 none left kept few h.1))
                (from_body o d.elements d.body d.names w is few)
          ])
    ])
  ])
]
