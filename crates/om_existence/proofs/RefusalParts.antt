-- A document that fails its axioms has a first violated instance.
--
-- Main results: refusal_possible.
use Rattle.std.specs.Prelude.{ℕ, ◌≡◌, ◌≤◌, length, refl}
use Rattle.std.proofs.Common.{subst, sym}
use Rattle.om_signs.specs.declared.raw_map.RawMap.{RawMap}
use Rattle.om_subsets.specs.Subsets.{choose}
use Rattle.om_chirotope.specs.Map.{map_of, IsMap}
use Rattle.om_document.specs.declared.body.Body.{Body}
use Rattle.om_document.specs.declared.body.Body.TheVariants.{Chirotope, Circuits, Cocircuits, Covectors, Wiring, Points}
use Rattle.om_document.specs.declared.document.Document.{Document}
use Rattle.om_document.specs.Form.{IsMapOn, IsBodyOn, IsInForm}
use Rattle.om_vectors.specs.Realizations.{IsRankLow}
use Rattle.om_representation.specs.declared.document_refused.DocumentRefused.{DocumentRefused}
use Rattle.om_representation.specs.declared.document_refused.DocumentRefused.TheVariants as reason
use Rattle.om_representation.specs.Axioms.{MeetsAxiomsOn, MeetsAxioms, IsRefusedOn, IsRefused}
use Rattle.om_representation.specs.Points.{vectors_of}
use Rattle.om_existence.specs.Possible.{IsPossible}
use Rattle.om_existence.proofs.Possible.{held, then, mapped}
use Rattle.om_existence.proofs.MapRefusals.{map_refused}
use Rattle.om_existence.proofs.SetRefusals.{circuits_refused, covectors_refused}
use Rattle.om_existence.proofs.WiringRefusals.{wiring_refused}

-- a map of a document in form has a sign for each increasing list
pub whole_map : (n : ℕ) (m : RawMap) → IsMapOn n m → IsMap (map_of m)
whole_map n m f = record {
  part = subst (λ k. m.rank ≤ k) (sym f.elements) f.rank;
  whole = subst (λ k. length m.signs ≡ choose k m.rank) (sym f.elements) f.signs;
}

refused_on : (n : ℕ) (b : Body) → IsBodyOn n b → (MeetsAxiomsOn n b → ⊥)
    → IsPossible ((why : DocumentRefused) × IsRefusedOn n b why)
refused_on n (Chirotope m) form fails =
    mapped (λ h. (reason.Map h.0, (h.0, (refl, h.1)))) (map_refused m (whole_map n m form) fails)
refused_on n (Circuits members) form fails =
    mapped (λ h. (reason.Circuits h.0, (h.0, (refl, h.1)))) (circuits_refused members fails)
refused_on n (Cocircuits members) form fails =
    mapped (λ h. (reason.Circuits h.0, (h.0, (refl, h.1)))) (circuits_refused members fails)
refused_on n (Covectors members) form fails =
    mapped (λ h. (reason.Covectors h.0, (h.0, (refl, h.1)))) (covectors_refused members fails)
refused_on n (Wiring blocks) form fails =
    mapped (λ h. (reason.Wiring h.0, (h.0, (refl, h.1)))) (wiring_refused n blocks fails)
refused_on n (Points points) form fails = then low (λ is. held (reason.RankLow, (refl, is)))
  where
    low : IsPossible (IsRankLow (vectors_of points))
    low none = fails none

pub refusal_possible : (d : Document) → IsInForm d → (MeetsAxioms d → ⊥)
    → IsPossible ((why : DocumentRefused) × IsRefused d why)
refusal_possible d form fails = refused_on d.elements d.body form.body fails
