-- The documents on which the commands work, and their chirotopes.
--
-- Main results: worked_possible: a document that meets its axioms, and isn't flat, is worked on as a map or a list that
-- meets them; chirotope_possible: such a document has a chirotope; for_chirotope_possible, for_kept_chirotope_possible:
-- where each chirotope has an answer, its document has one.
use Rattle.std.specs.Prelude.{ℕ, ◌≡◌, ◌≤◌, List, length, refl}
use Rattle.std.proofs.Common.{sym, ◌∙◌, subst, inl, inr, arith}
use Rattle.std.proofs.lemmas.List.{length-map}
use Rattle.om_signs.specs.declared.limits.TheConstants.{MAX_ELEMENTS}
use Rattle.om_signs.specs.declared.raw_map.RawMap.{RawMap}
use Rattle.om_chirotope.specs.Map.{SignMap, map_of}
use Rattle.om_chirotope.specs.Chirotope.{IsChirotope, IsChirotopeWithinLimits}
use Rattle.om_denotation.specs.Covectors.{IsCovectorOfChirotope}
use Rattle.om_denotation.specs.Denotation.{DenoteTheSame}
use Rattle.om_denotation.proofs.ListExistence.{of_circuits, of_cocircuits, of_covectors}
use Rattle.om_denotation.proofs.NormalForms.{normal_exists, normal_covectors, normal_elements}
use Rattle.om_denotation.proofs.Uniqueness.{normal_axioms}
use Rattle.om_wiring.specs.Maps.{wiring_map}
use Rattle.om_wiring.proofs.Existence.{chirotope_if_not_flat}
use Rattle.om_document.specs.declared.body.Body.{Body}
use Rattle.om_document.specs.declared.body.Body.TheVariants as body
use Rattle.om_document.specs.declared.document.Document.{Document}
use Rattle.om_document.specs.Form.{IsMapOn, IsBodyOn, IsInForm}
use Rattle.om_printing.specs.declared.line.Line.TheVariants as line
use Rattle.om_representation.specs.Axioms.{MeetsAxiomsOn, MeetsAxioms, IsFlatOn, IsFlatDocument}
use Rattle.om_representation.specs.Chirotopes.{IsNormalChirotopeOf, IsChirotopeOf}
use Rattle.om_representation.specs.Covectors.{IsCovectorIn}
use Rattle.om_representation.specs.Documents.{map_document, with_map, worked_on}
use Rattle.om_representation.specs.Points.{vector_of_point, vectors_of, points_map}
use Rattle.om_representation.specs.Widths.{IsTooWide}
use Rattle.om_reply.specs.declared.answer.Answer.{Answer}
use Rattle.om_reply.specs.Answers.{says}
use Rattle.om_representation.specs.AnyRank.{IsForKeptChirotope, wide, kept}
use Rattle.om_representation.specs.RankThree.{IsForChirotope, for_chirotope}
use Rattle.om_commands.specs.Given.{IsGiven}
use Rattle.om_existence.specs.Possible.{IsPossible}
use Rattle.om_existence.proofs.Possible.{held, then, mapped, either_way}
use Rattle.om_existence.proofs.MapForms.{rank3_form}
use Rattle.om_existence.proofs.VectorSigns.{chirotope_possible}

-- a document on which a command works: it has the form of one, it meets its axioms, and it is a map or a list
pub record IsWorked (d : Document) : Type 0 where
  pub form : IsInForm d
  pub axioms : MeetsAxioms d
  pub given : IsGiven d.body

-- ---- the document that is worked on

-- a chirotope of rank 3 on n elements is worked on as its document
of_rank3 : (n : ℕ) (m : SignMap) → 1 ≤ n → n ≤ MAX_ELEMENTS → m.rank ≡ 3 → m.elements ≡ n → IsChirotope m
    → IsWorked (map_document m)
of_rank3 n m low high three count axioms = record {
  form = rank3_form m axioms.whole three (omega (arith, low, count)) (omega (arith, high, count));
  axioms = axioms;
  given = tt;
}

worked_body : (n : ℕ) (b : Body) → 1 ≤ n → n ≤ MAX_ELEMENTS → IsBodyOn n b → MeetsAxiomsOn n b → (IsFlatOn n b → ⊥)
    → IsPossible (IsWorked (with_map n b))
worked_body n (body.Chirotope m) low high on axioms some =
    held (record { form = record { low = low; high = high; body = on; names = inl refl }; axioms = axioms; given = tt })
worked_body n (body.Circuits members) low high on axioms some =
    held (record { form = record { low = low; high = high; body = on; names = inl refl }; axioms = axioms; given = tt })
worked_body n (body.Cocircuits members) low high on axioms some =
    held (record { form = record { low = low; high = high; body = on; names = inl refl }; axioms = axioms; given = tt })
worked_body n (body.Covectors members) low high on axioms some =
    held (record { form = record { low = low; high = high; body = on; names = inl refl }; axioms = axioms; given = tt })
worked_body n (body.Wiring blocks) low high on axioms some =
    held (of_rank3 n (wiring_map n blocks) low high refl refl (chirotope_if_not_flat n blocks axioms some))
worked_body n (body.Points points) low high on axioms some =
    mapped (of_rank3 n (points_map points) low high refl count) (chirotope_possible (vectors_of points) axioms)
  where
    count : length (vectors_of points) ≡ n
    count = length-map points vector_of_point ∙ on.count

pub worked_possible : (d : Document) → IsInForm d → MeetsAxioms d → (IsFlatDocument d → ⊥)
    → IsPossible (IsWorked (worked_on d))
worked_possible d form axioms some = worked_body d.elements d.body form.low form.high form.body axioms some

-- ---- its chirotope

-- the chirotope of a document, which is of as many elements
pub record IsItsChirotope (d : Document) (m : SignMap) : Type 0 where
  pub of : IsChirotopeOf d m
  pub sound : IsChirotopeWithinLimits m
  pub elements : m.elements ≡ d.elements

-- the normal form of a chirotope that denotes what the document denotes
normal_of : (d : Document) → IsInForm d → (m : SignMap) → IsChirotope m → m.elements ≡ d.elements
    → DenoteTheSame d.elements (IsCovectorIn d) (IsCovectorOfChirotope m) → (k : SignMap)
    × (IsNormalChirotopeOf d k × IsChirotopeWithinLimits k)
normal_of d form m chirotope count same =
    let h = normal_exists m chirotope in
    let axioms = normal_axioms m h.0 chirotope h.1 in
    let elements = normal_elements m h.0 h.1 ∙ count in (
      h.0,
      (
        record {
          axioms = axioms;
          elements = elements;
          same = λ X size. (
            λ p. (normal_covectors m h.0 h.1 X (size ∙ sym count)).1 ((same X size).0 p),
            λ q. (same X size).1 ((normal_covectors m h.0 h.1 X (size ∙ sym count)).0 q),
          );
          normal = h.1.normal;
        },
        record {
          axioms = axioms;
          limits =
              record {
                low = subst (λ n. 1 ≤ n) (sym elements) form.low;
                high =
                    subst (λ n. n ≤ MAX_ELEMENTS) (sym elements) form.high;
              };
        },
      ),
    )

sound_map : (n : ℕ) (raw : RawMap) → 1 ≤ n → n ≤ MAX_ELEMENTS → IsMapOn n raw → IsChirotope (map_of raw)
    → IsChirotopeWithinLimits (map_of raw)
sound_map n raw low high on axioms =
    record {
      axioms = axioms;
      limits =
          record {
            low = subst (λ k. 1 ≤ k) (sym on.elements) low;
            high =
                subst (λ k. k ≤ MAX_ELEMENTS) (sym on.elements) high;
          };
    }

chirotope_of_body : (n : ℕ) (b : Body) (names : List (List ℕ))
    → (w : IsWorked (record { elements = n; body = b; names = names })) → (m : SignMap)
    × IsItsChirotope (record { elements = n; body = b; names = names }) m
chirotope_of_body n (body.Chirotope raw) names w = (
  map_of raw,
  record {
    of = refl;
    sound = sound_map n raw w.form.low w.form.high w.form.body w.axioms;
    elements =
        w.form.body.elements;
  },
)
chirotope_of_body n (body.Circuits members) names w =
    let h = of_circuits (record { elements = n; members = members }) w.form.body.long w.axioms in
    let k = normal_of (record { elements = n; body = body.Circuits members; names = names }) w.form h.0 h.1.axioms
    h.1.elements h.1.same in
    (k.0, record { of = k.1.0; sound = k.1.1; elements = k.1.0.elements })
chirotope_of_body n (body.Cocircuits members) names w =
    let h = of_cocircuits (record { elements = n; members = members }) w.form.body.long w.axioms in
    let k = normal_of (record { elements = n; body = body.Cocircuits members; names = names }) w.form h.0 h.1.axioms
    h.1.elements h.1.same in
    (k.0, record { of = k.1.0; sound = k.1.1; elements = k.1.0.elements })
chirotope_of_body n (body.Covectors members) names w =
    let h = of_covectors (record { elements = n; members = members }) w.form.body.long w.axioms in
    let k = normal_of (record { elements = n; body = body.Covectors members; names = names }) w.form h.0 h.1.axioms
    h.1.elements h.1.same in
    (k.0, record { of = k.1.0; sound = k.1.1; elements = k.1.0.elements })
chirotope_of_body n (body.Wiring blocks) names w = absurd w.given
chirotope_of_body n (body.Points points) names w = absurd w.given

pub chirotope_of : (d : Document) → IsWorked d → (m : SignMap) × IsItsChirotope d m
chirotope_of d w = chirotope_of_body d.elements d.body d.names w

-- ---- an answer for the chirotope

pub for_chirotope_possible : (Meaning : SignMap → Answer → Type 0) (d : Document) → IsWorked d
    → ((m : SignMap) → IsChirotopeWithinLimits m → m.elements ≡ d.elements → IsPossible ((a : Answer) × Meaning m a))
    → IsPossible ((a : Answer) × IsForChirotope Meaning d a)
for_chirotope_possible Meaning d w f = let c = chirotope_of d w in
    mapped (λ h. (h.0, for_chirotope c.0 h.0 c.1.of h.1)) (f c.0 c.1.sound c.1.elements)

pub for_kept_chirotope_possible : (Meaning : SignMap → Answer → Type 0) (d : Document) → IsWorked d
    → ((m : SignMap) → IsChirotopeWithinLimits m → m.elements ≡ d.elements → IsPossible ((a : Answer) × Meaning m a))
    → IsPossible ((a : Answer) × IsForKeptChirotope says Meaning d a)
for_kept_chirotope_possible Meaning d w f = then (either_way ((values : ℕ) × IsTooWide d values)) (λ e. elim e [
  | inl h ↦ held (says (line.LimitValues h.0), wide h.0 h.1)
  | inr n ↦ let c = chirotope_of d w in
      mapped (λ h. (h.0, kept c.0 h.0 (λ v t. n (v, t)) c.1.of h.1)) (f c.0 c.1.sound c.1.elements)
])
