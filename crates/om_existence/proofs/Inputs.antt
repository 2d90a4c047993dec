-- An answer for all words and bytes, from an answer for each part of the meaning.
--
-- Main results: answer_possible.
use Rattle.std.specs.Prelude.{ℕ, List, length, refl}
use Rattle.std.proofs.Common.{inl, inr}
use Rattle.std.proofs.lemmas.Bool.{cases_lt}
use Rattle.om_signs.specs.declared.limits.TheConstants.{MAX_INPUT}
use Rattle.om_document.specs.declared.document.Document.{Document}
use Rattle.om_document.specs.Form.{IsInForm}
use Rattle.om_lines.specs.Lines.{lines}
use Rattle.om_reply.specs.declared.claim.Claim.{Claim}
use Rattle.om_printing.specs.declared.line.Line.{Line}
use Rattle.om_printing.specs.declared.line.Line.TheVariants as line
use Rattle.om_answer.proofs.ClaimSizes.{evidence_within}
use Rattle.om_representation.specs.Axioms.{MeetsAxioms, IsFlatDocument}
use Rattle.om_program.specs.declared.plan.OnDocument.{OnDocument}
use Rattle.om_program.specs.declared.plan.OnDocument.TheVariants as document
use Rattle.om_program.specs.declared.plan.OnMatroid.{OnMatroid}
use Rattle.om_program.specs.declared.plan.OnMatroid.TheVariants.{Member, Convert, Operate, Wiring, Mutations, Flip}
use Rattle.om_program.specs.declared.plan.OnMatroid.TheVariants.{Extend, Paint, Hull, Lexext, Decide}
use Rattle.om_program.specs.declared.plan.Plan.{Plan}
use Rattle.om_program.specs.declared.plan.Plan.TheVariants as plan
use Rattle.om_program.specs.declared.plan.Reading.{Reading}
use Rattle.om_program.specs.declared.plan.Reading.TheVariants as reading
use Rattle.om_program.specs.Plans.{plan_for, IsLawfulOnMatroid, IsLawfulOnDocument, IsLawfulReading, IsLawfulPlan}
use Rattle.om_program.proofs.PlanLaws.{planned}
use Rattle.om_representation.specs.Covectors.{IsCovectorIn}
use Rattle.om_representation.specs.Documents.{worked_on}
use Rattle.om_reply.specs.declared.answer.Answer.{Answer}
use Rattle.om_reply.specs.Answers.{says}
use Rattle.om_plane.specs.Claims.{ClaimMeans}
use Rattle.om_plane.specs.Decisions.{DecisionMeans}
use Rattle.om_plane.specs.ExtensionLists.{AreExtensionsOfMap}
use Rattle.om_commands.specs.Hulls.{IsHullOfMap}
use Rattle.om_program.specs.Meaning.{IsAnswerOf, MatroidMeans, flat, answered, DocumentMeans, IsAnswerToClaim}
use Rattle.om_program.specs.Meaning.{long, faulty, read, ReadingMeans, PlanMeans, usage, named}
use Rattle.om_plane.specs.MutationLists.{AreMutationsOfMap}
use Rattle.om_plane.specs.Sweeps.{IsWiringOfMap}
use Rattle.om_existence.specs.Possible.{IsPossible}
use Rattle.om_existence.specs.Existence.{HasAnswer}
use Rattle.om_existence.proofs.Possible.{held, then, mapped, either_way}
use Rattle.om_existence.proofs.Worked.{IsWorked, worked_possible, for_chirotope_possible, for_kept_chirotope_possible}
use Rattle.om_existence.proofs.WordParts.{words_possible}
use Rattle.om_existence.proofs.TextParts.{readings, claim_readings, document_form, claim_form}
use Rattle.om_existence.proofs.MembershipParts.{membership_possible}
use Rattle.om_existence.proofs.ConversionParts.{conversion_possible}
use Rattle.om_existence.proofs.OperationParts.{operation_possible}
use Rattle.om_existence.proofs.SweepParts.{wiring_possible}
use Rattle.om_existence.proofs.MutationParts.{mutations_possible, flip_possible}
use Rattle.om_existence.proofs.ExtensionParts.{extensions_possible}
use Rattle.om_existence.proofs.PaintingParts.{painting_possible, hull_possible}
use Rattle.om_existence.proofs.LexicalParts.{lexical_extension_possible}
use Rattle.om_existence.proofs.DecisionParts.{decision_possible}
use Rattle.om_existence.proofs.TestParts.{test_possible, checked_possible}
use Rattle.om_existence.proofs.ClaimParts.{claim_possible}
use Rattle.om_existence.proofs.MadeParts.{made_possible}

-- ---- what is asked of an oriented matroid

on_matroid : (what : OnMatroid) → IsLawfulOnMatroid what → (d : Document) → IsWorked d
    → IsPossible ((a : Answer) × IsAnswerOf what d a)
on_matroid (Member x) lawful d w = membership_possible d.elements (IsCovectorIn d) x
on_matroid (Convert k) lawful d w = conversion_possible k d w
on_matroid (Operate operation) lawful d w = operation_possible operation lawful d w
on_matroid Wiring lawful d w = for_chirotope_possible IsWiringOfMap d w (λ m s e. wiring_possible m s)
on_matroid Mutations lawful d w = for_chirotope_possible AreMutationsOfMap d w (λ m s e. mutations_possible m s)
on_matroid (Flip a b c) lawful d w = flip_possible a b c lawful d w
on_matroid (Extend first) lawful d w =
    for_chirotope_possible (AreExtensionsOfMap first) d w (λ m s e. extensions_possible first m s)
on_matroid (Paint c) lawful d w = painting_possible c lawful d w
on_matroid Hull lawful d w = for_kept_chirotope_possible IsHullOfMap d w (λ m s e. hull_possible m s)
on_matroid (Lexext l) lawful d w = lexical_extension_possible l lawful d w
on_matroid (Decide b) lawful d w =
    for_chirotope_possible (DecisionMeans b) d w (λ m s e. decision_possible b lawful m s)

matroid_possible : (what : OnMatroid) → IsLawfulOnMatroid what → (d : Document) → IsInForm d → MeetsAxioms d
    → IsPossible ((a : Answer) × MatroidMeans what d a)
matroid_possible what lawful d form axioms = then (either_way (IsFlatDocument d)) (λ f. elim f [
  | inl zero ↦ held (says line.RefusedFlatrank, flat zero)
  | inr some ↦ then (worked_possible d form axioms some)
      (λ w. mapped (λ h. (h.0, answered h.0 some h.1)) (on_matroid what lawful (worked_on d) w))
])

-- ---- what is asked of a document

on_document : (what : OnDocument) → IsLawfulOnDocument what → (d : Document) → IsInForm d
    → IsPossible ((a : Answer) × DocumentMeans what d a)
on_document document.Accept lawful d form = checked_possible d _ form (λ axioms. held (_, refl))
on_document document.ThreeTerm lawful d form = test_possible d form
on_document document.Upgrade lawful d form = checked_possible d _ form (λ axioms. held (_, refl))
on_document (document.Matroid what) lawful d form =
    checked_possible d _ form (λ axioms. matroid_possible what lawful d form axioms)

on_claim : (c : Claim) → IsPossible ((l : Line) × ClaimMeans c l) → IsPossible ((a : Answer) × IsAnswerToClaim c a)
on_claim c possible = mapped (λ l. (says l.0, (l.0, (refl, l.1)))) possible

-- ---- an input

on_input : (what : Reading) → IsLawfulReading what → (bytes : List ℕ)
    → IsPossible ((a : Answer) × ReadingMeans what bytes a)
on_input reading.Claim lawful bytes = elim (cases_lt MAX_INPUT (length bytes)) [
  | inl past ↦ held (says line.RefusedLong, long past)
  | inr short ↦ elim (claim_readings bytes) [
    | inl h ↦ mapped (λ a. (a.0, read h.0 a.0 short h.1 a.1))
        (on_claim h.0 (claim_possible h.0 (claim_form (lines bytes) h.0 h.1) (evidence_within bytes h.0 h.1 short)))
    | inr f ↦ held (says (line.RefusedLine f.0 f.1), faulty f.0 f.1 short f.2)
  ]
]
on_input (reading.Document what) lawful bytes = elim (cases_lt MAX_INPUT (length bytes)) [
  | inl past ↦ held (says line.RefusedLong, long past)
  | inr short ↦ elim (readings bytes) [
    | inl h ↦ mapped (λ a. (a.0, read h.0 a.0 short h.1 a.1))
        (on_document what lawful h.0 (document_form (lines bytes) h.0 h.1))
    | inr f ↦ held (says (line.RefusedLine f.0 f.1), faulty f.0 f.1 short f.2)
  ]
]

by_plan : (p : Plan) → IsLawfulPlan p → (bytes : List ℕ) → IsPossible ((a : Answer) × PlanMeans p bytes a)
by_plan (plan.Make seed count) lawful bytes = made_possible seed count lawful
by_plan (plan.Read what) lawful bytes = on_input what lawful bytes

-- ---- words and an input

pub answer_possible : (words : List (List ℕ)) (bytes : List ℕ) → IsPossible (HasAnswer words bytes)
answer_possible words bytes = then (words_possible words) (λ e. elim e [
  | inl u ↦ held (says (line.Usage u.0), usage u.0 u.1)
  | inr n ↦ mapped (λ h. (h.0, named n.0 h.0 n.1 h.1))
      (by_plan (plan_for n.0) ((planned n.0).1 n.2) bytes)
])
