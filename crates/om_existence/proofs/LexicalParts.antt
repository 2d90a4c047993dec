-- Each document has its lexicographic extension by a list.
--
-- Main results: lexical_extension_possible.
-- Reference: Björner, Las Vergnas, Sturmfels, White and Ziegler, Oriented Matroids, chapter 7.
use Rattle.std.specs.Prelude.{◌≡◌, ◌+◌, ◌<◌, List, None, refl}
use Rattle.std.proofs.Common.{sym, subst, inl, inr, arith}
use Rattle.std.proofs.lemmas.Bool.{cases_eq, cases_lt}
use Rattle.om_signs.specs.declared.limits.TheConstants.{MAX_ELEMENTS, MAX_VALUES}
use Rattle.om_subsets.specs.Subsets.{choose}
use Rattle.om_chirotope.specs.Map.{SignMap}
use Rattle.om_chirotope.specs.Chirotope.{IsChirotope, IsChirotopeWithinLimits}
use Rattle.om_lexext.specs.declared.signed.Signed.{Signed}
use Rattle.om_lexext.specs.Lexicographic.{AreEntries, IsLexicographicExtension}
use Rattle.om_lexext.proofs.Extensions.{extended, lexicographic_axioms, is_extension}
use Rattle.om_document.specs.declared.document.Document.{Document}
use Rattle.om_printing.specs.declared.line.Line.TheVariants as line
use Rattle.om_words.specs.declared.leading.Leading.{Leading}
use Rattle.om_words.specs.Tasks.{AreLawful, given_list, elements_of}
use Rattle.om_representation.specs.Documents.{map_document}
use Rattle.om_reply.specs.declared.answer.Answer.{Answer}
use Rattle.om_reply.specs.Answers.{says, shows}
use Rattle.om_commands.specs.LexicalExtensions.{IsExtensionOfMap, limited, extended as is_extended, IsLexicalExtension}
use Rattle.om_commands.specs.LexicalExtensions.{outside, full, fewer}
use Rattle.om_reply.specs.Above.{first_above}
use Rattle.om_commands.proofs.LeadingLaws.{listed_within, fewer_elements}
use Rattle.om_existence.specs.Possible.{IsPossible}
use Rattle.om_existence.proofs.Possible.{held, mapped, found_or_not}
use Rattle.om_existence.proofs.MapForms.{map_form}
use Rattle.om_existence.proofs.Worked.{IsWorked, for_kept_chirotope_possible}

of_map : (list : List Signed) (m : SignMap) → IsChirotopeWithinLimits m → m.elements < MAX_ELEMENTS
    → AreEntries m.elements list
    → IsPossible ((a : Answer) × IsExtensionOfMap list m a)
of_map list m s less entries = elim (cases_lt MAX_VALUES (choose (m.elements + 1) m.rank)) [
  | inl many ↦ held (says (line.LimitValues (choose (m.elements + 1) m.rank)), limited many)
  | inr few ↦
      held (
        shows (map_document x),
        is_extended x (map_document x) few is refl (map_form x axioms.whole (omega arith) (omega (arith, less)) few)
            axioms,
      )
]
  where
    x : SignMap
    x = extended m s.axioms list entries

    axioms : IsChirotope x
    axioms = lexicographic_axioms m s.axioms list entries

    is : IsLexicographicExtension m list x
    is = is_extension m s.axioms list entries

pub lexical_extension_possible : (l : Leading) → AreLawful l → (d : Document) → IsWorked d
    → IsPossible ((a : Answer) × IsLexicalExtension l d a)
lexical_extension_possible l lawful d w = elim (found_or_not (first_above d.elements (elements_of (given_list l)))) [
  | inl h ↦ held (says (line.RefusedPlace h.0), outside h.0 h.1)
  | inr none ↦ elim (cases_eq d.elements MAX_ELEMENTS) [
    | inl most ↦ held (says (line.RefusedFull d.elements), full none most)
    | inr other ↦
        let less = fewer_elements d.elements w.form.high other in
        mapped (λ h. (h.0, fewer h.0 none less h.1))
        (for_kept_chirotope_possible (IsExtensionOfMap (given_list l)) d w (λ m s e.
        of_map (given_list l) m s (omega (arith, e, less))
        (listed_within MAX_ELEMENTS m.elements (given_list l) lawful.listed
        (subst (λ n. first_above n (elements_of (given_list l)) ≡ None) (sym e) none)).entries))
  ]
]
