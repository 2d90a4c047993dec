-- A document is given to the three-term test, or held against the axioms of its kind.
--
-- Main results: test_possible, checked_possible.
use Rattle.std.specs.Prelude.{ℕ, ◌≡◌, ◌≤◌, List, [], ◌∷◌, length, refl}
use Rattle.std.proofs.Common.{sym, ◌∙◌, subst, inl, inr, arith}
use Rattle.om_signs.specs.declared.raw_map.RawMap.{RawMap}
use Rattle.om_subsets.specs.Lists.{IsBefore}
use Rattle.om_subsets.specs.Members.{Chosen}
use Rattle.om_chirotope.specs.Map.{SignMap, map_of, IsMap}
use Rattle.om_chirotope.specs.ThreeTerm.{HasExchange, HasThreeTermRelations, MeetsThreeTermTest}
use Rattle.om_chirotope.proofs.Axioms.{nonzero_or_zeros, not_all_zero}
use Rattle.om_chirotope.proofs.ThreeTerms.{chirotope_of_test, test_of_chirotope}
use Rattle.om_threeterm.specs.declared.three_refused.ThreeRefused.TheVariants as why
use Rattle.om_threeterm.specs.Violations.{IsUnexchanged, IsFirstUnexchanged}
use Rattle.om_threeterm.specs.Violations.{IsUnbalancedList, IsFirstUnbalanced}
use Rattle.om_threeterm.proofs.ExchangeLaws.{exchange_of_no_violated}
use Rattle.om_threeterm.proofs.RelationLaws.{balanced_or_not}
use Rattle.om_document.specs.declared.body.Body.{Body}
use Rattle.om_document.specs.declared.body.Body.TheVariants.{Chirotope, Circuits, Cocircuits, Covectors, Wiring, Points}
use Rattle.om_document.specs.declared.document.Document.{Document}
use Rattle.om_document.specs.Form.{IsBodyOn, IsInForm}
use Rattle.om_printing.specs.declared.line.Line.TheVariants as line
use Rattle.om_representation.specs.Axioms.{MeetsAxioms}
use Rattle.om_reply.specs.declared.answer.Answer.{Answer}
use Rattle.om_reply.specs.Answers.{says}
use Rattle.om_commands.specs.ThreeTermTests.{failure_line, IsTestOfMap, fails, meets, IsNoMap, IsThreeTermTest, of_map}
use Rattle.om_commands.specs.ThreeTermTests.{refused, no_map}
use Rattle.om_commands.specs.Checked.{IsChecked}
use Rattle.om_commands.specs.Checked as checked
use Rattle.om_existence.specs.Possible.{IsPossible}
use Rattle.om_existence.proofs.Possible.{held, then, mapped, either_way, least, IsLeast}
use Rattle.om_existence.proofs.Firsts.{IsFirst, first_subset}
use Rattle.om_representation.specs.RefusalLines.{refused_line}
use Rattle.om_existence.proofs.RefusalParts.{whole_map, refusal_possible}

-- ---- exchanges

module _ (m : SignMap) where
  abbrev chosen : List ℕ → Chosen
  chosen xs = record { n = m.elements; elements = xs }

  abbrev IsBadWith : List ℕ → List ℕ → Type 0
  IsBadWith b c = (e : ℕ) × IsUnexchanged m b c e

  abbrev IsBad : List ℕ → Type 0
  IsBad b = (c : List ℕ) × IsBadWith b c

  unexchanged_possible : (HasExchange m → ⊥) → IsPossible ((b : List ℕ) × IsBad b)
  unexchanged_possible fail none = fail (exchange_of_no_violated m (λ b c e u. none (b, (c, (e, u)))))

  b_short : (b : List ℕ) → IsBad b → length b ≤ m.rank
  b_short b h = let l = h.1.1.first.size in omega (arith, l)

  c_short : (b c : List ℕ) → IsBadWith b c → length c ≤ m.rank
  c_short b c h = let l = h.1.second.size in omega (arith, l)

  of_first_exchanges : (b c : List ℕ) (e : ℕ) → IsFirst IsBefore IsBad b → IsFirst IsBefore (IsBadWith b) c
      → IsLeast (λ x. x) (IsUnexchanged m b c) e → IsFirstUnexchanged m (chosen b) (chosen c) e
  of_first_exchanges b c e first second third = record {
    b_n = refl;
    first = record {
      c_n = refl;
      violated = third.has;
      earlier_c = λ d x before u. second.before d before (x, u);
      earlier_e = λ x less u. third.below x less u;
    };
    earlier_b = λ t d x before u. first.before t before (d, (x, u));
  }

  first_exchange_possible : (HasExchange m → ⊥)
      → IsPossible ((b : Chosen) × ((c : Chosen) × ((e : ℕ) × IsFirstUnexchanged m b c e)))
  first_exchange_possible fail =
      then (unexchanged_possible fail) (λ v.
      then (first_subset m.rank IsBad b_short v.0 v.1) (λ f.
      then (first_subset m.rank (IsBadWith f.0) (c_short f.0) f.1.has.0 f.1.has.1) (λ g.
      mapped (λ h. (chosen f.0, (chosen g.0, (h.0, of_first_exchanges f.0 g.0 h.0 f.1 g.1 h.1))))
      (least (λ x. x) (IsUnexchanged m f.0 g.0) g.1.has.0 g.1.has.1))))

  -- ---- relations

  abbrev HasUnbalanced : List ℕ → Type 0
  HasUnbalanced p = (q : List ℕ) × IsUnbalancedList m p q

  unbalanced_possible : (HasThreeTermRelations m → ⊥) → IsPossible ((p : List ℕ) × HasUnbalanced p)
  unbalanced_possible fail none = fail (λ p a b c d frame. elim (balanced_or_not _ _ _) [
    | inl balanced ↦ balanced
    | inr not ↦ absurd (none (p, (a ∷ b ∷ c ∷ d ∷ [], (a, b, c, d, refl, record { frame = frame; violated = not }))))
  ])

  p_short : (p : List ℕ) → HasUnbalanced p → length p ≤ m.rank
  p_short p h = let l = h.1.5.frame.size in omega (arith, l)

  q_short : (p q : List ℕ) → IsUnbalancedList m p q → length q ≤ 4
  q_short p q h = subst (λ u. length u ≤ 4) (sym h.4) (omega arith)

  of_first_relations : (p q : List ℕ) → IsFirst IsBefore HasUnbalanced p → IsFirst IsBefore (IsUnbalancedList m p) q
      → IsFirstUnbalanced m (chosen p) (chosen q)
  of_first_relations p q first second = record {
    p_n = refl;
    first = record { q_n = refl; violated = second.has; earlier_q = λ t before u. second.before t before u };
    earlier_p = λ s t before u. first.before s before (t, u);
  }

  first_relation_possible : (HasThreeTermRelations m → ⊥)
      → IsPossible ((p : Chosen) × ((q : Chosen) × IsFirstUnbalanced m p q))
  first_relation_possible fail =
      then (unbalanced_possible fail) (λ v.
      then (first_subset m.rank HasUnbalanced p_short v.0 v.1) (λ f.
      mapped (λ g. (chosen f.0, (chosen g.0, of_first_relations f.0 g.0 f.1 g.1)))
      (first_subset 4 (IsUnbalancedList m f.0) (q_short f.0) f.1.has.0 f.1.has.1)))

-- ---- the test of a map

map_tested : (raw : RawMap) → IsMap (map_of raw) → IsPossible ((a : Answer) × IsTestOfMap raw a)
map_tested raw whole = elim (nonzero_or_zeros m whole) [
  | inr zeros ↦
      held (says (failure_line why.AllZero), fails why.AllZero zeros (λ c. not_all_zero m whole zeros c.nonzero))
  | inl some ↦ then (either_way (HasExchange m)) (λ e. elim e [
    | inr fail ↦
        mapped (λ h. (
          says (failure_line (why.NoExchange h.0 h.1.0 h.1.1.0)),
          fails (why.NoExchange h.0 h.1.0 h.1.1.0) (λ zeros. not_all_zero m whole zeros some, h.1.1.1)
              (λ c. fail (test_of_chirotope m c).exchange),
        )) (first_exchange_possible m fail)
    | inl exchange ↦ then (either_way (HasThreeTermRelations m)) (λ f. elim f [
      | inr fail ↦
          mapped (λ h. (
            says (failure_line (why.ThreeTerm h.0 h.1.0)),
            fails (why.ThreeTerm h.0 h.1.0) (λ zeros. not_all_zero m whole zeros some, (exchange, h.1.1))
                (λ c. fail (test_of_chirotope m c).relations),
          )) (first_relation_possible m fail)
      | inl relations ↦
          let test : MeetsThreeTermTest m =
          record { whole = whole; nonzero = some; exchange = exchange; relations = relations } in
          held (says line.Accepted, meets test (chirotope_of_test m test))
    ])
  ])
]
  where
    m : SignMap
    m = map_of raw

-- ---- the test of a document

other_tested : (d : Document) → IsInForm d → IsNoMap d.body → IsPossible ((a : Answer) × IsThreeTermTest d a)
other_tested d form other = then (either_way (MeetsAxioms d)) (λ e. elim e [
  | inl axioms ↦ held (says line.RefusedNotmap, no_map other axioms)
  | inr fail ↦ mapped (λ h. (says (refused_line h.0), refused h.0 other h.1)) (refusal_possible d form fail)
])

body_tested : (d : Document) (b : Body) → IsInForm d → d.body ≡ b → IsBodyOn d.elements b
    → IsPossible ((a : Answer) × IsThreeTermTest d a)
body_tested d (Chirotope m) form is on =
    mapped (λ h. (h.0, of_map m h.0 is h.1)) (map_tested m (whole_map d.elements m on))
body_tested d (Circuits members) form is on = other_tested d form (λ m e. let same = sym is ∙ e in cc)
body_tested d (Cocircuits members) form is on = other_tested d form (λ m e. let same = sym is ∙ e in cc)
body_tested d (Covectors members) form is on = other_tested d form (λ m e. let same = sym is ∙ e in cc)
body_tested d (Wiring blocks) form is on = other_tested d form (λ m e. let same = sym is ∙ e in cc)
body_tested d (Points points) form is on = other_tested d form (λ m e. let same = sym is ∙ e in cc)

pub test_possible : (d : Document) → IsInForm d → IsPossible ((a : Answer) × IsThreeTermTest d a)
test_possible d form = body_tested d d.body form refl form.body

-- a document that is held against its axioms first has an answer, if it has one where it meets them
pub checked_possible : (d : Document) (Meaning : Answer → Type 0) → IsInForm d
    → (MeetsAxioms d → IsPossible ((a : Answer) × Meaning a)) → IsPossible ((a : Answer) × IsChecked d Meaning a)
checked_possible d Meaning form meant = then (either_way (MeetsAxioms d)) (λ e. elim e [
  | inl axioms ↦ mapped (λ h. (h.0, checked.met h.0 axioms h.1)) (meant axioms)
  | inr fail ↦ mapped (λ h. (says (refused_line h.0), checked.refused h.0 h.1)) (refusal_possible d form fail)
])
