-- A document has one refusal at most, and none where it meets its axioms.
--
-- Main results: of the lists of one length with a property, one is the first (one_first); the first pair that isn't
-- orthogonal is one (one_violated), and a chirotope has none (not_violated); one reason refuses a document
-- (one_refused), and none where it meets its axioms (not_refused).
use Rattle.std.specs.Prelude.{ℕ, ◌≡◌, List, [], ◌∷◌, length, refl}
use Rattle.std.proofs.Common.{sym, ◌∙◌, ap, subst, inl, inr, arith}
use Rattle.om_signs.specs.declared.raw_map.RawMap.{RawMap}
use Rattle.om_subsets.specs.Lists.{IsBefore}
use Rattle.om_subsets.specs.Members.{Chosen}
use Rattle.om_subsets.proofs.Firsts.{same_chosen}
use Rattle.om_chirotope.specs.Map.{SignMap, map_of}
use Rattle.om_chirotope.specs.Chirotope.{IsPair, IsOrthogonalPair, IsChirotope, IsFirstViolated}
use Rattle.om_chirotope.specs.declared.map_refused.MapRefused.{MapRefused}
use Rattle.om_chirotope.specs.declared.map_refused.MapRefused.TheVariants.{AllZero, Relation}
use Rattle.om_chirotope.proofs.Axioms.{not_all_zero}
use Rattle.om_members.specs.Positions as positions
use Rattle.om_members.proofs.OrderLaws.{ordered}
use Rattle.om_circuits.proofs.FirstInstance as circuit_instances
use Rattle.om_circuits.proofs.InstanceLaws as circuits
use Rattle.om_covectors.proofs.FirstInstance as covector_instances
use Rattle.om_covectors.proofs.InstanceLaws as covectors
use Rattle.om_wiring.proofs.CrossingLaws.{one_refusal}
use Rattle.om_wiring.proofs.RefusalLaws.{refused_is_none}
use Rattle.om_document.specs.declared.body.Body.{Body}
use Rattle.om_document.specs.declared.body.Body.TheVariants.{Chirotope, Circuits, Cocircuits, Covectors, Wiring, Points}
use Rattle.om_document.specs.declared.document.Document.{Document}
use Rattle.om_representation.specs.declared.document_refused.DocumentRefused.{DocumentRefused}
use Rattle.om_representation.specs.declared.document_refused.DocumentRefused.TheVariants as reason
use Rattle.om_representation.specs.Axioms.{MeetsAxiomsOn, MeetsAxioms, IsViolatedMap, IsRefusedOn, IsRefused}

-- ---- the first of their kind

-- what is before in the order of positions is so lexicographically
before_in_order : (xs ys : List ℕ) → positions.IsBefore xs ys → IsBefore xs ys
before_in_order [] [] h = h
before_in_order [] (y ∷ ys) h = tt
before_in_order (x ∷ xs) [] h = h
before_in_order (x ∷ xs) (y ∷ ys) (inl l) = inl l
before_in_order (x ∷ xs) (y ∷ ys) (inr (q, h)) = inr (q, before_in_order xs ys h)

-- of the lists of one length with a property, one comes first in lexicographic order
pub one_first : (P : List ℕ → Type 0) (s t : List ℕ) → length s ≡ length t → P s → P t
    → ((u : List ℕ) → IsBefore u s → P u → ⊥) → ((u : List ℕ) → IsBefore u t → P u → ⊥) → s ≡ t
one_first P s t l p q f g = elim (ordered s t l) [
  | inl b ↦ absurd (g s (before_in_order s t b) p)
  | inr (inl b) ↦ absurd (f t (before_in_order t s b) q)
  | inr (inr e) ↦ e
]

-- ---- maps

-- a list with a second one makes a pair that isn't orthogonal
abbrev IsViolatedWith : SignMap → List ℕ → List ℕ → Type 0
IsViolatedWith m s a = IsPair m s a × (IsOrthogonalPair m s a → ⊥)

-- a map has one first violated pair at most
pub one_violated : (m : SignMap) (s a t b : Chosen) → IsFirstViolated m s a → IsFirstViolated m t b → (s ≡ t) × (a ≡ b)
one_violated m s a t b f g = (first, same_chosen a b (f.a_n ∙ sym h.a_n) second)
  where
    first : s ≡ t
    first = same_chosen s t (f.s_n ∙ sym g.s_n)
        (one_first (λ u. (v : List ℕ) × IsViolatedWith m u v) s.elements t.elements
        (f.pair.s_size ∙ sym g.pair.s_size) (a.elements, (f.pair, f.violated)) (b.elements, (g.pair, g.violated))
        (λ u l r. r.1.1 (f.earlier_s u r.0 r.1.0 l)) (λ u l r. r.1.1 (g.earlier_s u r.0 r.1.0 l)))

    h : IsFirstViolated m s b
    h = subst (λ u. IsFirstViolated m u b) (sym first) g

    second : a.elements ≡ b.elements
    second = one_first (IsViolatedWith m s.elements) a.elements b.elements
        (let x = f.pair.a_size in let y = h.pair.a_size in omega arith)
        (f.pair, f.violated) (h.pair, h.violated) (λ u l r. r.1 (f.earlier_a u r.0 l))
        (λ u l r. r.1 (h.earlier_a u r.0 l))

-- a chirotope has no violated pair
pub not_violated : (m : SignMap) (s a : Chosen) → IsChirotope m → IsFirstViolated m s a → ⊥
not_violated m s a c f = f.violated (c.orthogonal s.elements a.elements f.pair)

one_map : (m : RawMap) (v w : MapRefused) → IsViolatedMap m v → IsViolatedMap m w → v ≡ w
one_map m AllZero AllZero f g = refl
one_map m AllZero (Relation t b) f g = absurd (g.0 f)
one_map m (Relation s a) AllZero f g = absurd (f.0 g)
one_map m (Relation s a) (Relation t b) f g = let e = one_violated (map_of m) s a t b f.1 g.1 in cc

not_map : (m : RawMap) (why : MapRefused) → IsChirotope (map_of m) → IsViolatedMap m why → ⊥
not_map m AllZero c f = not_all_zero (map_of m) c.whole f c.nonzero
not_map m (Relation s a) c f = not_violated (map_of m) s a c f.1

-- ---- documents

-- reasons for equal causes are equal
by_reason : {A : Type 0} (give : A → DocumentRefused) (l m : DocumentRefused) (v w : A) → l ≡ give v → m ≡ give w
    → v ≡ w → l ≡ m
by_reason give l m v w p q e = p ∙ ap give e ∙ sym q

one_refused_on : (n : ℕ) (b : Body) (l m : DocumentRefused) → IsRefusedOn n b l → IsRefusedOn n b m → l ≡ m
one_refused_on n (Chirotope r) l m (v, (p, f)) (w, (q, g)) = by_reason reason.Map l m v w p q (one_map r v w f g)
one_refused_on n (Circuits members) l m (v, (p, f)) (w, (q, g)) =
    by_reason reason.Circuits l m v w p q (circuit_instances.one_first members v w f g)
one_refused_on n (Cocircuits members) l m (v, (p, f)) (w, (q, g)) =
    by_reason reason.Circuits l m v w p q (circuit_instances.one_first members v w f g)
one_refused_on n (Covectors members) l m (v, (p, f)) (w, (q, g)) =
    by_reason reason.Covectors l m v w p q (covector_instances.one_first members v w f g)
one_refused_on n (Wiring blocks) l m (v, (p, f)) (w, (q, g)) =
    by_reason reason.Wiring l m v w p q (one_refusal n blocks v w f g)
one_refused_on n (Points points) l m (p, f) (q, g) = p ∙ sym q

-- a document is refused for one reason at most
pub one_refused : (d : Document) (l m : DocumentRefused) → IsRefused d l → IsRefused d m → l ≡ m
one_refused d l m f g = one_refused_on d.elements d.body l m f g

not_refused_on : (n : ℕ) (b : Body) (l : DocumentRefused) → MeetsAxiomsOn n b → IsRefusedOn n b l → ⊥
not_refused_on n (Chirotope r) l h (v, (p, f)) = not_map r v h f
not_refused_on n (Circuits members) l h (v, (p, f)) = circuits.violated_breaks members v f.violated h
not_refused_on n (Cocircuits members) l h (v, (p, f)) = circuits.violated_breaks members v f.violated h
not_refused_on n (Covectors members) l h (v, (p, f)) = covectors.violated_breaks members v f.violated h
not_refused_on n (Wiring blocks) l h (v, (p, f)) = refused_is_none n blocks v f h
not_refused_on n (Points points) l h (p, f) = h f

-- a document that meets its axioms isn't refused
pub not_refused : (d : Document) (l : DocumentRefused) → MeetsAxioms d → IsRefused d l → ⊥
not_refused d l h f = not_refused_on d.elements d.body l h f
