-- The three-term test of a document ends a run in one way, and so does what is held against the axioms first.
--
-- Main results: tests_determined, checked_determined.
--
-- Reference: Björner, Las Vergnas, Sturmfels, White and Ziegler, Oriented Matroids, chapter 3.
use Rattle.std.specs.Prelude.{ℕ, ◌≡◌, ◌+◌, ◌<◌, List, length, refl}
use Rattle.std.proofs.Common.{sym, ◌∙◌, ap, subst, inl, inr, arith}
use Rattle.std.proofs.lemmas.Bool.{cases_order}
use Rattle.om_signs.specs.declared.raw_map.RawMap.{RawMap}
use Rattle.om_subsets.specs.Members.{Chosen}
use Rattle.om_subsets.proofs.Firsts.{same_chosen}
use Rattle.om_chirotope.specs.Map.{SignMap, map_of}
use Rattle.om_chirotope.specs.ThreeTerm.{HasExchange}
use Rattle.om_threeterm.specs.declared.three_refused.ThreeRefused.{ThreeRefused}
use Rattle.om_threeterm.specs.declared.three_refused.ThreeRefused.TheVariants.{AllZero, NoExchange, ThreeTerm}
use Rattle.om_threeterm.specs.Violations.{IsUnexchanged, IsFirstUnexchangedOf, IsFirstUnexchanged, IsUnbalancedList}
use Rattle.om_threeterm.specs.Violations.{IsFirstUnbalancedOf, IsFirstUnbalanced}
use Rattle.om_document.specs.declared.document.Document.{Document}
use Rattle.om_representation.specs.declared.document_refused.DocumentRefused.{DocumentRefused}
use Rattle.om_representation.specs.Axioms.{IsRefused}
use Rattle.om_representation.specs.RefusalLines.{refused_line}
use Rattle.om_reply.specs.declared.answer.Answer.{Answer}
use Rattle.om_reply.specs.Answers.{says}
use Rattle.om_reply.specs.Determined.{AreAlike, IsDetermined}
use Rattle.om_commands.specs.ThreeTermTests.{failure_line, IsFirstFailure, IsTestOfMap, fails, meets, IsThreeTermTest}
use Rattle.om_commands.specs.ThreeTermTests.{of_map, refused, no_map}
use Rattle.om_commands.specs.Checked.{IsChecked}
use Rattle.om_commands.specs.Checked as checked
use Rattle.om_reply.proofs.Alike.{both_say}
use Rattle.om_representation.proofs.OneRefusal.{one_first, one_refused, not_refused}

-- ---- the first violated exchange

exchange_broken : (m : SignMap) (b c : Chosen) (e : ℕ) → HasExchange m → IsFirstUnexchanged m b c e → ⊥
exchange_broken m b c e h f = let v = f.first.violated in
    v.violated (h b.elements c.elements e v.first v.second v.inside v.outside)

-- a property has one least number at most
one_element : (P : ℕ → Type 0) (e f : ℕ) → P e → P f → ((x : ℕ) → x < e → P x → ⊥) → ((x : ℕ) → x < f → P x → ⊥) → e ≡ f
one_element P e f p q g h = elim (cases_order e f) [
  | inl s ↦ s
  | inr (inl l) ↦ absurd (h e l p)
  | inr (inr l) ↦ absurd (g f l q)
]

one_exchange_of : (m : SignMap) (b : List ℕ) (c d : Chosen) (x y : ℕ) → IsFirstUnexchangedOf m b c x
    → IsFirstUnexchangedOf m b d y → (c ≡ d) × (x ≡ y)
one_exchange_of m b c d x y f g =
    (second, one_element (IsUnexchanged m b c.elements) x y f.violated h.violated f.earlier_e h.earlier_e)
  where
    second : c ≡ d
    second = same_chosen c d (f.c_n ∙ sym g.c_n) (one_first (λ u. (z : ℕ) × IsUnexchanged m b u z) c.elements d.elements
        (f.violated.second.size ∙ sym g.violated.second.size) (x, f.violated) (y, g.violated)
        (λ u l r. f.earlier_c u r.0 l r.1) (λ u l r. g.earlier_c u r.0 l r.1))

    h : IsFirstUnexchangedOf m b c y
    h = subst (λ u. IsFirstUnexchangedOf m b u y) (sym second) g

one_exchange : (m : SignMap) (a b c d : Chosen) (x y : ℕ) → IsFirstUnexchanged m a c x → IsFirstUnexchanged m b d y
    → NoExchange a c x ≡ NoExchange b d y
one_exchange m a b c d x y f g = let rest = one_exchange_of m a.elements c d x y f.first h.first in cc first
  where
    first : a ≡ b
    first = same_chosen a b (f.b_n ∙ sym g.b_n)
        (one_first (λ u. (v : List ℕ) × (z : ℕ) × IsUnexchanged m u v z) a.elements b.elements
        (f.first.violated.first.size ∙ sym g.first.violated.first.size) (c.elements, x, f.first.violated)
        (d.elements, y, g.first.violated)
        (λ u l r. f.earlier_b u r.0 r.1 l r.2) (λ u l r. g.earlier_b u r.0 r.1 l r.2))

    h : IsFirstUnexchanged m a d y
    h = subst (λ u. IsFirstUnexchanged m u d y) (sym first) g

-- ---- the first violated relation

-- the sizes of the two lists
four : (m : SignMap) (p q : List ℕ) → IsUnbalancedList m p q → length q ≡ 4
four m p q (a, b, c, d, e, u) = ap length e

two_less : (m : SignMap) (p q : List ℕ) → IsUnbalancedList m p q → length p + 2 ≡ m.rank
two_less m p q (a, b, c, d, e, u) = u.frame.size

one_relation_of : (m : SignMap) (p : List ℕ) (q r : Chosen) → IsFirstUnbalancedOf m p q → IsFirstUnbalancedOf m p r
    → q ≡ r
one_relation_of m p q r f g =
    same_chosen q r (f.q_n ∙ sym g.q_n) (one_first (IsUnbalancedList m p) q.elements r.elements
    (four m p q.elements f.violated ∙ sym (four m p r.elements g.violated)) f.violated g.violated f.earlier_q
    g.earlier_q)

one_relation : (m : SignMap) (p q r s : Chosen) → IsFirstUnbalanced m p r → IsFirstUnbalanced m q s
    → ThreeTerm p r ≡ ThreeTerm q s
one_relation m p q r s f g = let rest = one_relation_of m p.elements r s f.first h.first in cc first
  where
    sizes : length p.elements ≡ length q.elements
    sizes = let x = two_less m p.elements r.elements f.first.violated in let y =
        two_less m q.elements s.elements g.first.violated in omega arith

    first : p ≡ q
    first = same_chosen p q (f.p_n ∙ sym g.p_n)
        (one_first (λ u. (v : List ℕ) × IsUnbalancedList m u v) p.elements q.elements
        sizes (r.elements, f.first.violated) (s.elements, g.first.violated)
        (λ u l v. f.earlier_p u v.0 l v.1) (λ u l v. g.earlier_p u v.0 l v.1))

    h : IsFirstUnbalanced m p s
    h = subst (λ u. IsFirstUnbalanced m u s) (sym first) g

-- ---- the test of a map

one_failure : (m : RawMap) (v w : ThreeRefused) → IsFirstFailure m v → IsFirstFailure m w → v ≡ w
one_failure m AllZero AllZero f g = refl
one_failure m AllZero (NoExchange b c e) f g = absurd (g.0 f)
one_failure m AllZero (ThreeTerm p q) f g = absurd (g.0 f)
one_failure m (NoExchange b c e) AllZero f g = absurd (f.0 g)
one_failure m (NoExchange b c e) (NoExchange b' c' e') f g = one_exchange (map_of m) b b' c c' e e' f.1 g.1
one_failure m (NoExchange b c e) (ThreeTerm p q) f g = absurd (exchange_broken (map_of m) b c e g.1.0 f.1)
one_failure m (ThreeTerm p q) AllZero f g = absurd (f.0 g)
one_failure m (ThreeTerm p q) (NoExchange b c e) f g = absurd (exchange_broken (map_of m) b c e f.1.0 g.1)
one_failure m (ThreeTerm p q) (ThreeTerm p' q') f g = one_relation (map_of m) p p' q q' f.1.1 g.1.1

maps_determined : (m : RawMap) → IsDetermined (IsTestOfMap m)
maps_determined m a b (fails v f broken) (fails w g broken') =
    both_say (failure_line v) (failure_line w) (ap failure_line (one_failure m v w f g))
maps_determined m a b (fails v f broken) (meets h om) = absurd (broken om)
maps_determined m a b (meets h om) (fails v f broken) = absurd (broken om)
maps_determined m a b (meets h om) (meets k om') = (refl, refl)

-- ---- documents

-- the lines of two refusals of a document look alike
pub refusals_determined : (d : Document) (l m : DocumentRefused) → IsRefused d l → IsRefused d m
    → AreAlike (says (refused_line l)) (says (refused_line m))
refusals_determined d l m f g = both_say (refused_line l) (refused_line m) (ap refused_line (one_refused d l m f g))

-- all answers of `threeterm` to a document look alike
pub tests_determined : (d : Document) → IsDetermined (IsThreeTermTest d)
tests_determined d a b (of_map m x p t) (of_map k y q u) = let same : k ≡ m = cc in
    maps_determined m x y t (subst (λ z. IsTestOfMap z y) same u)
tests_determined d a b (of_map m x p t) (refused w none f) = absurd (none m p)
tests_determined d a b (of_map m x p t) (no_map none h) = absurd (none m p)
tests_determined d a b (refused v none f) (of_map m x p t) = absurd (none m p)
tests_determined d a b (refused v none f) (refused w other g) = refusals_determined d v w f g
tests_determined d a b (refused v none f) (no_map other h) = absurd (not_refused d v h f)
tests_determined d a b (no_map none h) (of_map m x p t) = absurd (none m p)
tests_determined d a b (no_map none h) (refused v other f) = absurd (not_refused d v h f)
tests_determined d a b (no_map none h) (no_map other k) = (refl, refl)

-- all answers to a document that is held against its axioms first look alike, if those that its meaning has do
pub checked_determined : (d : Document) (Meaning : Answer → Type 0) → IsDetermined Meaning
    → IsDetermined (IsChecked d Meaning)
checked_determined d Meaning one a b (checked.refused v f) (checked.refused w g) = refusals_determined d v w f g
checked_determined d Meaning one a b (checked.refused v f) (checked.met b' h m) = absurd (not_refused d v h f)
checked_determined d Meaning one a b (checked.met a' h m) (checked.refused v f) = absurd (not_refused d v h f)
checked_determined d Meaning one a b (checked.met a' h m) (checked.met b' k n) = one a b m n
