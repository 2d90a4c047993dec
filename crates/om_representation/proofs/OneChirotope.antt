-- A document has one chirotope and one width, so what the commands on its chirotope answer is determined where their
-- meaning for the chirotope is.
--
-- Main results: one_normal_map, one_chirotope, one_width; what is meant for one chirotope of a document is meant for
-- the other (meant_for_one); answers that are alike for each chirotope are alike for a document
-- (for_chirotope_determined).
-- Reference: Björner, Las Vergnas, Sturmfels, White and Ziegler, Oriented Matroids, chapter 3.
use Rattle.std.specs.Prelude.{ℕ, ◌≡◌, refl}
use Rattle.std.proofs.Common.{sym, ◌∙◌, ap, subst, inl}
use Rattle.om_signs.specs.declared.sign.Sign.TheVariants.{Plus}
use Rattle.om_subsets.specs.Subsets.{choose}
use Rattle.om_chirotope.specs.Chirotope.{IsChirotope}
use Rattle.om_chirotope.specs.Map.{SignMap, IsLedBy}
use Rattle.om_denotation.specs.Covectors.{IsCovectorOfChirotope}
use Rattle.om_denotation.specs.Denotation.{DenoteTheSame}
use Rattle.om_denotation.proofs.Uniqueness.{same_by_covectors, one_normal_form}
use Rattle.om_document.specs.declared.document.Document.{Document}
use Rattle.om_document.specs.declared.body.Body.{Body}
use Rattle.om_document.specs.declared.body.Body.TheVariants as body
use Rattle.om_representation.specs.Chirotopes.{IsChirotopeWith, IsChirotopeOf, IsNormalChirotopeOf}
use Rattle.om_representation.specs.Widths.{IsTooWide}
use Rattle.om_representation.specs.RankThree.{IsForChirotope, for_chirotope}

-- two chirotopes that denote the same are one, if the first sign of both that isn't zero is plus
pub one_normal_map : (m k : SignMap) → IsChirotope m → IsChirotope k → k.elements ≡ m.elements
    → DenoteTheSame m.elements (IsCovectorOfChirotope m) (IsCovectorOfChirotope k) → IsLedBy Plus m.signs
    → IsLedBy Plus k.signs → m ≡ k
one_normal_map m k om ok count same led leads =
    one_normal_form m m k (record { same = inl refl; normal = led })
    (record { same = same_by_covectors m k om ok count same; normal = leads })

one_normal : (d : Document) (c k : SignMap) → IsNormalChirotopeOf d c → IsNormalChirotopeOf d k → c ≡ k
one_normal d c k p q = one_normal_map c k p.axioms q.axioms (q.elements ∙ sym p.elements) both p.normal q.normal
  where
    both : DenoteTheSame c.elements (IsCovectorOfChirotope c) (IsCovectorOfChirotope k)
    both X size = let long = size ∙ p.elements in
        (λ x. (q.same X long).0 ((p.same X long).1 x), λ x. (p.same X long).0 ((q.same X long).1 x))

-- a document has one chirotope at most
pub one_chirotope : (d : Document) (c k : SignMap) → IsChirotopeOf d c → IsChirotopeOf d k → c ≡ k
one_chirotope d c k p q = by_body d.body p q
  where
    by_body : (b : Body) → IsChirotopeWith b d c → IsChirotopeWith b d k → c ≡ k
    by_body (body.Chirotope m) p q = p ∙ sym q
    by_body (body.Circuits members) p q = one_normal d c k p q
    by_body (body.Cocircuits members) p q = one_normal d c k p q
    by_body (body.Covectors members) p q = one_normal d c k p q
    by_body (body.Wiring blocks) p q = one_normal d c k p q
    by_body (body.Points points) p q = one_normal d c k p q

-- a document whose chirotope is too wide is so with one number of values
pub one_width : (d : Document) (v w : ℕ) → IsTooWide d v → IsTooWide d w → v ≡ w
one_width d v w p q = p.number ∙ ap (λ m. choose m.elements m.rank) (one_chirotope d p.map q.map p.of q.of)
    ∙ sym q.number

-- an answer that is meant for one chirotope of a document is meant for the other
pub meant_for_one : {A : Type 0} (Meaning : SignMap → A → Type 0) (d : Document) (m k : SignMap) → IsChirotopeOf d m
    → IsChirotopeOf d k → (b : A) → Meaning k b → Meaning m b
meant_for_one Meaning d m k p q b = subst (λ u. Meaning u b) (one_chirotope d k m q p)

-- answers that are alike where they are meant for one chirotope
pub for_chirotope_determined : {A : Type 0} (AreAlike : A → A → Type 0) (Meaning : SignMap → A → Type 0)
    → ((m : SignMap) (a b : A) → Meaning m a → Meaning m b → AreAlike a b) → (d : Document) (a b : A)
    → IsForChirotope Meaning d a → IsForChirotope Meaning d b → AreAlike a b
for_chirotope_determined AreAlike Meaning determined d a b (for_chirotope m x p means) (for_chirotope k y q also) =
    determined m a b means (meant_for_one Meaning d m k p q b also)
