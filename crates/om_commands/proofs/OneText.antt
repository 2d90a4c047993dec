-- Documents that are printed alike.
--
-- Main definitions: IsNormalAs, a body of a kind that meets its axioms and is normal.
-- Main results: denoted_alike.
-- Reference: Björner, Las Vergnas, Sturmfels, White and Ziegler, Oriented Matroids, chapter 3.
use Rattle.std.specs.Prelude.{ℕ, ◌≡◌, ◌↔◌, ◌∷◌, ◌++◌, List, [], true, codes, decimal, refl}
use Rattle.std.specs.Cmp.{both_ways}
use Rattle.std.specs.List.{Contains, list_any}
use Rattle.std.proofs.Common.{sym, ◌∙◌, ap, subst}
use Rattle.std.proofs.lemmas.List.Folds.{list_any_at}
use Rattle.std.proofs.lemmas.Map.Views.{Contains-from_any}
use Rattle.om_signs.specs.declared.raw_map.RawMap.{RawMap}
use Rattle.om_signs.specs.declared.sign.Sign.{Sign}
use Rattle.om_chirotope.specs.Map.{map_of}
use Rattle.om_members.specs.Listings.{AreDistinct}
use Rattle.om_denotation.specs.Covectors.{IsCovectorOfChirotope}
use Rattle.om_denotation.specs.Denotation.{DenoteTheSame}
use Rattle.om_denotation.proofs.ListUniqueness.{one_list_of_circuits, one_list_of_cocircuits, one_list_of_covectors}
use Rattle.om_document.specs.declared.document.Document.{Document}
use Rattle.om_document.specs.declared.body.Body.{Body}
use Rattle.om_document.specs.declared.body.Body.TheVariants as body
use Rattle.om_document.specs.declared.kinds.Kind.{Kind}
use Rattle.om_document.specs.declared.kinds.Kind.TheVariants as kind
use Rattle.om_document.specs.Form.{IsBodyOn}
use Rattle.om_document.specs.Print.{text_of, member_lines, printed}
use Rattle.om_document.specs.Rows.{same_row, sorted}
use Rattle.om_document.proofs.SameRow.{same_row-Decides}
use Rattle.om_document.proofs.Sorting.{same_sorted}
use Rattle.om_representation.specs.Axioms.{MeetsAxiomsOn}
use Rattle.om_representation.specs.Covectors.{IsCovectorIn, IsCovectorOfBody}
use Rattle.om_representation.specs.Documents.{raw_of}
use Rattle.om_commands.specs.Conversions.{has_kind}
use Rattle.om_commands.specs.Operations.{IsNormalBody}
use Rattle.om_representation.proofs.OneChirotope.{one_normal_map}

-- ---- names

-- the text of a body on n elements
abbrev printed_on : ℕ → Body → List ℕ
printed_on n b = printed (record { elements = n; body = b; names = [] })

printed_equal : (d e : Document) → d.elements ≡ e.elements → d.body ≡ e.body → printed d ≡ printed e
printed_equal d e count same = ap (λ n. printed_on n d.body) count ∙ ap (printed_on e.elements) same

-- ---- members

found_too : (xs ys : List (List Sign)) (z : List Sign) → (Contains xs z → Contains ys z)
    → list_any (same_row z) xs ≡ true → list_any (same_row z) ys ≡ true
found_too xs ys z both found =
    let c = both (Contains-from_any (λ x y e. (same_row-Decides x y).0 e) z xs found) in
    list_any_at (same_row z) ys c.0 z c.1 ((same_row-Decides z _).1 (sym c.2))

sorted_alike : (xs ys : List (List Sign)) → AreDistinct xs → AreDistinct ys
    → ((X : List Sign) → Contains xs X ↔ Contains ys X) → sorted xs ≡ sorted ys
sorted_alike xs ys d e same =
    same_sorted xs ys d e (λ z. both_ways _ _ (found_too xs ys z (same z).0) (found_too ys xs z (same z).1))

-- the text of sorted members, under the name of their kind
abbrev members_text : List ℕ → ℕ → List (List Sign) → List ℕ
members_text name n members =
    text_of (codes "om 1" ∷ (name ++ 32 ∷ decimal n) ∷ (member_lines members ++ codes "end" ∷ []))

-- ---- documents that denote the same

-- the bodies of each kind
data IsOfKind : Kind → Body → Type 0 where
  map : (m : RawMap) → IsOfKind kind.Chirotope (body.Chirotope m)
  circuits : (members : List (List Sign)) → IsOfKind kind.Circuits (body.Circuits members)
  cocircuits : (members : List (List Sign)) → IsOfKind kind.Cocircuits (body.Cocircuits members)
  covectors : (members : List (List Sign)) → IsOfKind kind.Covectors (body.Covectors members)

of_kind : (k : Kind) (b : Body) → has_kind k b ≡ true → IsOfKind k b
of_kind kind.Chirotope (body.Chirotope m) own = map m
of_kind kind.Circuits (body.Circuits members) own = circuits members
of_kind kind.Cocircuits (body.Cocircuits members) own = cocircuits members
of_kind kind.Covectors (body.Covectors members) own = covectors members
of_kind _ _ own = cc

-- a body of a kind on n elements that meets its axioms; of a map, the first sign that isn't zero is plus
pub record IsNormalAs (k : Kind) (n : ℕ) (b : Body) : Type 0 where
  pub kind : has_kind k b ≡ true
  pub form : IsBodyOn n b
  pub axioms : MeetsAxiomsOn n b
  pub normal : IsNormalBody b

bodies_alike : (k : Kind) (n : ℕ) (b c : Body) → IsOfKind k b → IsOfKind k c → IsNormalAs k n b → IsNormalAs k n c
    → DenoteTheSame n (IsCovectorOfBody n b) (IsCovectorOfBody n c) → printed_on n b ≡ printed_on n c
bodies_alike k n b c (map m) (map l) p q same =
    let on_map = subst (λ j. DenoteTheSame j (IsCovectorOfChirotope (map_of m)) (IsCovectorOfChirotope (map_of l)))
    (sym p.form.elements) same in
    ap (λ u. printed_on n (body.Chirotope (raw_of u)))
    (one_normal_map (map_of m) (map_of l) p.axioms q.axioms (q.form.elements ∙ sym p.form.elements) on_map p.normal
    q.normal)
bodies_alike k n b c (circuits xs) (circuits ys) p q same =
    let both = one_list_of_circuits (record { elements = n; members = xs }) (record { elements = n; members = ys })
    p.form.long q.form.long p.axioms q.axioms refl same in
    ap (members_text (codes "circuits") n) (sorted_alike xs ys p.form.distinct q.form.distinct both)
bodies_alike k n b c (cocircuits xs) (cocircuits ys) p q same =
    let both = one_list_of_cocircuits (record { elements = n; members = xs }) (record { elements = n; members = ys })
    p.form.long q.form.long p.axioms q.axioms refl same in
    ap (members_text (codes "cocircuits") n) (sorted_alike xs ys p.form.distinct q.form.distinct both)
bodies_alike k n b c (covectors xs) (covectors ys) p q same =
    let both = one_list_of_covectors (record { elements = n; members = xs }) (record { elements = n; members = ys })
    p.form.long q.form.long refl same in
    ap (members_text (codes "covectors") n) (sorted_alike xs ys p.form.distinct q.form.distinct both)

pub denoted_alike : (k : Kind) (d e : Document) → IsNormalAs k d.elements d.body → IsNormalAs k e.elements e.body
    → d.elements ≡ e.elements → DenoteTheSame d.elements (IsCovectorIn d) (IsCovectorIn e) → printed d ≡ printed e
denoted_alike k d e p q count same =
    let on_body = subst (λ n. DenoteTheSame d.elements (IsCovectorIn d) (IsCovectorOfBody n e.body)) (sym count) same in
    bodies_alike k d.elements d.body e.body (of_kind k d.body p.kind) (of_kind k e.body q.kind) p
    (subst (λ n. IsNormalAs k n e.body) (sym count) q) on_body
    ∙ printed_equal (record { elements = d.elements; body = e.body; names = [] }) e count refl
