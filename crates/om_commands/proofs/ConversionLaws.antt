-- Documents that denote the same.
--
-- Main results: the chirotope of a representation denotes the same (same_of); a document as itself (own_converted); a
-- list whose chirotope is too wide (wide_answered, wide_chirotope); a document as a
-- chirotope (chirotope_made); lists that are made through a chirotope (circuits_made, cocircuits_made,
-- covectors_made), and those with too many members (many_circuits, many_cocircuits, many_covectors); covectors as
-- cocircuits (minimal_made); a representation of one of two kinds (one_of_two).
use Rattle.std.specs.Prelude.{ℕ, ◌≡◌, ◌↔◌, ◌⊎◌, true, false, List, [], length, refl}
use Rattle.std.specs.List.{Contains}
use Rattle.std.proofs.Common.{sym, ◌∙◌, ap, subst, arith, inl, inr}
use Rattle.std.proofs.lemmas.List.Elements.{All-contains}
use Rattle.om_signs.specs.declared.limits.TheConstants.{MAX_MEMBERS}
use Rattle.om_signs.specs.declared.sign.Sign.{Sign}
use Rattle.om_chirotope.specs.Chirotope.{IsChirotope}
use Rattle.om_chirotope.specs.Map.{SignMap}
use Rattle.om_members.specs.Listings.{Listing, HaveLength}
use Rattle.om_covectors.specs.Minimality.{IsMinimal, AreThose}
use Rattle.om_convert.specs.declared.convert_error.ConvertError.{ConvertError}
use Rattle.om_convert.specs.declared.convert_error.ConvertError.TheVariants as convert
use Rattle.om_convert.specs.Limits.{IsCause, IsWithinLimit}
use Rattle.om_convert.proofs.CountingLaws.{listed_within}
use Rattle.om_convert.proofs.SameFamilies as families
use Rattle.om_denotation.specs.Circuits.{IsCircuitOfChirotope, IsCocircuitOfChirotope}
use Rattle.om_denotation.specs.Compositions.{IsOfLeastSupport}
use Rattle.om_denotation.specs.Covectors.{IsCovectorOfChirotope, IsCovectorOfCircuits, IsCovectorOfCocircuits}
use Rattle.om_denotation.specs.Covectors.{IsCovectorOfCovectors}
use Rattle.om_denotation.specs.Denotation.{DenoteTheSame}
use Rattle.om_denotation.specs.Listings.{AreAllOf, HasMoreThan}
use Rattle.om_denotation.proofs.DualLists.{circuits_of}
use Rattle.om_minors.proofs.DroppedMembers.{least_all}
use Rattle.om_document.specs.declared.document.Document.{Document}
use Rattle.om_document.specs.declared.body.Body.{Body}
use Rattle.om_document.specs.declared.body.Body.TheVariants as body
use Rattle.om_document.specs.Form.{IsInForm}
use Rattle.om_document.specs.declared.kinds.Kind.{Kind}
use Rattle.om_document.specs.declared.kinds.Kind.TheVariants as kind
use Rattle.om_printing.specs.declared.line.Line.{Line}
use Rattle.om_printing.specs.declared.line.Line.TheVariants as line
use Rattle.om_reply.specs.declared.answer.Answer.{Answer}
use Rattle.om_representation.specs.declared.representation.Representation.{Representation}
use Rattle.om_representation.specs.declared.representation.Representation.TheVariants as representation
use Rattle.om_representation.specs.declared.unchosen.Unchosen.{Unchosen}
use Rattle.om_representation.specs.declared.unchosen.Unchosen.TheVariants as unchosen
use Rattle.om_representation.specs.Axioms.{MeetsAxioms}
use Rattle.om_representation.specs.Chirotopes.{IsChirotopeOf, IsNormalChirotopeOf}
use Rattle.om_representation.specs.Covectors.{IsCovectorIn}
use Rattle.om_representation.specs.Documents.{document_of, map_document, circuits_document, cocircuits_document}
use Rattle.om_representation.specs.Documents.{covectors_document}
use Rattle.om_reply.specs.Answers.{says, shows}
use Rattle.om_representation.proofs.ChoiceLaws.{elements_of}
use Rattle.om_representation.specs.Widths.{IsList, IsKept, IsUnchosen}
use Rattle.om_representation.specs.RefusalLines.{IsWidthLine}
use Rattle.om_commands.specs.Conversions.{has_kind, IsMemberOf, HasExactly, IsConversion, IsConversionFrom, itself}
use Rattle.om_commands.specs.Conversions.{wide, limited, converted, is_direct, IsKeptAs, IsUnlisted}

-- ---- the chirotope of a representation

pub size_in : (r : Representation) (X : List Sign) → IsCovectorIn (document_of r) X
    → length X ≡ (document_of r).elements
size_in (representation.Chirotope m) X x = x.size
size_in (representation.Circuits s) X x = x.size
size_in (representation.Cocircuits s) X x = x.size
size_in (representation.Covectors s) X x = x.size

pub same_of : (r : Representation) (c : SignMap) → IsChirotopeOf (document_of r) c
    → DenoteTheSame (document_of r).elements (IsCovectorIn (document_of r)) (IsCovectorOfChirotope c)
same_of (representation.Chirotope m) c is =
    subst (λ u. DenoteTheSame m.elements (IsCovectorOfChirotope m) (IsCovectorOfChirotope u)) (sym is)
    (λ X size. (λ h. h, λ h. h))
same_of (representation.Circuits s) c is = is.same
same_of (representation.Cocircuits s) c is = is.same
same_of (representation.Covectors s) c is = is.same

-- ---- a document as itself

pub own_converted : (k : Kind) (d e : Document) → has_kind k d.body ≡ true → e ≡ d → IsInForm e → MeetsAxioms e
    → IsConversion k d (shows e)
own_converted k d e own same form axioms =
    subst (λ u. IsConversion k d (shows u)) (sym same)
    (itself own (subst IsInForm same form) (subst MeetsAxioms same axioms))

-- ---- a list whose chirotope is too wide, and one that is kept

kept_as : (k : Kind) (d : Document) → IsKept d → IsKeptAs k d
kept_as k d narrow values (way, is) = narrow values is

pub wide_answered : (k : Kind) (d : Document) (why : Unchosen) (l : Line) → has_kind k d.body ≡ false
    → is_direct k d.body ≡ false → IsUnchosen d why → IsWidthLine why l → IsConversion k d (says l)
wide_answered k d (unchosen.TooWide rank values) l other way is same =
    subst (λ x. IsConversion k d (says x)) (sym same) (wide values other (way, is.width))
wide_answered k d unchosen.Memory l other way is none = absurd none

list_is_no_map : (b : Body) → IsList b → has_kind kind.Chirotope b ≡ false
list_is_no_map (body.Chirotope m) list = absurd list
list_is_no_map (body.Circuits members) list = refl
list_is_no_map (body.Cocircuits members) list = refl
list_is_no_map (body.Covectors members) list = refl
list_is_no_map (body.Wiring blocks) list = absurd list
list_is_no_map (body.Points points) list = absurd list

pub wide_chirotope : (d : Document) (why : Unchosen) (l : Line) → IsUnchosen d why → IsWidthLine why l
    → IsConversion kind.Chirotope d (says l)
wide_chirotope d (unchosen.TooWide rank values) l is same =
    wide_answered kind.Chirotope d (unchosen.TooWide rank values) l (list_is_no_map d.body is.width.list) refl is same
wide_chirotope d unchosen.Memory l is none = absurd none

-- ---- a document as a chirotope

nobody : {k : ℕ} → HasMoreThan k (λ (x : List Sign). ⊥) → ⊥
nobody more = more.each 0 [] (let many = more.many in omega (arith, many))

normal_made : (d : Document) (c : SignMap) (e : Document) → has_kind kind.Chirotope d.body ≡ false → IsKept d
    → ((X : List Sign) → IsCovectorIn d X → length X ≡ d.elements) → IsNormalChirotopeOf d c → e ≡ map_document c
    → IsInForm e → MeetsAxioms e → IsConversion kind.Chirotope d (shows e)
normal_made d c e other narrow size of made form axioms =
    subst (λ u. IsConversion kind.Chirotope d (shows u)) (sym made)
    (converted (map_document c) other (kept_as kind.Chirotope d narrow) nobody (record {
      form = subst IsInForm made form;
      kind = refl;
      elements = of.elements;
      axioms = subst MeetsAxioms made axioms;
      same = λ X. (λ h. (of.same X (size X h)).0 h, λ q. (of.same X (q.size ∙ of.elements)).1 q);
      members = of.normal;
    }))

pub chirotope_made : (r : Representation) (c : SignMap) (e : Document) → IsKept (document_of r)
    → IsChirotopeOf (document_of r) c → e ≡ map_document c → IsInForm e → MeetsAxioms e
    → IsConversion kind.Chirotope (document_of r) (shows e)
chirotope_made (representation.Chirotope m) c e narrow of made form axioms =
    own_converted kind.Chirotope (map_document m) e refl (made ∙ ap map_document of) form axioms
chirotope_made (representation.Circuits s) c e narrow of made form axioms =
    normal_made (circuits_document s.0) c e refl narrow (size_in (representation.Circuits s)) of made form axioms
chirotope_made (representation.Cocircuits s) c e narrow of made form axioms =
    normal_made (cocircuits_document s.0) c e refl narrow (size_in (representation.Cocircuits s)) of made form axioms
chirotope_made (representation.Covectors s) c e narrow of made form axioms =
    normal_made (covectors_document s) c e refl narrow (size_in (representation.Covectors s)) of made form axioms

-- ---- lists, through a chirotope

exactly_same : (P Q : List Sign → Type 0) → ((X : List Sign) → P X ↔ Q X) → (b : Body) → HasExactly P b → HasExactly Q b
exactly_same P Q both (body.Chirotope m) h = h
exactly_same P Q both (body.Circuits members) h = families.all_same P Q both members h
exactly_same P Q both (body.Cocircuits members) h = families.all_same P Q both members h
exactly_same P Q both (body.Covectors members) h = families.all_same P Q both members h
exactly_same P Q both (body.Wiring blocks) h = tt
exactly_same P Q both (body.Points points) h = tt

module _ (r : Representation) (c : SignMap) (om : IsChirotope c) (of : IsChirotopeOf (document_of r) c) where
  circuit_in : (X : List Sign) → IsCircuitOfChirotope c X ↔ IsMemberOf kind.Circuits (document_of r) X
  circuit_in X = circuits_of (document_of r).elements (IsCovectorIn (document_of r)) c om (elements_of r c of)
      (same_of r c of) X

  cocircuit_in : (X : List Sign) → IsCocircuitOfChirotope c X ↔ IsMemberOf kind.Cocircuits (document_of r) X
  cocircuit_in X = families.cocircuits_of (document_of r).elements (IsCovectorIn (document_of r)) c om
      (elements_of r c of) (size_in r) (same_of r c of) X

  covector_in : (X : List Sign) → IsCovectorOfChirotope c X ↔ IsCovectorIn (document_of r) X
  covector_in X = families.equal_families (document_of r).elements (IsCovectorIn (document_of r))
      (IsCovectorOfChirotope c) (size_in r) (λ Y y. y.size ∙ elements_of r c of) (same_of r c of) X

  -- a list of a kind, whose members of the chirotope are P
  module _ (k : Kind) (P : List Sign → Type 0) (both : (X : List Sign) → P X ↔ IsMemberOf k (document_of r) X) where
    many_made : (why : ConvertError) (a : Answer) → has_kind k (document_of r).body ≡ false → IsKept (document_of r)
        → IsCause P why → IsUnlisted why a → IsConversion k (document_of r) a
    many_made (convert.TooWide values) a other narrow cause same = absurd cause
    many_made (convert.TooMany limit) a other narrow cause same =
        let most = families.cause_same P (IsMemberOf k (document_of r)) both (convert.TooMany limit) cause in
        let all : a ≡ says (line.LimitMembers MAX_MEMBERS) = same ∙ ap (λ n. says (line.LimitMembers n)) most.0 in
        subst (IsConversion k (document_of r)) (sym all) (limited other (kept_as k (document_of r) narrow) most.1)
    many_made convert.Memory a other narrow cause same = absurd same

    list_made : (e u : Document) → has_kind k (document_of r).body ≡ false → IsKept (document_of r) → e ≡ u → IsInForm e
        → MeetsAxioms e → has_kind k u.body ≡ true → u.elements ≡ c.elements
        → ((X : List Sign) → IsCovectorIn u X → length X ≡ u.elements) → HasExactly P u.body
        → DenoteTheSame c.elements (IsCovectorOfChirotope c) (IsCovectorIn u) → IsWithinLimit P
        → IsConversion k (document_of r) (shows e)
    list_made e u other narrow made form axioms own count size members same few =
        subst (λ v. IsConversion k (document_of r) (shows v)) (sym made)
        (converted u other (kept_as k (document_of r) narrow)
        (families.within_same P (IsMemberOf k (document_of r)) both few) (record {
          form = subst IsInForm made form;
          kind = own;
          elements = count ∙ elements_of r c of;
          axioms = subst MeetsAxioms made axioms;
          same = λ X. (
            λ h. let x = (covector_in X).1 h in (same X x.size).0 x,
            λ q. (covector_in X).0 ((same X (size X q ∙ count)).1 q),
          );
          members = exactly_same P (IsMemberOf k (document_of r)) both u.body members;
        }))

  many_circuits_of : (why : ConvertError) (a : Answer) → has_kind kind.Circuits (document_of r).body ≡ false
      → IsKept (document_of r) → IsCause (IsCircuitOfChirotope c) why → IsUnlisted why a
      → IsConversion kind.Circuits (document_of r) a
  many_circuits_of = many_made kind.Circuits (IsCircuitOfChirotope c) circuit_in

  many_cocircuits_of : (why : ConvertError) (a : Answer) → has_kind kind.Cocircuits (document_of r).body ≡ false
      → IsKept (document_of r) → IsCause (IsCocircuitOfChirotope c) why → IsUnlisted why a
      → IsConversion kind.Cocircuits (document_of r) a
  many_cocircuits_of = many_made kind.Cocircuits (IsCocircuitOfChirotope c) cocircuit_in

  many_covectors_of : (why : ConvertError) (a : Answer) → has_kind kind.Covectors (document_of r).body ≡ false
      → IsKept (document_of r) → IsCause (IsCovectorOfChirotope c) why → IsUnlisted why a
      → IsConversion kind.Covectors (document_of r) a
  many_covectors_of = many_made kind.Covectors (IsCovectorOfChirotope c) covector_in

  pub circuits_made : (s : Listing) (e : Document) → has_kind kind.Circuits (document_of r).body ≡ false
      → IsKept (document_of r) → e ≡ circuits_document s → IsInForm e → MeetsAxioms e → s.elements ≡ c.elements
      → AreAllOf (IsCircuitOfChirotope c) s.members
      → DenoteTheSame c.elements (IsCovectorOfChirotope c) (IsCovectorOfCircuits s)
      → IsWithinLimit (IsCircuitOfChirotope c) → IsConversion kind.Circuits (document_of r) (shows e)
  circuits_made s e other narrow made form axioms count members same few =
      list_made kind.Circuits (IsCircuitOfChirotope c) circuit_in e (circuits_document s) other narrow made form axioms
      refl count (λ X x. x.size) members same few

  pub cocircuits_made : (s : Listing) (e : Document) → has_kind kind.Cocircuits (document_of r).body ≡ false
      → IsKept (document_of r) → e ≡ cocircuits_document s → IsInForm e → MeetsAxioms e → s.elements ≡ c.elements
      → AreAllOf (IsCocircuitOfChirotope c) s.members
      → DenoteTheSame c.elements (IsCovectorOfChirotope c) (IsCovectorOfCocircuits s)
      → IsWithinLimit (IsCocircuitOfChirotope c) → IsConversion kind.Cocircuits (document_of r) (shows e)
  cocircuits_made s e other narrow made form axioms count members same few =
      list_made kind.Cocircuits (IsCocircuitOfChirotope c) cocircuit_in e (cocircuits_document s) other narrow made form
      axioms refl count (λ X x. x.size) members same few

  pub covectors_made : (s : Listing) (e : Document) → has_kind kind.Covectors (document_of r).body ≡ false
      → IsKept (document_of r) → e ≡ covectors_document s → IsInForm e → MeetsAxioms e → s.elements ≡ c.elements
      → AreAllOf (IsCovectorOfChirotope c) s.members
      → DenoteTheSame c.elements (IsCovectorOfChirotope c) (IsCovectorOfCovectors s)
      → IsWithinLimit (IsCovectorOfChirotope c) → IsConversion kind.Covectors (document_of r) (shows e)
  covectors_made s e other narrow made form axioms count members same few =
      list_made kind.Covectors (IsCovectorOfChirotope c) covector_in e (covectors_document s) other narrow made form
      axioms refl count (λ X x. x.size) members same few

-- too many members

pub many_circuits : (c : SignMap) → IsChirotope c → (why : ConvertError) (a : Answer)
    → IsCause (IsCircuitOfChirotope c) why → IsUnlisted why a → IsConversionFrom kind.Circuits c a
many_circuits c om why a cause many = λ r of other narrow. many_circuits_of r c om of why a other narrow cause many

pub many_cocircuits : (c : SignMap) → IsChirotope c → (why : ConvertError) (a : Answer)
    → IsCause (IsCocircuitOfChirotope c) why → IsUnlisted why a → IsConversionFrom kind.Cocircuits c a
many_cocircuits c om why a cause many = λ r of other narrow. many_cocircuits_of r c om of why a other narrow cause many

pub many_covectors : (c : SignMap) → IsChirotope c → (why : ConvertError) (a : Answer)
    → IsCause (IsCovectorOfChirotope c) why → IsUnlisted why a → IsConversionFrom kind.Covectors c a
many_covectors c om why a cause many = λ r of other narrow. many_covectors_of r c om of why a other narrow cause many

pub from_chirotope : (k : Kind) (r : Representation) (c : SignMap) → IsChirotopeOf (document_of r) c
    → has_kind k (document_of r).body ≡ false → IsKept (document_of r) → (a : Answer) → IsConversionFrom k c a
    → IsConversion k (document_of r) a
from_chirotope k r c of other narrow a from = from r of other narrow

-- ---- covectors as cocircuits

pub minimal_made : (c s : Listing) (e : Document) → e ≡ cocircuits_document s → IsInForm e → MeetsAxioms e
    → s.elements ≡ c.elements → HaveLength c.elements c.members → AreThose (IsMinimal c.members) c.members s.members
    → DenoteTheSame c.elements (Contains c.members) (IsCovectorOfCocircuits s)
    → IsConversion kind.Cocircuits (covectors_document c) (shows e)
minimal_made c s e made form axioms count lengths those same =
    subst (λ u. IsConversion kind.Cocircuits (covectors_document c) (shows u)) (sym made)
    (converted (cocircuits_document s) refl direct_kept
    (listed_within (IsMemberOf kind.Cocircuits (covectors_document c)) s.members members whole.body.few) (record {
      form = whole;
      kind = refl;
      elements = count;
      axioms = subst MeetsAxioms made axioms;
      same = λ X. (
        λ h. (same X h.size).0 h.member,
        λ q. record { size = q.size ∙ count; member = (same X (q.size ∙ count)).1 q },
      );
      members = members;
    }))
  where
    direct_kept : IsKeptAs kind.Cocircuits (covectors_document c)
    direct_kept values (way, is) = let no : true ≡ false = way in cc

    whole : IsInForm (cocircuits_document s)
    whole = subst IsInForm made form

    given : AreAllOf (IsCovectorOfCovectors c) c.members
    given = record {
      sound = λ X x. record { size = All-contains (λ Y. length Y ≡ c.elements) c.members X lengths x; member = x };
      complete = λ X x. x.member;
    }

    members : AreAllOf (IsOfLeastSupport (IsCovectorOfCovectors c)) s.members
    members = least_all (IsCovectorOfCovectors c) c.members given s.members those

-- ---- a representation of one of two kinds

module _ (Q : Representation → Type 0) (r : Representation) where
  pub one_of_two : {A B : Type 0} (f : A → Representation) (g : B → Representation) → ((a : A) → Q (f a))
      → ((b : B) → Q (g b)) → ((a : A) × (r ≡ f a)) ⊎ ((b : B) × (r ≡ g b)) → Q r
  one_of_two f g p q (inl (a, is)) = subst Q (sym is) (p a)
  one_of_two f g p q (inr (b, is)) = subst Q (sym is) (q b)
