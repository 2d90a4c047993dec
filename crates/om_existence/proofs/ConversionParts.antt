-- Each document has a conversion to each kind.
--
-- Main results: conversion_possible.
use Rattle.std.specs.Prelude.{ℕ, ◌≡◌, ◌↔◌, ◌≤◌, true, false, List, length, refl}
use Rattle.std.proofs.Common.{sym, ◌∙◌, inl, inr}
use Rattle.std.proofs.lemmas.Bool.{cases_lt, cases_Bool}
use Rattle.om_signs.specs.declared.limits.TheConstants.{MAX_MEMBERS, MAX_VALUES}
use Rattle.om_signs.specs.declared.sign.Sign.{Sign}
use Rattle.om_subsets.specs.Subsets.{choose}
use Rattle.om_chirotope.specs.Map.{SignMap}
use Rattle.om_members.specs.Listings.{Listing}
use Rattle.om_convert.proofs.ChirotopeLaws.{circuits_lawful, cocircuits_lawful, covectors_lawful, same_as_circuits}
use Rattle.om_convert.proofs.ChirotopeLaws.{same_as_cocircuits, same_as_covectors}
use Rattle.om_convert.proofs.CountingLaws.{more_of_more}
use Rattle.om_convert.proofs.SameFamilies.{all_same}
use Rattle.om_denotation.specs.Circuits.{IsCircuitOfChirotope, IsCocircuitOfChirotope}
use Rattle.om_denotation.specs.Covectors.{IsCovectorOfChirotope}
use Rattle.om_denotation.specs.Denotation.{DenoteTheSame}
use Rattle.om_denotation.proofs.ChirotopeBridge.{circuit_length, cocircuit_length}
use Rattle.om_document.specs.declared.body.Body.{Body}
use Rattle.om_document.specs.declared.body.Body.TheVariants as body
use Rattle.om_document.specs.declared.document.Document.{Document}
use Rattle.om_document.specs.declared.kinds.Kind.{Kind}
use Rattle.om_document.specs.declared.kinds.Kind.TheVariants as kind
use Rattle.om_document.specs.Form.{IsBodyOn}
use Rattle.om_printing.specs.declared.line.Line.TheVariants as line
use Rattle.om_representation.specs.Axioms.{MeetsAxiomsOn}
use Rattle.om_representation.specs.Chirotopes.{IsNormalChirotopeOf, IsChirotopeWith}
use Rattle.om_representation.specs.Covectors.{IsCovectorOfBody}
use Rattle.om_representation.specs.Documents.{map_document}
use Rattle.om_representation.specs.Widths.{IsList, IsTooWide}
use Rattle.om_reply.specs.declared.answer.Answer.{Answer}
use Rattle.om_reply.specs.Answers.{says, shows}
use Rattle.om_commands.specs.Conversions.{has_kind, IsMemberOf, IsTooWideAs, IsKeptAs, HasTooMany, HasExactly}
use Rattle.om_commands.specs.Conversions.{IsConverted, IsConversion, itself, wide, limited, converted}
use Rattle.om_commands.specs.Given.{IsGiven}
use Rattle.om_existence.proofs.GivenCovectors.{covector_in, circuit_in, cocircuit_in}
use Rattle.om_existence.proofs.MapForms.{map_form}
use Rattle.om_existence.proofs.WithinLimits.{HasList, all_listed, unnamed, list_form}
use Rattle.om_existence.proofs.Worked.{IsWorked, IsItsChirotope, chirotope_of}
use Rattle.om_existence.specs.Possible.{IsPossible}
use Rattle.om_existence.proofs.Possible.{held, then, mapped, either_way}

-- ---- a list as its normal chirotope

list_given : (b : Body) → IsGiven b → has_kind kind.Chirotope b ≡ false → IsList b
list_given (body.Chirotope m) given other = let no : true ≡ false = other in cc
list_given (body.Circuits members) given other = tt
list_given (body.Cocircuits members) given other = tt
list_given (body.Covectors members) given other = tt
list_given (body.Wiring blocks) given other = absurd given
list_given (body.Points points) given other = absurd given

normal_with : (b : Body) (d : Document) (c : SignMap) → IsList b → IsChirotopeWith b d c → IsNormalChirotopeOf d c
normal_with (body.Chirotope m) d c list is = absurd list
normal_with (body.Circuits members) d c list is = is
normal_with (body.Cocircuits members) d c list is = is
normal_with (body.Covectors members) d c list is = is
normal_with (body.Wiring blocks) d c list is = absurd list
normal_with (body.Points points) d c list is = absurd list

-- some document is d as one of a kind
abbrev HasConverted : Kind → Document → Type 0
HasConverted k d = (e : Document) × IsConverted k d e

module _ (d : Document) (w : IsWorked d) (c : SignMap) (its : IsItsChirotope d c) where
  -- the chirotope of a list that isn't too wide has few values
  few_kept : IsList d.body → IsKeptAs kind.Chirotope d → choose c.elements c.rank ≤ MAX_VALUES
  few_kept list kept = elim (cases_lt MAX_VALUES (choose c.elements c.rank)) [
    | inl over ↦
        let width : IsTooWide d (choose c.elements c.rank) = record {
          list = list;
          map = c;
          of = its.of;
          number = refl;
          wide = over;
        } in
        absurd (kept (choose c.elements c.rank) (refl, width))
    | inr most ↦ most
  ]

  as_chirotope : IsList d.body → IsKeptAs kind.Chirotope d → IsConverted kind.Chirotope d (map_document c)
  as_chirotope list kept =
      let limits = its.sound.limits in
      record {
        form = map_form c its.sound.axioms.whole limits.low limits.high (few_kept list kept);
        kind = refl;
        elements = its.elements;
        axioms = its.sound.axioms;
        same = λ X. let both = covector_in d w c its X in (both.1, both.0);
        members = (normal_with d.body d c list its.of).normal;
      }

  -- ---- lists

  -- the members of a kind, where these are P
  module _ (k : Kind) (P : List Sign → Type 0) (both : (X : List Sign) → P X ↔ IsMemberOf k d X) where
    listed : ((X : List Sign) → P X → length X ≡ c.elements) → (HasTooMany k d → ⊥) → IsPossible (HasList d.elements P)
    listed long few = all_listed d.elements P (λ X x. long X x ∙ its.elements) (λ more.
        few (more_of_more MAX_MEMBERS P (IsMemberOf k d) (λ X. (both X).0) more))

    -- a body of them, which denotes the same
    converted_list : (b : Body) → IsBodyOn d.elements b → MeetsAxiomsOn d.elements b → has_kind k b ≡ true
        → ((X : List Sign) → IsCovectorOfBody d.elements b X → length X ≡ d.elements)
        → HasExactly (IsMemberOf k d) b
        → DenoteTheSame c.elements (IsCovectorOfChirotope c) (IsCovectorOfBody d.elements b)
        → IsConverted k d (unnamed d.elements b)
    converted_list b on axioms own long members same = record {
      form = list_form d.elements b w.form.low w.form.high on;
      kind = own;
      elements = refl;
      axioms = axioms;
      same = λ X. (
        λ h. let x = (covector_in d w c its X).1 h in (same X x.size).0 x,
        λ q. (covector_in d w c its X).0 ((same X (long X q ∙ sym its.elements)).1 q),
      );
      members = members;
    }

  -- the list of some members on the elements of d
  abbrev listing : List (List Sign) → Listing
  listing members = record { elements = d.elements; members = members }

  circuits_made : HasList d.elements (IsCircuitOfChirotope c) → HasConverted kind.Circuits d
  circuits_made (s, (all, on)) =
      let P = IsCircuitOfChirotope c in
      let both = circuit_in d w c its in
      let same = same_as_circuits c s all its.sound.axioms (listing s) (sym its.elements) refl in (
        unnamed d.elements (body.Circuits s),
        converted_list kind.Circuits P both (body.Circuits s) on
            (circuits_lawful c s all its.sound.axioms) refl (λ X x. x.size)
            (all_same P (IsMemberOf kind.Circuits d) both s all) same,
      )

  cocircuits_made : HasList d.elements (IsCocircuitOfChirotope c) → HasConverted kind.Cocircuits d
  cocircuits_made (s, (all, on)) =
      let P = IsCocircuitOfChirotope c in
      let both = cocircuit_in d w c its in
      let same = same_as_cocircuits c its.sound.axioms s all (listing s) (sym its.elements) refl in (
        unnamed d.elements (body.Cocircuits s),
        converted_list kind.Cocircuits P both (body.Cocircuits s) on
            (cocircuits_lawful c its.sound.axioms s all) refl (λ X x. x.size)
            (all_same P (IsMemberOf kind.Cocircuits d) both s all) same,
      )

  covectors_made : HasList d.elements (IsCovectorOfChirotope c) → HasConverted kind.Covectors d
  covectors_made (s, (all, on)) =
      let P = IsCovectorOfChirotope c in
      let both = covector_in d w c its in
      let same = same_as_covectors c s all (listing s) (sym its.elements) refl in (
        unnamed d.elements (body.Covectors s),
        converted_list kind.Covectors P both (body.Covectors s) on
            (covectors_lawful c s all its.sound.axioms) refl (λ X x. x.size)
            (all_same P (IsMemberOf kind.Covectors d) both s all) same,
      )

  -- ---- each kind

  made : (k : Kind) → has_kind k d.body ≡ false → IsKeptAs k d → (HasTooMany k d → ⊥) → IsPossible (HasConverted k d)
  made kind.Chirotope other kept few = held (map_document c, as_chirotope (list_given d.body w.given other) kept)
  made kind.Circuits other kept few =
      mapped circuits_made
      (listed kind.Circuits (IsCircuitOfChirotope c) (circuit_in d w c its) (circuit_length c) few)
  made kind.Cocircuits other kept few =
      mapped cocircuits_made
      (listed kind.Cocircuits (IsCocircuitOfChirotope c) (cocircuit_in d w c its) (cocircuit_length c) few)
  made kind.Covectors other kept few =
      mapped covectors_made
      (listed kind.Covectors (IsCovectorOfChirotope c) (covector_in d w c its) (λ X x. x.size) few)

pub conversion_possible : (k : Kind) (d : Document) → IsWorked d → IsPossible ((a : Answer) × IsConversion k d a)
conversion_possible k d w = elim (cases_Bool (has_kind k d.body)) [
  | inl own ↦ held (shows d, itself own w.form w.axioms)
  | inr other ↦ then (either_way ((values : ℕ) × IsTooWideAs k d values)) (λ e. elim e [
    | inl h ↦ held (says (line.LimitValues h.0), wide h.0 other h.1)
    | inr none ↦
        let kept : IsKeptAs k d = λ values is. none (values, is) in
        then (either_way (HasTooMany k d)) (λ f. elim f [
          | inl many ↦ held (says (line.LimitMembers MAX_MEMBERS), limited other kept many)
          | inr few ↦
              let c = chirotope_of d w in
              mapped (λ h. (shows h.0, converted h.0 other kept few h.1)) (made d w c.0 c.1 k other kept few)
        ])
  ])
]
