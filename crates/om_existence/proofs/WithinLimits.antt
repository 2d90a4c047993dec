-- Documents of lists of all members of a family, within the limits.
--
-- Main results: all_listed: a list of all members of a family, which has no more than a list may have, is possible;
-- members_on: such members are those of a document; list_form: a body on some elements makes a document in form.
use Rattle.std.specs.Prelude.{ℕ, ◌≡◌, ◌≤◌, List, [], length, refl}
use Rattle.std.proofs.Common.{inl, inr}
use Rattle.std.proofs.lemmas.Bool.{cases_lt}
use Rattle.std.proofs.lemmas.List.Elements.{All-contains_itself}
use Rattle.om_signs.specs.declared.limits.TheConstants.{MAX_ELEMENTS, MAX_MEMBERS}
use Rattle.om_signs.specs.declared.sign.Sign.{Sign}
use Rattle.om_members.specs.Listings.{AreDistinct}
use Rattle.om_denotation.specs.Listings.{AreAllOf, HasMoreThan}
use Rattle.om_denotation.proofs.ListedFamilies.{lengths}
use Rattle.om_document.specs.declared.body.Body.{Body}
use Rattle.om_document.specs.declared.document.Document.{Document}
use Rattle.om_document.specs.Form.{IsBodyOn, AreMembersOn, IsInForm}
use Rattle.om_existence.specs.Possible.{IsPossible}
use Rattle.om_existence.proofs.Possible.{mapped}
use Rattle.om_existence.proofs.Listed.{listed_possible}

-- ---- lists

-- a list of all members of a family, each once, that is no longer than a list may be
abbrev pub IsListedOn : ℕ → (List Sign → Type 0) → List (List Sign) → Type 0
IsListedOn n P members = AreAllOf P members × AreMembersOn n members

abbrev pub HasList : ℕ → (List Sign → Type 0) → Type 0
HasList n P = (members : List (List Sign)) × IsListedOn n P members

module _ (n : ℕ) (P : List Sign → Type 0) (long : (X : List Sign) → P X → length X ≡ n) where
  module _ (members : List (List Sign)) (all : AreAllOf P members) (distinct : AreDistinct members) where
    -- it has no more members than the family
    few_listed : (HasMoreThan MAX_MEMBERS P → ⊥) → length members ≤ MAX_MEMBERS
    few_listed few = elim (cases_lt MAX_MEMBERS (length members)) [
      | inl over ↦ absurd (few (record {
        members = members;
        many = over;
        distinct = distinct;
        each = λ j d l. all.sound _ (All-contains_itself members j d l);
      }))
      | inr most ↦ most
    ]

    pub members_on : length members ≤ MAX_MEMBERS → IsListedOn n P members
    members_on few = (all, record { few = few; long = lengths P members all n long; distinct = distinct })

  pub all_listed : (HasMoreThan MAX_MEMBERS P → ⊥) → IsPossible (HasList n P)
  all_listed few =
      mapped (λ h. (h.0, members_on h.0 h.1.0 h.1.1 (few_listed h.0 h.1.0 h.1.1 few))) (listed_possible n P long)

-- ---- documents

-- a document without names
abbrev pub unnamed : ℕ → Body → Document
unnamed n b = record { elements = n; body = b; names = [] }

pub list_form : (n : ℕ) (b : Body) → 1 ≤ n → n ≤ MAX_ELEMENTS → IsBodyOn n b → IsInForm (unnamed n b)
list_form n b low high on = record { low = low; high = high; body = on; names = inl refl }
