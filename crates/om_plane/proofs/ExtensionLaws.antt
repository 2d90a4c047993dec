-- Extensions as answers.
--
-- Main results: a listing and the two errors as answers (listing_meant, rank_meant, full_meant).
use Rattle.std.specs.Prelude.{ℕ, ◌≡◌, ◌≢◌, ◌↔◌, ◌<◌, ◌≤◌, Result, Ok, IsErrOf, refl}
use Rattle.std.proofs.Common.{inl, inr, arith, sym, subst, ◌∙◌}
use Rattle.std.proofs.lemmas.Bool.{cases_eq}
use Rattle.om_signs.specs.declared.limits.TheConstants.{MAX_ELEMENTS}
use Rattle.om_chirotope.specs.Map.{SignMap}
use Rattle.om_localize.specs.declared.extend_error.ExtendError.{ExtendError}
use Rattle.om_localize.specs.declared.extend_error.ExtendError.TheVariants.{NotRank3, Full}
use Rattle.om_localize.specs.Extensions.{IsSignature}
use Rattle.om_localize.specs.Listings.{AreFirst}
use Rattle.om_localize.specs.declared.listing.Listing.{Listing}
use Rattle.om_printing.specs.declared.line.Line.TheVariants as line
use Rattle.om_reply.specs.Answers.{says, lists_extensions}
use Rattle.om_plane.specs.ExtensionLists.{AreExtensionsOfMap, other_rank, full, listed}
use Rattle.om_plane.proofs.RankThreeLaws.{no_error}

module _ (first : ℕ) (m : SignMap) (result : Result Listing ExtendError) where
  -- what a call says of its errors
  abbrev pub NamesRank : Type 0
  NamesRank = (r : ℕ) → IsErrOf result (NotRank3 r) ↔ ((m.rank ≡ r) × (r ≢ 3))

  abbrev pub NamesFull : Type 0
  NamesFull = (n : ℕ) → IsErrOf result (Full n) ↔ ((m.rank ≡ 3) × (m.elements ≡ n) × (n ≡ MAX_ELEMENTS))

  three_of : (l : Listing) → result ≡ Ok l → NamesRank → m.rank ≡ 3
  three_of l is rank = elim (cases_eq m.rank 3) [
    | inl same ↦ same
    | inr differ ↦ absurd (no_error l (NotRank3 m.rank) result is ((rank m.rank).1 (refl, differ)))
  ]

  few_of : (l : Listing) → result ≡ Ok l → m.rank ≡ 3 → NamesFull → m.elements ≤ MAX_ELEMENTS
      → m.elements < MAX_ELEMENTS
  few_of l is three most high = elim (cases_eq m.elements MAX_ELEMENTS) [
    | inl same ↦ absurd (no_error l (Full m.elements) result is ((most m.elements).1 (three, refl, same)))
    | inr differ ↦ omega (arith, differ, high)
  ]

  pub listing_meant : (n : ℕ) (l : Listing) → n ≡ m.elements → n ≤ MAX_ELEMENTS → result ≡ Ok l → NamesRank → NamesFull
      → AreFirst (IsSignature m) first l.lines l.more → AreExtensionsOfMap first m (lists_extensions n l)
  listing_meant n l same high is rank most are =
      let three = three_of l is rank in
      let few = few_of l is three most (subst (λ k. k ≤ MAX_ELEMENTS) same high) in
      subst (λ k. AreExtensionsOfMap first m (lists_extensions k l)) (sym same) (listed l three few are)

  pub rank_meant : (r : ℕ) → IsErrOf result (NotRank3 r) → NamesRank
      → AreExtensionsOfMap first m (says (line.RefusedNotrank3 r))
  rank_meant r is rank =
      let other = (rank r).0 is in
      subst (λ k. AreExtensionsOfMap first m (says (line.RefusedNotrank3 k))) other.0
      (other_rank (λ three. other.1 (sym other.0 ∙ three)))

  pub full_meant : (n : ℕ) → IsErrOf result (Full n) → NamesFull
      → AreExtensionsOfMap first m (says (line.RefusedFull n))
  full_meant n is most =
      let why = (most n).0 is in
      subst (λ k. AreExtensionsOfMap first m (says (line.RefusedFull k))) why.1 (full why.0 (why.1 ∙ why.2))
