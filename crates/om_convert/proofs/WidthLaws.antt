-- Whether the chirotope of what a list denotes has more than MAX_VALUES values.
--
-- Main results: by the rank it is no more (narrow_by_width) or more (wide_by_rank, width_cause); of rank 3 it is no
-- more (narrow_of_rank_3); the rank of what denotes the same (rank_of_same); the cause of a width, and of a list, as
-- that of a list (list_of_width, list_of_cause).
use Rattle.std.specs.Prelude.{ℕ, ◌≡◌, ◌≤◌, ◌<◌, List}
use Rattle.std.proofs.Common.{sym, ap, subst, ◌∙◌, arith}
use Rattle.om_signs.specs.declared.sign.Sign.{Sign}
use Rattle.om_signs.specs.declared.limits.TheConstants.{MAX_ELEMENTS, MAX_VALUES}
use Rattle.om_subsets.specs.Subsets.{choose}
use Rattle.om_chirotope.specs.Map.{SignMap}
use Rattle.om_chirotope.specs.Chirotope.{IsChirotope}
use Rattle.om_chirotope.proofs.FewValues.{few_triples}
use Rattle.om_denotation.specs.Covectors.{IsCovectorOfChirotope}
use Rattle.om_denotation.specs.Denotation.{DenoteTheSame}
use Rattle.om_convert.specs.Ranks.{IsRankFor}
use Rattle.om_convert.proofs.RankLaws.{rank_for}
use Rattle.om_convert.specs.declared.convert_error.ConvertError.{ConvertError}
use Rattle.om_convert.specs.declared.convert_error.ConvertError.TheVariants.{TooWide, TooMany, Memory}
use Rattle.om_convert.proofs.SameFamilies.{joined}
use Rattle.om_convert.specs.Limits.{IsCause, IsWidth, IsWidthCause, IsListCause, IsTooWideFor, HasFewValuesFor}

-- ---- by the rank

module _ (n : ℕ) (P : List Sign → Type 0) (rank : ℕ) (r : IsRankFor n P rank) where
  narrow_by_rank : choose n rank ≤ MAX_VALUES → HasFewValuesFor n P
  narrow_by_rank few values w =
      let same : choose n w.map.rank ≡ choose n rank = ap (choose n) (sym (r.each w.map w.axioms w.elements w.same)) in
      let number = w.number in
      let wide = w.wide in
      omega (arith, few, same, number, wide)

  -- the same by the number of elements that a call gave
  pub narrow_by_width : (k : ℕ) → k ≡ n → choose k rank ≤ MAX_VALUES → HasFewValuesFor n P
  narrow_by_width k q few = narrow_by_rank (subst (λ j. choose j rank ≤ MAX_VALUES) q few)

  pub wide_by_rank : (values : ℕ) → values ≡ choose n rank → MAX_VALUES < values → IsTooWideFor n P values
  wide_by_rank values q wide = record {
    map = r.map;
    axioms = r.axioms;
    elements = r.elements;
    same = r.same;
    normal = r.normal;
    number = q ∙ ap (choose n) (r.each r.map r.axioms r.elements r.same);
    wide = wide;
  }

  pub width_cause : (k : ℕ) → k ≡ n → (e : ConvertError) → IsWidth (choose k rank) e → IsWidthCause n P e
  width_cause k q (TooWide values) h = let wide = h.1 in let same = h.0 in
      wide_by_rank values (h.0 ∙ ap (λ j. choose j rank) q) (omega (arith, wide, same))
  width_cause k q (TooMany limit) h = h
  width_cause k q Memory h = absurd h

-- the rank of what denotes the same
pub rank_of_same : (n k : ℕ) (P Q : List Sign → Type 0) (rank : ℕ) → k ≡ n → DenoteTheSame n P Q → IsRankFor n P rank
    → IsRankFor k Q rank
rank_of_same n k P Q rank e both r = record {
  each = λ m om q same. r.each m om (q ∙ e) (joined n k P Q (IsCovectorOfChirotope m) e both same);
  map = r.map;
  axioms = r.axioms;
  elements = r.elements ∙ sym e;
  same = λ X l. (λ x. (r.same X (l ∙ e)).0 ((both X (l ∙ e)).1 x), λ x. (both X (l ∙ e)).0 ((r.same X (l ∙ e)).1 x));
  normal = r.normal;
}

-- ---- rank 3

-- what denotes the same as a chirotope of rank 3 on at most MAX_ELEMENTS elements has few values
pub narrow_of_rank_3 : (n : ℕ) (P : List Sign → Type 0) (m : SignMap) → n ≤ MAX_ELEMENTS → IsChirotope m
    → m.elements ≡ n → DenoteTheSame n P (IsCovectorOfChirotope m) → m.rank ≡ 3 → HasFewValuesFor n P
narrow_of_rank_3 n P m high om q same three =
    narrow_by_rank n P 3 (rank_for n P m om q same 3 (sym three)) (few_triples n high)

-- ---- causes

module _ (n : ℕ) (P Q : List Sign → Type 0) where
  -- why a list isn't converted to a chirotope is why it isn't converted to another list
  pub list_of_width : (e : ConvertError) → IsWidthCause n P e → IsListCause n P Q e
  list_of_width (TooWide values) h = h
  list_of_width (TooMany limit) h = absurd h
  list_of_width Memory h = h

  -- why the members of a family aren't listed is why a list whose chirotope isn't too wide isn't converted to them
  pub list_of_cause : HasFewValuesFor n P → (e : ConvertError) → IsCause Q e → IsListCause n P Q e
  list_of_cause narrow (TooWide values) h = absurd h
  list_of_cause narrow (TooMany limit) h = (h.0, h.1, narrow)
  list_of_cause narrow Memory h = narrow
