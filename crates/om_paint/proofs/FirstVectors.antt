-- The lexicographically first member of a family of sign vectors, as the family grows by the vectors of the increasing
-- lists of a size.
--
-- Main definitions: IsPassing, IsOfList
-- Main results: one_more, first_same, place_more, all_places
use Rattle.std.proofs.Common.{ℕ, ◌≡◌, ◌+◌, ◌<◌, ◌⊎◌, List, length, map, refl, sym, ap, subst, ◌∙◌, inl, inr}
use Rattle.std.proofs.Common.{⊎_elim, arith}
use Rattle.std.specs.Prelude.{Option, None, Some}
use Rattle.std.specs.Cmp.{tied_itself}
use Rattle.std.specs.declared.cmp.Ordering.TheVariants.{Less}
use Rattle.std.proofs.lemmas.Bool.{cases_lt}
use Rattle.om_signs.specs.declared.sign.Sign.{Sign}
use Rattle.om_signs.specs.Sign.{opposite}
use Rattle.om_signs.specs.Order.{lexicographic}
use Rattle.om_signs.specs.OrderLaws.{lexicographic-total}
use Rattle.om_subsets.specs.Subsets.{choose, rank_of, subset_at, IsSubsetFrom}
use Rattle.om_subsets.proofs.Order.{listed, rank_from-lt, get_or-rank_from}
use Rattle.om_denotation.specs.Circuits.{HasNonzero, IsUpToSign}
use Rattle.om_paint.specs.Paintings.{IsFirst, IsFirstIfAny, ComesBefore, IsEarlierOf}

-- a vector of the family, or this one where it isn't zero and is allowed
abbrev IsOldOrNew : (List Sign → Type 0) → (List Sign → Type 0) → List Sign → List Sign → Type 0
IsOldOrNew P Q x X = P X ⊎ ((X ≡ x) × HasNonzero X × Q X)

not_before_itself : (X : List Sign) → lexicographic X X ≡ Less → ⊥
not_before_itself X l = let e = tied_itself lexicographic-total X in cc

module _ (P Q : List Sign → Type 0) (x : List Sign) where
  taken : (old : Option (List Sign)) → IsFirstIfAny P old → HasNonzero x → Q x → ComesBefore x old
      → IsFirst (IsOldOrNew P Q x) x
  taken None h n q b = record {
    member = inr (refl, n, q);
    first = λ Y p l. ⊎_elim (λ a. h Y a) (λ a. not_before_itself x (subst (λ Z. lexicographic Z x ≡ Less) a.0 l)) p;
  }
  taken (Some Z) h n q b = record {
    member = inr (refl, n, q);
    first = λ Y p l. ⊎_elim (λ a. h.first Y a (lexicographic-total.trans Y x Z l b))
        (λ a. not_before_itself x (subst (λ W. lexicographic W x ≡ Less) a.0 l)) p;
  }

  kept : (old : Option (List Sign)) → IsFirstIfAny P old → (HasNonzero x → Q x → ComesBefore x old → ⊥)
      → IsFirstIfAny (IsOldOrNew P Q x) old
  kept None h not = λ X p. ⊎_elim (λ a. h X a) (λ a. not (subst HasNonzero a.0 a.1) (subst Q a.0 a.2) tt) p
  kept (Some Z) h not = record {
    member = inl h.member;
    first = λ Y p l. ⊎_elim (λ a. h.first Y a l)
        (λ a. not (subst HasNonzero a.0 a.1) (subst Q a.0 a.2) (subst (λ W. lexicographic W Z ≡ Less) a.0 l)) p;
  }

  pub one_more : (old new : Option (List Sign)) → IsFirstIfAny P old → IsEarlierOf Q old x new
      → IsFirstIfAny (IsOldOrNew P Q x) new
  one_more old new h s = ⊎_elim
      (λ a. subst (IsFirstIfAny (IsOldOrNew P Q x)) (sym a.0) (taken old h a.1 a.2 a.3))
      (λ a. subst (IsFirstIfAny (IsOldOrNew P Q x)) (sym a.0) (kept old h a.1)) s

pub first_same : (P R : List Sign → Type 0) → ((X : List Sign) → P X → R X) → ((X : List Sign) → R X → P X)
    → (o : Option (List Sign)) → IsFirstIfAny P o → IsFirstIfAny R o
first_same P R p r None h = λ X a. h X (r X a)
first_same P R p r (Some Z) h = record { member = p Z h.member; first = λ Y a l. h.first Y (r Y a) l }

-- ---- the vectors of the increasing lists of a size

-- not zero, allowed, and up to sign the vector of the list at one of the first k places
abbrev pub IsPassing : (List ℕ → List Sign) → (List Sign → Type 0) → ℕ → ℕ → ℕ → List Sign → Type 0
IsPassing V Q n size k X = (j : ℕ) × (j < k) × IsUpToSign X (V (subset_at n size j)) × HasNonzero X × Q X

-- not zero, allowed, and up to sign the vector of an increasing list of the size
pub record IsOfList (V : List ℕ → List Sign) (Q : List Sign → Type 0) (n size : ℕ) (X : List Sign) : Type 0 where
  pub tuple : List ℕ
  pub increasing : IsSubsetFrom 1 n tuple
  pub sized : length tuple ≡ size
  pub same : IsUpToSign X (V tuple)
  pub nonzero : HasNonzero X
  pub allowed : Q X

module _ (V : List ℕ → List Sign) (Q : List Sign → Type 0) (n size : ℕ) where
  abbrev Twice : ℕ → List Sign → List Sign → Type 0
  Twice k v X = IsOldOrNew (IsOldOrNew (IsPassing V Q n size k) Q v) Q (map opposite v) X

  from_twice : (k : ℕ) (v : List Sign) → v ≡ V (subset_at n size k) → (X : List Sign) → Twice k v X
      → IsPassing V Q n size (k + 1) X
  from_twice k v e X (inl (inl h)) = let l = h.1 in (h.0, omega (arith, l), h.2, h.3, h.4)
  from_twice k v e X (inl (inr h)) = (k, omega arith, inl (h.0 ∙ e), h.1, h.2)
  from_twice k v e X (inr h) = (k, omega arith, inr (h.0 ∙ ap (map opposite) e), h.1, h.2)

  at_last : (k : ℕ) (v : List Sign) → v ≡ V (subset_at n size k) → (X : List Sign)
      → IsUpToSign X (V (subset_at n size k)) → HasNonzero X → Q X → Twice k v X
  at_last k v e X (inl same) nonzero q = inl (inr (same ∙ sym e, nonzero, q))
  at_last k v e X (inr same) nonzero q = inr (same ∙ ap (map opposite) (sym e), nonzero, q)

  to_twice : (k : ℕ) (v : List Sign) → v ≡ V (subset_at n size k) → (X : List Sign) → IsPassing V Q n size (k + 1) X
      → Twice k v X
  to_twice k v e X (j, l, same, nonzero, q) = elim (cases_lt j k) [
    | inl lt ↦ inl (inl (j, lt, same, nonzero, q))
    | inr ge ↦ let s : j ≡ k = omega (arith, l, ge) in
        at_last k v e X (subst (λ i. IsUpToSign X (V (subset_at n size i))) s same) nonzero q
  ]

  pub place_more : (k : ℕ) (v w : List Sign) → v ≡ V (subset_at n size k) → w ≡ map opposite v
      → (old mid new : Option (List Sign))
      → IsFirstIfAny (IsPassing V Q n size k) old → IsEarlierOf Q old v mid → IsEarlierOf Q mid w new
      → IsFirstIfAny (IsPassing V Q n size (k + 1)) new
  place_more k v w e d old mid new h a b =
      first_same (Twice k v) (IsPassing V Q n size (k + 1)) (from_twice k v e) (to_twice k v e) new
      (one_more (IsOldOrNew (IsPassing V Q n size k) Q v) Q (map opposite v) mid new
      (one_more (IsPassing V Q n size k) Q v old mid h a)
      (subst (λ u. IsEarlierOf Q mid u new) d b))

  to_list : (X : List Sign) → IsPassing V Q n size (choose n size) X → IsOfList V Q n size X
  to_list X (j, l, same, nonzero, q) =
      let p = listed 1 n size j l in
      record {
        tuple = subset_at n size j;
        increasing = p.lawful;
        sized = p.size;
        same = same;
        nonzero = nonzero;
        allowed = q;
      }

  from_list : (X : List Sign) → IsOfList V Q n size X → IsPassing V Q n size (choose n size) X
  from_list X h =
      let e = subst (λ k. subset_at n k (rank_of n h.tuple) ≡ h.tuple) h.sized
      (get_or-rank_from 1 n h.tuple h.increasing) in (
        rank_of n h.tuple,
        subst (λ k. rank_of n h.tuple < choose n k) h.sized (rank_from-lt 1 n h.tuple h.increasing),
        subst (λ t. IsUpToSign X (V t)) (sym e) h.same,
        h.nonzero,
        h.allowed,
      )

  pub all_places : (o : Option (List Sign)) → IsFirstIfAny (IsPassing V Q n size (choose n size)) o
      → IsFirstIfAny (IsOfList V Q n size) o
  all_places o h = first_same (IsPassing V Q n size (choose n size)) (IsOfList V Q n size) to_list from_list o h
