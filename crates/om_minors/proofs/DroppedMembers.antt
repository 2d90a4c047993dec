-- The members of a list with n signs each, without the place of an element.
--
-- Main results: what the members are without it, as a family (dropped_all, zero_dropped_all, least_all), and
-- that these have one sign less (without_lengths, zero_without_lengths, least_lengths).
use Rattle.std.specs.Prelude.{ℕ, ◌≡◌, ◌+◌, ◌-◌, ◌≤◌, List, length, slice_index_or}
use Rattle.std.specs.List.{Contains, remove}
use Rattle.std.proofs.Common.{arith}
use Rattle.std.proofs.lemmas.List.Elements.{All-contains_itself}
use Rattle.om_signs.specs.declared.sign.Sign.{Sign}
use Rattle.om_members.specs.Listings.{HaveLength}
use Rattle.om_members.specs.Vectors.{IsZero}
use Rattle.om_members.proofs.ScanLaws.{length_of_member}
use Rattle.om_covectors.specs.Minimality.{IsMinimal, AreThose}
use Rattle.om_denotation.specs.Circuits.{HasNonzero}
use Rattle.om_denotation.specs.Compositions.{IsOfLeastSupport}
use Rattle.om_denotation.specs.Listings.{AreAllOf}
use Rattle.om_denotation.specs.Operations.{IsWithout, IsZeroWithout}
use Rattle.om_denotation.proofs.ChirotopeBridge.{nonzero_list}
use Rattle.om_denotation.proofs.FunctionLaws.{nonzero_element, nonzero_list_not_zero}
use Rattle.om_denotation.proofs.SelectionLaws.{those_contained, contained_those}
use Rattle.om_minors.specs.Dropped.{IsDropped, IsZeroDropped}
use Rattle.om_minors.proofs.DroppedPlaces.{shorter_of}

-- ---- nonzero lists

nonzero_some : (X : List Sign) → (IsZero X → ⊥) → HasNonzero X
nonzero_some X h = nonzero_list X (nonzero_element X h)

-- ---- the members of least support

module _ (P : List Sign → Type 0) (vectors : List (List Sign)) (all : AreAllOf P vectors) where
  least_minimal : (X : List Sign) → IsOfLeastSupport P X → Contains vectors X × IsMinimal vectors X
  least_minimal X x = (
    all.complete X x.member,
    record {
      nonzero = nonzero_list_not_zero X x.nonzero;
      least = λ Y y k sub. x.least Y (all.sound Y y) (nonzero_some Y k) sub;
    },
  )

  minimal_least : (X : List Sign) → Contains vectors X → IsMinimal vectors X → IsOfLeastSupport P X
  minimal_least X c x = record {
    member = all.sound X c;
    nonzero = nonzero_some X x.nonzero;
    least = λ Y y k sub. x.least Y (all.complete Y y) (nonzero_list_not_zero Y k) sub;
  }

  -- those vectors of a list of a family's members that are minimal are its members of least support
  pub least_all : (list : List (List Sign)) → AreThose (IsMinimal vectors) vectors list
      → AreAllOf (IsOfLeastSupport P) list
  least_all list those = record {
    sound = λ X c. let m = those_contained (IsMinimal vectors) vectors list those X c in minimal_least X m.0 m.1;
    complete = λ X x. let m = least_minimal X x in contained_those (IsMinimal vectors) vectors list those X m.0 m.1;
  }

-- ---- the members without the place of e

module _ (n e : ℕ) (several : 2 ≤ n) (low : 1 ≤ e) (high : e ≤ n) (members : List (List Sign))
    (lengths : HaveLength n members) where
  pub dropped_all : (list : List (List Sign)) → AreAllOf (IsDropped e members) list
      → AreAllOf (IsWithout n e (Contains members)) list
  dropped_all list all = record {
    sound = λ X c. let w = all.sound X c in (w.0, length_of_member n members lengths w.0 w.1, w.1, w.2);
    complete = λ X w. all.complete X (w.0, w.2, w.3);
  }

  pub zero_dropped_all : (list : List (List Sign)) → AreAllOf (IsZeroDropped e members) list
      → AreAllOf (IsZeroWithout n e (Contains members)) list
  zero_dropped_all list all = record {
    sound = λ X c. let w = all.sound X c in (w.0, length_of_member n members lengths w.0 w.1, w.1, w.2.0, w.2.1);
    complete = λ X w. all.complete X (w.0, w.2, (w.3, w.4));
  }

  module _ (k : ℕ) (less : k + 1 ≡ n) (list : List (List Sign)) where
    shorter_members : ((X : List Sign) → Contains list X → (W : List Sign) × (length W ≡ n) × (remove W (e - 1) ≡ X))
        → HaveLength k list
    shorter_members from j d l =
        let w = from (slice_index_or list j d) (All-contains_itself list j d l) in
        let size = shorter_of n e low high (slice_index_or list j d) w.0 w.1 w.2 in
        omega (arith, size, less)

    pub without_lengths : AreAllOf (IsWithout n e (Contains members)) list → HaveLength k list
    without_lengths all = shorter_members (λ X c. let w = all.sound X c in (w.0, w.1, w.3))

    pub zero_without_lengths : AreAllOf (IsZeroWithout n e (Contains members)) list → HaveLength k list
    zero_without_lengths all = shorter_members (λ X c. let w = all.sound X c in (w.0, w.1, w.4))

    pub least_lengths : AreAllOf (IsOfLeastSupport (IsWithout n e (Contains members))) list → HaveLength k list
    least_lengths all = shorter_members (λ X c. let w = (all.sound X c).member in (w.0, w.1, w.3))
