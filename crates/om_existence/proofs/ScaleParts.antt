-- A run that comes to a balanced state ends with counts, or with a number that is too wide.
--
-- Main results: balanced_end_possible.
use Rattle.std.specs.Prelude.{ℕ, ◌≡◌, ◌+◌, ◌*◌, ◌<◌, ◌↔◌, List, [], ◌∷◌, ◌++◌}
use Rattle.std.specs.Prelude.{length}
use Rattle.std.specs.List.{Contains}
use Rattle.std.proofs.Common.{zero, suc, sym, ap, subst, inl, inr, arith}
use Rattle.std.proofs.lemmas.Bool.{cases_eq, cases_lt}
use Rattle.std.proofs.lemmas.List.Elements.{Contains-append_left, Contains-push, Contains-push_cases}
use Rattle.om_signs.specs.declared.limits.TheConstants.{MAX_MULTIPLICITY}
use Rattle.om_signs.proofs.Contained.{none_contained}
use Rattle.om_rows.specs.declared.column.Column.{Column}
use Rattle.om_rows.specs.Rows.{IsPlace}
use Rattle.om_simplex.specs.declared.count.Count.{Count}
use Rattle.om_simplex.specs.declared.outcome.Outcome.{Outcome}
use Rattle.om_simplex.specs.declared.outcome.Outcome.TheVariants.{Balanced, Width}
use Rattle.om_simplex.specs.declared.stage.Stage.TheVariants.{Scale}
use Rattle.om_simplex.specs.Ends.{IsBalancedEnd, counted, own_wide, factor_wide, times_wide}
use Rattle.om_simplex.specs.Results.{own, AreOwnNarrow, IsTimes, IsLeastFactor}
use Rattle.om_simplex.specs.Results.{IsCountOf, AreColumnsIncreasing, AreCounts}
use Rattle.om_simplex.specs.States.{State, basis_number, last_of}
use Rattle.om_simplex.specs.Values.{IsReady}
use Rattle.om_simplex.proofs.Gcds.{scaled_once}
use Rattle.om_simplex.proofs.Scalings.{increasing_push}
use Rattle.om_existence.specs.Possible.{IsPossible}
use Rattle.om_existence.proofs.ValueParts.{times_down, own_is, last_is, own_possible, least_factor, times_possible}
use Rattle.om_existence.proofs.Possible.{held, then, mapped, either_way}

-- ---- lists of counts

same_parts : (c d : Count) → c.column ≡ d.column → c.times ≡ d.times → c ≡ d
same_parts c d p q = λ i. record { column = p i; times = q i }

module _ (columns : List Column) (m : ℕ) (s : State) (ready : IsReady columns m s)
    (distinct : (i l : ℕ) → IsPlace m i → IsPlace m l → basis_number s i ≡ basis_number s l → i ≡ l) where
  module _ (factor : ℕ) where
    -- ---- the counts by their columns

    -- the counts of the columns below b
    record AreCountsBelow (b : ℕ) (cs : List Count) : Type 0 where
      pub increasing : AreColumnsIncreasing cs
      pub members : (c : Count) → Contains cs c ↔ (IsCountOf columns m s factor c × (c.column < b))

    -- a value of the same row and the same column
    moved : (i l j k n : ℕ) → i ≡ l → j ≡ k → IsTimes columns m s factor l k n → IsTimes columns m s factor i j n
    moved i l j k n row e t =
        subst (λ x. IsTimes columns m s factor x j n) (sym row)
        (subst (λ x. IsTimes columns m s factor l x n) (sym e) t)

    same_count : (c d : Count) → IsCountOf columns m s factor c → IsCountOf columns m s factor d → c.column ≡ d.column
        → c ≡ d
    same_count c d h g e =
        let a = h.has.number in
        let b = g.has.number in
        let row : h.i ≡ g.i = distinct h.i g.i h.has.row g.has.row (omega (arith, a, b, e)) in
        let o = own_is columns m s ready h.i c.column h.has in
        let r = last_is columns m s ready h.i c.column h.has in
        let x = own columns s h.i c.column in
        let y = last_of m s h.i in
        let first = times_down c.times factor (suc o.0) r.0 x y o.1 r.1 h.times in
        let other = moved h.i g.i c.column d.column d.times row e g.times in
        let second = times_down d.times factor (suc o.0) r.0 x y o.1 r.1 other in
        same_parts c d e (scaled_once c.times d.times (suc o.0) (factor * r.0) (omega arith) first second)

    none_below : AreCountsBelow 0 []
    none_below = record {
      increasing = tt;
      members = λ c. (λ k. absurd (none_contained c k), λ h. let l = h.1 in absurd (omega (arith, l)));
    }

    none_here : (b : ℕ) (cs : List Count) → AreCountsBelow b cs
        → ((c : Count) × (IsCountOf columns m s factor c × (c.column ≡ b)) → ⊥) → AreCountsBelow (suc b) cs
    none_here b cs h none = record {
      increasing = h.increasing;
      members = λ c. (
        λ k. let q = (h.members c).0 k in let l = q.1 in (q.0, omega (arith, l)),
        λ q. elim (cases_eq c.column b) [
          | inl at ↦ absurd (none (c, (q.0, at)))
          | inr other ↦ (h.members c).1 (q.0, let l = q.1 in omega (arith, l, other))
        ],
      );
    }

    one_here : (b : ℕ) (cs : List Count) (d : Count) → AreCountsBelow b cs → IsCountOf columns m s factor d
        → d.column ≡ b → AreCountsBelow (suc b) (cs ++ d ∷ [])
    one_here b cs d h is at = record {
      increasing = increasing_push cs d h.increasing (λ c k. let l = ((h.members c).0 k).1 in omega (arith, l, at));
      members = λ c. (
        λ k. elim (Contains-push_cases cs d c k) [
          | inl there ↦ let q = (h.members c).0 there in let l = q.1 in (q.0, omega (arith, l))
          | inr same ↦ (
            subst (IsCountOf columns m s factor) same is,
            let e : d.column ≡ c.column = ap (λ (x : Count). x.column) same in omega (arith, e, at),
          )
        ],
        λ q. elim (cases_lt c.column b) [
          | inl less ↦ Contains-append_left cs (d ∷ []) c ((h.members c).1 (q.0, less))
          | inr most ↦ subst (Contains (cs ++ d ∷ []))
              (same_count d c is q.0 (let l = q.1 in omega (arith, l, most, at))) (Contains-push cs d)
        ],
      );
    }

    below_possible : (b : ℕ) → IsPossible ((cs : List Count) × AreCountsBelow b cs)
    below_possible zero = held ([], none_below)
    below_possible (suc b) = then (below_possible b) (λ h. mapped (λ e. elim e [
      | inl c ↦ (h.0 ++ c.0 ∷ [], one_here b h.0 c.0 h.1 c.1.0 c.1.1)
      | inr none ↦ (h.0, none_here b h.0 h.1 none)
    ]) (either_way ((c : Count) × (IsCountOf columns m s factor c × (c.column ≡ b)))))

    column_within : (c : Count) → IsCountOf columns m s factor c → c.column < length columns + 1
    column_within c h = let e = h.has.number in let l = (ready.numbers h.i h.has.row).high in omega (arith, e, l)

    counts_possible : IsPossible ((cs : List Count) × AreCounts columns m s factor cs)
    counts_possible = mapped (λ h. (
      h.0,
      record {
        increasing = h.1.increasing;
        members = λ c. (λ k. ((h.1.members c).0 k).0, λ is. (h.1.members c).1 (is, column_within c is));
      },
    )) (below_possible (length columns + 1))

    -- ---- the end with this factor

    factor_end : (k : ℕ) → AreOwnNarrow columns m s → IsLeastFactor columns m s factor
        → IsPossible ((o : Outcome) × IsBalancedEnd columns m s k o)
    factor_end k narrow is = elim (cases_lt MAX_MULTIPLICITY factor) [
      | inl great ↦ held (Width Scale k 0 0, factor_wide factor narrow is great)
      | inr small ↦ then (times_possible columns m s ready factor) (λ h. elim h [
        | inr f ↦ held (Width Scale k f.0 0, times_wide factor f.0 narrow is small f.1)
        | inl times ↦ mapped (λ cs. (Balanced cs.0, counted factor cs.0 narrow is small times cs.1)) counts_possible
      ])
    ]

  pub balanced_end_possible : (k : ℕ) → IsPossible ((o : Outcome) × IsBalancedEnd columns m s k o)
  balanced_end_possible k = then (own_possible columns m s ready) (λ h. elim h [
    | inr f ↦ held (Width Scale k f.0 0, own_wide f.0 f.1)
    | inl narrow ↦ then (least_factor columns m s ready) (λ f. factor_end f.0 k narrow f.1)
  ])
