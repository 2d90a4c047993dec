-- The chain at its beginning, with one map more, and after a step.
--
-- Main results: what is then there is a chain (made_chain, pushed_chain, closed_chain).
use Rattle.std.proofs.Common.{◌≡◌, ◌+◌, ◌<◌, [], ◌∷◌, ◌++◌, All, sym, subst, refl, arith}
use Rattle.std.proofs.lemmas.List.Elements.{All-push}
use Rattle.om_signs.specs.declared.limits.TheConstants.{MAX_ELEMENTS}
use Rattle.om_chirotope.specs.Map.{SignMap}
use Rattle.om_covers.specs.Classes.{IsComplete}
use Rattle.om_least.specs.Least.{IsIncreasing}
use Rattle.om_least.proofs.Increasing.{increasing_push}
use Rattle.om_levels.specs.declared.family.Family.{Family}
use Rattle.om_levels.specs.Families.{IsOfFamily}
use Rattle.om_levels.specs.Levels.{Members}
use Rattle.om_chain.specs.declared.asked.Asked.{Asked}
use Rattle.om_chain.specs.Chains.{ChainOfLists, IsChain, IsShown, IsAdmitted, IsFit, IsClosed}
use Rattle.om_chain.specs.Chains.{least_triangle, first_list, begun, added}
use Rattle.om_chain.proofs.Shown.{shown_from, shown_complete, first_shown}

-- the chain with this list as the one that is being read
abbrev pub with_current : ChainOfLists → Members → ChainOfLists
with_current c l = record { asked = c.asked; family = c.family; shown = c.shown; current = l }

same_list : (l k : Members) → l.elements ≡ k.elements → l.maps ≡ k.maps → l ≡ k
same_list l k e q = λ i. record { elements = e i; maps = q i }

-- ---- the beginning

nothing_read : (asked : Asked) (family : Family) → IsChain (begun asked family)
nothing_read asked family = record {
  shown = first_shown asked family;
  low = omega arith;
  next = refl;
  high = omega arith;
  admitted = λ k d lt. absurd (omega arith);
  increasing = λ e i lt. absurd (omega arith);
}

module _ (asked : Asked) (family : Family) (shown current : Members) (three : shown.elements ≡ 3)
    (one : shown.maps ≡ least_triangle ∷ []) (four : current.elements ≡ 4) (none : current.maps ≡ []) where
  abbrev made : ChainOfLists
  made = record { asked = asked; family = family; shown = shown; current = current }

  pub made_begun : made ≡ begun asked family
  made_begun = λ i. record {
    asked = asked;
    family = family;
    shown = same_list shown first_list three one i;
    current = same_list current (record { elements = 4; maps = [] }) four none i;
  }

  pub made_chain : IsChain made
  made_chain = subst IsChain (sym made_begun) (nothing_read asked family)

-- ---- one map more

pub added_chain : (c : ChainOfLists) (m : SignMap) → IsChain c → IsFit c m → IsChain (added c m)
added_chain c m h fit = record {
  shown = h.shown;
  low = h.low;
  next = h.next;
  high = h.high;
  admitted = All-push (IsAdmitted c.asked c.family c.current.elements) c.current.maps m h.admitted fit.admitted;
  increasing = λ e. increasing_push c.current.maps m (h.increasing e) (fit.behind e);
}

-- a list that is as it was
module _ (c : ChainOfLists) (l : Members) (elements : l.elements ≡ c.current.elements) where
  pub kept_same : l.maps ≡ c.current.maps → with_current c l ≡ c
  kept_same maps = λ i. record {
    asked = c.asked;
    family = c.family;
    shown = c.shown;
    current = same_list l c.current elements maps i;
  }

  pub kept_chain : l.maps ≡ c.current.maps → IsChain c → IsChain (with_current c l)
  kept_chain maps h = subst IsChain (sym (kept_same maps)) h

  -- and one with the map behind
  pub pushed_same : (m : SignMap) → l.maps ≡ c.current.maps ++ m ∷ [] → with_current c l ≡ added c m
  pushed_same m maps = λ i. record {
    asked = c.asked;
    family = c.family;
    shown = c.shown;
    current = same_list l (record { elements = c.current.elements; maps = c.current.maps ++ m ∷ [] }) elements maps i;
  }

  pub pushed_chain : (m : SignMap) → l.maps ≡ c.current.maps ++ m ∷ [] → IsChain c → IsFit c m
      → IsChain (with_current c l)
  pushed_chain m maps h fit = subst IsChain (sym (pushed_same m maps)) (added_chain c m h fit)

-- ---- the step

pub now_shown : (c : ChainOfLists) → IsChain c → (IsComplete (IsOfFamily c.family c.shown.elements) c.shown.maps
    → IsComplete (IsOfFamily c.family c.current.elements) c.current.maps)
    → IsShown c.asked c.family c.current.elements c.current.maps
now_shown c h step = shown_from c.asked c.family c.current.elements c.current.maps
    (step (shown_complete c.asked c.family c.shown.elements c.shown.maps h.shown))
    (λ e k d lt. (h.admitted k d lt).least e) h.increasing

-- the chain after a step, with these lists
abbrev pub after : ChainOfLists → Members → Members → ChainOfLists
after c shown next = record { asked = c.asked; family = c.family; shown = shown; current = next }

module _ (c : ChainOfLists) (shown next : Members) (h : IsChain c) (room : c.current.elements < MAX_ELEMENTS)
    (step : IsComplete (IsOfFamily c.family c.shown.elements) c.shown.maps
    → IsComplete (IsOfFamily c.family c.current.elements) c.current.maps)
    (same : shown ≡ c.current) (more : next.elements ≡ c.current.elements + 1) (empty : next.maps ≡ []) where
  pub closed_chain : IsChain (after c shown next)
  closed_chain = subst (λ l. IsChain (after c l next)) (sym same) (record {
    shown = now_shown c h step;
    low = (let low = h.low in let n = h.next in omega arith);
    next = more;
    high = omega arith;
    admitted = subst (All (IsAdmitted c.asked c.family next.elements)) (sym empty) (λ k d lt. absurd (omega arith));
    increasing = λ e. subst IsIncreasing (sym empty) (λ i lt. absurd (omega arith));
  })

  pub is_closed : IsClosed c (after c shown next)
  is_closed = record {
    asked = refl;
    family = refl;
    shown = same;
    proved = now_shown c h step;
    next = more;
    empty = empty;
  }
