-- The sets that calls give for the numbers of a lent map, as sets of the map that contracts see.
--
-- Main results: placed, the set at a place; turn_placed and next_placed, the set of a
-- turn of a walk.
use Rattle.std.specs.Prelude.{ℕ, ◌≡◌, List, Option, Some, length}
use Rattle.std.proofs.Common.{subst}
use Rattle.std.specs.Iterator.{Yields}
use Rattle.om_subsets.specs.Sets.{all_sets}
use Rattle.om_subsets.specs.Subsets.{rank_of, IsSubsetFrom}
use Rattle.om_subsets.specs.Members.{Chosen}
use Rattle.om_subsets.proofs.SetChains.{IsTurn, at_turn, set_steps}
use Rattle.om_chirotope.specs.Map.{SignMap}

-- the set at place k of those of r of the elements 1 to n
pub record IsPlaced (n r k : ℕ) (a : Chosen) : Type 0 where
  pub n_is : a.n ≡ n
  pub size : length a.elements ≡ r
  pub list : IsSubsetFrom 1 n a.elements
  pub place : rank_of n a.elements ≡ k

-- a set at place k by the numbers of the map m is at this place by those of w, which is the same map
pub placed : (r : SignMap → ℕ) (m w : SignMap) (k : ℕ) (a : Chosen) → m ≡ w → a.n ≡ m.elements
    → length a.elements ≡ r m → IsSubsetFrom 1 m.elements a.elements → rank_of m.elements a.elements ≡ k
    → IsPlaced w.elements (r w) k a
placed r m w k a same n size list place =
    subst (λ v. IsPlaced v.elements (r v) k a) same (record { n_is = n; size = size; list = list; place = place })

-- the set of a turn stands at the place of the turn
pub turn_placed : (n r k : ℕ) (a : Chosen) → IsTurn n r k a → IsPlaced n r k a
turn_placed n r k a turn = record {
  n_is = turn.at.n_is;
  size = turn.at.size;
  list = turn.at.list;
  place = turn.at.place turn.inside;
}

-- the same, from what a walk over all sets yielded
pub next_placed : (n r : ℕ) {s : List Chosen} (xs t u : List Chosen) {o : Option Chosen} {x : Chosen} → s ≡ all_sets n r
    → Yields set_steps s xs t → o ≡ Some x → set_steps t o u → IsPlaced n r (length xs) x
next_placed n r xs t u {o} {x} sets y is step = turn_placed n r (length xs) x (at_turn n r xs t u sets y is step)
