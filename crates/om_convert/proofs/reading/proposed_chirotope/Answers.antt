use Rattle.std.proofs.Common.{ℕ, ◌≡◌, ◌≤◌, ◌∙◌, ap, sym, subst, arith}
use Rattle.om_signs.specs.declared.limits.TheConstants.{MAX_ELEMENTS}
use Rattle.om_members.specs.Listings.{HaveLength}
use Rattle.om_subsets.specs.Subsets.{choose}
use Rattle.om_convert.specs.Hitting.{IsEachNormalOf}
use Rattle.om_convert.proofs.reading.proposed_chirotope.Goals as goal

-- a rank that is the size of a set is at most the number of elements
rank_within : (rank size n elements m : ℕ) → rank ≡ size → n ≡ elements → m ≡ elements → size ≤ m → rank ≤ n
rank_within rank size n elements m r e s h = omega arith

pub missed_vector-requires : goal.missed_vector-requires
missed_vector-requires g c = subst (λ k. HaveLength k c.args.vectors.now) (sym c.first.ensures.n) c.requires.lengths

pub propagated_map-requires : goal.propagated_map-requires
propagated_map-requires g c =
    record {
      part = subst (λ k. c.size-rank.result ≤ k) c.minimal_meeting.ensures.n c.size-rank.ensures.within;
      high = c.requires.high;
      lengths = c.requires.lengths;
    }

pub check-requires-clause-low : goal.check-requires-clause-low
check-requires-clause-low g c κs within = subst (λ k. 1 ≤ k) (sym c.in_ok-raw.ensures.elements) c.requires.low

pub check-requires-clause-high : goal.check-requires-clause-high
check-requires-clause-high g c κs within =
    subst (λ k. k ≤ MAX_ELEMENTS) (sym c.in_ok-raw.ensures.elements) c.requires.high

pub check-requires-clause-rank : goal.check-requires-clause-rank
check-requires-clause-rank g c κs within =
    rank_within c.in_ok-raw.raw.rank c.size-rank.result c.in_ok-raw.raw.elements c.args.elements
    c.minimal_meeting.result.n c.in_ok-raw.ensures.rank c.in_ok-raw.ensures.elements c.minimal_meeting.ensures.n
    c.size-rank.ensures.within

pub check-requires-clause-whole : goal.check-requires-clause-whole
check-requires-clause-whole g c κs within =
    c.in_ok-raw.ensures.whole ∙ ap (choose c.args.elements) (sym c.in_ok-raw.ensures.rank)
    ∙ ap (λ n. choose n c.in_ok-raw.raw.rank) (sym c.in_ok-raw.ensures.elements)

pub returns-in-Ok-clause-elements : goal.returns-in-Ok-clause-elements
returns-in-Ok-clause-elements g c = ap (λ m. m.elements) c.in-Ok.ensures.value ∙ c.in_ok-raw.ensures.elements

pub returns-in-Ok-clause-normal : goal.returns-in-Ok-clause-normal
returns-in-Ok-clause-normal g c =
    subst (IsEachNormalOf c.args.elements c.args.vectors.now) (sym c.in-Ok.ensures.value) c.in_ok-raw.ensures.normal
