use Rattle.std.proofs.Common.{refl, sym, subst}
use Rattle.std.proofs.lemmas.Bool.{false≢true}
use Rattle.om_chirotope.specs.Map.{map_of, IsMap}
use Rattle.om_chirotope.specs.Chirotope.{IsAllZero}
use Rattle.om_chirotope.proofs.Axioms.{nonzero_value}
use Rattle.om_chirotope.proofs.FoundPairs.{zeros_refused, pair_refused, chirotope_accepted}
use Rattle.om_chirotope.proofs.FoundPairs.{within_places, no_pair_named, not_zeros, same_pair}
use Rattle.om_chirotope.proofs.checking.check.Goals as goal

pub lawful-requires-clause-axioms : goal.lawful-requires-clause-axioms
lawful-requires-clause-axioms g c =
    let whole : IsMap (map_of c.args.raw) = record { part = c.requires.rank; whole = c.requires.whole } in
    record {
      whole = whole;
      nonzero =
          nonzero_value (map_of c.args.raw) whole
          (λ z. false≢true (c.if-is_all_zero.ensures.1 (subst IsAllZero (sym c.as_slice.ensures) z)));
      orthogonal = c.in-None.ensures.none.0 refl;
    }

pub lawful-requires-clause-limits : goal.lawful-requires-clause-limits
lawful-requires-clause-limits g c = record { low = c.requires.low; high = c.requires.high }

pub returns-then-is_all_zero-clause-accepted : goal.returns-then-is_all_zero-clause-accepted
returns-then-is_all_zero-clause-accepted g c =
    zeros_refused (map_of c.args.raw)
    (subst IsAllZero c.as_slice.ensures (c.is_all_zero.ensures.0 c.if-is_all_zero.true))

pub returns-then-is_all_zero-clause-all_zero : goal.returns-then-is_all_zero-clause-all_zero
returns-then-is_all_zero-clause-all_zero g c = (
  λ e. subst IsAllZero c.as_slice.ensures (c.is_all_zero.ensures.0 c.if-is_all_zero.true),
  λ z. refl,
)

pub returns-then-is_all_zero-clause-relation : goal.returns-then-is_all_zero-clause-relation
returns-then-is_all_zero-clause-relation g c = no_pair_named (map_of c.args.raw)

pub returns-in-None-clause-accepted : goal.returns-in-None-clause-accepted
returns-in-None-clause-accepted g c =
    chirotope_accepted (map_of c.args.raw) (record { part = c.requires.rank; whole = c.requires.whole })
    (λ z. false≢true (c.if-is_all_zero.ensures.1 (subst IsAllZero (sym c.as_slice.ensures) z)))
    (c.in-None.ensures.none.0 refl)

pub returns-in-None-clause-value : goal.returns-in-None-clause-value
returns-in-None-clause-value g c = c.lawful.ensures

pub returns-in-Some-clause-accepted : goal.returns-in-Some-clause-accepted
returns-in-Some-clause-accepted g c = pair_refused (map_of c.args.raw) _ _ c.in-Some.ensures.first

pub returns-in-Some-clause-all_zero : goal.returns-in-Some-clause-all_zero
returns-in-Some-clause-all_zero g c =
    not_zeros (map_of c.args.raw) _ _
    (λ z. false≢true (c.if-is_all_zero.ensures.1 (subst IsAllZero (sym c.as_slice.ensures) z)))

pub returns-in-Some-clause-relation : goal.returns-in-Some-clause-relation
returns-in-Some-clause-relation g c = λ s a e. same_pair (map_of c.args.raw) _ _ s a c.in-Some.ensures.first e

pub violated_on_threads-requires : goal.violated_on_threads-requires
violated_on_threads-requires g c = (
  c.type_bounds.sync-R,
  (c.requires.low, (within_places c.args.raw.elements c.requires.high, (c.requires.rank, c.requires.whole))),
)
