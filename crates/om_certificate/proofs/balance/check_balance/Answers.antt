use Rattle.std.proofs.Common.{◌≡◌, ◌≤◌, ◌<◌, refl, sym, ◌∙◌, ap, subst, arith}
use Rattle.std.proofs.lemmas.List.Elements.{All-replicate}
use Rattle.om_subsets.specs.Subsets.{choose, rank_of, IsSubsetFrom}
use Rattle.om_certificate.specs.declared.room.TheConstants.{ROOM}
use Rattle.om_certificate.proofs.Triples.{triples_room, place_in_room}
use Rattle.om_certificate.proofs.Reasons.{all_balanced, one_balanced, unbalanced_refused}
use Rattle.om_certificate.proofs.balance.check_balance.Goals as goal

pub count_brackets-requires-clause-small_room : goal.count_brackets-requires-clause-small_room
count_brackets-requires-clause-small_room c =
    triples_room c.args.chi.now.elements (let e = c.elements-n.ensures.value in let h = c.elements-n.ensures.high in
    omega arith)

pub count_brackets-requires-clause-big_room : goal.count_brackets-requires-clause-big_room
count_brackets-requires-clause-big_room c =
    triples_room c.args.chi.now.elements (let e = c.elements-n.ensures.value in let h = c.elements-n.ensures.high in
    omega arith)

pub count_brackets-requires-clause-small_empty : goal.count_brackets-requires-clause-small_empty
count_brackets-requires-clause-small_empty c = All-replicate (λ k. k ≡ 0) ROOM 0 refl

pub count_brackets-requires-clause-big_empty : goal.count_brackets-requires-clause-big_empty
count_brackets-requires-clause-big_empty c = All-replicate (λ k. k ≡ 0) ROOM 0 refl

pub bounds-small-k : goal.bounds-small-k
bounds-small-k c =
    place_in_room c.elements-n.result c.loop-place.place c.choose-place-end.result c.elements-n.ensures.high
    c.choose-place-end.ensures.value c.loop-place-test.true

pub bounds-big-k : goal.bounds-big-k
bounds-big-k c =
    place_in_room c.elements-n.result c.loop-place.place c.choose-place-end.result c.elements-n.ensures.high
    c.choose-place-end.ensures.value c.loop-place-test.true

pub returns-then-small-k-clause-refused : goal.returns-then-small-k-clause-refused
returns-then-small-k-clause-refused c =
    unbalanced_refused c.args.chi.now c.args.entries.now c.count_brackets.new.small c.count_brackets.new.big
    c.loop-place.place c.unrank.result (c.requires.lawful) c.count_brackets.ensures
    (c.unrank.ensures.n ∙ c.elements-n.ensures.value)
    (record {
      list = subst (λ n. IsSubsetFrom 1 n c.unrank.result.elements) c.elements-n.ensures.value
          c.unrank.ensures.lawful;
      size = c.unrank.ensures.size;
    })
    (ap (λ n. rank_of n c.unrank.result.elements) (sym c.elements-n.ensures.value) ∙ c.unrank.ensures.place)
    c.if-small-k.true c.loop-place.invariant

pub returns-clause-accepted : goal.returns-clause-accepted
returns-clause-accepted c =
    let end : c.choose-place-end.result ≡ choose c.args.chi.now.elements 3 = c.choose-place-end.ensures.value
    ∙ ap (λ n. choose n 3) c.elements-n.ensures.value in
    all_balanced c.args.chi.now c.args.entries.now c.count_brackets.new.small c.count_brackets.new.big
    c.count_brackets.ensures (λ j l. c.loop-place.invariant j (omega arith))

pub unrank-requires-clause-part : goal.unrank-requires-clause-part
unrank-requires-clause-part c = subst (λ n. 3 ≤ n) (sym c.elements-n.ensures.value) c.requires.part

pub unrank-requires-clause-place : goal.unrank-requires-clause-place
unrank-requires-clause-place c =
    subst (λ k. c.loop-place.place < k) c.choose-place-end.ensures.value c.loop-place-test.true

pub bounds-small-k-then-small-k : goal.bounds-small-k-then-small-k
bounds-small-k-then-small-k c =
    place_in_room c.elements-n.result c.loop-place.place c.choose-place-end.result c.elements-n.ensures.high
    c.choose-place-end.ensures.value c.loop-place-test.true

pub bounds-big-k-then-small-k : goal.bounds-big-k-then-small-k
bounds-big-k-then-small-k c =
    place_in_room c.elements-n.result c.loop-place.place c.choose-place-end.result c.elements-n.ensures.high
    c.choose-place-end.ensures.value c.loop-place-test.true

pub loop-place-preserved : goal.loop-place-preserved
loop-place-preserved c =
    one_balanced c.count_brackets.new.small c.count_brackets.new.big c.loop-place.place c.if-small-k.false
    c.loop-place.invariant
