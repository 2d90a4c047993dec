use Rattle.std.proofs.Common.{◌∙◌, ap, arith, get_or, length, refl, subst, sym}
use Rattle.std.proofs.lemmas.List.{length-take-le}
use Rattle.std.proofs.lemmas.Bool.{false≢true}
use Rattle.om_laws.specs.Sorting.{IsElement}
use Rattle.om_symmetry.specs.Permutations.{no_element}
use Rattle.om_symmetry.proofs.Reading.{IsReadTo, read_none, read_more, further}
use Rattle.om_symmetry.proofs.signed_permutation.SignedPermutation.from_entries.Goals as goal

pub returns-then-not-is_further-clause-some : goal.returns-then-not-is_further-clause-some
returns-then-not-is_further-clause-some c =
    let xs = c.args.entries.now in
    let k = c.loop-a.a-index in (
      λ f. absurd (false≢true f),
      λ h. (let new = further xs k c.loop-a.listed c.loop-a.seen (get_or xs k no_element) c.loop-a-test.true refl
          c.loop-a.invariant h.1 in
          absurd (false≢true (sym c.if-not-is_further.true ∙ c.is_further.ensures.1 new))),
    )

pub loop-a-preserved : goal.loop-a-preserved
loop-a-preserved c =
    let xs = c.args.entries.now in
    let k = c.loop-a.a-index in
    let a = get_or xs k no_element in
    let new = c.is_further.ensures.0 c.if-not-is_further.false in
    read_more (length xs) xs k c.loop-a.listed c.push.new.self c.loop-a.seen c.with-seen.result a c.loop-a-test.true
    refl (subst (λ n. IsElement n a.element) c.loop-a.invariant.seen_n new.0) new.1
    c.with-seen.ensures.n c.with-seen.ensures.elements c.push.ensures c.loop-a.invariant

pub loop-a-init : goal.loop-a-init
loop-a-init c =
    subst (λ l. IsReadTo (length c.args.entries.now) c.args.entries.now 0 l c.first-seen.result)
    (sym c.new-listed.ensures)
    (read_none (length c.args.entries.now) c.args.entries.now c.first-seen.result c.first-seen.ensures.n
    c.first-seen.ensures.elements)

pub push-requires : goal.push-requires
push-requires c =
    let made = ap length c.loop-a.invariant.read
    ∙ length-take-le c.loop-a.a-index c.args.entries.now c.loop-a.auto.a-index-end in
    let few = c.if-entries-gt-ROOM.false in
    let more = c.loop-a-test.true in
    omega arith
