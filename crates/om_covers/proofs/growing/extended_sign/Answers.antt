use Rattle.std.proofs.Common.{◌≡◌, ◌+◌, ◌<◌, ◌∙◌, refl, sym, ap, subst, arith}
use Rattle.std.proofs.lemmas.Bool.{false≢true}
use Rattle.om_signs.specs.SignVec.{at}
use Rattle.om_subsets.specs.Subsets.{IsMember, choose, rank_of, without_element}
use Rattle.om_subsets.proofs.Statements.{members_without}
use Rattle.om_chirotope.specs.Map.{chi_of}
use Rattle.om_covers.proofs.GrownMaps.{grown_with, grown_without}
use Rattle.om_covers.proofs.SizeLaws.{few_signs, pair_place}
use Rattle.om_covers.proofs.growing.extended_sign.Goals as goal
use Rattle.om_covers.proofs.growing.extended_sign.Goals.{After-rank}

pub before_last-pair-requires-clause-off : goal.before_last-pair-requires-clause-off
before_last-pair-requires-clause-off c = λ m.
    let e = c.n-last.result in
    let q = c.without.ensures.n ∙ sym c.n-last.ensures.value in
    let k : IsMember e (without_element e c.args.s.elements) =
    subst (IsMember e) c.without.ensures.elements (subst (λ k. IsMember k c.without.result.elements) q m) in
    ((members_without e e c.args.s.elements).0 k).0 refl

-- the place is below the number of signs
few : (c : After-rank) → c.rank.result < choose c.args.chi.now.elements 2
few c =
    let a = c.before_last-pair.ensures.n in
    let b = c.without.ensures.n in
    let d = c.requires.n in
    let n : c.before_last-pair.result.n ≡ c.args.chi.now.elements = omega arith in
    pair_place c.args.chi.now.elements c.args.s.n c.before_last-pair.result.n c.rank.result c.n-last.result
    c.args.s.elements c.before_last-pair.result.elements c.n-last.ensures.lawful c.requires.size
    (c.has.ensures.0 c.if-has.true) (c.before_last-pair.ensures.elements ∙ c.without.ensures.elements) n
    c.rank.ensures.small

pub overflow_cast-rank : goal.overflow_cast-rank
overflow_cast-rank c =
    let l = few c in
    let m = few_signs c.args.chi.now.elements c.requires.room in
    omega arith

pub at-requires : goal.at-requires
at-requires c =
    let l = few c in
    let q = c.requires.length in
    omega arith

pub returns-then-has : goal.returns-then-has
returns-then-has c =
    let m = c.args.chi.now in
    let last : c.n-last.result ≡ m.elements + 1 = c.n-last.ensures.value ∙ c.requires.n in
    let pair : c.before_last-pair.result.elements ≡ without_element (m.elements + 1) c.args.s.elements =
    c.before_last-pair.ensures.elements ∙ c.without.ensures.elements
    ∙ ap (λ e. without_element e c.args.s.elements) last in
    let a = c.before_last-pair.ensures.n in
    let b = c.without.ensures.n in
    let d = c.requires.n in
    let n : c.before_last-pair.result.n ≡ m.elements = omega arith in
    grown_with m c.args.signature c.args.s.elements c.at.result
    (subst (λ e. IsMember e c.args.s.elements) last (c.has.ensures.0 c.if-has.true))
    (c.at.ensures ∙ ap (at c.args.signature) c.rank.ensures.value
    ∙ ap (λ k. at c.args.signature (rank_of k c.before_last-pair.result.elements)) n
    ∙ ap (λ xs. at c.args.signature (rank_of m.elements xs)) pair)

pub returns-else-has : goal.returns-else-has
returns-else-has c =
    let m = c.args.chi.now in
    let last : c.n-last.result ≡ m.elements + 1 = c.n-last.ensures.value ∙ c.requires.n in
    grown_without m c.args.signature c.args.s.elements c.at-else-has.result
    (λ k. false≢true (sym c.if-has.false ∙ c.has.ensures.1 (subst (λ e. IsMember e c.args.s.elements) (sym last) k)))
    (c.at-else-has.ensures.place ∙ ap (λ xs. chi_of m xs) c.before_last.ensures.elements)
