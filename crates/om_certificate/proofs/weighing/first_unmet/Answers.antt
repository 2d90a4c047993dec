use Rattle.std.proofs.Common.{◌≡◌, ◌<◌, refl, sym, ◌∙◌, subst, arith, pos, Some}
use Rattle.std.proofs.lemmas.Bool.{false≢true}
use Rattle.std.proofs.lemmas.List.Elements.{All-replicate}
use Rattle.om_certificate.specs.declared.room.TheConstants.{ROOM}
use Rattle.om_certificate.proofs.Triples.{triples_room}
use Rattle.om_certificate.proofs.Walking.{IsWalk, left, nearer_following, walk_following, first_unmet_here}
use Rattle.om_certificate.proofs.Walking.{met_by_table}
use Rattle.om_certificate.proofs.weighing.first_unmet.Goals as goal

pub fill-requires-clause-room : goal.fill-requires-clause-room
fill-requires-clause-room c =
    triples_room c.args.chi.now.elements (let e = c.elements-n.ensures.value in let h = c.elements-n.ensures.high in
    omega arith)

pub fill-requires-clause-empty : goal.fill-requires-clause-empty
fill-requires-clause-empty c = All-replicate (λ z. z ≡ pos 0) ROOM (pos 0) refl

pub returns-then-not-is_met-clause-first : goal.returns-then-not-is_met-clause-first
returns-then-not-is_met-clause-first c =
    let walk : IsWalk c.args.chi.now c.args.weights.now (Some c.in-Some.st) =
    subst (IsWalk c.args.chi.now c.args.weights.now) c.in-Some.is c.loop-current.invariant in
    first_unmet_here c.args.chi.now c.args.weights.now c.in-Some.st walk
    (λ h. false≢true
    (sym c.if-not-is_met.true
    ∙ (met_by_table c.args.chi.now c.elements-n.result c.args.weights.now c.fill.new.table c.in-Some.st
    c.is_met.result c.elements-n.ensures.value c.fill.ensures walk.0 c.is_met.ensures).1 h))

pub loop-current-smaller : goal.loop-current-smaller
loop-current-smaller c =
    let walk : IsWalk c.args.chi.now c.args.weights.now (Some c.in-Some.st) =
    subst (IsWalk c.args.chi.now c.args.weights.now) c.in-Some.is c.loop-current.invariant in
    let few : c.args.chi.now.elements < 256 =
    (let e = c.elements-n.ensures.value in let h = c.elements-n.ensures.high in omega arith) in
    subst (λ r. left c.following-current.result < left r) (sym c.in-Some.is)
    (nearer_following c.args.chi.now c.in-Some.st c.following-current.result few walk.0
    c.following-current.ensures.next)

pub loop-current-preserved : goal.loop-current-preserved
loop-current-preserved c =
    let walk : IsWalk c.args.chi.now c.args.weights.now (Some c.in-Some.st) =
    subst (IsWalk c.args.chi.now c.args.weights.now) c.in-Some.is c.loop-current.invariant in
    walk_following c.args.chi.now c.args.weights.now c.in-Some.st c.following-current.result
    ((met_by_table c.args.chi.now c.elements-n.result c.args.weights.now c.fill.new.table c.in-Some.st c.is_met.result
    c.elements-n.ensures.value c.fill.ensures walk.0 c.is_met.ensures).0 c.if-not-is_met.false) walk
    c.following-current.ensures.none c.following-current.ensures.next
