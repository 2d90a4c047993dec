use Rattle.std.proofs.Common.{rules, ◌<◌, sym, subst, arith, Some}
use Rattle.om_certificate.proofs.Walking.{left, nearer_following}
use Rattle.om_decide.proofs.Walks.{IsWalk, IsBeforeHere, walk_first, walk_following}
use Rattle.om_decide.proofs.making.lawful_statements.Goals as goal

pub loop-current-init : goal.loop-current-init
loop-current-init c = subst (λ ss. IsWalk c.args.chi.now ss c.nth_statement-current.result)
    (sym c.new-statements.ensures)
    (walk_first c.args.chi.now c.nth_statement-current.result c.nth_statement-current.ensures.none
    c.nth_statement-current.ensures.number)

pub loop-current-smaller : goal.loop-current-smaller
loop-current-smaller c =
    let walk : IsWalk c.args.chi.now c.loop-current.statements (Some c.in-Some.st) =
    subst (IsWalk c.args.chi.now c.loop-current.statements) c.in-Some.is c.loop-current.invariant in
    let few : c.args.chi.now.elements < 256 = (let h = c.requires.small in omega arith) in
    subst (λ r. left c.following-current.result < left r) (sym c.in-Some.is)
    (nearer_following c.args.chi.now c.in-Some.st c.following-current.result few walk.lawful
    c.following-current.ensures.next)

pub loop-current-preserved : goal.loop-current-preserved
loop-current-preserved c =
    let walk : IsBeforeHere c.args.chi.now c.loop-current.statements c.in-Some.st =
    subst (IsWalk c.args.chi.now c.loop-current.statements) c.in-Some.is c.loop-current.invariant in
    subst (λ ss. IsWalk c.args.chi.now ss c.following-current.result) (sym (search rules))
    (walk_following c.args.chi.now c.loop-current.statements c.in-Some.st walk c.following-current.result
    c.following-current.ensures.none c.following-current.ensures.next)
