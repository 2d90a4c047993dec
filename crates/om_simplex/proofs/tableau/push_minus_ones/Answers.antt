use Rattle.std.proofs.Common.{◌≡◌, ◌∷◌, [], ◌++◌, ◌∙◌, ap, replicate, negsuc, arith}
use Rattle.std.proofs.lemmas.List.{append_assoc, replicate-append-replicate}
use Rattle.om_simplex.proofs.tableau.push_minus_ones.Goals as goal

pub loop-q-preserved : goal.loop-q-preserved
loop-q-preserved c =
    let xs = c.args.table.now.items in
    let q = c.loop-q._q in
    c.in_ok-push.ensures.items ∙ ap (λ ys. ys ++ negsuc 0 ∷ []) c.loop-q.invariant
    ∙ append_assoc xs (replicate q (negsuc 0)) (negsuc 0 ∷ [])
    ∙ ap (λ ys. xs ++ ys) (replicate-append-replicate q 1 (negsuc 0))

pub returns : goal.returns
returns c =
    let e : c.loop-q._q ≡ c.args.count = omega arith in
    c.loop-q.invariant ∙ ap (λ n. c.args.table.now.items ++ replicate n (negsuc 0)) e
