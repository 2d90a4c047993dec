use Rattle.std.proofs.Common.{◌≡◌, ◌∙◌, ◌<◌, ◌++◌, ℕ, List, length, map, take, drop, set, sym, ap, arith}
use Rattle.std.proofs.Common.{length-append, length-take, length-drop}
use Rattle.std.proofs.lemmas.List.{length-map}
use Rattle.std.proofs.lemmas.List.Edits.{map_over_more}
use Rattle.std.proofs.lemmas.Option.{get_or_from_slice_get}
use Rattle.om_signs.specs.declared.sign.Sign.{Sign}
use Rattle.om_signs.specs.SignVec.{flip}
use Rattle.om_minors.proofs.flipping.flipped.Goals as goal

-- the list in the loop is as long as the one at its start
as_long : (f : List Sign → List Sign) (list flipped : List (List Sign)) (k : ℕ)
    → flipped ≡ map f (take k list) ++ drop k list → length flipped ≡ length list
as_long f list flipped k is =
    let size = ap length is in
    let both = length-append (map f (take k list)) (drop k list) in
    let front = length-map (take k list) f in
    let taken = length-take k list in
    let dropped = length-drop k list in
    omega arith

pub at-x-requires : goal.at-x-requires
at-x-requires c =
    let end = c.len-k-end.ensures in
    let test = c.loop-k-test.true in
    let size = as_long (flip c.args.mask) c.args.list c.loop-k.flipped c.loop-k.k c.loop-k.invariant in
    omega (arith, end, test, size)

pub set-requires : goal.set-requires
set-requires c =
    let end = c.len-k-end.ensures in
    let test = c.loop-k-test.true in
    let size = as_long (flip c.args.mask) c.args.list c.loop-k.flipped c.loop-k.k c.loop-k.invariant in
    omega (arith, end, test, size)

pub loop-k-preserved : goal.loop-k-preserved
loop-k-preserved c =
    let end = c.len-k-end.ensures in
    let test = c.loop-k-test.true in
    let inside : c.loop-k.k < length c.args.list = omega (arith, end, test) in
    let read = sym (get_or_from_slice_get c.loop-k.flipped c.loop-k.k c.at-x.result c.at-x.result c.at-x.ensures) in
    c.set.ensures ∙ ap (λ y. set c.loop-k.flipped c.loop-k.k y) c.flip.ensures
    ∙ map_over_more (flip c.args.mask) c.args.list c.loop-k.flipped c.loop-k.k c.at-x.result inside
    c.loop-k.invariant read
