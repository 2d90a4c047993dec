use Rattle.std.proofs.Common.{◌≡◌, ◌-◌, ◌+◌, ◌*◌, ◌∙◌, length, take, drop, ap, subst, arith}
use Rattle.om_levels.specs.Levels.{Members, IsRowOf}
use Rattle.om_levels.specs.Packing.{packed}
use Rattle.om_levels.proofs.Rows.{count_is, member_of_slice}
use Rattle.om_levels.proofs.level.Level.row.Goals as goal

pub returns-then-place-self : goal.returns-then-place-self
returns-then-place-self c = λ m r e len same l.
    let a = c.self.inside in
    let k = count_is a.elements a.count a.bytes.items ∙ ap (λ (v : Members). length v.maps) c.self.view_is in
    let t = c.if-place-self.true in
    absurd (omega arith)

pub returns : goal.returns
returns c =
    let a = c.self.inside in
    let p = c.args.place in
    let s = c.row_size-size.result in
    subst (λ v. IsRowOf v p (take (p * s + s - p * s) (drop (p * s) c.deref.result.now))) c.self.view_is
    (λ m r e len same l. member_of_slice a.elements a.count p s a.bytes.items m c.row_size-size.ensures
    (let t = c.if-place-self.false in omega arith) r e len
    (subst (λ bs. take (p * s + s - p * s) (drop (p * s) bs) ≡ packed m.signs) c.deref.ensures.value same))
