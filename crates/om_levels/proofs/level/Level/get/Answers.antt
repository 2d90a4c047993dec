use Rattle.std.proofs.Common.{◌<◌, ◌∙◌, length, sym, ap, subst, arith, refl}
use Rattle.om_chirotope.specs.Chirotope.{IsChirotope}
use Rattle.om_levels.specs.Packing.{bytes_for}
use Rattle.om_levels.specs.Levels.{Members, IsMemberAt, IsChirotopeOfRank3, row_maps}
use Rattle.om_levels.proofs.Rows.{count_is, row_begins, row_axioms, member_of_row, map_made}
use Rattle.om_levels.proofs.level.Level.get.Goals as goal
use Rattle.om_levels.proofs.level.Level.get.Goals.{After-row_size}

below : (c : After-row_size) → c.args.place < c.self.inside.count
below c =
    let a = c.self.inside in
    subst (λ k. c.args.place < k)
    (sym (count_is a.elements a.count a.bytes.items ∙ ap (λ (v : Members). length v.maps) c.self.view_is)) c.requires

pub overflow_mul-from : goal.overflow_mul-from
overflow_mul-from c =
    let a = c.self.inside in
    let k = row_begins a.elements a.count c.args.place c.row_size.result a.bytes.items c.self.invariant (below c)
    c.row_size.ensures in
    omega arith

pub unpack-requires : goal.unpack-requires
unpack-requires c =
    let a = c.self.inside in
    let l = subst (λ k. c.args.place < k) (sym (count_is a.elements a.count a.bytes.items
    ∙ ap (λ (v : Members). length v.maps) c.self.view_is)) c.requires in
    let k = row_begins a.elements a.count c.args.place c.row_size.result a.bytes.items c.self.invariant l
    c.row_size.ensures in
    let s = c.row_size.ensures ∙ sym (ap bytes_for c.choose-count.ensures.value) in
    let v = ap length c.as_slice.ensures.value in
    omega arith

pub lawful-requires-clause-axioms : goal.lawful-requires-clause-axioms
lawful-requires-clause-axioms c =
    let a = c.self.inside in
    let l = subst (λ k. c.args.place < k) (sym (count_is a.elements a.count a.bytes.items
    ∙ ap (λ (v : Members). length v.maps) c.self.view_is)) c.requires in
    subst IsChirotope
    (sym (map_made a.elements c.args.place c.row_size.result c.choose-count.result a.bytes.items c.as_slice.result.now
    c.in_ok-signs.signs c.choose-count.ensures.value c.row_size.ensures c.as_slice.ensures.value c.in_ok-signs.ensures))
    (row_axioms a.elements a.count c.args.place a.bytes.items c.self.invariant l)

pub returns-clause-value : goal.returns-clause-value
returns-clause-value c =
    let a = c.self.inside in
    let p = c.args.place in
    let l = subst (λ k. p < k) (sym (count_is a.elements a.count a.bytes.items
    ∙ ap (λ (v : Members). length v.maps) c.self.view_is)) c.requires in
    subst (λ v. IsMemberAt v.maps p c.lawful.result) c.self.view_is
    (subst (IsMemberAt (row_maps a.elements a.count a.bytes.items) p)
    (sym (c.lawful.ensures ∙ map_made a.elements p c.row_size.result c.choose-count.result a.bytes.items
    c.as_slice.result.now c.in_ok-signs.signs c.choose-count.ensures.value c.row_size.ensures c.as_slice.ensures.value
    c.in_ok-signs.ensures))
    (member_of_row a.elements a.count p a.bytes.items l))

pub returns-clause-kind : goal.returns-clause-kind
returns-clause-kind c =
    let a = c.self.inside in
    let p = c.args.place in
    let l = subst (λ k. p < k) (sym (count_is a.elements a.count a.bytes.items
    ∙ ap (λ (v : Members). length v.maps) c.self.view_is)) c.requires in
    subst (λ v. IsChirotopeOfRank3 v.elements c.lawful.result) c.self.view_is
    (subst (IsChirotopeOfRank3 a.elements)
    (sym (c.lawful.ensures ∙ map_made a.elements p c.row_size.result c.choose-count.result a.bytes.items
    c.as_slice.result.now c.in_ok-signs.signs c.choose-count.ensures.value c.row_size.ensures c.as_slice.ensures.value
    c.in_ok-signs.ensures))
    (record {
      axioms = row_axioms a.elements a.count p a.bytes.items c.self.invariant l;
      rank = refl;
      elements = refl;
    }))
