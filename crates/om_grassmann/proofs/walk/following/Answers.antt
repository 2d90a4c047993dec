use Rattle.std.specs.Prelude.{ℕ, Some}
use Rattle.std.proofs.Common.{◌+◌, ◌-◌, ◌*◌, arith, ap}
use Rattle.std.proofs.lemmas.Option.{IfSome_then}
use Rattle.om_grassmann.specs.Walk.{frame_place}
use Rattle.om_grassmann.proofs.Places.{none_from, first_from_later}
use Rattle.om_grassmann.proofs.Frames.{told_terms}
use Rattle.om_grassmann.proofs.Counting.{following_none, following_next}
use Rattle.om_grassmann.proofs.walk.following.Goals as goal

pub returns-in-Some-clause-none : goal.returns-in-Some-clause-none
returns-in-Some-clause-none c =
    let high = c.elements-n.ensures.high in
    let same = c.elements-n.ensures.value in
    let start = ap frame_place c.of-frame.ensures in
    let told = c.told_by.ensures in
    following_none c.args.chi.now (frame_place c.of-frame.result * 9 + (3 * (c.args.st.small - 1) + c.args.st.big))
    c.args.st (Some c.in-Some.next) (omega arith) (omega arith) c.requires tt
    (c.in-Some.ensures.first c.args.chi.now
    (told_terms c.args.chi.now c.of-frame.result c.args.st c.told_by.result (omega arith) c.requires
    c.of-frame.ensures told.first told.second told.third))

pub returns-in-Some-clause-next : goal.returns-in-Some-clause-next
returns-in-Some-clause-next c =
    let high = c.elements-n.ensures.high in
    let same = c.elements-n.ensures.value in
    let start = ap frame_place c.of-frame.ensures in
    let told = c.told_by.ensures in
    following_next c.args.chi.now (frame_place c.of-frame.result * 9 + (3 * (c.args.st.small - 1) + c.args.st.big))
    c.args.st (Some c.in-Some.next) (omega arith) (omega arith) c.requires
    (c.in-Some.ensures.first c.args.chi.now
    (told_terms c.args.chi.now c.of-frame.result c.args.st c.told_by.result (omega arith) c.requires
    c.of-frame.ensures told.first told.second told.third))

pub returns-clause-none : goal.returns-clause-none
returns-clause-none c =
    let high = c.elements-n.ensures.high in
    let same = c.elements-n.ensures.value in
    let start = ap frame_place c.of-frame.ensures in
    let two = c.requires.two in
    let told = c.told_by.ensures in
    let none =
    c.in_default.ensures.none c.args.chi.now
    (told_terms c.args.chi.now c.of-frame.result c.args.st c.told_by.result (omega arith) c.requires
    c.of-frame.ensures told.first told.second told.third) in
    let low : ℕ = frame_place c.of-frame.result * 9 + (3 * (c.args.st.small - 1) + c.args.st.big) in
    let behind : ℕ = frame_place c.of-frame.result * 9 + 9 in
    following_none c.args.chi.now low c.args.st c.first_after.result (omega arith) (omega arith) c.requires
    (none_from c.args.chi.now low behind c.first_after.result none c.first_after.ensures.none)
    (IfSome_then c.first_after.result c.first_after.ensures.first
    (λ t. first_from_later c.args.chi.now low behind t (omega arith) none))

pub returns-clause-next : goal.returns-clause-next
returns-clause-next c =
    let high = c.elements-n.ensures.high in
    let same = c.elements-n.ensures.value in
    let start = ap frame_place c.of-frame.ensures in
    let two = c.requires.two in
    let told = c.told_by.ensures in
    let none =
    c.in_default.ensures.none c.args.chi.now
    (told_terms c.args.chi.now c.of-frame.result c.args.st c.told_by.result (omega arith) c.requires
    c.of-frame.ensures told.first told.second told.third) in
    let low : ℕ = frame_place c.of-frame.result * 9 + (3 * (c.args.st.small - 1) + c.args.st.big) in
    let behind : ℕ = frame_place c.of-frame.result * 9 + 9 in
    following_next c.args.chi.now low c.args.st c.first_after.result (omega arith) (omega arith) c.requires
    (IfSome_then c.first_after.result c.first_after.ensures.first
    (λ t. first_from_later c.args.chi.now low behind t (omega arith) none))
