use Rattle.std.proofs.Common.{arith, refl, sym, subst, ◌∙◌, ◌≡◌, ◌+◌, ◌-◌, ◌*◌, ◌%◌, ◌^◌, ◌<◌, get_or, set, length}
use Rattle.std.specs.Int.{bit_at}
use Rattle.std.specs.Int.RustNames.{bit_or}
use Rattle.std.proofs.lemmas.Nat.{one_shl}
use Rattle.std.proofs.lemmas.Nat.Bits.{shr_and_one}
use Rattle.om_chirotope.proofs.WordBits.{take_bit}
use Rattle.om_chirotope.proofs.Words.{IsSpreadBelow, spread_off, spread_on, spread_over}
use Rattle.om_chirotope.proofs.marking.spread_over.Goals as goal
use Rattle.om_chirotope.proofs.marking.spread_over.Goals.{then-i-d-eq1, else-i-d-eq1}

pub overflow_sub-words : goal.overflow_sub-words
overflow_sub-words c =
    let one : bit_at c.loop-i.i c.args.d ≡ 1 = sym (shr_and_one c.loop-i.i c.args.d) ∙ c.if-i-d-eq1.true in
    let le = (take_bit c.loop-i.i c.args.d one).0 in
    let e = one_shl c.args.d 64 (let r = c.requires in omega (arith, r)) in
    omega (arith, le, e)

pub loop-i-preserved : goal.loop-i-preserved
loop-i-preserved c =
    let before = c.args.words.now in
    let words = c.loop-i.words in
    let i = c.loop-i.i in
    let d = c.args.d in
    elim c.if-i-d-eq1.branch [
      | then-i-d-eq1 w ↦
          let one : bit_at i d ≡ 1 = sym (shr_and_one i d) ∙ w.if-i-d-eq1.true in
          let step : 1 * 2 ^ d % 18446744073709551616 ≡ 2 ^ d = one_shl d 64 (let r = c.requires in omega (arith, r)) in
          let size = c.loop-i.invariant.size in
          let test = c.loop-i-test.true in
          let inside : i < length words = omega (arith, size, test) in
          subst (λ ws. IsSpreadBelow before ws d (i + 1)) (sym w.words-is)
          (subst (λ k. IsSpreadBelow before (set words i (bit_or (get_or words i 0) (get_or words (i - k) 0))) d
          (i + 1)) (sym step)
          (spread_on before words d i inside one c.loop-i.invariant))
      | else-i-d-eq1 w ↦
          subst (λ ws. IsSpreadBelow before ws d (i + 1)) (sym w.words-is)
          (spread_off before words d i (λ one. w.if-i-d-eq1.false (shr_and_one i d ∙ one)) c.loop-i.invariant)
    ]

pub returns : goal.returns
returns c =
    let size = c.loop-i.invariant.size in
    let over = c.loop-i-test.false in
    let end = c.loop-i.auto.i-end in
    let all : c.loop-i.i ≡ length c.args.words.now = omega (arith, size, over, end) in
    spread_over c.args.words.now c.loop-i.words c.args.d (c.args.d + 6) refl
    (subst (IsSpreadBelow c.args.words.now c.loop-i.words c.args.d) all c.loop-i.invariant)
