use Rattle.std.proofs.Common.{arith, sym, subst, ◌≡◌, ◌*◌, ◌%◌, ◌^◌, bit_and, get_or}
use Rattle.std.specs.Int.RustNames.{bit_or}
use Rattle.std.proofs.lemmas.Nat.{one_shl}
use Rattle.om_chirotope.specs.declared.marking.TheConstants.{LOW}
use Rattle.om_chirotope.specs.Marks.{IsWordSpread}
use Rattle.om_chirotope.proofs.WordBits.{word_spread}
use Rattle.om_chirotope.proofs.marking.spread_in.Goals as goal

pub returns : goal.returns
returns c =
    let shift : 1 * 2 ^ c.args.e % 4294967296 ≡ 2 ^ c.args.e =
    one_shl c.args.e 32 (let r = c.requires in omega (arith, r)) in
    subst (λ k. IsWordSpread c.args.word
    (bit_or c.args.word (bit_and c.args.word (get_or LOW c.args.e 0) * 2 ^ k % 18446744073709551616)) c.args.e)
    (sym shift) (word_spread c.args.word c.args.e c.requires)
