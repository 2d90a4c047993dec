use Rattle.std.proofs.Common.{ℕ, ◌≡◌, ◌≤◌, ◌∙◌, List, ap, take, length, arith}
use Rattle.std.specs.Prelude.{Result, Ok, Err, OnErr}
use Rattle.om_pieces.specs.Making.{Making, most, with_byte}
use Rattle.om_pieces.proofs.Takes.{before_byte}
use Rattle.om_pieces.proofs.cutter.Cutter.feed.Goals as goal

-- where the line wasn't ended, the cutter without the byte that was added is as it was before
as_before : {T E : Type 0} (r : Result T E) (before now failed last : Making) (added line : List ℕ) (b k : ℕ)
    → before ≡ now → added ≡ with_byte before.line b → length before.line ≤ most → k ≡ length before.line
    → last ≡ failed → line ≡ take k last.line → OnErr r (failed ≡ record before { line = added })
    → OnErr r (record last { line = line } ≡ now)
as_before (Ok piece) before now failed last added line b k is more fits place left cut h = tt
as_before (Err error) before now failed last added line b k is more fits place left cut h =
    let e : last ≡ record before { line = added } = left ∙ h in
    let shorter : line ≡ before.line =
    cut ∙ (ap (λ (m : Making). take k m.line) e ∙ (ap (λ l. take k l) more
    ∙ (ap (λ j. take j (with_byte before.line b)) place ∙ before_byte most before.line b fits))) in
    ap (λ (m : Making). record m { line = line }) e ∙ (ap (λ l. record before { line = l }) shorter ∙ is)

pub returns-then-is_err-clause-kept : goal.returns-then-is_err-clause-kept
returns-then-is_err-clause-kept c =
    as_before c.end_line-piece.result _ c.args.self.now c.end_line-piece.new.self _ c.add_byte.new.line.items
    c.truncate.new.self.items c.args.byte c.len-before.result c.self.view_is c.in_ok-add_byte.ensures.added
    c.self.invariant.1 (omega (arith, c.len-before.ensures, c.self.inside.line.ok)) c.self-then-byte-eq10.view_is
    c.truncate.ensures.items c.end_line-piece.ensures.kept
