use Rattle.std.specs.Prelude.{ℕ, ◌≡◌, ◌+◌, ◌<◌, ◌≤◌, List, length, drop}
use Rattle.std.proofs.Common.{◌∙◌, ap, arith, get_or, sym}
use Rattle.std.proofs.lemmas.Bool.{false≢true}
use Rattle.std.proofs.lemmas.List.{at_drop_more, at_drop_all}
use Rattle.om_signs.specs.declared.block.Block.{Block}
use Rattle.om_wiring.specs.Wirings.{Holds, crossed, mirror}
use Rattle.om_wiring.proofs.CrossingSteps.{crossed_now, crossed_later}
use Rattle.om_wiring.proofs.crossings.crossed.Goals as goal
use Rattle.om_wiring.proofs.crossings.crossed.Goals.{else-holds-via-then-holds+else-holds-2, else-holds-via-else-holds}

-- both positions are in the block of the step
met : (bs : List Block) (d : Block) (k p q t : ℕ) → t ≡ k + crossed (drop k bs) p q → k < length bs
    → Holds (get_or bs k d) p → Holds (get_or bs k d) q → k + 1 ≡ t
met bs d k p q t sum l h i =
    sym (sum ∙ ap (λ x. k + x)
    (at_drop_more (λ s. crossed s p q) bs k d l ∙ crossed_now (get_or bs k d) (drop (k + 1) bs) p q h i))

-- one of them isn't, and both are where the block moves them
passed : (bs : List Block) (d : Block) (k p q r s t : ℕ) → t ≡ k + crossed (drop k bs) p q → k < length bs
    → (Holds (get_or bs k d) p → Holds (get_or bs k d) q → ⊥) → r ≡ mirror (get_or bs k d) p
    → s ≡ mirror (get_or bs k d) q → t ≡ k + 1 + crossed (drop (k + 1) bs) r s
passed bs d k p q r s t sum l apart e f =
    let rest = drop (k + 1) bs in
    further t k _ _ sum
    (at_drop_more (λ x. crossed x p q) bs k d l ∙ crossed_later (get_or bs k d) rest p q apart
    ∙ ap (λ x. 1 + crossed rest x (mirror (get_or bs k d) q)) (sym e) ∙ ap (λ x. 1 + crossed rest r x) (sym f))
  where
    further : (t k x y : ℕ) → t ≡ k + x → x ≡ 1 + y → t ≡ k + 1 + y
    further t k x y p q = omega arith

-- no block is left
ended : (bs : List Block) (k p q t : ℕ) → t ≡ k + crossed (drop k bs) p q → length bs ≤ k → k ≤ length bs
    → length bs + 1 ≡ t
ended bs k p q t sum l h = all t k _ (length bs) sum (at_drop_all (λ s. crossed s p q) bs k l) l h
  where
    all : (t k x n : ℕ) → t ≡ k + x → x ≡ 1 → n ≤ k → k ≤ n → n + 1 ≡ t
    all t k x n p q l h = omega arith

pub returns-then-holds-2 : goal.returns-then-holds-2
returns-then-holds-2 c = met c.args.blocks.now _ c.loop-k.k c.loop-k.at_x c.loop-k.at_y _ c.loop-k.invariant
    c.loop-k-test.true (c.holds.ensures.0 c.if-holds.true) (c.holds-then-holds.ensures.0 c.if-holds-2.true)

pub loop-k-preserved : goal.loop-k-preserved
loop-k-preserved c =
    passed c.args.blocks.now _ c.loop-k.k c.loop-k.at_x c.loop-k.at_y _ _ _ c.loop-k.invariant c.loop-k-test.true
    (λ h i. elim c.else-holds.branch [
      | else-holds-via-then-holds+else-holds-2 w ↦
          absurd (false≢true (sym w.if-holds-2.false ∙ w.holds-then-holds.ensures.1 i))
      | else-holds-via-else-holds w ↦ absurd (false≢true (sym w.if-holds.false ∙ c.holds.ensures.1 h))
    ]) c.mirror-at_x.ensures c.mirror-at_y.ensures

pub returns : goal.returns
returns c = ended c.args.blocks.now c.loop-k.k c.loop-k.at_x c.loop-k.at_y _ c.loop-k.invariant c.loop-k-test.false
    c.loop-k.auto.k-end
