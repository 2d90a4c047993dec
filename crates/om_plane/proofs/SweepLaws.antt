-- Wirings as documents.
--
-- Main results: the document of a wiring diagram is in form (wiring_in_form); why a chirotope isn't swept, as an answer
-- (refused_sweep).
use Rattle.std.specs.Prelude.{ℕ, ◌≡◌, ◌≢◌, ◌↔◌, ◌≤◌, List, [], ◌∷◌, ◌++◌, length, All, Result, Err, IsErrOf, refl}
use Rattle.std.proofs.Common.{arith, inl, sym, ◌∙◌, append_assoc}
use Rattle.std.proofs.lemmas.List.Elements.{All-nil, All-cons}
use Rattle.om_signs.specs.declared.block.Block.{Block}
use Rattle.om_signs.specs.declared.limits.TheConstants.{MAX_ELEMENTS, MAX_BLOCKS}
use Rattle.om_subsets.specs.Members.{Chosen}
use Rattle.om_chirotope.specs.Map.{SignMap}
use Rattle.om_chirotope.specs.Chirotope.{IsFirstViolated}
use Rattle.om_wiring.specs.declared.sweep_error.SweepError.{SweepError}
use Rattle.om_wiring.specs.declared.sweep_error.SweepError.TheVariants as sweep
use Rattle.om_wiring.specs.Maps.{extended}
use Rattle.om_wiring.specs.Wirings.{IsWiring}
use Rattle.om_document.specs.declared.body.Body.TheVariants.{Wiring}
use Rattle.om_document.specs.Form.{IsInForm, IsShort}
use Rattle.om_reply.specs.declared.answer.Answer.{Answer}
use Rattle.om_plane.specs.Sweeps.{IsSweepRefusal, IsWiringOfMap, other_rank, not_sweepable}
use Rattle.om_plane.proofs.RankThreeLaws.{of_rank3}

short_from : (n : ℕ) (blocks done rest : List Block) → n ≤ MAX_ELEMENTS → IsWiring n blocks → blocks ≡ done ++ rest
    → All IsShort rest
short_from n blocks done [] high wiring same = All-nil IsShort
short_from n blocks done (b ∷ rest) high wiring same =
    All-cons IsShort b rest here
    (short_from n blocks (done ++ b ∷ []) rest high wiring (same ∙ sym (append_assoc done (b ∷ []) rest)))
  where
    here : IsShort b
    here =
        let step = wiring.steps done b rest same in
        let proper = step.proper in
        let last = step.high in
        record { first = omega (arith, proper, last, high); last = omega (arith, last, high) }

-- the document of a wiring diagram is in form, if its numbers of elements and of blocks are within the limits
pub wiring_in_form : (n k : ℕ) (blocks list : List Block) (names : List (List ℕ)) → names ≡ [] → k ≡ n → list ≡ blocks
    → 1 ≤ k → k ≤ MAX_ELEMENTS → length blocks ≤ MAX_BLOCKS → IsWiring n blocks
    → IsInForm (record { elements = k; body = Wiring list; names = names })
wiring_in_form n k blocks list names none same is low high few wiring =
    let within : n ≤ MAX_ELEMENTS = omega (arith, same, high) in
    record {
      low = low;
      high = high;
      body = record { few = rw is few; short = rw is (short_from n blocks [] blocks within wiring refl) };
      names = inl none;
    }

-- another cause than the rank
not_by_rank : {A : Type 0} (result : Result A SweepError) (s a : Chosen) (r : ℕ) → result ≡ Err (sweep.NotSweepable s a)
    → result ≡ Err (sweep.NotRank3 r) → ⊥
not_by_rank result s a r is same = cc

pub refused_sweep : {A : Type 0} (m : SignMap) (result : Result A SweepError) (why : SweepError) → result ≡ Err why
    → ((r : ℕ) → IsErrOf result (sweep.NotRank3 r) ↔ ((r ≡ m.rank) × (m.rank ≢ 3)))
    → ((s a : Chosen) → why ≡ sweep.NotSweepable s a → IsFirstViolated (extended m) s a) → (answer : Answer)
    → IsSweepRefusal why answer → IsWiringOfMap m answer
refused_sweep m result (sweep.NotRank3 r) is rank first answer same = let other = (rank r).0 is in
    rw (same, other.0) (other_rank other.1)
refused_sweep m result (sweep.NotSweepable s a) is rank first answer same =
    rw same (not_sweepable s a
    (of_rank3 m result sweep.NotRank3 rank (λ r by_rank. not_by_rank result s a r is by_rank)) (first s a refl))
refused_sweep m result sweep.Memory is rank first answer none = absurd none
