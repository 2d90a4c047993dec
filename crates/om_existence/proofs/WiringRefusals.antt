-- A list of blocks that is no wiring diagram has a first step that breaks a rule, or doesn't end in the last order.
--
-- Main results: wiring_refused.
use Rattle.std.specs.Prelude.{ℕ, ◌≡◌, ◌+◌, List, [], ◌∷◌, ◌++◌, length, refl}
use Rattle.std.proofs.Common.{sym, subst, inl, inr, append_assoc}
use Rattle.std.proofs.lemmas.List.{append-nil}
use Rattle.om_signs.specs.declared.block.Block.{Block}
use Rattle.om_wiring.specs.declared.wiring_refused.WiringRefused.{WiringRefused}
use Rattle.om_wiring.specs.declared.wiring_refused.WiringRefused.TheVariants.{Range, NotIncreasing, NotReversed}
use Rattle.om_wiring.specs.Refusals.{AreLawful, IsRefusal}
use Rattle.om_wiring.specs.Scans.{IsRange}
use Rattle.om_wiring.specs.Wirings.{HasIncreasingLabels, IsStep, IsWiring, position}
use Rattle.om_wiring.proofs.SweepEnds.{split_last}
use Rattle.om_existence.specs.Possible.{IsPossible}
use Rattle.om_existence.proofs.Possible.{held, then, either_way}

module _ (n : ℕ) where
  lawful_more : (done : List Block) (b : Block) → AreLawful n done → IsStep n (position done) b
      → AreLawful n (done ++ b ∷ [])
  lawful_more done b lawful step before c rest e = elim (split_last done b before c rest e) [
    | inl q ↦ subst (λ d. IsStep n (position d) c) (sym q.0) (subst (IsStep n (position done)) (sym q.1) step)
    | inr q ↦ lawful before c q.0 q.1
  ]

  none_lawful : AreLawful n []
  none_lawful [] b rest e = cc
  none_lawful (d ∷ done) b rest e = cc

  -- the steps before are lawful, and the others are looked at in turn
  refused_behind : (done after : List Block) → AreLawful n done → (IsWiring n (done ++ after) → ⊥)
      → IsPossible ((why : WiringRefused) × IsRefusal n (done ++ after) why)
  refused_behind done [] lawful fails =
      held (NotReversed, (whole, λ reversed. fails (record { steps = whole; reversed = reversed })))
    where
      whole : AreLawful n (done ++ [])
      whole = subst (AreLawful n) (sym (append-nil done)) lawful
  refused_behind done (b ∷ after) lawful fails = then (either_way (IsRange n b)) (λ e. elim e [
    | inr out ↦
        held (
          Range (length done + 1),
          (done, b, record { rest = after; split = refl; number = refl; before = lawful }, out),
        )
    | inl within ↦ then (either_way (HasIncreasingLabels n (position done) b)) (λ f. elim f [
      | inr falls ↦
          held (
            NotIncreasing (length done + 1),
            (done, b, record { rest = after; split = refl; number = refl; before = lawful }, within, falls),
          )
      | inl increasing ↦ subst (λ blocks. IsPossible ((why : WiringRefused) × IsRefusal n blocks why)) joined
          (refused_behind (done ++ b ∷ []) after
          (lawful_more done b lawful
          (record { low = within.low; proper = within.proper; high = within.high; increasing = increasing }))
          (λ wiring. fails (subst (IsWiring n) joined wiring)))
    ])
  ])
    where
      joined : (done ++ b ∷ []) ++ after ≡ done ++ b ∷ after
      joined = append_assoc done (b ∷ []) after

pub wiring_refused : (n : ℕ) (blocks : List Block) → (IsWiring n blocks → ⊥)
    → IsPossible ((why : WiringRefused) × IsRefusal n blocks why)
wiring_refused n blocks fails = refused_behind n [] blocks (none_lawful n) fails
