-- The places that the extensions of a chirotope reach, line by line.
--
-- Main results: line_lookup, what is found about a line; none_yet, skipped_line and found_line, the steps; all_lines,
-- the end.
use Rattle.std.proofs.Common.{ℕ, List, ◌≡◌, ◌+◌, ◌<◌, ◌≤◌, ◌∷◌, [], ◌++◌, ◌∙◌, sym, ap, subst, inl, inr, length, get_or}
use Rattle.std.proofs.Common.{All, Bool, false, Result, Ok, IfOk, arith}
use Rattle.std.specs.List.{Contains}
use Rattle.std.proofs.lemmas.Bool.{cases_lt}
use Rattle.std.proofs.lemmas.List.{get_or_read, get_or_default}
use Rattle.std.proofs.lemmas.List.Elements.{All-nil, All-push, All-get_or, Contains-push, Contains-append_left}
use Rattle.om_signs.specs.declared.sign.Sign.{Sign}
use Rattle.om_signs.specs.declared.no_memory.NoMemory.{NoMemory}
use Rattle.om_parallel.specs.Parts.{AreGivenFrom}
use Rattle.om_chirotope.specs.Map.{SignMap}
use Rattle.om_localize.specs.Extensions.{IsSignature}
use Rattle.om_localize.specs.Listings.{AreFirst}
use Rattle.om_covers.specs.Growing.{grown}
use Rattle.om_covers.proofs.Listings.{whole_listing}
use Rattle.om_levels.specs.Levels.{IsIsomorphicTo}
use Rattle.om_levels.specs.declared.lookup.Lookup.{Lookup}
use Rattle.om_levels.specs.Steps.{IsMetAt, IsAmong, ArePlaces, IsLookup}

-- each of the first i lines that is tried is met, and the places are of members that are met
pub record ArePlacesBelow (T : List Sign → Type 0) (c : SignMap) (maps : List SignMap) (lines : List (List Sign))
    (i : ℕ) (places : List ℕ) : Type 0 where
  pub taken : (j : ℕ) (d : List Sign) → j < i → T (get_or lines j d) → IsAmong maps places (grown c (get_or lines j d))
  pub met : All (IsMetAt T c maps) places

module _ (T : List Sign → Type 0) (c : SignMap) (maps : List SignMap) (lines : List (List Sign)) where
  pub none_yet : (places : List ℕ) → places ≡ [] → ArePlacesBelow T c maps lines 0 places
  none_yet places e = record {
    taken = λ j d l t. absurd (omega arith);
    met = subst (All (IsMetAt T c maps)) (sym e) (All-nil (IsMetAt T c maps));
  }

  -- what is found about the line with this number
  pub line_lookup : (found items : List (Result Lookup NoMemory)) (i : ℕ) (d : Result Lookup NoMemory) (lookup : Lookup)
      (signs : List Sign)
      → AreGivenFrom (λ k x. k < length lines → IfOk x (IsLookup T c maps (get_or lines k []))) 0 found
      → items ≡ found → i < length items → i < length lines → get_or items i d ≡ Ok lookup
      → signs ≡ get_or lines i signs → IsLookup T c maps signs lookup
  line_lookup found items i d lookup signs given e inside l is read =
      let z : 0 + i ≡ i = omega arith in
      let here = subst (λ j. j < length lines → IfOk (get_or found i d) (IsLookup T c maps (get_or lines j []))) z
      (given i d (subst (λ xs. i < length xs) e inside)) l in
      subst (λ s. IsLookup T c maps s lookup) (get_or_default lines i [] signs l ∙ sym read)
      (subst (λ x. IfOk x (IsLookup T c maps (get_or lines i []))) (sym (ap (λ xs. get_or xs i d) e) ∙ is) here)

  -- a line that isn't tried
  pub skipped_line : (i : ℕ) (places : List ℕ) (signs : List Sign) → i < length lines → signs ≡ get_or lines i signs
      → (T signs → ⊥) → ArePlacesBelow T c maps lines i places → ArePlacesBelow T c maps lines (i + 1) places
  skipped_line i places signs l read not_tried below = record { taken = taken; met = below.met }
    where
      taken : (j : ℕ) (d : List Sign) → j < i + 1 → T (get_or lines j d)
          → IsAmong maps places (grown c (get_or lines j d))
      taken j d lt t = elim (cases_lt j i) [
        | inl earlier ↦ below.taken j d earlier t
        | inr ge ↦
            let e : j ≡ i = omega arith in
            absurd (not_tried (subst T (ap (λ k. get_or lines k d) e ∙ sym (get_or_read lines i signs l read d)) t))
      ]

  -- a line whose extension is found
  pub found_line : (i place : ℕ) (places new : List ℕ) (signs : List Sign) (x : SignMap) → i < length lines
      → signs ≡ get_or lines i signs → All (IsSignature c) lines → T signs → x ≡ grown c signs
      → IsIsomorphicTo maps x place → new ≡ places ++ place ∷ [] → ArePlacesBelow T c maps lines i places
      → ArePlacesBelow T c maps lines (i + 1) new
  found_line i place places new signs x l read members tried q found qn below = record {
    taken = taken;
    met = subst (All (IsMetAt T c maps)) (sym qn) (All-push (IsMetAt T c maps) places place below.met (record {
      signs = signs;
      signature = subst (IsSignature c) (sym read) (All-get_or (IsSignature c) lines i signs l members);
      tried = tried;
      found = here;
    }));
  }
    where
      here : IsIsomorphicTo maps (grown c signs) place
      here = subst (λ m. IsIsomorphicTo maps m place) q found

      earlier : (j : ℕ) (d : List Sign) → IsAmong maps places (grown c (get_or lines j d))
          → IsAmong maps new (grown c (get_or lines j d))
      earlier j d k = record {
        place = k.place;
        listed = subst (λ ps. Contains ps k.place) (sym qn) (Contains-append_left places (place ∷ []) k.place k.listed);
        found = k.found;
      }

      taken : (j : ℕ) (d : List Sign) → j < i + 1 → T (get_or lines j d) → IsAmong maps new (grown c (get_or lines j d))
      taken j d lt t = elim (cases_lt j i) [
        | inl less ↦ earlier j d (below.taken j d less t)
        | inr ge ↦
            let e : j ≡ i = omega arith in
            record {
              place = place;
              listed = subst (λ ps. Contains ps place) (sym qn) (Contains-push places place);
              found = subst (λ s. IsIsomorphicTo maps (grown c s) place)
                  (get_or_read lines i signs l read d ∙ ap (λ k. get_or lines k d) (sym e)) here;
            }
      ]

  -- after the last line of a whole listing
  pub all_lines : (k i : ℕ) (places : List ℕ) → AreFirst (IsSignature c) k lines false → length lines ≤ i
      → ArePlacesBelow T c maps lines i places → ArePlaces T c maps places
  all_lines k i places first over below = record {
    taken = λ signs s t.
        let at = whole_listing (IsSignature c) k lines first signs s in
        subst (λ xs. IsAmong maps places (grown c xs)) at.2
        (below.taken at.0 signs (let l = at.1 in omega arith) (subst T (sym at.2) t));
    met = below.met;
  }

-- a line of a listing is a signature
pub listed_signature : (c : SignMap) (k i : ℕ) (more : Bool) (lines slice : List (List Sign)) (signs : List Sign)
    → AreFirst (IsSignature c) k lines more → slice ≡ lines → i < length slice → signs ≡ get_or slice i signs
    → IsSignature c signs
listed_signature c k i more lines slice signs first e l read = subst (IsSignature c) (sym read)
    (All-get_or (IsSignature c) slice i signs l (subst (All (IsSignature c)) (sym e) first.members))
