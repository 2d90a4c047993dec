-- The elements of an increasing list below a number, as a loop over the numbers meets them.
--
-- Main results: none are below the first number (none_below), all are below the last (all_below); one step on
-- (below_member, below_other); an element joined to the others (joined_more); what stood before stays in front
-- (joined_kept, kept_on).
use Rattle.std.specs.Prelude.{ℕ, ◌≡◌, ◌≢◌, ◌+◌, ◌<◌, ◌≤◌, List, [], ◌∷◌, ◌++◌, length, take, drop, map, filter, nat_lt}
use Rattle.std.specs.Prelude.{refl}
use Rattle.std.specs.Io.{StartsWith}
use Rattle.std.specs.List.{join_with_byte}
use Rattle.std.specs.Fmt.{decimal}
use Rattle.std.proofs.Common.{zero, suc, arith, sym, ◌∙◌, ap, inl, inr, append_assoc, append-nil}
use Rattle.std.proofs.lemmas.Bool.{cases_lt, lt-ltb, le-ltb}
use Rattle.std.proofs.Math.Seq.{take-append_seam}
use Rattle.std.proofs.lemmas.List.{length-append, length-map, map-append, take-append-drop}
use Rattle.om_subsets.specs.Subsets.{IsSubsetFrom, IsMember}
use Rattle.om_subsets.proofs.Order.{members_from}
use Rattle.om_printing.specs.Texts.{after_comma}

pub below : ℕ → List ℕ → List ℕ
below e xs = filter (λ x. nat_lt x e) xs

pub none_below : (low m e : ℕ) (xs : List ℕ) → IsSubsetFrom low m xs → e ≤ low → below e xs ≡ []
unfolding below
none_below low m e [] h l = refl
none_below low zero e (x ∷ xs) h l = absurd h
none_below low (suc m) e (x ∷ xs) (inl (q, h)) l =
    let ge : e ≤ x = omega arith in
    rw (le-ltb x e ge) (none_below (low + 1) m e xs h (omega arith))
none_below low (suc m) e (x ∷ xs) (inr (q, h)) l = none_below (low + 1) m e (x ∷ xs) h (omega arith)

pub all_below : (low m e : ℕ) (xs : List ℕ) → IsSubsetFrom low m xs → low + m ≤ e → below e xs ≡ xs
unfolding below
all_below low m e [] h l = refl
all_below low zero e (x ∷ xs) h l = absurd h
all_below low (suc m) e (x ∷ xs) (inl (q, h)) l =
    let lt : x < e = omega arith in
    rw (lt-ltb x e lt) (ap (λ k. x ∷ k) (all_below (low + 1) m e xs h (omega arith)))
all_below low (suc m) e (x ∷ xs) (inr (q, h)) l = all_below (low + 1) m e (x ∷ xs) h (omega arith)

pub below_member : (low m e : ℕ) (xs : List ℕ) → IsSubsetFrom low m xs → IsMember e xs
    → below (e + 1) xs ≡ below e xs ++ e ∷ []
unfolding below
below_member low m e [] h k = absurd k
below_member low zero e (x ∷ xs) h k = absurd h
below_member low (suc m) e (x ∷ xs) (inl (q, h)) (inl r) =
    let lt : x < e + 1 = omega arith in
    let ge : e ≤ x = omega arith in
    rw (lt-ltb x (e + 1) lt, le-ltb x e ge)
    (rw (none_below (low + 1) m (e + 1) xs h (omega arith), none_below (low + 1) m e xs h (omega arith))
    (ap (λ k. k ∷ []) (sym r)))
below_member low (suc m) e (x ∷ xs) (inl (q, h)) (inr k) =
    let a : low + 1 ≤ e = (members_from (low + 1) m e xs h k).0 in
    let lt : x < e + 1 = omega arith in
    let lt2 : x < e = omega arith in
    rw (lt-ltb x (e + 1) lt, lt-ltb x e lt2) (ap (λ k. x ∷ k) (below_member (low + 1) m e xs h k))
below_member low (suc m) e (x ∷ xs) (inr (q, h)) k = below_member (low + 1) m e (x ∷ xs) h k

pub below_other : (e : ℕ) (xs : List ℕ) → (IsMember e xs → ⊥) → below (e + 1) xs ≡ below e xs
unfolding below
below_other e [] n = refl
below_other e (x ∷ xs) n =
    let i = below_other e xs (λ k. n (inr k)) in
    elim (cases_lt x e) [
      | inl lt ↦ let lt2 : x < e + 1 = omega arith in rw (lt-ltb x (e + 1) lt2, lt-ltb x e lt) (ap (λ k. x ∷ k) i)
      | inr ge ↦
          let ne : e ≢ x = (λ q. n (inl q)) in
          let gt : e + 1 ≤ x = omega arith in
          rw (le-ltb x (e + 1) gt, le-ltb x e ge) i
    ]

-- one more piece, joined to the others
joined_piece : (ps : List (List ℕ)) (p : List ℕ) → join_with_byte 44 (ps ++ p ∷ []) ≡ join_with_byte 44 ps
    ++ after_comma (length ps) p
joined_piece [] p = refl
joined_piece (q ∷ []) p = refl
joined_piece (q ∷ r ∷ ps) p = ap (λ k. q ++ 44 ∷ k) (joined_piece (r ∷ ps) p)
    ∙ sym (append_assoc q (44 ∷ join_with_byte 44 (r ∷ ps)) (after_comma (length (r ∷ ps)) p))

pub joined_more : (xs : List ℕ) (e : ℕ) → join_with_byte 44 (map decimal (xs ++ e ∷ []))
    ≡ join_with_byte 44 (map decimal xs) ++ after_comma (length xs) (decimal e)
joined_more xs e = rw (map-append decimal xs (e ∷ []), joined_piece (map decimal xs) (decimal e), length-map xs decimal)
    refl

-- the elements below e have been put behind the old text, joined by commas
pub record IsJoined (old new : List ℕ) (e before : ℕ) (elements : List ℕ) : Type 0 where
  pub text : new ≡ old ++ join_with_byte 44 (map decimal (below e elements))
  pub count : before ≡ length (below e elements)
  pub few : before < e

pub joined_none : (n : ℕ) (old elements : List ℕ) → IsSubsetFrom 1 n elements → IsJoined old old 1 0 elements
joined_none n old elements lawful =
    let none = none_below 1 n 1 elements lawful (omega arith) in
    record {
      text = rw (none, append-nil) refl;
      count = rw none refl;
      few = omega arith;
    }

pub joined_element : (n e before : ℕ) (old new now elements : List ℕ) → IsSubsetFrom 1 n elements → IsMember e elements
    → now ≡ new ++ after_comma before (decimal e) → IsJoined old new e before elements
    → IsJoined old now (e + 1) (before + 1) elements
joined_element n e before old new now elements lawful member put joined =
    let step = below_member 1 n e elements lawful member in
    record {
      text = put
          ∙ rw (joined.text, joined.count, step)
          (append_assoc old _ _ ∙ ap (λ k. old ++ k) (sym (joined_more (below e elements) e)));
      count = rw (joined.count, step, length-append) refl;
      few = let few = joined.few in omega (arith, few);
    }

pub joined_other : (e before : ℕ) (old new elements : List ℕ) → (IsMember e elements → ⊥)
    → IsJoined old new e before elements → IsJoined old new (e + 1) before elements
joined_other e before old new elements other joined =
    let same = below_other e elements other in
    record {
      text = rw same joined.text;
      count = rw same joined.count;
      few = let few = joined.few in omega (arith, few);
    }

pub joined_all : (n e before : ℕ) (old new elements : List ℕ) → IsSubsetFrom 1 n elements → n < e
    → IsJoined old new e before elements → new ≡ old ++ join_with_byte 44 (map decimal elements)
joined_all n e before old new elements lawful past joined =
    rw (← all_below 1 n e elements lawful (omega arith)) joined.text

pub joined_kept : (e before : ℕ) (old new elements : List ℕ) → IsJoined old new e before elements → StartsWith new old
joined_kept e before old new elements joined = rw (joined.text) (take-append_seam old _)

begun : (text front : List ℕ) → StartsWith text front → front ++ drop (length front) text ≡ text
begun text front starts = ap (λ l. l ++ drop (length front) text) (sym starts) ∙ take-append-drop (length front) text

pub kept_on : (first second third : List ℕ) → StartsWith second first → StartsWith third second → StartsWith third first
kept_on first second third one two =
    let more = drop (length first) second in
    let rest = drop (length second) third in
    let whole : third ≡ first ++ (more ++ rest) = sym (begun third second two)
    ∙ ap (λ l. l ++ rest) (sym (begun second first one)) ∙ append_assoc first more rest in
    ap (take (length first)) whole ∙ take-append_seam first (more ++ rest)
