-- Reasons of refusals from the values that the code has.
--
-- Main results: vectors_refused, weights_refused, weight_of_triple, all_balanced, one_balanced, unbalanced_refused
use Rattle.std.specs.Prelude.{ℕ, ◌≡◌, ◌≢◌, ◌+◌, ◌<◌, List, length}
use Rattle.std.proofs.Math.ListN.{get_or}
use Rattle.om_subsets.specs.Subsets.{choose, rank_of, IsTriple}
use Rattle.om_subsets.proofs.Order.{lexicographic}
use Rattle.om_certificate.specs.declared.entry.Entry.{Entry}
use Rattle.om_certificate.specs.Certificates.{AreBalanced, AreLawful, small_times, big_times}
use Rattle.om_certificate.specs.Refusals.{IsFirstUnbalanced, IsEntryRefusal, unbalanced}
use Rattle.std.proofs.Common.{sym, ◌∙◌, ap, subst, arith, inl, inr}
use Rattle.std.proofs.lemmas.Bool.{cases_lt}
use Rattle.om_subsets.specs.Members.{Chosen}
use Rattle.om_chirotope.specs.Map.{SignMap}
use Rattle.om_vectors.specs.WholeVectors.{WholeVector}
use Rattle.om_certificate.specs.declared.cert_refused.CertRefused.TheVariants.{Number, Unbalanced}
use Rattle.om_certificate.specs.Refusals.{IsVectorRefusal, number_of_vectors, IsWeightRefusal, number_of_weights}
use Rattle.om_certificate.specs.declared.weight.Weight.{Weight}
use Rattle.om_subsets.specs.Subsets.{IsSubsetFrom}
use Rattle.om_subsets.proofs.Triples.{place_below, rising_of_triple}
use Rattle.om_certificate.specs.Weights.{nonzero_brackets, bracket_of}
use Rattle.om_certificate.specs.Tables.{IsOfTriple, AreCounts}

pub vectors_refused : (m : SignMap) (vs : List WholeVector) (wanted given : ℕ) → wanted ≡ m.elements → given ≡ length vs
    → length vs ≢ m.elements → IsVectorRefusal m vs (Number wanted given)
vectors_refused m vs wanted given w g n = rw (w, g) (number_of_vectors n)

pub weights_refused : (m : SignMap) (ws : List Weight) (wanted : ℕ) → wanted ≡ length (nonzero_brackets m)
    → length ws ≢ wanted → IsWeightRefusal m ws (Number wanted (length ws))
weights_refused m ws wanted w n = rw w (number_of_weights (λ e. n (e ∙ sym w)))

pub weight_of_triple : (n k : ℕ) (w : Weight) (b : List ℕ) → k ≡ n → IsSubsetFrom 1 n b → length b ≡ 3
    → b ≡ bracket_of w → IsOfTriple k w
weight_of_triple n k w b e h s q =
    let t : IsTriple n (bracket_of w) = subst (IsTriple n) q (record { list = h; size = s }) in
    let p = rising_of_triple n w.a w.b w.c t in
    let c = p.high in
    record { a = p.low; a_b = p.first; b_c = p.second; c = omega (arith, e) }

pub all_balanced : (m : SignMap) (es : List Entry) (small big : List ℕ) → AreCounts m.elements es small big
    → ((j : ℕ) → j < choose m.elements 3 → get_or small j 0 ≡ get_or big j 0) → AreBalanced m es
all_balanced m es small big c h b hb = sym (c.small_counts b hb)
    ∙ h (rank_of m.elements b) (place_below m.elements b hb) ∙ c.big_counts b hb

-- the tables agree at one place more
pub one_balanced : (small big : List ℕ) (place : ℕ) → get_or small place 0 ≡ get_or big place 0
    → ((j : ℕ) → j < place → get_or small j 0 ≡ get_or big j 0)
    → (j : ℕ) → j < place + 1 → get_or small j 0 ≡ get_or big j 0
one_balanced small big place e h j l = elim (cases_lt j place) [
  | inl before ↦ h j before
  | inr after ↦ let p : j ≡ place = omega (arith, l, after) in rw p e
]

is_first_unbalanced :
    (m : SignMap) (es : List Entry) (small big : List ℕ) (place : ℕ) (b : Chosen)
    → AreCounts m.elements es small big
    → b.n ≡ m.elements
    → IsTriple m.elements b.elements
    → rank_of m.elements b.elements ≡ place
    → get_or small place 0 ≢ get_or big place 0
    → ((j : ℕ) → j < place → get_or small j 0 ≡ get_or big j 0)
    → IsFirstUnbalanced m es b
is_first_unbalanced m es small big place b c n hb r d h = record {
  n = n;
  triple = hb;
  differ = λ e. d (ap (λ k. get_or small k 0) (sym r) ∙ c.small_counts b.elements hb ∙ e
      ∙ sym (c.big_counts b.elements hb) ∙ ap (λ k. get_or big k 0) r);
  earlier = λ x hx before.
      let l = (lexicographic 1 m.elements x b.elements hx.list hb.list (hx.size ∙ sym hb.size)).0 before in
      sym (c.small_counts x hx) ∙ h (rank_of m.elements x) (omega (arith, r, l)) ∙ c.big_counts x hx;
}

pub unbalanced_refused :
    (m : SignMap) (es : List Entry) (small big : List ℕ) (place : ℕ) (b : Chosen)
    → AreLawful m es
    → AreCounts m.elements es small big
    → b.n ≡ m.elements
    → IsTriple m.elements b.elements
    → rank_of m.elements b.elements ≡ place
    → get_or small place 0 ≢ get_or big place 0
    → ((j : ℕ) → j < place → get_or small j 0 ≡ get_or big j 0)
    → IsEntryRefusal m es (Unbalanced b (get_or small place 0) (get_or big place 0))
unbalanced_refused m es small big place b a c n hb r d h =
    let s : get_or small place 0 ≡ small_times b.elements es = ap (λ k. get_or small k 0) (sym r)
    ∙ c.small_counts b.elements hb in
    let t : get_or big place 0 ≡ big_times b.elements es = ap (λ k. get_or big k 0) (sym r)
    ∙ c.big_counts b.elements hb in
    subst (λ x. IsEntryRefusal m es (Unbalanced b x (get_or big place 0))) (sym s)
    (subst (λ x. IsEntryRefusal m es (Unbalanced b (small_times b.elements es) x)) (sym t)
    (unbalanced b a (is_first_unbalanced m es small big place b c n hb r d h)))
