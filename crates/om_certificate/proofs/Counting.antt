-- Tables of how often each triple stands on a side.
--
-- Main results: raised, what two additions do to a table; none_counted and one_counted, the start and the step of the
-- count; lawful_distinct, the elements of a lawful statement.
use Rattle.std.specs.Prelude.{ℕ, ◌≡◌, ◌+◌, ◌*◌, ◌<◌, ◌≤◌, ◌^◌, List, length, take, cond, nat_eq, sum_by, All}
use Rattle.std.proofs.Common.{refl, sym, ◌∙◌, ap, subst, arith, inl, inr}
use Rattle.std.proofs.Math.ListN.{get_or, set}
use Rattle.std.proofs.lemmas.Bool.{cases_eq, eq-eqb, ne_eqb, cases_lt}
use Rattle.std.proofs.lemmas.List.{get_or-set_same, get_or-set_other, length-set, get_or_past}
use Rattle.std.proofs.lemmas.List.Sums.{sum_by_more}
use Rattle.om_signs.specs.declared.limits.TheConstants.{MAX_MULTIPLICITY, MAX_ENTRIES}
use Rattle.om_subsets.specs.Subsets.{choose, rank_of, IsTriple}
use Rattle.om_subsets.specs.Members.{Chosen}
use Rattle.om_subsets.proofs.Triples.{place_below}
use Rattle.om_chirotope.specs.Map.{SignMap}
use Rattle.om_grassmann.specs.declared.statement.Statement.{Statement}
use Rattle.om_grassmann.specs.Statements.{IsLawful}
use Rattle.om_grassmann.specs.Sides as sides
use Rattle.om_certificate.specs.declared.entry.Entry.{Entry}
use Rattle.om_certificate.specs.Certificates.{times_among, times_in, is_same}
use Rattle.om_certificate.specs.Tables.{AreCounts, IsRaised}
use Rattle.om_certificate.proofs.Combinations.{here}
use Rattle.om_certificate.proofs.Triples.{same-place}

bumped : (table : List ℕ) (p k times : ℕ) → p < length table
    → get_or (set table p (get_or table p 0 + times)) k 0 ≡ get_or table k 0 + times * here k p
bumped table p k times l = elim (cases_eq k p) [
  | inl e ↦ rw e (rw (eq-eqb p p refl) (get_or-set_same table p (get_or table p 0 + times) 0 l ∙ omega arith))
  | inr n ↦ rw (ne_eqb k p n) (get_or-set_other table p k (get_or table p 0 + times) 0 n ∙ omega arith)
]

here_most : (k p times : ℕ) → times * here k p ≤ times
here_most k p times = elim (cases_eq k p) [
  | inl e ↦ rw (eq-eqb k p e) (omega arith)
  | inr n ↦ rw (ne_eqb k p n) (omega arith)
]

pub raised : (n times p q : ℕ) (table c d : List ℕ) → IsTriple n c → IsTriple n d → p ≡ rank_of n c → q ≡ rank_of n d
    → choose n 3 ≤ length table
    → IsRaised n (λ b. times_among b c d) times table
    (set (set table p (get_or table p 0 + times)) q (get_or (set table p (get_or table p 0 + times)) q 0 + times))
raised n times p q table c d hc hd ep eq room = record {
  raised = λ b hb. let s = same-place n b c hb hc in let t = same-place n b d hb hd in twice (rank_of n b)
      ∙ counted b (is_same b c) (is_same b d) (s ∙ ap (nat_eq (rank_of n b)) (sym ep))
      (t ∙ ap (nat_eq (rank_of n b)) (sym eq));
  bound = λ k. let e = twice k in let f = here_most k p times in let g = here_most k q times in omega arith;
}
  where
    first : List ℕ
    first = set table p (get_or table p 0 + times)

    lp : p < length table
    lp = let l = place_below n c hc in omega arith

    lq : q < length (set table p (get_or table p 0 + times))
    lq = let l = place_below n d hd in let e = length-set table p (get_or table p 0 + times) in omega (arith, e)

    twice : (k : ℕ)
        → get_or (set (set table p (get_or table p 0 + times)) q
        (get_or (set table p (get_or table p 0 + times)) q 0 + times)) k 0 ≡ get_or table k 0 + times * here k p + times
        * here k q
    twice k = bumped (set table p (get_or table p 0 + times)) q k times lq
        ∙ ap (λ t. t + times * here k q) (bumped table p k times lp)

    counted : (b : List ℕ) (s t : _) → s ≡ nat_eq (rank_of n b) p → t ≡ nat_eq (rank_of n b) q
        → get_or table (rank_of n b) 0 + times * here (rank_of n b) p + times * here (rank_of n b) q
        ≡ get_or table (rank_of n b) 0 + times * (cond s 1 0 + cond t 1 0)
    counted b s t e f = rw (e, f) (omega arith)

pub one_fits :
    (n : ℕ) (es : List Entry) (i times : ℕ) (table : List ℕ)
    → i < length es
    → length es ≤ MAX_ENTRIES
    → times ≤ MAX_MULTIPLICITY
    → ((k : ℕ) → get_or table k 0 ≤ 2 * MAX_MULTIPLICITY * i)
    → (k : ℕ) → get_or table k 0 + 2 * times < 2 ^ 128
one_fits n es i times table l few t h k = let g = h k in omega arith

-- the tables count the first i entries, and no number is above what they can make
pub record IsCounting (n : ℕ) (es : List Entry) (i : ℕ) (small big : List ℕ) : Type 0 where
  pub counts : AreCounts n (take i es) small big
  pub small_most : (k : ℕ) → get_or small k 0 ≤ 2 * MAX_MULTIPLICITY * i
  pub big_most : (k : ℕ) → get_or big k 0 ≤ 2 * MAX_MULTIPLICITY * i

zero_at : (table : List ℕ) → All (λ k. k ≡ 0) table → (k : ℕ) → get_or table k 0 ≡ 0
zero_at table z k = elim (cases_lt k (length table)) [ inl l ↦ z k 0 l | inr g ↦ get_or_past table k 0 g ]

pub none_counted : (n : ℕ) (es : List Entry) (small big : List ℕ) → All (λ k. k ≡ 0) small → All (λ k. k ≡ 0) big
    → IsCounting n es 0 small big
none_counted n es small big s b = record {
  counts = record {
    small_counts = λ c h. zero_at small s (rank_of n c);
    big_counts =
        λ c h. zero_at big b (rank_of n c);
  };
  small_most = λ k. let e = zero_at small s k in omega arith;
  big_most = λ k. let e = zero_at big b k in omega arith;
}

pub one_counted :
    (n : ℕ) (es : List Entry) (i : ℕ) (d : Entry) (small big small' big' : List ℕ)
    → i < length es
    → (get_or es i d).times ≤ MAX_MULTIPLICITY
    → IsCounting n es i small big
    → IsRaised n (λ b. times_in b (get_or es i d).statement (get_or es i d).statement.small) (get_or es i d).times small
    small'
    → IsRaised n (λ b. times_in b (get_or es i d).statement (get_or es i d).statement.big) (get_or es i d).times big
    big'
    → IsCounting n es (i + 1) small' big'
one_counted n es i d small big small' big' l t h s b = record {
  counts = record {
    small_counts = λ c hc. s.raised c hc
        ∙ ap (λ x. x + (get_or es i d).times * times_in c (get_or es i d).statement (get_or es i d).statement.small)
        (h.counts.small_counts c hc) ∙ sym (more (λ x. x.times * times_in c x.statement x.statement.small));
    big_counts = λ c hc. b.raised c hc
        ∙ ap (λ x. x + (get_or es i d).times * times_in c (get_or es i d).statement (get_or es i d).statement.big)
        (h.counts.big_counts c hc) ∙ sym (more (λ x. x.times * times_in c x.statement x.statement.big));
  };
  small_most = λ k. let f = s.bound k in let g = h.small_most k in omega arith;
  big_most = λ k. let f = b.bound k in let g = h.big_most k in omega arith;
}
  where
    more : (f : Entry → ℕ) → sum_by f (take (i + 1) es) ≡ sum_by f (take i es) + f (get_or es i d)
    more f = sum_by_more f es i d l

-- the elements of a lawful statement are distinct
pub lawful_distinct : (n : ℕ) (m : SignMap) (st : Statement) → n ≡ m.elements → IsLawful m st → sides.AreDistinct n st
lawful_distinct n m st e h =
    let p = h.placed in
    let al = p.a.low in
    let ah = p.a.high in
    let b = p.b in
    let bc = p.b_c in
    let cd = p.c_d in
    let de = p.d_e in
    let eh = p.e in
    record {
      a = record { low = al; high = omega arith };
      b = record { low = b; high = omega arith };
      c = record { low = omega arith; high = omega arith };
      d = record { low = omega arith; high = omega arith };
      e = record { low = omega arith; high = omega arith };
      apart = p.apart;
      b_c = λ q. omega arith;
      b_d = λ q. omega arith;
      b_e = λ q. omega arith;
      c_d = λ q. omega arith;
      c_e = λ q. omega arith;
      d_e = λ q. omega arith;
    }

-- the two sets are the brackets of a side
pub raised_side : (n k times : ℕ) (s t : Chosen) (b c : List ℕ) (old new : List ℕ) → k ≡ n → sides.IsTriple k b s
    → sides.IsTriple k c t → IsRaised s.n (λ x. times_among x s.elements t.elements) times old new
    → IsRaised n (λ x. times_among x b c) times old new
raised_side n k times s t b c old new e hs ht h =
    subst (λ xs. IsRaised n (λ x. times_among x b xs) times old new) ht.elements
    (subst (λ xs. IsRaised n (λ x. times_among x xs t.elements) times old new) hs.elements
    (subst (λ j. IsRaised j (λ x. times_among x s.elements t.elements) times old new) (hs.n ∙ e) h))
