-- One document more, a list that ends, and a run that stops.
--
-- Main results: wrong_stops, fault_stops, elements_stops, unfit_stops, gap_stops, goes_on, closes, all_shown
use Rattle.std.specs.Prelude.{ℕ, ◌≡◌, ◌+◌, ◌≤◌, List, [], ◌∷◌, ◌++◌, length}
use Rattle.std.proofs.Common.{zero, suc, refl, sym, ap, subst, ◌∙◌, append_assoc, append-nil, length-append, arith}
use Rattle.std.proofs.lemmas.List.Concat.{flat_map-append}
use Rattle.om_chirotope.specs.Map.{SignMap}
use Rattle.om_levels.specs.Levels.{Members}
use Rattle.om_levels.specs.declared.family.Family.{Family}
use Rattle.om_chain.specs.declared.asked.Asked.{Asked}
use Rattle.om_chain.specs.declared.gap.Gap.{Gap}
use Rattle.om_chain.specs.declared.unfit.Unfit.{Unfit as Misfit}
use Rattle.om_chain.specs.Chains.{ChainOfLists, IsShown, IsClosed, IsUnfit, IsGap, added, first_list}
use Rattle.om_reply.specs.declared.status.Status.{Status}
use Rattle.om_reply.specs.declared.status.Status.TheVariants.{Refused}
use Rattle.om_classification.specs.declared.fault.Fault.{Fault as DocumentFault}
use Rattle.om_classification.specs.declared.line.Line.{Line}
use Rattle.om_classification.specs.declared.line.Line.TheVariants.{Shown, Empty, Fault, Elements, Unfit, Gap as GapIn}
use Rattle.om_classification.specs.declared.request.ListRequest.{ListRequest}
use Rattle.om_classification.specs.Documents.{IsMember, IsAtFault}
use Rattle.om_classification.specs.Texts.{line_text, line_status, gap_status}
use Rattle.om_classification.specs.Lists.{AreDocuments, none, one_more, AreShown, no_more, next, members_of, first}
use Rattle.om_classification.specs.Lists.{AreRead}
use Rattle.om_classification.specs.Lists.{last_behind, chain_behind, IsElsewhere, IsEnded, IsWrong, empty, fault}
use Rattle.om_classification.specs.Lists.{elements}
use Rattle.om_classification.specs.Lists.{unfit, gap, shown_text, IsTextOfAll, IsTextUpToWrong}
use Rattle.om_classification.specs.Progress.{State, IsUnderway, IsBetween}

-- ---- lists that grow

pub more_documents : (ps : List (List ℕ)) (ms : List SignMap) (p : List ℕ) (m : SignMap) → AreDocuments ps ms
    → IsMember p m → AreDocuments (ps ++ p ∷ []) (ms ++ m ∷ [])
more_documents ps ms p m none d = one_more p [] m [] d none
more_documents ps ms p m (one_more q qs k ks e es) d =
    one_more q (qs ++ p ∷ []) k (ks ++ m ∷ []) e (more_documents qs ks p m es d)

more_shown : (r : ListRequest) (n k : ℕ) (lists : List (List SignMap)) (maps : List SignMap) → AreShown r n lists
    → k ≡ length lists + n → 1 ≤ length maps → IsShown r.asked r.family k maps → AreShown r n (lists ++ maps ∷ [])
more_shown r n k lists maps (no_more j) e some s =
    next n maps [] some (subst (λ j. IsShown r.asked r.family j maps) (e ∙ omega arith) s) (no_more (n + 1))
more_shown r n k lists maps (next j first rest few shown others) e some s =
    next n first (rest ++ maps ∷ []) few shown (more_shown r (n + 1) k rest maps others (e ∙ omega arith) some s)

last_is : (before maps : List SignMap) (lists : List (List SignMap)) → last_behind before (lists ++ maps ∷ []) ≡ maps
last_is before maps [] = refl
last_is before maps (l ∷ lists) = last_is l maps lists

more_text : (r : ListRequest) (n k : ℕ) (lists : List (List SignMap)) (maps : List SignMap) → k ≡ length lists + n
    → shown_text r n (lists ++ maps ∷ []) ≡ shown_text r n lists ++ line_text (Shown r.asked k (length maps))
more_text r n k [] maps e =
    let same : n ≡ k = omega (arith, e) in
    append-nil (line_text (Shown r.asked n (length maps)))
    ∙ ap (λ j. line_text (Shown r.asked j (length maps))) same
more_text r n k (l ∷ lists) maps e =
    ap (λ t. line_text (Shown r.asked n (length l)) ++ t) (more_text r (n + 1) k lists maps (e ∙ omega arith))
    ∙ sym (append_assoc (line_text (Shown r.asked n (length l))) (shown_text r (n + 1) lists)
    (line_text (Shown r.asked k (length maps))))

-- ---- chains

abbrev chain_of : Asked → Family → Members → ℕ → List SignMap → ChainOfLists
chain_of asked family shown n maps = record {
  asked = asked;
  family = family;
  shown = shown;
  current = record { elements = n; maps = maps };
}

abbrev state_of : ChainOfLists → ℕ → State
state_of chain k = record { chain = chain; documents = k }

abbrev members_on : ℕ → List SignMap → Members
members_on n maps = record { elements = n; maps = maps }

same_chain : (c : ChainOfLists) (asked : Asked) (family : Family) (shown : Members) (n : ℕ) (maps : List SignMap)
    → c.asked ≡ asked → c.family ≡ family → c.shown ≡ shown → c.current.elements ≡ n → c.current.maps ≡ maps
    → c ≡ chain_of asked family shown n maps
same_chain c asked family shown n maps a f s e m =
    ap (λ x. chain_of x c.family c.shown c.current.elements c.current.maps) a
    ∙ ap (λ x. chain_of asked x c.shown c.current.elements c.current.maps) f
    ∙ ap (λ x. chain_of asked family x c.current.elements c.current.maps) s
    ∙ ap (λ x. chain_of asked family shown x c.current.maps) e
    ∙ ap (λ x. chain_of asked family shown n x) m

-- ---- what is wrong

-- what the state is, from how far the run has come
counted : (r : ListRequest) (all : List (List ℕ)) (text : List ℕ) (s : State) (left : List (List ℕ))
    (u : IsUnderway r all text s left) → s.documents ≡ length u.front
counted r all text s left u = ap (λ x. x.documents) u.state

chained : (r : ListRequest) (all : List (List ℕ)) (text : List ℕ) (s : State) (left : List (List ℕ))
    (u : IsUnderway r all text s left) → s.chain ≡ chain_behind r u.lists u.maps
chained r all text s left u = ap (λ x. x.chain) u.state

-- the line says what is wrong, and is written
pub wrong_stops : (r : ListRequest) (all : List (List ℕ)) (text : List ℕ) (s : State) (left : List (List ℕ))
    (line : Line)
    (t : Status) (more : List ℕ) (u : IsUnderway r all text s left)
    → IsWrong r u.lists u.maps (length u.front) left line → t ≡ line_status line → more ≡ line_text line
    → IsTextUpToWrong r all t (text ++ more)
wrong_stops r all text s left line t more u w is e = record {
  lists = u.lists;
  maps = u.maps;
  front = u.front;
  left = left;
  line = line;
  parts = u.parts;
  read = u.read;
  wrong = w;
  status = is;
  lines = ap (λ x. x ++ more) u.lines ∙ ap (λ x. shown_text r first u.lists ++ x) e;
}

pub fault_stops : (r : ListRequest) (all : List (List ℕ)) (text : List ℕ) (s : State) (piece : List ℕ)
    (left : List (List ℕ)) (k : ℕ) (why : DocumentFault) (more : List ℕ)
    → IsUnderway r all text s (piece ∷ left) → IsAtFault piece why → k ≡ s.documents + 1
    → more ≡ line_text (Fault k why) → IsTextUpToWrong r all Refused (text ++ more)
fault_stops r all text s piece left k why more u w count e =
    let place : k ≡ length u.front + 1 = count ∙ ap (λ x. x + 1) (counted r all text s (piece ∷ left) u) in
    wrong_stops r all text s (piece ∷ left) (Fault (length u.front + 1) why) Refused more u (fault piece left why w)
    refl (e ∙ ap (λ x. line_text (Fault x why)) place)

elsewhere_in : (c d : ChainOfLists) (n : ℕ) → c ≡ d → IsElsewhere c.current.elements c.current.maps n
    → IsElsewhere d.current.elements d.current.maps n
elsewhere_in c d n e w = subst (λ x. IsElsewhere x.current.elements x.current.maps n) e w

pub elements_stops : (r : ListRequest) (all : List (List ℕ)) (text : List ℕ) (s : State) (piece : List ℕ)
    (left : List (List ℕ)) (k : ℕ) (m : SignMap) (more : List ℕ)
    → IsUnderway r all text s (piece ∷ left) → IsMember piece m
    → IsElsewhere s.chain.current.elements s.chain.current.maps m.elements → k ≡ s.documents + 1
    → more ≡ line_text (Elements k) → IsTextUpToWrong r all Refused (text ++ more)
elements_stops r all text s piece left k m more u d w count e =
    let place : k ≡ length u.front + 1 = count ∙ ap (λ x. x + 1) (counted r all text s (piece ∷ left) u) in
    let there = elsewhere_in s.chain (chain_behind r u.lists u.maps) m.elements
    (chained r all text s (piece ∷ left) u) w in
    wrong_stops r all text s (piece ∷ left) (Elements (length u.front + 1)) Refused more u
    (elements piece left m d there) refl (e ∙ ap (λ x. line_text (Elements x)) place)

pub unfit_stops : (r : ListRequest) (all : List (List ℕ)) (text : List ℕ) (s : State) (piece : List ℕ)
    (left : List (List ℕ)) (k : ℕ) (m : SignMap) (why : Misfit) (more : List ℕ)
    → IsUnderway r all text s (piece ∷ left) → IsMember piece m → m.elements ≡ s.chain.current.elements
    → IsUnfit s.chain m why → k ≡ s.documents + 1 → more ≡ line_text (Unfit k why)
    → IsTextUpToWrong r all Refused (text ++ more)
unfit_stops r all text s piece left k m why more u d size w count e =
    let place : k ≡ length u.front + 1 = count ∙ ap (λ x. x + 1) (counted r all text s (piece ∷ left) u) in
    let chain = chained r all text s (piece ∷ left) u in
    wrong_stops r all text s (piece ∷ left) (Unfit (length u.front + 1) why) Refused more u
    (unfit piece left m why d (size ∙ ap (λ x. x.current.elements) chain) (subst (λ x. IsUnfit x m why) chain w))
    refl (e ∙ ap (λ x. line_text (Unfit x why)) place)

pub gap_stops : (r : ListRequest) (all : List (List ℕ)) (text : List ℕ) (s : State) (left : List (List ℕ)) (why : Gap)
    → IsUnderway r all text s left → IsEnded s.chain.current.elements left → IsGap s.chain why
    → IsTextUpToWrong r all (gap_status why) (text ++ line_text (GapIn s.chain.current.elements why))
gap_stops r all text s left why u over w =
    let chain = chained r all text s left u in
    wrong_stops r all text s left (GapIn (length u.lists + first) why) (gap_status why)
    (line_text (GapIn s.chain.current.elements why)) u
    (gap left why (subst (λ x. IsEnded x.current.elements left) chain over) (subst (λ x. IsGap x why) chain w)) refl
    (ap (λ x. line_text (GapIn x.current.elements why)) chain)

pub empty_stops : (r : ListRequest) (all : List (List ℕ)) (text : List ℕ) (s : State) (more : List ℕ)
    → IsBetween r all text s [] → length s.chain.current.maps ≡ 0 → more ≡ line_text Empty
    → IsTextUpToWrong r all Refused (text ++ more)
empty_stops r all text s more b none_left e =
    wrong_stops r all text s [] Empty Refused more b.underway
    (empty (sym (counted r all text s [] b.underway) ∙ none_read s.documents _ b.some none_left)) refl e
  where
    none_read : (k n : ℕ) → (1 ≤ k → 1 ≤ n) → n ≡ 0 → k ≡ 0
    none_read zero n some e = refl
    none_read (suc k) n some e = absurd (let h = some (omega arith) in omega (arith, h, e))

-- ---- one document more

more_read : (r : ListRequest) (all : List (List ℕ)) (text : List ℕ) (s : State) (piece : List ℕ) (left : List (List ℕ))
    (k : ℕ) (m : SignMap) (c : ChainOfLists) → IsUnderway r all text s (piece ∷ left) → IsMember piece m
    → k ≡ s.documents + 1 → c ≡ added s.chain m → IsUnderway r all text (state_of c k) left
more_read r all text s piece left k m c u d count e = record {
  lists = u.lists;
  maps = u.maps ++ m ∷ [];
  front = u.front ++ piece ∷ [];
  parts = u.parts ∙ sym (append_assoc u.front (piece ∷ []) left);
  read = record {
    documents = subst (λ x. AreDocuments (u.front ++ piece ∷ []) x)
        (append_assoc (members_of u.lists) u.maps (m ∷ []))
        (more_documents u.front (members_of u.lists ++ u.maps) piece m u.read.documents d);
    shown = u.read.shown;
  };
  state = ap (λ x. state_of x k) (e ∙ ap (λ x. added x m) (chained r all text s (piece ∷ left) u))
      ∙ ap (λ x. state_of (chain_behind r u.lists (u.maps ++ m ∷ [])) x)
      (count ∙ ap (λ x. x + 1) (counted r all text s (piece ∷ left) u) ∙ sym (length-append u.front (piece ∷ [])));
  lines = u.lines;
}

pub goes_on : (r : ListRequest) (all : List (List ℕ)) (text : List ℕ) (s : State) (piece : List ℕ)
    (left : List (List ℕ))
    (k : ℕ) (m : SignMap) (c : ChainOfLists) → IsUnderway r all text s (piece ∷ left) → IsMember piece m
    → k ≡ s.documents + 1 → c ≡ added s.chain m → IsBetween r all text (state_of c k) left
goes_on r all text s piece left k m c u d count e = record {
  underway = more_read r all text s piece left k m c u d count e;
  some = λ _. subst (λ x. 1 ≤ length x.current.maps) (sym e)
      (let l = length-append s.chain.current.maps (m ∷ []) in omega (arith, l));
}

-- ---- a list that ends

closed_chain : (r : ListRequest) (lists : List (List SignMap)) (maps : List SignMap) (c : ChainOfLists)
    → IsClosed (chain_behind r lists maps) c → c ≡ chain_behind r (lists ++ maps ∷ []) []
closed_chain r lists maps c h =
    let count : length (lists ++ maps ∷ []) ≡ length lists + 1 = length-append lists (maps ∷ []) in
    let size : length lists + first ≡ length (lists ++ maps ∷ []) + 3 = omega (arith, count) in
    let next : length lists + first + 1 ≡ length (lists ++ maps ∷ []) + first = omega (arith, count) in
    same_chain c r.asked r.family (members_on (length (lists ++ maps ∷ []) + 3)
    (last_behind first_list.maps (lists ++ maps ∷ []))) (length (lists ++ maps ∷ []) + first) []
    h.asked h.family
    (h.shown ∙ ap (λ x. members_on x maps) size
    ∙ ap (λ x. members_on (length (lists ++ maps ∷ []) + 3) x) (sym (last_is first_list.maps maps lists)))
    (h.next ∙ next) h.empty

-- the members of lists, of which the last one was being read
more_members : (lists : List (List SignMap)) (maps : List SignMap)
    → members_of (lists ++ maps ∷ []) ++ [] ≡ members_of lists ++ maps
more_members lists maps =
    append-nil (members_of (lists ++ maps ∷ [])) ∙ flat_map-append (λ l. l) lists (maps ∷ [])
    ∙ ap (λ x. members_of lists ++ x) (append-nil maps)

abbrev shown_read : (r : ListRequest) (front : List (List ℕ)) (lists : List (List SignMap)) (maps : List SignMap)
    (c : ChainOfLists) → AreRead r front lists maps → IsClosed (chain_behind r lists maps) c → 1 ≤ length maps
    → AreRead r front (lists ++ maps ∷ []) []
shown_read r front lists maps c read h some = record {
  documents = subst (λ x. AreDocuments front x) (sym (more_members lists maps)) read.documents;
  shown = more_shown r first (length lists + first) lists maps read.shown refl some h.proved;
}

-- the line of the list, behind those of the lists before
shown_line : (r : ListRequest) (all : List (List ℕ)) (text : List ℕ) (s : State) (left : List (List ℕ)) (asked : Asked)
    (u : IsUnderway r all text s left) → asked ≡ s.chain.asked
    → text ++ line_text (Shown asked s.chain.current.elements (length s.chain.current.maps))
    ≡ shown_text r first (u.lists ++ u.maps ∷ [])
shown_line r all text s left asked u same =
    let chain = chained r all text s left u in
    ap (λ x. x ++ line_text (Shown asked s.chain.current.elements (length s.chain.current.maps))) u.lines
    ∙ ap (λ x. shown_text r first u.lists ++ line_text (Shown x s.chain.current.elements
    (length s.chain.current.maps))) (same ∙ ap (λ x. x.asked) chain)
    ∙ ap (λ x. shown_text r first u.lists ++ line_text (Shown r.asked x.current.elements
    (length x.current.maps))) chain
    ∙ sym (more_text r first (length u.lists + first) u.lists u.maps refl)

-- the list is shown, and its line is written
pub closes : (r : ListRequest) (all : List (List ℕ)) (text : List ℕ) (s : State) (left : List (List ℕ))
    (c : ChainOfLists) (asked : Asked) → IsUnderway r all text s left → IsClosed s.chain c
    → 1 ≤ length s.chain.current.maps → asked ≡ s.chain.asked
    → IsUnderway r all (text ++ line_text (Shown asked s.chain.current.elements (length s.chain.current.maps)))
    (state_of c s.documents) left
closes r all text s left c asked u h some same =
    let chain = chained r all text s left u in
    let closed = subst (λ x. IsClosed x c) chain h in
    let filled : 1 ≤ length u.maps = subst (λ x. 1 ≤ length x.current.maps) chain some in
    record {
      lists = u.lists ++ u.maps ∷ [];
      maps = [];
      front = u.front;
      parts = u.parts;
      read = shown_read r u.front u.lists u.maps c u.read closed filled;
      state = ap (λ x. state_of x s.documents) (closed_chain r u.lists u.maps c closed)
          ∙ ap (λ x. state_of (chain_behind r (u.lists ++ u.maps ∷ []) []) x) (counted r all text s left u);
      lines = shown_line r all text s left asked u same;
    }

-- the last list is shown, and its line is written
pub all_shown : (r : ListRequest) (all : List (List ℕ)) (text : List ℕ) (s : State) (c : ChainOfLists) (asked : Asked)
    → IsUnderway r all text s [] → IsClosed s.chain c → 1 ≤ length s.chain.current.maps → asked ≡ s.chain.asked
    → IsTextOfAll r all (text ++ line_text (Shown asked s.chain.current.elements (length s.chain.current.maps)))
all_shown r all text s c asked u h some same =
    let chain = chained r all text s [] u in
    let filled : 1 ≤ length u.maps = subst (λ x. 1 ≤ length x.current.maps) chain some in
    let v = shown_read r u.front u.lists u.maps c u.read (subst (λ x. IsClosed x c) chain h) filled in
    record {
      lists = u.lists ++ u.maps ∷ [];
      some = let count = length-append u.lists (u.maps ∷ []) in omega (arith, count);
      read = subst (λ x. AreRead r x (u.lists ++ u.maps ∷ []) []) (sym (u.parts ∙ append-nil u.front)) v;
      lines = shown_line r all text s [] asked u same;
    }
