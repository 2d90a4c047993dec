-- The commands of rank 3.
--
-- Main results: the rank, where a call says that it isn't another one (of_rank3); from a meaning for the chirotope to
-- that for the document (result_for_chirotope); the answers are answers to a command (wiring_replies,
-- mutations_replies, extensions_reply, flip_replies).
use Rattle.std.specs.Prelude.{ℕ, ◌≡◌, ◌≢◌, ◌↔◌, List, Result, Ok, Err, IsErrOf, IfOk, refl}
use Rattle.std.proofs.Common.{inl, inr}
use Rattle.std.proofs.lemmas.Bool.{cases_eq}
use Rattle.om_chirotope.specs.Map.{SignMap}
use Rattle.om_document.specs.declared.document.Document.{Document}
use Rattle.om_reply.specs.declared.answer.Answer.{Answer}
use Rattle.om_reply.specs.Answers.{IsReply}
use Rattle.om_representation.specs.Chirotopes.{IsChirotopeOf}
use Rattle.om_representation.specs.RankThree.{IsForChirotope, for_chirotope}
use Rattle.om_plane.specs.Sweeps as sweeps
use Rattle.om_plane.specs.MutationLists as mutations
use Rattle.om_plane.specs.ExtensionLists as extensions
use Rattle.om_plane.specs.Flips as flips

pub of_rank3 : {A E : Type 0} (m : SignMap) (result : Result A E) (other : ℕ → E)
    → ((r : ℕ) → IsErrOf result (other r) ↔ ((r ≡ m.rank) × (m.rank ≢ 3))) → ((r : ℕ) → result ≡ Err (other r) → ⊥)
    → m.rank ≡ 3
of_rank3 m result other rank not = elim (cases_eq m.rank 3) [
  | inl same ↦ same
  | inr differ ↦ absurd (not m.rank ((rank m.rank).1 (refl, differ)))
]

pub no_error : {A E : Type 0} (a : A) (e : E) (result : Result A E) → result ≡ Ok a → result ≡ Err e → ⊥
no_error a e result ok err = cc

pub result_for_chirotope : {E : Type 0} (Meaning : SignMap → Answer → Type 0) (d : Document) (m : SignMap)
    (result : Result Answer E) → IsChirotopeOf d m → IfOk result (Meaning m) → IfOk result (IsForChirotope Meaning d)
result_for_chirotope Meaning d m (Ok a) is means = for_chirotope m a is means
result_for_chirotope Meaning d m (Err e) is means = tt

pub chirotope_replies : (Meaning : SignMap → Answer → Type 0) (d : Document) (a : Answer)
    → ((m : SignMap) (b : Answer) → Meaning m b → IsReply b) → IsForChirotope Meaning d a → IsReply a
chirotope_replies Meaning d a replies (for_chirotope m b is means) = replies m a means

wiring_of_map_replies : (m : SignMap) (a : Answer) → sweeps.IsWiringOfMap m a → IsReply a
wiring_of_map_replies m a (sweeps.other_rank other) = tt
wiring_of_map_replies m a (sweeps.not_sweepable s b three first) = tt
wiring_of_map_replies m a (sweeps.least blocks three sweepable least form) = form

-- the answers of `wiring` are answers to a command
pub wiring_replies : (d : Document) (a : Answer) → sweeps.IsWiringOf d a → IsReply a
wiring_replies d a is = chirotope_replies sweeps.IsWiringOfMap d a wiring_of_map_replies is

mutations_of_map_reply : (m : SignMap) (a : Answer) → mutations.AreMutationsOfMap m a → IsReply a
mutations_of_map_reply m a (mutations.other_rank other) = tt
mutations_of_map_reply m a (mutations.listed sets three all) = tt

-- the answers of `mutations` are answers to a command
pub mutations_replies : (d : Document) (a : Answer) → mutations.AreMutations d a → IsReply a
mutations_replies d a is = chirotope_replies mutations.AreMutationsOfMap d a mutations_of_map_reply is

extensions_of_map_reply : (first : ℕ) (m : SignMap) (a : Answer) → extensions.AreExtensionsOfMap first m a → IsReply a
extensions_of_map_reply first m a (extensions.other_rank other) = tt
extensions_of_map_reply first m a (extensions.full three most) = tt
extensions_of_map_reply first m a (extensions.listed l three few are) = tt

-- the answers of `extend` are answers to a command
pub extensions_reply : (first : ℕ) (d : Document) (a : Answer) → extensions.AreExtensions first d a → IsReply a
extensions_reply first d a is =
    chirotope_replies (extensions.AreExtensionsOfMap first) d a (extensions_of_map_reply first) is

flip_of_map_replies : (t : List ℕ) (m : SignMap) (a : Answer) → flips.IsFlipOfMap t m a → IsReply a
flip_of_map_replies t m a (flips.other_rank other) = tt
flip_of_map_replies t m a (flips.no_basis three zero) = tt
flip_of_map_replies t m a (flips.no_mutation s b three basis first) = tt
flip_of_map_replies t m a (flips.turned e three mutation same form) = form

-- the answers of `flip` are answers to a command
pub flip_replies : (x y z : ℕ) (d : Document) (a : Answer) → flips.IsFlip x y z d a → IsReply a
flip_replies x y z d a (flips.outside e above) = tt
flip_replies x y z d a (flips.inside b none is) =
    chirotope_replies (flips.IsFlipOfMap (flips.triple_of x y z)) d a (flip_of_map_replies (flips.triple_of x y z)) is
