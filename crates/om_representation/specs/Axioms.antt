-- The axioms of each kind of document, and their first violated instance.
use Rattle.std.specs.Prelude.{ℕ, ℤ, ◌≡◌, List}
use Rattle.om_signs.specs.declared.block.Block.{Block}
use Rattle.om_signs.specs.declared.sign.Sign.{Sign}
use Rattle.om_signs.specs.declared.raw_map.RawMap.{RawMap}
use Rattle.om_chirotope.specs.Map.{map_of}
use Rattle.om_chirotope.specs.Chirotope as maps
use Rattle.om_chirotope.specs.declared.map_refused.MapRefused.{MapRefused}
use Rattle.om_chirotope.specs.declared.map_refused.MapRefused.TheVariants.{AllZero, Relation}
use Rattle.om_circuits.specs.declared.set_refused.SetRefused.{SetRefused}
use Rattle.om_circuits.specs.Axioms.{MeetsCircuitAxioms}
use Rattle.om_circuits.specs.Instances as sets
use Rattle.om_covectors.specs.declared.cov_refused.CovRefused.{CovRefused}
use Rattle.om_covectors.specs.Axioms.{MeetsCovectorAxioms}
use Rattle.om_covectors.specs.Instances.{IsFirstViolatedCovectorAxiom}
use Rattle.om_vectors.specs.Realizations.{IsRankLow}
use Rattle.om_wiring.specs.declared.wiring_refused.WiringRefused.{WiringRefused}
use Rattle.om_wiring.specs.Maps.{IsFlat}
use Rattle.om_wiring.specs.Refusals as wirings
use Rattle.om_wiring.specs.Wirings.{IsWiring}
use Rattle.om_document.specs.declared.document.Document.{Document}
use Rattle.om_document.specs.declared.body.Body.{Body}
use Rattle.om_document.specs.declared.body.Body.TheVariants.{Chirotope, Circuits, Cocircuits, Covectors, Wiring, Points}
use Rattle.om_representation.specs.declared.document_refused.DocumentRefused.{DocumentRefused}
use Rattle.om_representation.specs.declared.document_refused.DocumentRefused.TheVariants as reason
use Rattle.om_representation.specs.declared.unrepresented.Unrepresented.{Unrepresented}
use Rattle.om_representation.specs.declared.unrepresented.Unrepresented.TheVariants as unrepresented
use Rattle.om_representation.specs.Points.{vectors_of}

-- the body, on n elements, satisfies the axioms of its kind. For points: some triple product isn't zero
abbrev pub MeetsAxiomsOn : ℕ → Body → Type 0
MeetsAxiomsOn n (Chirotope m) = maps.IsChirotope (map_of m)
MeetsAxiomsOn n (Circuits members) = MeetsCircuitAxioms members
MeetsAxiomsOn n (Cocircuits members) = MeetsCircuitAxioms members
MeetsAxiomsOn n (Covectors members) = MeetsCovectorAxioms members
MeetsAxiomsOn n (Wiring blocks) = IsWiring n blocks
MeetsAxiomsOn n (Points points) = IsRankLow (vectors_of points) → ⊥

-- the document satisfies the axioms of its kind
abbrev pub MeetsAxioms : Document → Type 0
MeetsAxioms d = MeetsAxiomsOn d.elements d.body

-- the body is a flat wiring, whose map is zero at every triple: it meets its axioms, but gives no chirotope
abbrev pub IsFlatOn : ℕ → Body → Type 0
IsFlatOn n (Wiring blocks) = IsFlat n blocks
IsFlatOn n _ = ⊥

-- the document is a flat wiring
abbrev pub IsFlatDocument : Document → Type 0
IsFlatDocument d = IsFlatOn d.elements d.body

-- why a map is no chirotope: all values are zero; else the first pair of lists that isn't orthogonal
abbrev pub IsViolatedMap : RawMap → MapRefused → Type 0
IsViolatedMap m AllZero = maps.IsAllZero m.signs
IsViolatedMap m (Relation s a) = (maps.IsAllZero m.signs → ⊥) × maps.IsFirstViolated (map_of m) s a

-- the reason of a map: the first of these
abbrev pub IsMapRefused : RawMap → DocumentRefused → Type 0
IsMapRefused m r = (why : MapRefused) × ((r ≡ reason.Map why) × IsViolatedMap m why)

-- the reason of a list of circuits or of cocircuits: the first violated instance
abbrev pub IsSetRefused : List (List Sign) → DocumentRefused → Type 0
IsSetRefused members r = (why : SetRefused) × ((r ≡ reason.Circuits why) × sets.IsFirstViolated members why)

-- the reason of a list of covectors: the first violated instance
abbrev pub IsCovRefused : List (List Sign) → DocumentRefused → Type 0
IsCovRefused members r = (why : CovRefused) × ((r ≡ reason.Covectors why) × IsFirstViolatedCovectorAxiom members why)

-- the reason of points: every triple product is 0
abbrev pub IsRankRefused : List (List ℤ) → DocumentRefused → Type 0
IsRankRefused points r = (r ≡ reason.RankLow) × IsRankLow (vectors_of points)

-- the reason of a wiring: the first step that breaks a rule, or the last order
abbrev pub IsWiringRefused : ℕ → List Block → DocumentRefused → Type 0
IsWiringRefused n blocks r = (why : WiringRefused) × ((r ≡ reason.Wiring why) × wirings.IsRefusal n blocks why)

-- the first violated instance of the axioms of the body, on n elements
abbrev pub IsRefusedOn : ℕ → Body → DocumentRefused → Type 0
IsRefusedOn n (Chirotope m) r = IsMapRefused m r
IsRefusedOn n (Circuits members) r = IsSetRefused members r
IsRefusedOn n (Cocircuits members) r = IsSetRefused members r
IsRefusedOn n (Covectors members) r = IsCovRefused members r
IsRefusedOn n (Wiring blocks) r = IsWiringRefused n blocks r
IsRefusedOn n (Points points) r = IsRankRefused points r

abbrev pub IsRefused : Document → DocumentRefused → Type 0
IsRefused d r = IsRefusedOn d.elements d.body r

-- The body is a wiring that isn't flat, or points, and meets its axioms: the signs of its chirotope need memory.
-- Maps and lists are represented as given.
abbrev pub TakesSigns : ℕ → Body → Type 0
TakesSigns n (Wiring blocks) = IsWiring n blocks × (IsFlat n blocks → ⊥)
TakesSigns n (Points points) = IsRankLow (vectors_of points) → ⊥
TakesSigns n _ = ⊥

-- Why a body on n elements gives no oriented matroid: the line that refuses it, that it is flat, or that memory ran
-- out for the signs of its chirotope.
abbrev pub IsRefusal : ℕ → Body → Unrepresented → Type 0
IsRefusal n b (unrepresented.Refused r) = IsRefusedOn n b r
IsRefusal n b unrepresented.Flat = MeetsAxiomsOn n b × IsFlatOn n b
IsRefusal n b unrepresented.Memory = TakesSigns n b
