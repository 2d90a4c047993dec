-- The covectors of the oriented matroid of a document.
use Rattle.std.specs.Prelude.{ℕ, List}
use Rattle.om_signs.specs.declared.sign.Sign.{Sign}
use Rattle.om_chirotope.specs.Map.{map_of}
use Rattle.om_denotation.specs.Covectors.{IsCovectorOfChirotope, IsCovectorOfCircuits, IsCovectorOfCocircuits}
use Rattle.om_denotation.specs.Covectors.{IsCovectorOfCovectors}
use Rattle.om_document.specs.declared.document.Document.{Document}
use Rattle.om_document.specs.declared.body.Body.{Body}
use Rattle.om_document.specs.declared.body.Body.TheVariants as body

-- a covector of a body on n elements; for points and wirings, commands work on their map instead
abbrev pub IsCovectorOfBody : ℕ → Body → List Sign → Type 0
IsCovectorOfBody n (body.Chirotope m) x = IsCovectorOfChirotope (map_of m) x
IsCovectorOfBody n (body.Circuits members) x = IsCovectorOfCircuits (record { elements = n; members = members }) x
IsCovectorOfBody n (body.Cocircuits members) x = IsCovectorOfCocircuits (record { elements = n; members = members }) x
IsCovectorOfBody n (body.Covectors members) x = IsCovectorOfCovectors (record { elements = n; members = members }) x
IsCovectorOfBody n _ x = ⊥

-- the sign vector is a covector of what a document of a chirotope or of a list denotes
abbrev pub IsCovectorIn : Document → List Sign → Type 0
IsCovectorIn d x = IsCovectorOfBody d.elements d.body x
