use Rattle.om_covers.specs.Classes.{IsSimpleChirotope, IsUniformChirotope}
use Rattle.om_least.proofs.Increasing.{of_one_member, one_member}
use Rattle.om_least.proofs.laws.exactly_one_of_each_class.Goals as goal

pub returns-clause-member : goal.returns-clause-member
returns-clause-member c = λ maps m k whole least up lawful found h. of_one_member maps whole least up m k lawful found h

pub returns-clause-simple : goal.returns-clause-simple
returns-clause-simple c = λ n classes m complete least up h.
    one_member (IsSimpleChirotope n) classes (λ j s. s.axioms.whole) complete least up m h

pub returns-clause-uniform : goal.returns-clause-uniform
returns-clause-uniform c = λ n classes m complete least up h.
    one_member (IsUniformChirotope n) classes (λ j s. s.axioms.whole) complete least up m h
