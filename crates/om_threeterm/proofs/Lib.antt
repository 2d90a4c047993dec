pub mod SetLaws
pub mod ExchangePlaces
pub mod ExchangeLaws
pub mod TurnedValues
pub mod RelationLaws
