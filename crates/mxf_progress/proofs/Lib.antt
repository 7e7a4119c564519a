pub mod OrderLaws
pub mod NoOrders
pub mod UnitOrders
pub mod RoundLaws
pub mod HelpLaws
pub mod HelpingUnits
pub mod WayLaws
