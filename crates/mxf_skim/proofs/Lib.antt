pub mod PreferringLaws
pub mod HeadsRead
pub mod ContainerLaws
pub mod SavingLaws
