pub mod HexadecimalLaws
pub mod StringLaws
