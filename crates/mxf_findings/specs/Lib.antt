pub mod Codes
pub mod Findings
pub mod FindingCauses
pub mod SameViews
pub mod WorkedFiles
pub mod RefusedFiles
pub mod WorkedSegments
pub mod WorkedBytes
