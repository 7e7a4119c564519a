pub mod Skims
pub mod SkimmedRuns
pub mod SkimmedLines
