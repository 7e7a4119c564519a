pub mod ContentsLaws
pub mod ShiftLaws
