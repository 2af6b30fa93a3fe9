pub mod LineLaws
pub mod ExtraLaws
pub mod KindLaws
pub mod SeenLaws
