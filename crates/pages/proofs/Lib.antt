pub mod PagedLaws
pub mod SeenLaws
