pub mod StepLaws
pub mod FillingLaws
pub mod BoundaryLaws
pub mod Dlx1TableLaws
pub mod CatalogueTableLaws
