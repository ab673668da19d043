pub mod BitLaws
pub mod Borrows
pub mod BytesOfWord
pub mod Fixpoint
pub mod PackedLaws
pub mod Packing
pub mod Regions
pub mod RowLaws
