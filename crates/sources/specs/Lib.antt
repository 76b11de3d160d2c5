-- what the contracts of the public calls cite
pub mod First
pub mod Faults
pub mod Sentences
pub mod Layout
pub mod Checks
pub mod Card
-- what the contracts of the inner functions cite
pub mod Passed
pub mod Inside
-- the theorem that a card's plan is lawful, which a card owes as a source, and the laws that it takes
pub mod FirstLaws
pub mod LayoutLaws
pub mod PassedLaws
pub mod CardLawful
