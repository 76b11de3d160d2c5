pub mod Firsts
pub mod Named
pub mod RecordParts
pub mod Lengths
pub mod CardParts
pub mod Opened
pub mod Told
