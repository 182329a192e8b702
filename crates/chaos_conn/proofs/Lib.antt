pub mod Kept
pub mod Ended
pub mod Alike
pub mod Foreign
pub mod PutNames
pub mod ConfigStays
pub mod NamesStay
pub mod Held
