pub mod Walks
pub mod NearestChoice
pub mod Locations
pub mod Scales
pub mod RoundedRoots
