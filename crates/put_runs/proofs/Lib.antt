pub mod News
pub mod FirstPlaces
pub mod NewKeys
pub mod LastPlaces
