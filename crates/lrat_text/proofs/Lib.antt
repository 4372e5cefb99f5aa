pub mod Items
pub mod Lists
pub mod Steps
pub mod StepsBack
pub mod Whole
pub mod WrittenBack
