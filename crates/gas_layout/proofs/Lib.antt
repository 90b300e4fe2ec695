pub mod Grids
pub mod Steps
pub mod Filled
pub mod Strips
pub mod Drawn
pub mod Placed
