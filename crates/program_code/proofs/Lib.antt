pub mod Compiled
pub mod Sizes
pub mod Stands
pub mod Sites
pub mod Wide
pub mod Rooms
